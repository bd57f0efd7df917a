use mathlib.Core.Path.{◌≡◌}
use mathlib.Core.List.{map}
use lib.ListN.{length, take}
use Rattle.plan.specs.Words.{items_from}
use Rattle.plan.specs.Items.{position_of}
use Rattle.operators.proofs.columns.read_positions.Given as goal

abbrev pub invariant-loop-i : goal.invariant-loop-i
invariant-loop-i l =
    (length l.positions ≡ length l.initial.positions)
    × (take l.i l.positions ≡ map position_of (items_from l.words l.items.first l.i))
