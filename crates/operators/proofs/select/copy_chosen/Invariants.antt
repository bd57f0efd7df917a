use mathlib.Core.Path.{◌≡◌}
use mathlib.Core.List.{map}
use lib.ListN.{length, take}
use Rattle.store.specs.Cells.{cells_of, written}
use Rattle.store.specs.Rows.{row_of}
use Rattle.operators.proofs.select.copy_chosen.Given as goal

abbrev pub invariant-loop-k : goal.invariant-loop-k
invariant-loop-k l =
    (length l.scratch ≡ length l.initial.scratch)
    × (l.scratch ≡ written l.initial.scratch l.to (cells_of (map (row_of l.cells l.initial.scratch l.b) (take l.k l.found))))
