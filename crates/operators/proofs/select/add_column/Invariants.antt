use mathlib.Core.Path.{◌≡◌}
use mathlib.Core.Bool.{true}
use lib.ListN.{length}
use Rattle.algebra.specs.Lists.{all}
use Rattle.store.specs.Cells.{in_range, cells_of, written}
use Rattle.operators.proofs.Laws.NewColumns.{added_to}
use Rattle.operators.proofs.select.add_column.Given as goal

abbrev pub invariant-loop-i : goal.invariant-loop-i
invariant-loop-i l =
    (length l.scratch ≡ length l.initial.scratch)
    × (all (all in_range) (added_to l.cells l.initial.scratch l.input l.operation l.first l.second l.i) ≡ true)
    × (l.scratch ≡ written l.initial.scratch l.to (cells_of (added_to l.cells l.initial.scratch l.input l.operation l.first l.second l.i)))
