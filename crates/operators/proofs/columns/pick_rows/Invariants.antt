use mathlib.Core.Path.{◌≡◌}
use mathlib.Core.List.{map}
use lib.ListN.{length}
use Rattle.algebra.specs.Operators.{picked}
use Rattle.store.specs.Cells.{cells_of, rows_in, written}
use Rattle.store.specs.Rows.{source}
use Rattle.operators.proofs.columns.pick_rows.Given as goal

abbrev pub invariant-loop-i : goal.invariant-loop-i
invariant-loop-i l =
    (length l.scratch ≡ length l.initial.scratch)
    × (l.scratch ≡ written l.initial.scratch l.to
    (cells_of (map (picked l.positions) (rows_in (source l.cells l.initial.scratch l.b) l.b.from l.b.width l.i))))
