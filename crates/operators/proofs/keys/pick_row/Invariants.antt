use mathlib.Core.Path.{◌≡◌}
use mathlib.Core.List.{map}
use lib.ListN.{length, take}
use Rattle.algebra.specs.Operators.{picked}
use Rattle.store.specs.Cells.{cell, written}
use Rattle.store.specs.Rows.{row_of}
use Rattle.operators.proofs.keys.pick_row.Given as goal

abbrev pub invariant-loop-k : goal.invariant-loop-k
invariant-loop-k l = (length l.scratch ≡ length l.initial.scratch) ×
    (l.scratch ≡ written l.initial.scratch l.to (map cell (picked (take l.k l.positions) (row_of l.cells l.initial.scratch l.b l.i))))
