use mathlib.Core.Path.{◌≡◌}
use Prim.Native.Nat.{◌<◌}
use lib.ListN.{drop}
use Rattle.algebra.specs.Operators.{best, column_of}
use Rattle.store.specs.Cells.{value}
use Rattle.operators.specs.Choice.{chosen, in_order}
use Rattle.operators.proofs.aggregate.best_of.Given as goal

abbrev pub invariant-loop-i : goal.invariant-loop-i
invariant-loop-i l =
    (l.p < l.width) × (value l.answer ≡ best (in_order l.order) (drop l.i (column_of l.p (chosen l.rows l.width l.found))))
