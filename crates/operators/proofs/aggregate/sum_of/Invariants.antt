use Prim.Native.Nat.{◌<◌}
use lib.ListN.{drop}
use Rattle.algebra.specs.Operators.{column_of}
use Rattle.operators.specs.Choice.{chosen}
use Rattle.operators.proofs.Laws.Sums.{Running}
use Rattle.operators.proofs.aggregate.sum_of.Given as goal

abbrev pub invariant-loop-i : goal.invariant-loop-i
invariant-loop-i l = (l.p < l.width) × Running l.sum (drop l.i (column_of l.p (chosen l.rows l.width l.found)))
