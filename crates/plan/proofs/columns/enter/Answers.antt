use native.Mathlib.Omega.{arith}
use Rattle.plan.proofs.Laws.Formed.{limited}
use Rattle.plan.proofs.columns.enter.Goals as goal

pub overflow_cast-joins : goal.overflow_cast-joins
overflow_cast-joins c = record { fits = omega (arith, (limited _ c.requires.0.sized).nodes_few) }

pub bounds-joins-p : goal.bounds-joins-p
bounds-joins-p c = omega (arith, (limited _ c.requires.0.sized).nodes_few)
