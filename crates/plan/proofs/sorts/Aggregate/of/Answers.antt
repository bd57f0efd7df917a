use native.Mathlib.Omega.{arith}
use Rattle.plan.proofs.Laws.Codes.{aggregate_count, aggregate_sum, aggregate_minimum, aggregate_rest}
use Rattle.plan.proofs.sorts.Aggregate.of.Goals as goal

pub returns-in-13 : goal.returns-in-13
returns-in-13 c = aggregate_count _ (omega arith)

pub returns-in-14 : goal.returns-in-14
returns-in-14 c = aggregate_sum _ _ c.position-column.ensures (omega arith)

pub returns-in-15 : goal.returns-in-15
returns-in-15 c = aggregate_minimum _ _ c.position-column.ensures (omega arith)

pub returns-in_default : goal.returns-in_default
returns-in_default c = aggregate_rest _ _ c.position-column.ensures (omega arith) (omega arith) (omega arith)
