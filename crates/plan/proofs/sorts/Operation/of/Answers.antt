use native.Mathlib.Omega.{arith}
use Rattle.plan.proofs.Laws.Codes.{operation_copy, operation_add, operation_rest}
use Rattle.plan.proofs.sorts.Operation.of.Goals as goal

pub returns-in-8 : goal.returns-in-8
returns-in-8 c = operation_copy _ (omega arith)

pub returns-in-9 : goal.returns-in-9
returns-in-9 c = operation_add _ (omega arith)

pub returns-in_default : goal.returns-in_default
returns-in_default c = operation_rest _ (omega arith) (omega arith)
