use native.Mathlib.Omega.{arith}
use Rattle.plan.proofs.Laws.Codes.{test_unequal, test_less, test_at_most, test_more, test_at_least, test_same, test_rest}
use Rattle.plan.proofs.sorts.Test.of.Goals as goal

pub returns-in-2 : goal.returns-in-2
returns-in-2 c = test_unequal _ (omega arith)

pub returns-in-3 : goal.returns-in-3
returns-in-3 c = test_less _ (omega arith)

pub returns-in-4 : goal.returns-in-4
returns-in-4 c = test_at_most _ (omega arith)

pub returns-in-5 : goal.returns-in-5
returns-in-5 c = test_more _ (omega arith)

pub returns-in-6 : goal.returns-in-6
returns-in-6 c = test_at_least _ (omega arith)

pub returns-in-7 : goal.returns-in-7
returns-in-7 c = test_same _ (omega arith)

pub returns-in_default : goal.returns-in_default
returns-in_default c = test_rest _ (omega arith) (omega arith) (omega arith) (omega arith) (omega arith) (omega arith)
