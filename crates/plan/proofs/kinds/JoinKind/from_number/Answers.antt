use native.Mathlib.Omega.{arith}
use Rattle.plan.proofs.Laws.Codes.{kind_semi, kind_anti, kind_outer, kind_rest}
use Rattle.plan.proofs.kinds.JoinKind.from_number.Goals as goal

pub returns-in-2 : goal.returns-in-2
returns-in-2 c = kind_semi _ (omega arith)

pub returns-in-3 : goal.returns-in-3
returns-in-3 c = kind_anti _ (omega arith)

pub returns-in-4 : goal.returns-in-4
returns-in-4 c = kind_outer _ (omega arith)

pub returns-in_default : goal.returns-in_default
returns-in_default c = kind_rest _ (omega arith) (omega arith) (omega arith)
