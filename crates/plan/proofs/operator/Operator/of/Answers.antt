use mathlib.Core.Path.{◌∙◌, ap}
use Rattle.plan.specs.Codes.{operator_of}
use Rattle.plan.proofs.Laws.Codes.{operator_or}
use Rattle.plan.proofs.operator.Operator.of.Goals as goal

pub returns : goal.returns
returns c = c.unwrap_or.ensures ∙ operator_or _ _ c.try_from.ensures ∙ ap operator_of c.operator.ensures
