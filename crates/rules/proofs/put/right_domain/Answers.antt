use Rattle.plan.proofs.Laws.Formed.{is_named, not_named}
use Rattle.plan.specs.declared.operator.Operator.TheVariants.{Dependent}
use Rattle.rules.proofs.Laws.LeftRead.{domain_inside, domain_same}
use Rattle.rules.proofs.put.right_domain.Goals as goal

pub returns-in-Dependent : goal.returns-in-Dependent
returns-in-Dependent c =
    domain_inside c.inside.ensures (is_named _ c.requires.0.formed _ c.requires.1 c.of.ensures c.in-Dependent.is)

pub returns-in_default : goal.returns-in_default
returns-in_default c = domain_same (not_named _ c.requires.0.formed _ c.requires.1 c.of.ensures Dependent c.in_default.not-Dependent)
