use Rattle.std.proofs.Common.{◌∙◌, sym}
use Rattle.plan.specs.declared.operator.Operator.TheVariants.{Dependent}
use Rattle.plan.proofs.Laws.Formed.{named_is}
use Rattle.plan.proofs.columns.is_right_side.Goals as goal

pub returns-then-eq : goal.returns-then-eq
returns-then-eq c =
    let e = sym (named_is _ c.requires.0 _ c.requires.1 c.of.ensures Dependent) ∙ sym c.eq.ensures ∙ c.if-eq.true in
    rw (e, c.right.ensures)

pub returns-else-eq : goal.returns-else-eq
returns-else-eq c =
    let e = sym (named_is _ c.requires.0 _ c.requires.1 c.of.ensures Dependent) ∙ sym c.eq.ensures ∙ c.if-eq.false in
    rw (c.if-eq.false, e)
