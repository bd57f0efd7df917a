use mathlib.Core.Path.{sym, ap, ◌∙◌}
use Rattle.plan.specs.Answers.{answer_of}
use Rattle.rewrite.specs.declared.RewriteRefusal.TheVariants.{Plan}
use Rattle.rewrite.proofs.Laws.Answer.{err_is, refused_first}
use Rattle.rewrite.proofs.rewrite.Goals as goal

pub rewrite_accepted-requires : goal.rewrite_accepted-requires
rewrite_accepted-requires c = sym c.check.ensures ∙ ap answer_of c.in_ok-check.was

pub returns-in_err-check : goal.returns-in_err-check
returns-in_err-check c =
    let refused = refused_first _ c.args.out.now c.in_err-check.field-0.0 c.in_err-check.ensures in
    rw (err_is c.from_residual.result (Plan c.in_err-check.field-0.0) c.from_residual.ensures.1)
    (record { result_value = refused.0; out_after = refused.1 })
