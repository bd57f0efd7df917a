use Rattle.std.proofs.Common.{◌∙◌, sym}
use Rattle.plan.proofs.Laws.Codes.{copy_tag, not_copy_tag}
use Rattle.plan.proofs.items.computation_terms_right.Goals as goal

pub returns-in-Copy : goal.returns-in-Copy
returns-in-Copy c = c.unused_term.ensures ∙ rw (copy_tag _ (sym c.in-Copy.is ∙ c.of.ensures), ← c.term_right.ensures, c.if-term_right.true)

pub returns-in-Add : goal.returns-in-Add
returns-in-Add c = c.term_right-in-Add.ensures ∙ rw (not_copy_tag _ c.of.ensures c.in-Add.is, ← c.term_right.ensures, c.if-term_right.true)
