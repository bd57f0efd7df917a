use Rattle.std.proofs.Common.{◌∙◌, ap, sym}
use Rattle.plan.specs.Words.{item_at}
use Rattle.plan.specs.Codes.{meant_aggregate}
use Rattle.plan.proofs.Laws.Codes.{count_tag, not_count_tag}
use Rattle.plan.proofs.items.aggregate_terms_right.Goals as goal

pub returns-then-unused_term : goal.returns-then-unused_term
returns-then-unused_term c =
    c.unused_term-then-unused_term.ensures
    ∙ rw (count_tag (item_at c.args.words.now c.args.j) (sym (ap meant_aggregate c.in-Count.is) ∙ c.of.ensures), ← c.unused_term.ensures, c.if-unused_term.true)

pub returns-else-unused_term : goal.returns-else-unused_term
returns-else-unused_term c =
    rw (count_tag (item_at c.args.words.now c.args.j) (sym (ap meant_aggregate c.in-Count.is) ∙ c.of.ensures), ← c.unused_term.ensures, c.if-unused_term.false)

pub returns-in_default : goal.returns-in_default
returns-in_default c = c.column_terms_right.ensures ∙ rw (not_count_tag (item_at c.args.words.now c.args.j) c.of.ensures c.in_default.not-Count)
