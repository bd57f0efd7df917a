use Rattle.std.proofs.Common.{◌∙◌}
use Rattle.plan.proofs.Laws.Columns.{count_there, column_there, copy_there, both_there}
use Rattle.plan.proofs.columns.Lookup.item_there.Goals as goal

pub returns-in-Count : goal.returns-in-Count
returns-in-Count c = count_there _ _ _ _ (rw (c.in-Ok-Aggregate.field-0-is, c.tag.ensures) at c.in-Ok-Aggregate.ensures) c.of.ensures c.in-Count.is

pub returns-in-Sum : goal.returns-in-Sum
returns-in-Sum c = column_there _ _ _ _ (rw (c.in-Ok-Aggregate.field-0-is, c.tag.ensures) at c.in-Ok-Aggregate.ensures) c.of.ensures c.in-Sum.is

pub returns-in-Copy : goal.returns-in-Copy
returns-in-Copy c =
    copy_there _ _ _ _ (rw (c.in-Ok-Computation.field-0-is, c.tag.ensures) at c.in-Ok-Computation.ensures) c.of-in-Ok-Computation.ensures c.in-Copy.is
    (c.term_there.ensures ∙ rw c.first_term.ensures)

pub returns-in-Add : goal.returns-in-Add
returns-in-Add c =
    both_there _ _ _ _ (rw (c.in-Ok-Computation.field-0-is, c.tag.ensures) at c.in-Ok-Computation.ensures) c.of-in-Ok-Computation.ensures c.in-Add.is
    c.terms_there.ensures
