use Rattle.pages.proofs.Laws.Pages.{added_then, missed, missed_more}
use Rattle.rules.proofs.finish.domain_first.Goals as goal

pub returns-in_err-push_columns : goal.returns-in_err-push_columns
returns-in_err-push_columns c =
    missed _ _ c.from_residual.result c.from_residual.ensures.0 (missed_more _ _ c.in_err-push_columns.ensures)

pub returns : goal.returns
returns c = added_then _ c.push_shifted.result _ _ c.in_ok-push_columns.ensures c.push_shifted.ensures
