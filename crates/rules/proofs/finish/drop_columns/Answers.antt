use Rattle.pages.proofs.Laws.Pages.{pushed_as, missed_more, missed_then, wrote_then}
use Rattle.rules.proofs.Laws.RulePages.{columns_kept, columns_dropped, columns_missed}
use Rattle.rules.proofs.finish.drop_columns.Goals as goal

pub returns-in-Semi : goal.returns-in-Semi
returns-in-Semi c = let a = c.args in columns_kept _ a.kind a.front a.between a.behind a.join c.in-Semi.is

pub returns-in_err-push_columns-in-Inner : goal.returns-in_err-push_columns-in-Inner
returns-in_err-push_columns-in-Inner c = let a = c.args in
    columns_missed a.kind a.front a.between a.behind a.join c.in-Inner.is
    (missed_more _ _ c.in_err-push_columns-in-Inner.ensures) _ c.from_residual.result c.from_residual.ensures.0

pub returns-in_err-push_columns-in-Inner-2 : goal.returns-in_err-push_columns-in-Inner-2
returns-in_err-push_columns-in-Inner-2 c = let a = c.args in
    columns_missed a.kind a.front a.between a.behind a.join c.in-Inner.is
    (missed_then _ _ c.in_ok-push_columns-in-Inner.ensures c.in_err-push_columns-in-Inner-2.ensures) _ c.from_residual-in_err-push_columns-in-Inner-2.result c.from_residual-in_err-push_columns-in-Inner-2.ensures.0

pub returns-in_ok-push_columns-in-Inner-2 : goal.returns-in_ok-push_columns-in-Inner-2
returns-in_ok-push_columns-in-Inner-2 c = let a = c.args in
    columns_dropped a.kind a.front a.between a.behind a.join c.in-Inner.is
    (wrote_then _ _ c.in_ok-push_columns-in-Inner.ensures c.in_ok-push_columns-in-Inner-2.ensures)
    (pushed_as c.over.ensures c.push_node.ensures)
