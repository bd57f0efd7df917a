use native.Mathlib.Omega.{arith}
use Prim.Native.Nat.{◌+◌}
use Rattle.pages.proofs.Laws.Pages.{missed}
use Rattle.pages.proofs.Laws.Writer.{step, stop, ended, locals, local_words, columns_all}
use Rattle.pages.proofs.page.Page.push_columns.Goals as goal

pub returns-in_err-push_item : goal.returns-in_err-push_item
returns-in_err-push_item c = let a = c.args in
    missed _ _ c.from_residual.result c.from_residual.ensures.0
    (stop (λ q. locals a.tag (a.from + q) 0) c.loop-i.i c.loop-i.invariant _ (local_words a.tag _ _ _ _ c.local.ensures c.local-in-loop-i.ensures) a.count c.loop-i-test.true (columns_all a.tag a.from a.count) c.in_err-push_item.ensures)

pub loop-i-preserved : goal.loop-i-preserved
loop-i-preserved c = let a = c.args in
    step (λ q. locals a.tag (a.from + q) 0) c.loop-i.i c.loop-i.invariant _ (local_words a.tag _ _ _ _ c.local.ensures c.local-in-loop-i.ensures) c.in_ok-push_item.ensures

pub returns : goal.returns
returns c = let a = c.args in
    ended (λ q. locals a.tag (a.from + q) 0) c.loop-i.i c.loop-i.invariant a.count (columns_all a.tag a.from a.count) (omega arith) (omega arith)
