use native.Mathlib.Omega.{arith}
use Prim.Native.Nat.{◌+◌}
use Rattle.plan.specs.Words.{item_at}
use Rattle.pages.specs.Items.{shifted_words}
use Rattle.pages.proofs.Laws.Pages.{missed}
use Rattle.pages.proofs.Laws.Writer.{step, stop, ended, column_moved, column_none, shifted_words_lem, items_all}
use Rattle.pages.proofs.page.Page.push_shifted.Goals as goal
use Rattle.pages.proofs.page.Page.push_shifted.Goals.{then-t-eq-COUNT, else-t-eq-COUNT}

pub overflow_add-p : goal.overflow_add-p
overflow_add-p c = omega (arith, c.position.ensures, c.requires.2 c.loop-i.i c.loop-i-test.true)

pub returns-in_err-push_item : goal.returns-in_err-push_item
returns-in_err-push_item c = let a = c.args in
    missed _ _ c.from_residual.result c.from_residual.ensures.0
    (stop (λ k. shifted_words a.front (item_at a.words.now (a.from + k))) c.loop-i.i c.loop-i.invariant _ (shifted_words_lem a.words.now _ _ a.front _ c.tag-t.ensures _ _ c.local.ensures c.local-in-loop-i.ensures
    (elim c.if-t-eq-COUNT.branch [
      | then-t-eq-COUNT w ↦ column_none a.words.now _ _ _ _ w.if-t-eq-COUNT.true w.p-is
      | else-t-eq-COUNT w ↦ column_moved a.words.now _ _ _ _ _ w.if-t-eq-COUNT.false w.position.ensures w.p-is
    ])) a.count c.loop-i-test.true (items_all (shifted_words a.front) a.words.now a.from a.count) c.in_err-push_item.ensures)

pub loop-i-preserved : goal.loop-i-preserved
loop-i-preserved c = let a = c.args in
    step (λ k. shifted_words a.front (item_at a.words.now (a.from + k))) c.loop-i.i c.loop-i.invariant _ (shifted_words_lem a.words.now _ _ a.front _ c.tag-t.ensures _ _ c.local.ensures c.local-in-loop-i.ensures
    (elim c.if-t-eq-COUNT.branch [
      | then-t-eq-COUNT w ↦ column_none a.words.now _ _ _ _ w.if-t-eq-COUNT.true w.p-is
      | else-t-eq-COUNT w ↦ column_moved a.words.now _ _ _ _ _ w.if-t-eq-COUNT.false w.position.ensures w.p-is
    ])) c.in_ok-push_item.ensures

pub returns : goal.returns
returns c = let a = c.args in
    ended (λ k. shifted_words a.front (item_at a.words.now (a.from + k))) c.loop-i.i c.loop-i.invariant a.count (items_all (shifted_words a.front) a.words.now a.from a.count) (omega arith) (omega arith)
