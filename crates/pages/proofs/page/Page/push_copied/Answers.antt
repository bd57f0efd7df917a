use native.Mathlib.Omega.{arith}
use Prim.Native.Nat.{◌+◌}
use Rattle.plan.specs.Words.{item_at}
use Rattle.pages.specs.Items.{item_words}
use Rattle.pages.proofs.Laws.Pages.{missed}
use Rattle.pages.proofs.Laws.Writer.{step, stop, ended, copied_words, items_all}
use Rattle.pages.proofs.page.Page.push_copied.Goals as goal

pub returns-in_err-push_item : goal.returns-in_err-push_item
returns-in_err-push_item c = let a = c.args in
    missed _ _ c.from_residual.result c.from_residual.ensures.0
    (stop (λ k. item_words (item_at a.words.now (a.from + k))) c.loop-i.i c.loop-i.invariant _ (copied_words a.words.now _ _ _ _ c.tag.ensures c.three.ensures c.three-in-loop-i.ensures) a.count c.loop-i-test.true (items_all item_words a.words.now a.from a.count) c.in_err-push_item.ensures)

pub loop-i-preserved : goal.loop-i-preserved
loop-i-preserved c = let a = c.args in
    step (λ k. item_words (item_at a.words.now (a.from + k))) c.loop-i.i c.loop-i.invariant _ (copied_words a.words.now _ _ _ _ c.tag.ensures c.three.ensures c.three-in-loop-i.ensures) c.in_ok-push_item.ensures

pub returns : goal.returns
returns c = let a = c.args in
    ended (λ k. item_words (item_at a.words.now (a.from + k))) c.loop-i.i c.loop-i.invariant a.count (items_all item_words a.words.now a.from a.count) (omega arith) (omega arith)
