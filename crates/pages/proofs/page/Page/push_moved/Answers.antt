use native.Mathlib.Omega.{arith}
use Prim.Native.Nat.{◌+◌}
use mathlib.Core.Path.{refl}
use Rattle.plan.specs.Words.{item_at}
use Rattle.pages.specs.Items.{moved_words, shifted}
use Rattle.pages.proofs.Laws.Pages.{missed, wrote_none}
use Rattle.pages.proofs.Laws.Writer.{step, stop, ended, items_all}
use Rattle.pages.proofs.page.Page.push_moved.Goals as goal

pub loop-i-init : goal.loop-i-init
loop-i-init c D m = wrote_none _

pub returns-in_err-push_moved_item : goal.returns-in_err-push_moved_item
returns-in_err-push_moved_item c D m = let a = c.args in
    missed _ _ c.from_residual.result c.from_residual.ensures.0
    (stop (λ k. moved_words D (shifted a.shift) (item_at a.words.now (a.from + k))) c.loop-i.i (c.loop-i.invariant D m) _ refl a.count
    c.loop-i-test.true (items_all (moved_words D (shifted a.shift)) a.words.now a.from a.count) (c.in_err-push_moved_item.ensures D m))

pub loop-i-preserved : goal.loop-i-preserved
loop-i-preserved c D m = let a = c.args in
    step (λ k. moved_words D (shifted a.shift) (item_at a.words.now (a.from + k))) c.loop-i.i (c.loop-i.invariant D m) _ refl
    (c.in_ok-push_moved_item.ensures D m)

pub returns : goal.returns
returns c D m = let a = c.args in
    ended (λ k. moved_words D (shifted a.shift) (item_at a.words.now (a.from + k))) c.loop-i.i (c.loop-i.invariant D m) a.count
    (items_all (moved_words D (shifted a.shift)) a.words.now a.from a.count) (omega arith) (omega arith)
