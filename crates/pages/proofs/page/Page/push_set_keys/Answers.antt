use native.Mathlib.Omega.{arith}
use mathlib.Core.Path.{refl}
use Rattle.pages.specs.Sets.{in_set}
use Rattle.pages.proofs.Laws.Pages.{missed}
use Rattle.pages.proofs.Laws.Writer.{step_kept, step_left, stop_kept, ended_kept, locals, local_words}
use Rattle.pages.proofs.page.Page.push_set_keys.Goals as goal
use Rattle.pages.proofs.page.Page.push_set_keys.Goals.{then-contains+in_ok-push_item, else-contains}

pub returns-in_err-push_item : goal.returns-in_err-push_item
returns-in_err-push_item c = let a = c.args in
    missed _ _ c.from_residual.result c.from_residual.ensures.0
    (stop_kept (λ k. locals 11 k 0) (in_set a.set) c.loop-q.q c.loop-q.invariant _ c.contains.ensures c.if-contains.true _
    (local_words 11 _ _ _ _ c.local.ensures c.local-then-contains.ensures)
    64 c.loop-q-test.true (refl) c.in_err-push_item.ensures)

pub loop-q-preserved : goal.loop-q-preserved
loop-q-preserved c = let a = c.args in
    elim c.if-contains.branch [
      | then-contains+in_ok-push_item w ↦
          step_kept (λ k. locals 11 k 0) (in_set a.set) c.loop-q.q c.loop-q.invariant _ c.contains.ensures w.if-contains.true _
          (local_words 11 _ _ _ _ w.local.ensures w.local-then-contains.ensures) w.self-is w.in_ok-push_item.ensures
      | else-contains w ↦ step_left (λ k. locals 11 k 0) (in_set a.set) c.loop-q.q c.loop-q.invariant _ c.contains.ensures w.if-contains.false w.self-is
    ]

pub returns : goal.returns
returns c = let a = c.args in
    ended_kept (λ k. locals 11 k 0) (in_set a.set) c.loop-q.q c.loop-q.invariant 64 (refl) (omega arith) (omega arith)
