use native.Mathlib.Omega.{arith}
use Prim.Native.Nat.{◌+◌}
use mir.Syntax.{w64}
use mir.Val.{Fits}
use borrow.Author.Rules.{rules}
use Rattle.pages.specs.Sets.{in_set, rank}
use Rattle.pages.proofs.Laws.Pages.{missed}
use Rattle.pages.proofs.Laws.Writer.{step_kept, step_left, stop_kept, ended_kept, locals, local_words, local_same, set_matches_all}
use Rattle.pages.proofs.page.Page.push_set_matches.Goals as goal
use Rattle.pages.proofs.page.Page.push_set_matches.Goals.{then-contains+in_ok-push_item, else-contains}

pub returns-in_err-push_item : goal.returns-in_err-push_item
returns-in_err-push_item c = let a = c.args in
    let set_fits : Fits w64 a.set.bits = search rules in
    missed _ _ c.from_residual.result c.from_residual.ensures.0
    (stop_kept (λ k. locals 7 k (a.behind + rank a.set k)) (in_set a.set) c.loop-q.q c.loop-q.invariant _ c.contains.ensures c.if-contains.true _
    (local_words 7 _ _ _ _ c.local.ensures (local_same _ a.behind _ _ c.rank.ensures.value c.local-then-contains.ensures))
    64 c.loop-q-test.true (set_matches_all a.set a.behind set_fits.fits) c.in_err-push_item.ensures)

pub loop-q-preserved : goal.loop-q-preserved
loop-q-preserved c = let a = c.args in
    elim c.if-contains.branch [
      | then-contains+in_ok-push_item w ↦
          step_kept (λ k. locals 7 k (a.behind + rank a.set k)) (in_set a.set) c.loop-q.q c.loop-q.invariant _ c.contains.ensures w.if-contains.true _
          (local_words 7 _ _ _ _ w.local.ensures (local_same _ a.behind _ _ w.rank.ensures.value w.local-then-contains.ensures)) w.self-is w.in_ok-push_item.ensures
      | else-contains w ↦ step_left (λ k. locals 7 k (a.behind + rank a.set k)) (in_set a.set) c.loop-q.q c.loop-q.invariant _ c.contains.ensures w.if-contains.false w.self-is
    ]

pub returns : goal.returns
returns c = let a = c.args in
    let set_fits : Fits w64 a.set.bits = search rules in
    ended_kept (λ k. locals 7 k (a.behind + rank a.set k)) (in_set a.set) c.loop-q.q c.loop-q.invariant 64 (set_matches_all a.set a.behind set_fits.fits) (omega arith) (omega arith)
