use Rattle.plan.proofs.Laws.Uses.{Tally, seen_left, tally_none, left_room, left_added, left_kept, right_room, right_added, right_kept, tally_end}
use Rattle.plan.specs.Words.{nodes}
use Rattle.std.proofs.Common.{arith, ◌<◌}
use Rattle.plan.proofs.uses.count_uses.Goals.{After-has_left, After-has_right, then-has_left, else-has_left, then-has_right, else-has_right}
use Rattle.plan.proofs.uses.count_uses.Goals as goal

-- the uses once the left input is counted
lefts : (c : After-has_right) → Tally c.if-has_left.uses (seen_left c.args.words.now c.loop-n.n)
lefts c =
    let below : c.loop-n.n < nodes c.args.words.now = rw c.nodes-n-end.ensures at c.loop-n-test.true in
    elim c.if-has_left.branch [
      | then-has_left w ↦ left_added c.requires below c.of-operator.ensures c.has_left.ensures c.loop-n.invariant w.left.ensures w.if-has_left.true w.uses-is
      | else-has_left w ↦ left_kept c.requires below c.of-operator.ensures c.has_left.ensures c.loop-n.invariant w.if-has_left.false w.uses-is
    ]

pub loop-n-init : goal.loop-n-init
loop-n-init c = tally_none _

pub overflow_add-uses : goal.overflow_add-uses
overflow_add-uses c = let room = left_room c.requires (rw c.nodes-n-end.ensures at c.loop-n-test.true) c.of-operator.ensures c.has_left.ensures c.loop-n.invariant c.left.ensures in omega arith

pub overflow_add-uses-then-has_right : goal.overflow_add-uses-then-has_right
overflow_add-uses-then-has_right c =
    let before = lefts (goal.at.overflow_add-uses-then-has_right c).After-has_right in
    let room = right_room c.requires (rw c.nodes-n-end.ensures at c.loop-n-test.true) c.of-operator.ensures c.has_right.ensures before c.right.ensures in omega arith

pub loop-n-preserved : goal.loop-n-preserved
loop-n-preserved c =
    let below : c.loop-n.n < nodes c.args.words.now = rw c.nodes-n-end.ensures at c.loop-n-test.true in
    let before = lefts (goal.at.loop-n-preserved c).After-has_right in
    elim c.if-has_right.branch [
      | then-has_right w ↦ right_added c.requires below c.of-operator.ensures c.has_right.ensures before w.right.ensures w.if-has_right.true w.uses-is
      | else-has_right w ↦ right_kept c.requires below c.of-operator.ensures c.has_right.ensures before w.if-has_right.false w.uses-is
    ]

pub returns : goal.returns
returns c = tally_end _ c.loop-n.n c.nodes-n-end.ensures c.loop-n.invariant c.loop-n-test.false c.loop-n.auto.n-end
