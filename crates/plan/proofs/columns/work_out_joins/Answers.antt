use mathlib.Core.Path.{◌≡◌, ◌∙◌}
use mathlib.Core.Bool.{cond}
use Prim.Native.Nat.{◌-◌}
use native.Mathlib.Omega.{arith}
use Rattle.plan.specs.Words.{left}
use Rattle.plan.specs.Passes.{entered}
use Rattle.plan.proofs.Laws.Formed.{named_left, named_right}
use Rattle.plan.proofs.Laws.Scope.{joins_start, entered_step, joins_end}
use Rattle.plan.proofs.columns.work_out_joins.Goals.{After-has_right, then-has_left, else-has_left}
use Rattle.plan.proofs.columns.work_out_joins.Goals as goal

-- the joins once the left input is entered
lefts : (c : After-has_right)
    → c.if-has_left.joins ≡ cond c.has_left.result (entered c.args.words.now c.args.reaches.now (c.loop-p.p - 1) (left c.args.words.now (c.loop-p.p - 1)) c.loop-p.joins) c.loop-p.joins
lefts c =
    elim c.if-has_left.branch [
      | then-has_left w ↦ w.joins-is ∙ w.enter.ensures ∙ rw (w.if-has_left.true, w.left.ensures)
      | else-has_left w ↦ w.joins-is ∙ rw w.if-has_left.false
    ]

pub loop-p-init : goal.loop-p-init
loop-p-init c = joins_start _ c.requires.0 c.nodes-p.ensures

pub loop-p-preserved-then-has_right : goal.loop-p-preserved-then-has_right
loop-p-preserved-then-has_right c =
    entered_step c.requires.0 c.loop-p-test.true (omega arith) c.loop-p.invariant (named_left _ c.requires.0 _ (omega arith) c.of-operator.ensures c.has_left.ensures)
    (named_right _ c.requires.0 _ (omega arith) c.of-operator.ensures c.has_right.ensures)
    (lefts (goal.at.loop-p-preserved-then-has_right c).After-has_right)
    (c.enter-then-has_right.ensures ∙ rw (c.if-has_right.true, c.right.ensures))

pub loop-p-preserved : goal.loop-p-preserved
loop-p-preserved c =
    entered_step c.requires.0 c.loop-p-test.true (omega arith) c.loop-p.invariant (named_left _ c.requires.0 _ (omega arith) c.of-operator.ensures c.has_left.ensures)
    (named_right _ c.requires.0 _ (omega arith) c.of-operator.ensures c.has_right.ensures)
    (lefts (goal.at.loop-p-preserved c).After-has_right)
    (rw c.if-has_right.false)

pub returns : goal.returns
returns c =
    let done : c.loop-p.p ≡ 0 = omega arith in
    joins_end c.requires.0 c.requires.1 (rw done at c.loop-p.invariant)
