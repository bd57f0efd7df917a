use mathlib.Core.Path.{sym, ◌∙◌}
use native.Mathlib.Omega.{arith}
use Rattle.rules.proofs.Laws.Keys.{spots_none, spots_out, spots_in, spots_far, spots_end}
use Rattle.rules.proofs.reads.level_spots.Goals as goal
use Rattle.rules.proofs.reads.level_spots.Goals.{then-contains+then-q-lt-SIZE, then-contains+else-q-lt-SIZE, else-contains}

pub loop-p-init : goal.loop-p-init
loop-p-init c = spots_none

pub loop-p-preserved : goal.loop-p-preserved
loop-p-preserved c = let before = c.loop-p.invariant in
    let told = sym c.contains.ensures in
    elim c.if-contains.branch [
      | then-contains+then-q-lt-SIZE w ↦ rw w.set-is (spots_in before (told ∙ w.if-contains.true) w.spot-q.ensures w.with-set.ensures)
      | then-contains+else-q-lt-SIZE w ↦ rw w.set-is (spots_far before (told ∙ w.if-contains.true) w.spot-q.ensures w.if-q-lt-SIZE.false)
      | else-contains w ↦ rw w.set-is (spots_out before (told ∙ w.if-contains.false))
    ]

pub returns : goal.returns
returns c = (spots_end c.loop-p.invariant c.loop-p-test.false (omega arith)).all
