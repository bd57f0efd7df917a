use Rattle.input.proofs.Laws.{none_filled, more_filled, all_filled}
use native.Mathlib.Omega.{arith}
use Rattle.input.proofs.words.Goals as goal

pub loop-k-init : goal.loop-k-init
loop-k-init c = none_filled c.args.bytes.now _

pub loop-k-preserved : goal.loop-k-preserved
loop-k-preserved c = let a = c.args in
    let l = c.loop-k in
    more_filled a.bytes.now a.out.now l.out l.k _ (omega arith) l.invariant c.word.ensures

pub returns : goal.returns
returns c = let a = c.args in
    let l = c.loop-k in
    all_filled a.bytes.now a.out.now l.out c.min-count.result l.k l.auto.k-end c.loop-k-test.false c.min-count.ensures l.auto.out l.invariant
