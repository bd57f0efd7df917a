use mathlib.Core.Path.{refl, ◌∙◌}
use native.Mathlib.Omega.{arith}
use lib.ListN.{length-set}
use lib.Seq.{paste-zero}
use Rattle.pages.proofs.Laws.Words.{copy_more, copy_all}
use Rattle.pages.proofs.output.copy_words.Goals as goal

pub loop-k-init : goal.loop-k-init
loop-k-init c = (refl, paste-zero _ 0 c.args.from.now)

pub loop-k-preserved : goal.loop-k-preserved
loop-k-preserved c =
    let a = c.args in
    let l = c.loop-k in (
      simp length-set l.invariant.0,
      copy_more a.to.now a.from.now l.k l.to (omega arith) (omega arith) l.invariant.1,
    )

pub returns : goal.returns
returns c = c.loop-k.invariant.1 ∙ copy_all c.args.to.now c.args.from.now c.loop-k.k (omega arith) c.requires
