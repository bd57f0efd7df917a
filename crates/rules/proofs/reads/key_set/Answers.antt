use mathlib.Core.Path.{refl}
use native.Mathlib.Omega.{arith}
use Rattle.rules.proofs.Laws.Keys.{levels_none, levels_more, key_set}
use Rattle.rules.proofs.reads.key_set.Goals as goal

pub loop-l-init : goal.loop-l-init
loop-l-init c = levels_none refl

pub loop-l-preserved : goal.loop-l-preserved
loop-l-preserved c = levels_more c.loop-l.invariant refl c.level_spots-set.ensures

pub returns : goal.returns
returns c = key_set c.args.reads.now c.args.r c.loop-l.invariant c.loop-l-test.false (omega arith)
