use native.Mathlib.Omega.{arith}
use Rattle.rules.proofs.Laws.Reads.{none_filled, all_filled}
use Rattle.rules.proofs.reads.work_out_reads.Goals as goal

pub loop-n-init : goal.loop-n-init
loop-n-init c = none_filled c.args.words.now

pub add_node-requires : goal.add_node-requires
add_node-requires c = ((c.requires, omega (arith, c.nodes-n-end.ensures)), c.loop-n.invariant)

pub returns : goal.returns
returns c = all_filled _ c.loop-n.invariant c.nodes-n-end.ensures c.loop-n-test.false
