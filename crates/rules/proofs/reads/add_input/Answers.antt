use native.Mathlib.Omega.{arith}
use Rattle.rules.proofs.Laws.Reads.{levels_none, levels_more, levels_end}
use Rattle.rules.proofs.reads.add_input.Goals as goal

pub loop-l-init : goal.loop-l-init
loop-l-init c = let a = c.args in levels_none a.table.now a.n a.i a.skip

pub loop-l-preserved : goal.loop-l-preserved
loop-l-preserved c = let a = c.args in
    levels_more a.table.now a.n a.i a.skip c.loop-l.l c.requires.0 c.requires.1 c.requires.3 c.loop-l.invariant (omega arith) c.union.ensures

pub returns : goal.returns
returns c = let a = c.args in
    levels_end a.table.now a.n a.i a.skip c.loop-l.l c.loop-l.invariant (omega arith)
