use mathlib.Core.Path.{refl}
use native.Mathlib.Omega.{arith}
use lib.ListN.{length-set}
use Rattle.plan.specs.Verdict.{width_at}
use Rattle.plan.proofs.Laws.Formed.{limited}
use Rattle.plan.proofs.Laws.Loops.{table_more, zeros_more, zeros_at}
use Rattle.plan.proofs.Laws.Widths.{rows_low, width_is, measured_wide, narrow_more, measured_all}
use Rattle.plan.proofs.widths.work_out_widths.Goals as goal

pub loop-n-init : goal.loop-n-init
loop-n-init c = record { before = λ m l. absurd (omega arith); narrow = refl; rest = (refl, λ m l. zeros_at 256 m) }

pub node_width-w-requires : goal.node_width-w-requires
node_width-w-requires c = let l = c.loop-n in
    (c.requires, omega arith, rows_low c.args.words.now l.rows l.n l.invariant.before l.invariant.narrow)

pub returns-then-w-gt-WIDTH : goal.returns-then-w-gt-WIDTH
returns-then-w-gt-WIDTH c = let l = c.loop-n in
    measured_wide c.args.words.now l.rows l.n l.invariant.before l.invariant.narrow c.requires (omega arith) c.node_width-w.ensures l.invariant.rest c.if-w-gt-WIDTH.true

pub bounds-rows-n : goal.bounds-rows-n
bounds-rows-n c = omega (arith, (limited _ c.requires.sized).nodes_few)

pub loop-n-preserved : goal.loop-n-preserved
loop-n-preserved c = let l = c.loop-n in
    let ws = c.args.words.now in
    let one = width_is ws l.rows l.n l.invariant.before l.invariant.narrow c.requires (omega arith) c.node_width-w.ensures in record {
      before = table_more l.rows l.n (width_at ws) l.invariant.before (omega (arith, (limited _ c.requires.sized).nodes_few)) refl one;
      narrow = narrow_more ws l.rows l.n l.invariant.before l.invariant.narrow c.requires (omega arith) c.node_width-w.ensures c.if-w-gt-WIDTH.false;
      rest = (simp length-set l.invariant.rest.0, zeros_more l.rows l.n _ l.invariant.rest.1 refl);
    }

pub returns : goal.returns
returns c = let l = c.loop-n in
    measured_all _ l.rows l.n l.invariant.before l.invariant.narrow l.invariant.rest c.nodes-count.ensures (omega arith) (omega arith)
