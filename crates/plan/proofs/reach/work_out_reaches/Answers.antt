use mathlib.Core.Path.{refl, ◌∙◌}
use native.Mathlib.Omega.{arith}
use lib.ListN.{get_or, length-set}
use Rattle.algebra.specs.Columns.{shape_at}
use Rattle.plan.specs.Plan.{widths_of, nodes_of}
use Rattle.plan.specs.Passes.{reach}
use Rattle.plan.proofs.Laws.Formed.{limited}
use Rattle.plan.proofs.Laws.Loops.{table_more, zeros_more, zeros_at}
use Rattle.plan.proofs.Laws.Reach.{reach_of}
use Rattle.plan.proofs.reach.work_out_reaches.Goals as goal

pub loop-n-init : goal.loop-n-init
loop-n-init c = record { reached = λ m l. absurd (omega arith); zero_from = (refl, λ m l. zeros_at 256 m) }

pub bounds-reaches-n : goal.bounds-reaches-n
bounds-reaches-n c = omega (arith, (limited _ c.requires.sized).nodes_few)

pub loop-n-preserved : goal.loop-n-preserved
loop-n-preserved c = let l = c.loop-n in
    let ws = c.args.words.now in
    let one = c.node_reach.ensures ∙ reach_of _ c.requires l.n (omega arith) (λ m. get_or l.reaches m 0) l.invariant.reached in record {
      reached = table_more l.reaches l.n (λ m. reach (shape_at (widths_of ws) (nodes_of ws) m).reads) l.invariant.reached
          (omega (arith, (limited _ c.requires.sized).nodes_few)) refl one;
      zero_from = (simp length-set l.invariant.zero_from.0, zeros_more l.reaches l.n _ l.invariant.zero_from.1 refl);
    }

pub returns : goal.returns
returns c = let l = c.loop-n in record {
  reaches = λ m h. l.invariant.reached m (omega arith);
  zero_from = (l.invariant.zero_from.0, λ m h. l.invariant.zero_from.1 m (omega arith));
}
