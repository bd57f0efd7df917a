use mathlib.Core.Path.{refl, ◌∙◌}
use native.Mathlib.Omega.{arith}
use Prim.Native.Nat.{◌≤◌}
use lib.ListN.{length, length-set}
use Rattle.plan.specs.Words.{nodes}
use Rattle.plan.proofs.Laws.Formed.{limited}
use Rattle.store.proofs.Laws.Layouts.{counts_laid, part_read, part_long, filled_none, filled_more, filled_laid, area_small}
use Rattle.store.proofs.layout.work_out_layout.Goals.{Start}
use Rattle.store.proofs.layout.work_out_layout.Goals as goal

few : (c : Start) → nodes c.args.words.now ≤ 256
few c = omega (arith, (limited _ c.requires.0.formed.sized).nodes_few)

tables : (c : Start) → length c.args.counts.now ≤ 16
tables c = omega (arith, c.requires.1, (limited _ c.requires.0.formed.sized).tables_few)

pub slice_bounds-copy_from_slice-end : goal.slice_bounds-copy_from_slice-end
slice_bounds-copy_from_slice-end c = omega (arith, tables (goal.at.slice_bounds-copy_from_slice-end c).Start)

pub widest_row-requires : goal.widest_row-requires
widest_row-requires c = (c.requires.4, few (goal.at.widest_row-requires c).Start)

pub overflow_mul-area : goal.overflow_mul-area
overflow_mul-area c = omega (arith, area_small _ c.requires.0 c.requires.3 c.widest_row.ensures)

pub loop-n-init : goal.loop-n-init
loop-n-init c =
    let p = c.requires in
    filled_none _ _ _ (part_long c.args.layout.now 768 _ _ c.copy_from_slice.ensures.len (omega (arith, tables (goal.at.loop-n-init c).Start)) ∙ p.6)
    (counts_laid _ _ (part_read c.args.layout.now 768 _ c.copy_from_slice.ensures.after refl (omega arith)) p.1)

pub bounds-widths-i : goal.bounds-widths-i
bounds-widths-i c = omega (arith, few (goal.at.bounds-widths-i c).Start)

pub bounds-layout-i : goal.bounds-layout-i
bounds-layout-i c = omega (arith, few (goal.at.bounds-layout-i c).Start, c.loop-n.invariant.long)

pub bounds-reaches-i : goal.bounds-reaches-i
bounds-reaches-i c = omega (arith, few (goal.at.bounds-reaches-i c).Start)

pub bounds-layout-i-in-loop-n : goal.bounds-layout-i-in-loop-n
bounds-layout-i-in-loop-n c = simp length-set (omega (arith, few (goal.at.bounds-layout-i-in-loop-n c).Start, c.loop-n.invariant.long))

pub start-requires : goal.start-requires
start-requires c = (c.requires.0, omega arith, c.requires.1, c.requires.2, area_small _ c.requires.0 c.requires.3 c.widest_row.ensures)

pub bounds-layout-i-in-loop-n-2 : goal.bounds-layout-i-in-loop-n-2
bounds-layout-i-in-loop-n-2 c = simp length-set (omega (arith, few (goal.at.bounds-layout-i-in-loop-n-2 c).Start, c.loop-n.invariant.long))

pub loop-n-preserved : goal.loop-n-preserved
loop-n-preserved c =
    let p = c.requires in
    filled_more _ _ c.loop-n.invariant (omega (arith, few (goal.at.loop-n-preserved c).Start)) (p.4 c.loop-n.n (omega arith))
    (p.5 c.loop-n.n (omega arith)) c.start.ensures.0 c.start.ensures.1

pub returns : goal.returns
returns c = filled_laid _ _ c.loop-n.invariant (omega arith) c.widest_row.ensures refl
