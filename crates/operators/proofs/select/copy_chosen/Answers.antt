use mathlib.Core.Path.{refl, sym, ◌∙◌}
use Prim.Native.Nat.{◌+◌, ◌*◌}
use native.Mathlib.Omega.{arith}
use native.Mathlib.Nat.{mul-le-mul_right}
use Rattle.algebra.proofs.Lists.Every.{every_in}
use Rattle.store.proofs.Laws.Cells.{written_nothing}
use Rattle.operators.proofs.Laws.Partners.{before_later}
use Rattle.operators.proofs.Laws.CopiedRows.{copied_more}
use Rattle.operators.proofs.select.copy_chosen.Goals as goal

pub loop-k-init : goal.loop-k-init
loop-k-init c = (refl, sym (written_nothing c.args.scratch.now c.args.to))

pub copy_row-requires : goal.copy_row-requires
copy_row-requires c =
    let a = c.args in
    let p = c.requires in
    let k = c.loop-k.k in
    let h = c.loop-k-test.true in (
      (before_later a.cells.now a.to (a.to + k * a.b.width) a.b p.0.0 (omega arith), p.0.1, p.0.2),
      every_in 0 p.1 k h,
      omega (arith, mul-le-mul_right a.b.width h),
    )

pub loop-k-preserved : goal.loop-k-preserved
loop-k-preserved c =
    let a = c.args in
    let p = c.requires in
    let l = c.loop-k in (
      c.copy_row.auto.scratch ∙ l.invariant.0,
      copied_more a.cells.now a.scratch.now a.b a.found.now a.to p.0.0 p.1 p.2 l.k c.loop-k-test.true l.invariant.1 c.copy_row.ensures,
    )
