use borrow.Author.Rules.{rules}
use mathlib.Core.Path.{refl}
use native.Mathlib.Nat.{mul-le-mul_right}
use native.Mathlib.Omega.{arith}
use lib.ListN.{length}
use Rattle.store.specs.Rows.{source}
use Rattle.operators.proofs.Laws.Columns.{picked_next, picked_none, picked_size, row_kept}
use Rattle.operators.proofs.columns.pick_rows.Goals as goal

pub loop-i-init : goal.loop-i-init
loop-i-init c = let a = c.args in (
  refl,
  picked_none a.scratch.now a.to a.positions.now (source a.cells.now a.scratch.now a.b) a.b.from a.b.width,
)

pub loop-i-preserved : goal.loop-i-preserved
loop-i-preserved c =
    let a = c.args in
    let p = c.requires in
    let l = c.loop-i in
    let more = mul-le-mul_right (length a.positions.now) c.loop-i-test.true in
    let size =
    picked_size a.scratch.now a.to a.positions.now (source a.cells.now a.scratch.now a.b) a.b.from
    a.b.width l.i in
    let row = row_kept a.cells.now a.scratch.now a.b a.to p.0 _ l.invariant.1 l.i c.loop-i-test.true (omega arith) in (
      search rules,
      picked_next a.scratch.now a.to a.positions.now (source a.cells.now a.scratch.now a.b) a.b.from
          a.b.width l.i l.invariant.1 c.pick_row.ensures row (omega arith),
    )
