use mathlib.Core.Path.{◌≡◌, refl, sym}
use mathlib.Core.List.{map}
use native.Mathlib.Omega.{arith}
use lib.ListN.{length, length-set, take}
use mir.Syntax.{w64}
use mir.ValLaws.{to_z-of_z}
use Rattle.algebra.specs.Operators.{picked}
use Rattle.store.specs.Cells.{cell}
use Rattle.store.specs.Rows.{row_of}
use Rattle.store.proofs.Laws.Cells.{written_nothing}
use Rattle.operators.proofs.Laws.Columns.{column_more, column_read, columns_size, row_kept}
use Rattle.operators.proofs.keys.pick_row.Goals as goal

pub loop-k-init : goal.loop-k-init
loop-k-init c = (refl, sym (written_nothing _ _))

pub loop-k-preserved : goal.loop-k-preserved
loop-k-preserved c =
    let a = c.args in
    let p = c.requires in
    let l = c.loop-k in
    let size : length (map cell (picked (take l.k a.positions.now) (row_of a.cells.now a.scratch.now a.b a.i))) ≡ l.k =
    columns_size a.positions.now (row_of a.cells.now a.scratch.now a.b a.i) l.k (omega arith) in
    let row = row_kept a.cells.now a.scratch.now a.b a.to p.0.0 _ l.invariant.1 a.i p.1 (omega arith) in (
      simp length-set l.invariant.0,
      column_more a.scratch.now a.to a.positions.now (row_of a.cells.now a.scratch.now a.b a.i) l.k l.invariant.1
          (to_z-of_z w64 _ (record { sfits = c.cell_at-x.type_inv }))
          (column_read _ _ _ _ c.cell_at-x.ensures c.row.ensures row) (omega arith)
          (omega arith),
    )
