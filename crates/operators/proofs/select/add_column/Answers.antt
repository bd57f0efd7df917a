use Rattle.operators.proofs.Laws.NewColumns.{added_none, added_start, part_long, copied_long, operand_light, new_cell, added_more, added_ranged, added_out, added_end}
use mathlib.Core.Path.{refl, sym, ap, ◌∙◌}
use lib.ListN.{length-set}
use mir.Syntax.{w64}
use mir.ValLaws.{to_z-of_z}
use Rattle.store.specs.Cells.{value}
use Rattle.operators.proofs.select.add_column.Goals as goal

pub loop-i-init : goal.loop-i-init
loop-i-init c = let a = c.args in (
  refl,
  added_none a.cells.now a.scratch.now a.input a.operation a.first a.second,
  added_start a.cells.now a.scratch.now a.input a.operation a.first a.second a.to,
)

pub cell-requires : goal.cell-requires
cell-requires c =
    let a = c.args in
    let p = c.requires in
    let l = c.loop-i in
    rw (part_long a.cells.now a.scratch.now a.input a.operation a.first a.second a.to p.before.0 p.before.4 l.i c.loop-i-test.true l.invariant.2
    c.copy_row.ensures c.row-from.ensures) p.in_range.1

pub cell-requires-in-loop-i : goal.cell-requires-in-loop-i
cell-requires-in-loop-i c =
    let a = c.args in
    let p = c.requires in
    let l = c.loop-i in
    rw (part_long a.cells.now a.scratch.now a.input a.operation a.first a.second a.to p.before.0 p.before.4 l.i c.loop-i-test.true l.invariant.2
    c.copy_row.ensures c.row-from.ensures) p.in_range.2

pub combine-x-requires : goal.combine-x-requires
combine-x-requires c =
    let a = c.args in
    let p = c.requires in
    let l = c.loop-i in
    let h = c.loop-i-test.true in
    let w = c.copy_row.ensures in
    let r = c.row-from.ensures in
    let first = ap value (to_z-of_z w64 _ (record { sfits = c.cell.type_inv })) ∙ c.cell.ensures in
    let second = ap value (to_z-of_z w64 _ (record { sfits = c.cell-in-loop-i.type_inv })) ∙ c.cell-in-loop-i.ensures in (
      operand_light a.cells.now a.scratch.now a.input a.operation a.first a.second a.to p.before.0 p.before.4 l.i h l.invariant.2 w r
          a.first first p.in_range.0 p.in_range.3,
      operand_light a.cells.now a.scratch.now a.input a.operation a.first a.second a.to p.before.0 p.before.4 l.i h l.invariant.2 w r
          a.second second p.in_range.0 p.in_range.4,
    )

pub returns-then-not-in_range : goal.returns-then-not-in_range
returns-then-not-in_range c =
    let a = c.args in
    let p = c.requires in
    let l = c.loop-i in
    let h = c.loop-i-test.true in
    let first = ap value (to_z-of_z w64 _ (record { sfits = c.cell.type_inv })) ∙ c.cell.ensures in
    let second = ap value (to_z-of_z w64 _ (record { sfits = c.cell-in-loop-i.type_inv })) ∙ c.cell-in-loop-i.ensures in
    let new = ap value (to_z-of_z w64 _ (record { sfits = c.combine-x.type_inv })) ∙ c.combine-x.ensures in
    let known =
    new_cell a.cells.now a.scratch.now a.input a.operation a.first a.second a.to p.before.0 p.before.4 l.i h l.invariant.2
    c.copy_row.ensures c.row-from.ensures first second new in
    added_out a.cells.now a.scratch.now a.input a.operation a.first a.second l.i h known a.limit a.to _ p.before.1
    (sym c.in_range.ensures ∙ c.if-not-in_range.true)

pub loop-i-preserved : goal.loop-i-preserved
loop-i-preserved c =
    let a = c.args in
    let p = c.requires in
    let l = c.loop-i in
    let h = c.loop-i-test.true in
    let first = ap value (to_z-of_z w64 _ (record { sfits = c.cell.type_inv })) ∙ c.cell.ensures in
    let second = ap value (to_z-of_z w64 _ (record { sfits = c.cell-in-loop-i.type_inv })) ∙ c.cell-in-loop-i.ensures in
    let new = ap value (to_z-of_z w64 _ (record { sfits = c.combine-x.type_inv })) ∙ c.combine-x.ensures in
    let known =
    new_cell a.cells.now a.scratch.now a.input a.operation a.first a.second a.to p.before.0 p.before.4 l.i h l.invariant.2
    c.copy_row.ensures c.row-from.ensures first second new in (
      simp length-set
          (copied_long a.cells.now a.scratch.now a.input a.operation a.first a.second a.to p.before.0 p.before.4 l.i h l.invariant.2
          c.copy_row.ensures),
      added_ranged a.cells.now a.scratch.now a.input a.operation a.first a.second l.i h known p.in_range.0 l.invariant.1
          (sym c.in_range.ensures ∙ c.if-not-in_range.false),
      added_more a.cells.now a.scratch.now a.input a.operation a.first a.second a.to p.before.0 p.before.4 l.i h l.invariant.2
          c.copy_row.ensures _ known,
    )

pub returns : goal.returns
returns c =
    let a = c.args in
    let l = c.loop-i in
    added_end a.cells.now a.scratch.now a.input a.operation a.first a.second a.limit a.to l.i l.scratch c.requires.before.1 l.auto.i-end
    c.loop-i-test.false l.invariant.1 l.invariant.2
