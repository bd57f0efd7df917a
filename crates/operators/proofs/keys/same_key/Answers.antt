use mathlib.Core.Path.{refl, ◌∙◌, sym}
use mathlib.Core.List.{map}
use Prim.Native.Nat.{◌*◌, ◌+◌, ◌-◌}
use lib.ListN.{drop, take}
use Rattle.algebra.specs.Value.{Row}
use Rattle.store.specs.Cells.{value}
use Rattle.operators.proofs.Laws.Keys.{key_next, key_stop, key_end, part_width}
use Rattle.operators.proofs.keys.same_key.Goals.{Start}
use Rattle.operators.proofs.keys.same_key.Goals as goal

-- the two rows, as the code cuts them
abbrev first : Start → Row
first c = let a = c.args in map value (take (a.k * a.width + a.width - a.k * a.width) (drop (a.k * a.width) a.rows.now))

abbrev second : Start → Row
second c = let a = c.args in map value (take (a.i * a.width + a.width - a.i * a.width) (drop (a.i * a.width) a.rows.now))

pub returns-then-cell_at : goal.returns-then-cell_at
returns-then-cell_at c =
    let s = (goal.at.returns-then-cell_at c).Start in
    let a = c.args in
    let l = c.loop-p in
    part_width a.positions.now a.rows.now a.k a.i a.width _ (key_stop a.positions.now (first s) (second s) l.p-index _ _ refl
    c.cell_at.ensures c.cell_at-in-loop-p.ensures c.if-cell_at.true c.loop-p-test.true ∙ sym l.invariant)

pub loop-p-preserved : goal.loop-p-preserved
loop-p-preserved c =
    let s = (goal.at.loop-p-preserved c).Start in
    let a = c.args in
    let l = c.loop-p in
    l.invariant ∙ key_next a.positions.now (first s) (second s) l.p-index _ _ refl c.cell_at.ensures c.cell_at-in-loop-p.ensures
    c.cell_at.type_inv c.cell_at-in-loop-p.type_inv c.if-cell_at.false c.loop-p-test.true

pub returns : goal.returns
returns c =
    let s = (goal.at.returns c).Start in
    let a = c.args in
    let l = c.loop-p in
    part_width a.positions.now a.rows.now a.k a.i a.width _ (key_end a.positions.now (first s) (second s) l.p-index c.loop-p-test.false ∙ sym l.invariant)
