use Rattle.store.proofs.Laws.Parts.{row_of_first, row_of_second}
use Prim.Native.Nat.{◌+◌, ◌*◌}
use Rattle.store.proofs.rows.copy_row.Goals as goal

pub returns-then-b : goal.returns-then-b
returns-then-b c =
    let a = c.args in
    row_of_first a.b.table a.cells.now a.scratch.now a.scratch.now _ a.to (a.b.from + a.i * a.b.width) a.b.width
    c.if-b.true c.copy_cells.ensures

pub returns-else-b : goal.returns-else-b
returns-else-b c =
    let a = c.args in
    row_of_second a.b.table a.cells.now a.scratch.now a.scratch.now _ a.to (a.b.from + a.i * a.b.width) a.b.width
    c.if-b.false c.copy_within.ensures
