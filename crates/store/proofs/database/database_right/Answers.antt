use Rattle.store.proofs.Laws.Tables.{counts_wrong, counts_high, cells_wrong, cells_decide}
use mathlib.Core.Path.{ap}
use mathlib.Core.Bool.{not}
use Rattle.store.proofs.database.database_right.Goals as goal

pub returns-then-counts-tables : goal.returns-then-counts-tables
returns-then-counts-tables c = counts_wrong _ _ _ c.tables.ensures c.if-counts-tables.true

pub returns-then-not-counts_right : goal.returns-then-not-counts_right
returns-then-not-counts_right c = counts_high _ _ _ c.counts_right.ensures (ap not c.if-not-counts_right.true)

pub returns-then-cells-table_start : goal.returns-then-cells-table_start
returns-then-cells-table_start c = cells_wrong _ _ _ c.tables-2.ensures c.table_start.ensures.0 c.if-cells-table_start.true

pub returns : goal.returns
returns c = cells_decide _ _ _ c.tables.ensures c.if-counts-tables.false
    c.counts_right.ensures (ap not c.if-not-counts_right.false) c.tables-2.ensures
    c.table_start.ensures.0 c.if-cells-table_start.false c.all_in_range.ensures
