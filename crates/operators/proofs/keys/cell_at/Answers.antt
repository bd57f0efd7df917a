use Rattle.operators.proofs.Laws.Columns.{cell_none}
use Rattle.operators.proofs.keys.cell_at.Goals as goal

pub returns-else-p-row : goal.returns-else-p-row
returns-else-p-row c = cell_none c.args.row.now c.args.p c.if-p-row.false
