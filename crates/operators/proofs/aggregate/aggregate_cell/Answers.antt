use Rattle.operators.proofs.Laws.Aggregates.{counted_rows}
use Rattle.operators.proofs.aggregate.aggregate_cell.Goals as goal

pub returns-in-Count : goal.returns-in-Count
returns-in-Count c = rw c.in-Count.is (counted_rows c.args.rows.now c.args.width c.args.found.now c.requires.0)
