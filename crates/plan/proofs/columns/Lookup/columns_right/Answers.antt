use native.Mathlib.Omega.{arith}
use Rattle.plan.proofs.Laws.Formed.{inputs_there}
use Rattle.plan.proofs.Laws.Columns.{columns_scan, columns_one, columns_two}
use Rattle.plan.proofs.columns.Lookup.columns_right.Goals as goal

pub returns-in-Scan : goal.returns-in-Scan
returns-in-Scan c = columns_scan _ c.args.self.now.placed.formed _ c.requires c.of.ensures c.in-Scan.is

pub returns-in-Select : goal.returns-in-Select
returns-in-Select c =
    columns_one _ c.args.self.now.placed.formed _ c.requires c.of.ensures _ c.args.self.now.placed.widths c.left.ensures c.in-Select.is c.items_there.ensures

pub overflow_add-l : goal.overflow_add-l
overflow_add-l c =
    let there = inputs_there _ c.args.self.now.placed.formed _ c.requires c.of.ensures c.in-Join.is c.left-in-Join.ensures c.right.ensures in
    omega (arith, c.args.self.now.placed.narrow c.left-in-Join.result (omega arith), c.args.self.now.placed.narrow c.right.result (omega arith))

pub returns-in-Join : goal.returns-in-Join
returns-in-Join c =
    columns_two _ c.args.self.now.placed.formed _ c.requires c.of.ensures _ c.args.self.now.placed.widths c.left-in-Join.ensures c.right.ensures c.in-Join.is
    c.items_there-in-Join.ensures
