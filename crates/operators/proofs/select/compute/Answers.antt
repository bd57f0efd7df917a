use native.Mathlib.Omega.{arith}
use Rattle.plan.specs.Words.{item_at}
use Rattle.store.specs.Rows.{source, rows_of}
use Rattle.store.proofs.Laws.Cells.{rows_wide}
use Rattle.operators.proofs.Laws.Partners.{before_within}
use Rattle.operators.proofs.Laws.Computations.{first_readable, second_readable, compute_makes}
use Rattle.operators.proofs.select.compute.Goals as goal

pub resolve-first-requires : goal.resolve-first-requires
resolve-first-requires c =
    (c.requires.underway, first_readable (item_at c.args.context.words.now c.args.j) c.requires.computation c.first_term.ensures)

pub resolve-second-requires : goal.resolve-second-requires
resolve-second-requires c =
    (c.requires.underway, second_readable (item_at c.args.context.words.now c.args.j) c.requires.computation c.second_term.ensures)

pub returns : goal.returns
returns c = λ o held.
    let a = c.args in
    let cells = a.context.cells.now in
    let wide =
    rows_wide (source cells a.scratch.now a.input) a.input.from a.input.width a.input.count
    (before_within cells a.scratch.now a.to a.input c.requires.before.0 (omega arith)) in
    compute_makes o (item_at a.context.words.now a.j) a.input.width c.of-operation.result c.resolve-first.result c.resolve-second.result
    (rows_of cells a.scratch.now a.input)
    wide c.of-operation.ensures c.first_term.ensures c.second_term.ensures
    (c.resolve-first.ensures.row_value o held) (c.resolve-second.ensures.row_value o held) c.add_column.ensures
