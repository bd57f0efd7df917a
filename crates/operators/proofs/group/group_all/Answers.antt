use borrow.Author.Rules.{rules}
use Rattle.std.proofs.lemmas.Result.{err_from_is_err_and}
use Rattle.operators.specs.Choice.{aggregates_from}
use Rattle.operators.proofs.Laws.Partners.{chosen_ranged}
use Rattle.operators.proofs.Laws.OneGroup.{all_below, all_rows, one_fails, one_makes}
use Rattle.operators.proofs.group.group_all.Goals as goal

pub write_aggregates-requires-clause-input : goal.write_aggregates-requires-clause-input
write_aggregates-requires-clause-input c =
    let a = c.args in
    let below = all_below a.b.count c.choose_all.ensures in (
      (search rules, search rules, search rules),
      search rules,
      below,
      chosen_ranged a.cells.now a.scratch.now a.b c.requires.before.3 below,
    )

pub returns-in_err-write_aggregates : goal.returns-in_err-write_aggregates
returns-in_err-write_aggregates c =
    let a = c.args in
    let e = err_from_is_err_and c.from_residual.result c.from_residual.ensures.1 in
    rw (e.1, e.2)
    (one_fails a.limit a.to a.scratch.now _ (aggregates_from a.words.now a.aggregates.first a.aggregates.count) _ _
    (all_rows a.cells.now a.scratch.now a.b c.choose_all.ensures) c.requires.room.2
    c.write_aggregates.ensures c.in_err-write_aggregates.was)

pub returns : goal.returns
returns c =
    let a = c.args in
    one_makes a.limit a.to a.scratch.now _ (aggregates_from a.words.now a.aggregates.first a.aggregates.count) _ _
    (all_rows a.cells.now a.scratch.now a.b c.choose_all.ensures) c.requires.room.2
    c.write_aggregates.ensures c.in_ok-write_aggregates.was
