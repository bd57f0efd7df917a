use native.Mathlib.Omega.{arith}
use Rattle.operators.specs.Choice.{conjuncts_from}
use Rattle.operators.proofs.Laws.CopiedRows.{select_makes}
use Rattle.operators.proofs.select.select.Goals as goal

pub returns : goal.returns
returns c = λ o held.
    let a = c.args in
    select_makes o (conjuncts_from a.context.words.now a.conjuncts.first a.conjuncts.count) a.context.cells.now a.scratch.now a.input a.limit a.to
    c.find-n.result c.find-n.new.found
    (c.find-n.ensures.0 o held) (omega arith) (omega arith) c.requires.in_range c.copy_chosen.ensures
