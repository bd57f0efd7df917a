use mathlib.Core.Path.{ap}
use Rattle.plan.specs.Terms.{meant}
use Rattle.rules.proofs.Laws.Reads.{term_outer}
use Rattle.rules.proofs.reads.add_term.Goals as goal

pub returns-then-position-lt-SIZE : goal.returns-then-position-lt-SIZE
returns-then-position-lt-SIZE c =
    term_outer c.args.n c.args.table.now (meant c.args.term) _ _ (ap meant c.in-Outer.is) c.requires.1 c.requires.0 c.if-level-lt8.true
    c.with.ensures
