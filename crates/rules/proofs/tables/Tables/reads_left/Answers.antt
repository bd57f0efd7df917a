use mathlib.Core.Path.{refl}
use borrow.Author.Rules.{rules}
use Rattle.plan.proofs.Laws.Formed.{is_named, not_named}
use Rattle.plan.specs.declared.operator.Operator.TheVariants.{Dependent}
use Rattle.rules.proofs.Laws.LeftRead.{left_read, left_unread, right_index}
use Rattle.rules.proofs.tables.Tables.reads_left.Goals as goal

pub returns-in_default : goal.returns-in_default
returns-in_default c =
    left_unread c.args.self.now.words.now c.requires.0.accepted c.args.n c.requires.1
    (not_named _ c.requires.0.accepted.formed _ c.requires.1 c.of.ensures Dependent c.in_default.not-Dependent)

pub bounds-self-right : goal.bounds-self-right
bounds-self-right c =
    right_index c.args.self.now.words.now c.requires.0.accepted c.args.n c.requires.1
    (is_named _ c.requires.0.accepted.formed _ c.requires.1 c.of.ensures c.in-Dependent.is) c.right.ensures refl

pub returns-in-Dependent : goal.returns-in-Dependent
returns-in-Dependent c =
    left_read c.args.self.now.words.now c.requires.0.accepted c.args.n c.requires.1
    (is_named _ c.requires.0.accepted.formed _ c.requires.1 c.of.ensures c.in-Dependent.is) c.right.ensures
    refl c.args.self.now.reads.now c.requires.0.reads (search rules)
