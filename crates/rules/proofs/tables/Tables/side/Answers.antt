use mathlib.Core.Path.{refl}
use Rattle.pages.proofs.Laws.Limits.{node_index}
use Rattle.rules.proofs.tables.Tables.side.Goals as goal

pub bounds-self-n : goal.bounds-self-n
bounds-self-n c = node_index c.requires.0.accepted c.requires.1 refl

pub invariant_of-result : goal.invariant_of-result
invariant_of-result c = record { narrow = rw (c.requires.0.widths _ c.requires.1) (c.requires.0.accepted.narrow _ c.requires.1) }

pub returns : goal.returns
returns c = (refl, c.requires.0.widths _ c.requires.1)
