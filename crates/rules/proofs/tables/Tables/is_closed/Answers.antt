use mathlib.Core.Path.{refl}
use Rattle.pages.proofs.Laws.Limits.{node_index}
use Rattle.rules.proofs.Laws.UnderDomain.{closed_is}
use Rattle.rules.proofs.tables.Tables.is_closed.Goals as goal

pub bounds-self-n : goal.bounds-self-n
bounds-self-n c = node_index c.requires.0.accepted c.requires.1 refl

pub returns : goal.returns
returns c = closed_is c.args.self.now.words.now c.args.self.now.reaches.now c.requires.0.reaches c.requires.1
