use mathlib.Core.Path.{◌∙◌}
use mir.Syntax.{w64}
use mir.Val.{Fits}
use borrow.Author.Rules.{rules}
use borrow.Author.Tests.{le-ltb}
use Rattle.pages.proofs.Laws.Sets.{out_past}
use Rattle.pages.proofs.sets.ColumnSet.contains.Goals as goal

pub returns-else-position-lt-SIZE : goal.returns-else-position-lt-SIZE
returns-else-position-lt-SIZE c = let f : Fits w64 c.args.self.bits = search rules in
    le-ltb _ _ c.if-position-lt-SIZE.false ∙ out_past _ _ f.fits c.if-position-lt-SIZE.false
