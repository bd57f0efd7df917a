use mathlib.Core.Path.{◌∙◌, ap}
use Prim.Native.Nat.{ℕ, ◌%◌}
use lib.Count.{ones}
use mir.Syntax.{w64}
use mir.Val.{Fits}
use borrow.Author.Rules.{rules}
use Rattle.pages.proofs.Laws.Sets.{shifted, ones_rank, ones_all}
use Rattle.pages.proofs.sets.ColumnSet.rank.Goals as goal

pub returns-then-position-lt-SIZE-clause-value : goal.returns-then-position-lt-SIZE-clause-value
returns-then-position-lt-SIZE-clause-value c = let a = c.args in
    ap (λ (m : ℕ). ones (a.self.bits % m)) (shifted a.position c.if-position-lt-SIZE.true) ∙ ones_rank a.self a.position

pub returns-clause-value : goal.returns-clause-value
returns-clause-value c = let f : Fits w64 c.args.self.bits = search rules in
    ones_all c.args.self c.args.position f.fits c.if-position-lt-SIZE.false
