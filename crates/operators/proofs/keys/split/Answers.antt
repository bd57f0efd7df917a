use borrow.Author.Rules.{rules}
use mathlib.Core.Path.{refl}
use mathlib.Core.Logic.{inl, inr}
use Rattle.operators.proofs.Laws.Keys.{number_has, parted_next}
use Rattle.operators.proofs.keys.split.Goals.{then-same_key, else-same_key}
use Rattle.operators.proofs.keys.split.Goals as goal

pub same_key-requires : goal.same_key-requires
same_key-requires c = let l = c.loop-i in (
  search rules,
  number_has _ _ _ _ l.invariant c.loop-i-test.true c.requires.n_in_bounds.0 c.requires.n_in_bounds.2 refl,
  search rules,
  search rules,
  number_has _ _ _ _ l.invariant c.loop-i-test.true c.requires.n_in_bounds.0 c.requires.n_in_bounds.3 refl,
)

pub loop-i-preserved : goal.loop-i-preserved
loop-i-preserved c =
    let l = c.loop-i in
    parted_next _ _ _ _ l.invariant c.loop-i-test.true c.requires.n_in_bounds.0 c.requires.n_in_bounds.1 refl c.same_key.ensures
    (elim c.if-same_key.branch [
      | then-same_key w ↦ inl (w.if-same_key.true, w.rest-is, w.found-is, w.members-is, w.others-is)
      | else-same_key w ↦ inr (w.if-same_key.false, w.rest-is, w.found-is, w.members-is, w.others-is)
    ])
