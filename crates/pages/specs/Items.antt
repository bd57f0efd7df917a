-- The words of the items that the rewriter writes.
use Rattle.std.specs.Prelude.{◌≡◌, true, cond, List, [], ◌∷◌, ◌++◌, ℕ, ◌+◌, ◌<◌, eqb}
use Rattle.algebra.specs.Plan.{Term, column, outer, constant, nothing}
use Rattle.algebra.specs.Domains.{Domain, move_term, shift_both}
use Rattle.plan.specs.Words.{Three, Item}
use Rattle.plan.specs.Items.{position_of, term_of, term_right}
use Rattle.plan.specs.Encoding.{term_words, unused, position_words}
use Rattle.pages.specs.declared.shift.Shift.{Shift}

-- an item as it stands
abbrev pub item_words : Item → List ℕ
item_words x =
    x.tag ∷ x.first.code ∷ x.first.level ∷ x.first.value ∷ x.second.code ∷ x.second.level ∷ x.second.value ∷ []

-- a key, an output column or an aggregate whose column moved behind d others
unfoldable pub shifted_words : ℕ → Item → List ℕ
shifted_words d x = cond (eqb x.tag 13) (13 ∷ (unused ++ unused)) (position_words x.tag (d + position_of x))

-- where the code's shift puts a column
abbrev pub shifted : Shift → ℕ → ℕ
shifted s = shift_both s.width s.front s.between

-- a conjunct or a computation whose columns moved
unfoldable pub moved_words : Domain → (ℕ → ℕ) → Item → List ℕ
moved_words D f x = x.tag ∷ (term_words (move_term D f (term_of x.first)) ++ cond (eqb x.tag 8) unused (term_words (move_term D f (term_of x.second))))

-- a column of a checked plan has a small position
abbrev pub Small : Three → Type 0
Small t = t.code < 2 → t.value < 1000

-- a term as the rewriter needs it: a level that a domain has, a small position
abbrev pub Near : Term → Type 0
Near (column p) = p < 1000
Near (outer l p) = (l < 8) × (p < 1000)
Near (constant z) = Unit {0}
Near nothing = Unit {0}

-- both terms are well formed and small, the second where it is used
pub record Movable (x : Item) : Type 0 where
  pub first : (term_right x.first ≡ true) × Small x.first
  pub second : (x.tag ≡ 8 → ⊥) → (term_right x.second ≡ true) × Small x.second
