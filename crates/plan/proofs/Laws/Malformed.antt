-- What each test of a node says of it.
use mathlib.Core.Path.{◌≡◌, refl, sym, ◌∙◌}
use mathlib.Core.Bool.{Bool, true, false, not}
use mathlib.Core.List.{List}
use mathlib.Core.Logic.{◌⊎◌, ⊎_elim}
use Prim.Native.Nat.{ℕ, ◌+◌, ◌≤◌, ◌<◌}
use native.Mathlib.Omega.{arith}
use native.Mathlib.Numerals.{add-one}
use borrow.Author.Tests.{not-false, eq-eqb, ne_eqb}
use Rattle.plan.specs.Words.{items, first_item, item_count}
use Rattle.plan.specs.Verdict.{has_right, has_kind, items_before, count_right, node_right}
use Rattle.plan.proofs.Laws.Formed.{count_says, node_facts}

-- ---- operators

module _ (o : ℕ) where
  -- which numbers have no right input
  pub right_low : (o ≡ 5 → ⊥) → o < 7 → false ≡ has_right o
  right_low e h = rw (ne_eqb o 5 e, ne_eqb o 7 (omega arith), ne_eqb o 8 (omega arith))

  pub right_high : 9 ≤ o → false ≡ has_right o
  right_high h = rw (ne_eqb o 5 (omega arith), ne_eqb o 7 (omega arith), ne_eqb o 8 (omega arith))

-- ---- kinds

-- joins and dependent joins have a kind
pub kind_has : (o : ℕ) → (o ≡ 5) ⊎ (o ≡ 8) → has_kind o ≡ true
kind_has o k = ⊎_elim (λ e. rw (eq-eqb o 5 e)) (λ e. rw e) k

-- ---- counts

-- what a right count says
pub count_within : (ws : List ℕ) (n : ℕ) {b : Bool} → b ≡ count_right ws n → not b ≡ false → first_item ws n + item_count ws n ≤ items ws
count_within ws n {b} says e = (count_says ws n (sym says ∙ not-false b e)).1

-- ---- the items of the nodes before

-- no item before the first node
pub none_before : (ws : List ℕ) → 0 ≡ items_before ws 0
unfolding items_before
none_before ws = refl

-- one node more
pub before_more : (ws : List ℕ) (n : ℕ) {before k : ℕ} → before ≡ items_before ws n → k ≡ item_count ws n → before + k ≡ items_before ws (n + 1)
unfolding items_before
before_more ws n is_before is_count = rw (add-one n, is_before, is_count)

-- the items of a right node stay within the table
pub before_within : (ws : List ℕ) (n : ℕ) {b : Bool} → b ≡ node_right ws n → not b ≡ false
    → {before k : ℕ} → before ≡ items_before ws n → k ≡ item_count ws n → before + k ≤ items ws
before_within ws n {b} says e is_before is_count =
    let f = node_facts ws n (sym says ∙ not-false b e) in
    omega (arith, f.first, f.within)
