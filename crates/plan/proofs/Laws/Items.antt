-- The items of a node: items by their sorts, and how many have a tag.
use mathlib.Core.Path.{◌≡◌, refl, sym, ap, ◌∙◌}
use mathlib.Core.Bool.{Bool, true, false, not, ◌&&◌}
use mathlib.Core.List.{List, ◌++◌}
use Prim.Native.Nat.{ℕ, ◌+◌, ◌-◌, ◌≤◌, ◌<◌}
use native.Mathlib.Omega.{arith}
use native.Mathlib.Nat.{add_assoc}
use lib.Dec.{leb, ltb, eqb}
use lib.ListN.{length}
use lib.Seq.{take_at, drop_at}
use borrow.Author.Tests.{lt-ltb, le-ltb, le-leb, lt-leb, eq-eqb, ne_eqb, leb-true, eqb-true, eqb-false}
use Rattle.algebra.specs.Lists.{keep, all, is_empty, upto}
use Rattle.algebra.proofs.Lists.Every.{every_of}
use Rattle.algebra.proofs.Lists.Keep.{keep_same, map_cong}
use Rattle.plan.specs.Words.{Item, item_at, items_from}
use Rattle.plan.specs.declared.sorts.Sort.{Sort}
use Rattle.plan.specs.Sorts.{is_of, right_of}
use Rattle.plan.specs.Items.{between, is_conjunct, is_key, conjunct_right, computation_right, key_right, output_right, aggregate_right}
use Rattle.plan.specs.Verdict.{in_front, items_right}
use Rattle.plan.proofs.Laws.Loops.{keep_few, empty_length}
use Rattle.plan.proofs.Laws.Numbered.{numbered_length, numbered_add}

-- ---- how many of the items up to i have a tag from low to high

module _ (ws : List ℕ) (a low high : ℕ) where
  -- their number
  abbrev pub tags_in : ℕ → ℕ
  tags_in i = length (keep (λ x. between low high x.tag) (items_from ws a i))

  -- there are no more of them than items
  pub tags_most : (i : ℕ) → tags_in i ≤ i
  tags_most i = omega (arith, keep_few (λ x. between low high x.tag) (items_from ws a i), numbered_length (λ i. item_at ws (a + i)) i)

-- there are no more items of a sort than items
pub sort_most : (ws : List ℕ) (a : ℕ) (s : Sort) (i : ℕ) → length (keep (is_of s) (items_from ws a i)) ≤ i
sort_most ws a s i = omega (arith, keep_few (is_of s) (items_from ws a i), numbered_length (λ i. item_at ws (a + i)) i)

-- ---- the first items and the others

-- m items in front of others
pub front_append : (p q : Item → Bool) (m : ℕ) (xs ys : List Item) → length xs ≡ m → in_front p q m (xs ++ ys) ≡ (all p xs && all q ys)
front_append p q m xs ys e = rw (take_at xs ys m e, drop_at xs ys m e)

module _ (ws : List ℕ) (a : ℕ) where
  pub items_length : (i : ℕ) → length (items_from ws a i) ≡ i
  items_length i = numbered_length (λ i. item_at ws (a + i)) i

  -- m items, then the others
  pub items_split : (m n : ℕ) → m ≤ n → items_from ws a n ≡ items_from ws a m ++ items_from ws (a + m) (n - m)
  items_split m n h =
      let q : n ≡ m + (n - m) = omega arith in
      ap (items_from ws a) q
      ∙ numbered_add (λ i. item_at ws (a + i)) m (n - m)
      ∙ ap (λ (xs : List Item). items_from ws a m ++ xs)
      (map_cong (λ i. item_at ws (a + (m + i))) (λ i. item_at ws (a + m + i))
      (every_of (λ i. ap (item_at ws) (sym (add_assoc a m i))) (upto (n - m))))

  -- the first m items of one sort, the others of another
  items_front : (p q : Item → Bool) (m n : ℕ) → m ≤ n
      → in_front p q m (items_from ws a n) ≡ (all p (items_from ws a m) && all q (items_from ws (a + m) (n - m)))
  items_front p q m n h = rw (items_split m n h) (front_append p q m (items_from ws a m) (items_from ws (a + m) (n - m)) (items_length m))

  -- the first m of the sort s, the others aggregates
  module _ (s : Sort) (m n : ℕ) (l : m ≤ n) {r : Bool} (e : r ≡ all (right_of s) (items_from ws a m)) where
    -- an item in front is not of the sort
    pub front_fails : r ≡ false → r ≡ in_front (right_of s) aggregate_right m (items_from ws a n)
    front_fails h = h ∙ sym (items_front (right_of s) aggregate_right m n l ∙ rw (sym e, h))

    -- all items in front are of the sort, and those behind decide
    pub front_passes : r ≡ true → {t : Bool} → t ≡ all aggregate_right (items_from ws (a + m) (n - m))
        → t ≡ in_front (right_of s) aggregate_right m (items_from ws a n)
    front_passes h q = q ∙ sym (items_front (right_of s) aggregate_right m n l ∙ rw (sym e, h))

-- ---- a range of one tag, and no items

-- from n to n there is only n
pub between_one : (n x : ℕ) → between n n x ≡ eqb x n
between_one n x = go (eqb x n) refl
  where
    go : (b : Bool) → eqb x n ≡ b → between n n x ≡ b
    go true e = let q : x ≡ n = eqb-true x n e in rw (q, le-leb n n (omega arith))
    go false e = other (leb n x) refl
      where
        other : (b : Bool) → leb n x ≡ b → (b && leb x n) ≡ false
        other false h = refl
        other true h =
            let g : n ≤ x = leb-true n x h in
            let f : x ≡ n → ⊥ = eqb-false x n e in
            lt-leb x n (omega arith)

-- there is no item where the count is 0
items_empty : (ws : List ℕ) (a n : ℕ) → is_empty (items_from ws a n) ≡ eqb n 0
items_empty ws a n = empty_length (items_from ws a n) ∙ ap (λ (k : ℕ). eqb k 0) (items_length ws a n)

-- ---- the items of a node, whose first item, item count and operator the code read as a, count and o

-- the keys are the items with tag 11
pub keys_in_lem : (ws : List ℕ) (a count : ℕ) → length (keep is_key (items_from ws a count)) ≡ tags_in ws a 11 11 count
keys_in_lem ws a count = ap length (keep_same is_key (λ x. between 11 11 x.tag) (items_from ws a count) (λ x. sym (between_one 11 x.tag)))

-- what is said of what the code read is said of the words
pub as_read : (ws : List ℕ) {a count o x y z : ℕ} → a ≡ x → count ≡ y → o ≡ z → {r : Bool}
    → r ≡ items_right o (items_from ws a count) → r ≡ items_right z (items_from ws x y)
as_read ws e f g q = rw (sym e, sym f, sym g) q

-- what the operator o asks of the items
module _ (ws : List ℕ) (a count : ℕ) {o : ℕ} where
  -- operator 1: none
  pub scan_items : o ≡ 1 → eqb count 0 ≡ items_right o (items_from ws a count)
  unfolding items_right
  scan_items h = rw (h, items_empty ws a count)

  -- operator 3: one computation
  pub compute_not_one : o ≡ 3 → (count ≡ 1 → ⊥) → eqb count 1 ≡ items_right o (items_from ws a count)
  unfolding items_right
  compute_not_one h k = rw (h, items_length ws a count, ne_eqb count 1 k)

  pub compute_one : o ≡ 3 → count ≡ 1 → {r : Bool} → r ≡ all computation_right (items_from ws a count) → r ≡ items_right o (items_from ws a count)
  unfolding items_right
  compute_one h k q = rw (h, items_length ws a count, eq-eqb count 1 k) q

  -- operator 4: output columns
  pub project_none : o ≡ 4 → count ≡ 0 → not (eqb count 0) ≡ items_right o (items_from ws a count)
  unfolding items_right
  project_none h k = rw (h, items_empty ws a count, eq-eqb count 0 k)

  pub project_some : o ≡ 4 → (count ≡ 0 → ⊥) → {r : Bool} → r ≡ all output_right (items_from ws a count) → r ≡ items_right o (items_from ws a count)
  unfolding items_right
  project_some h k q = rw (h, items_empty ws a count, ne_eqb count 0 k) q

  -- operator 6: keys, then aggregates, and not none
  pub group_none : o ≡ 6 → count ≡ 0 → not (eqb count 0) ≡ items_right o (items_from ws a count)
  unfolding items_right
  group_none h k = rw (h, items_empty ws a count, eq-eqb count 0 k)

  pub group_some : o ≡ 6 → (count ≡ 0 → ⊥) → {m : ℕ} → m ≡ length (keep is_key (items_from ws a count)) → {r : Bool}
      → r ≡ in_front key_right aggregate_right m (items_from ws a count) → r ≡ items_right o (items_from ws a count)
  unfolding items_right
  group_some h k q p = rw (h, items_empty ws a count, ne_eqb count 0 k, sym q) p

  -- operator 7: conjuncts, then at least one aggregate
  module _ (h : o ≡ 7) {m : ℕ} (q : m ≡ length (keep is_conjunct (items_from ws a count))) where
    pub groupjoin_none : count ≤ m → ltb m count ≡ items_right o (items_from ws a count)
    unfolding items_right
    groupjoin_none k = rw (h, sym q, items_length ws a count, le-ltb m count k)

    pub groupjoin_some : m < count → {r : Bool}
        → r ≡ in_front conjunct_right aggregate_right m (items_from ws a count) → r ≡ items_right o (items_from ws a count)
    unfolding items_right
    groupjoin_some k p = rw (h, sym q, items_length ws a count, lt-ltb m count k) p

  -- the others: conjuncts
  pub other_items : (o ≡ 1 → ⊥) → (o ≡ 3 → ⊥) → (o ≡ 4 → ⊥) → (o ≡ 6 → ⊥) → (o ≡ 7 → ⊥) → {r : Bool}
      → r ≡ all conjunct_right (items_from ws a count) → r ≡ items_right o (items_from ws a count)
  unfolding items_right
  other_items h₁ h₃ h₄ h₆ h₇ q = rw (ne_eqb o 1 h₁, ne_eqb o 3 h₃, ne_eqb o 4 h₄, ne_eqb o 6 h₆, ne_eqb o 7 h₇) q
