-- A node that well-formed words say is written as the same words.
use mathlib.Core.Path.{◌≡◌, refl, sym, ap, ◌∙◌}
use mathlib.Core.Bool.{Bool, true, false, not}
use mathlib.Core.List.{List, [], ◌∷◌, ◌++◌, map}
use Prim.Native.Nat.{ℕ, ◌≤◌}
use native.Mathlib.Omega.{arith}
use lib.Dec.{ltb, eqb}
use lib.ListN.{length, take, drop, take-append-drop}
use borrow.Author.Tests.{eqb-true}
use Rattle.algebra.specs.Lists.{keep, all, is_empty, Every, done, more}
use Rattle.algebra.specs.Plan.{Kind}
use Rattle.algebra.proofs.Lists.Every.{every_head, every_map, every_both, every_front}
use Rattle.algebra.proofs.Lists.Keep.{keep_all, map_map, map_id}
use Rattle.plan.specs.Words.{Item}
use Rattle.plan.specs.Items.{is_conjunct, is_key, is_aggregate, conjunct_of, position_of, aggregate_of}
use Rattle.plan.specs.Items.{conjuncts_in, conjunct_right, computation_right, key_right, output_right, aggregate_right}
use Rattle.plan.specs.Plan.{kind_of, node_for}
use Rattle.plan.specs.Verdict.{in_front, items_right, has_right, has_kind}
use Rattle.plan.specs.Encoding.{kind_word, parts}
use Rattle.plan.proofs.Laws.Loops.{keep_first, keep_second, empty_nil, by_one}
use Rattle.plan.proofs.Laws.Header.{both}
use Rattle.plan.proofs.Laws.Formed.{by_operator}
use Rattle.plan.proofs.Laws.Numbered.{in_range_lem, every_all}
use Rattle.plan.proofs.Laws.Written.{conjunct_item, position_item, aggregate_item, node_items}
use Rattle.plan.proofs.Laws.Restored.{Narrow, conjunct_again, computation_again, position_again, aggregate_again}
use Rattle.plan.proofs.Laws.Restored.{conjunct_not_aggregate, key_not_aggregate, aggregate_not_conjunct, aggregate_not_key}

-- ---- lists of items

-- items of one sort in front, of another behind: what a test keeps that only the first pass, and one that only the second pass
module _ (p q s t : Item → Bool) (m : ℕ) (xs : List Item) (e : in_front p q m xs ≡ true) where
  -- the front is all of the first sort
  taken_every : Every (λ x. p x ≡ true) (take m xs)
  taken_every = every_all p (take m xs) (both _ _ e).0

  -- the rest is all of the second
  dropped_every : Every (λ x. q x ≡ true) (drop m xs)
  dropped_every = every_all q (drop m xs) (both (all p (take m xs)) _ e).1

  -- what only the first sort passes keeps the front
  keep_taken : ((x : Item) → p x ≡ true → s x ≡ true) → ((x : Item) → q x ≡ true → s x ≡ false) → keep s xs ≡ take m xs
  keep_taken f g = ap (keep s) (sym (take-append-drop m xs)) ∙ keep_first s (every_map f taken_every) (every_map g dropped_every)

  -- what only the second sort passes keeps the rest
  keep_dropped : ((x : Item) → p x ≡ true → t x ≡ false) → ((x : Item) → q x ≡ true → t x ≡ true) → keep t xs ≡ drop m xs
  keep_dropped f g = ap (keep t) (sym (take-append-drop m xs)) ∙ keep_second t (every_map f taken_every) (every_map g dropped_every)

-- a list read and written again
list_again : {A : Type 0} (f : A → Item) (g : Item → A) {xs : List Item} → Every (λ x. f (g x) ≡ x) xs → map f (map g xs) ≡ xs
list_again f g {xs} t = map_map f g xs ∙ map_id (λ x. f (g x)) t

-- the part in front and the part behind, each read and written again
parts_again : {A B : Type 0} (f : A → Item) (g : Item → A) (h : B → Item) (k : Item → B) (m : ℕ) (xs ys zs : List Item) → ys ≡ take m xs → zs ≡ drop m xs
    → Every (λ x. f (g x) ≡ x) (take m xs) → Every (λ x. h (k x) ≡ x) (drop m xs) → map f (map g ys) ++ map h (map k zs) ≡ xs
parts_again f g h k m xs ys zs p q a b =
    (λ i. map f (map g (p i)) ++ map h (map k (q i)))
    ∙ (λ i. list_again f g a i ++ list_again h k b i)
    ∙ take-append-drop m xs

-- conjuncts read and written again
conjuncts_again : (xs : List Item) → all conjunct_right xs ≡ true → Every Narrow xs → map conjunct_item (conjuncts_in xs) ≡ xs
conjuncts_again xs e h =
    let t = every_all conjunct_right xs e in
    ap (λ (l : List Item). map conjunct_item (map conjunct_of l)) (keep_all is_conjunct (every_map (λ x f. (both _ _ f).0) t))
    ∙ list_again conjunct_item conjunct_of (every_map (λ x f. conjunct_again x f.0 f.1) (every_both t h))

-- ---- a node

-- the items of a node are written again
pub items_again : (l r : ℕ) (k : Kind) (xs : List Item) → Every Narrow xs → (o : ℕ) → 1 ≤ o → o ≤ 8 → items_right o xs ≡ true
    → node_items (node_for o l r k xs) ≡ xs
unfolding node_for items_right
items_again l r k xs h = by_operator Again (λ e. sym (empty_nil xs e)) conjuncts one outputs conjuncts groups groupjoins conjuncts
  where
    Again : ℕ → Type 0
    Again o = items_right o xs ≡ true → node_items (node_for o l r k xs) ≡ xs

    conjuncts : all conjunct_right xs ≡ true → map conjunct_item (conjuncts_in xs) ≡ xs
    conjuncts e = conjuncts_again xs e h

    one : Again 3
    one e =
        let f = both (eqb (length xs) 1) _ e in
        by_one (λ ys. Every Narrow ys → all computation_right ys ≡ true → node_items (node_for 3 l r k ys) ≡ ys)
        (λ y t g. ap (λ (x : Item). x ∷ []) (computation_again y (both _ _ g).0 (every_head t))) xs (eqb-true (length xs) 1 f.0) h f.1

    outputs : Again 4
    outputs e = list_again (position_item 12) position_of (every_map (λ x f. position_again 12 x f) (every_all output_right xs (both (not (is_empty xs)) _ e).1))

    groups : Again 6
    groups e =
        let m : ℕ = length (keep is_key xs) in
        let f = (both (not (is_empty xs)) _ e).1 in
        parts_again (position_item 11) position_of aggregate_item aggregate_of m xs (keep is_key xs) (keep is_aggregate xs)
        (keep_taken key_right aggregate_right is_key is_aggregate m xs f (λ x g. (both _ _ g).0) aggregate_not_key)
        (keep_dropped key_right aggregate_right is_key is_aggregate m xs f key_not_aggregate (λ x g. (both _ _ g).0))
        (every_map (λ x g. position_again 11 x g) (taken_every key_right aggregate_right is_key is_aggregate m xs f))
        (every_map (λ x g. aggregate_again x g) (dropped_every key_right aggregate_right is_key is_aggregate m xs f))

    groupjoins : Again 7
    groupjoins e =
        let m : ℕ = length (keep is_conjunct xs) in
        let f = (both (ltb m (length xs)) _ e).1 in
        parts_again conjunct_item conjunct_of aggregate_item aggregate_of m xs (keep is_conjunct xs) (keep is_aggregate xs)
        (keep_taken conjunct_right aggregate_right is_conjunct is_aggregate m xs f (λ x g. (both _ _ g).0) aggregate_not_conjunct)
        (keep_dropped conjunct_right aggregate_right is_conjunct is_aggregate m xs f conjunct_not_aggregate (λ x g. (both _ _ g).0))
        (every_map (λ x g. conjunct_again x g.0 g.1)
        (every_both (taken_every conjunct_right aggregate_right is_conjunct is_aggregate m xs f)
        (every_front (take m xs) (drop m xs) (rw (take-append-drop m xs) h))))
        (every_map aggregate_again (dropped_every conjunct_right aggregate_right is_conjunct is_aggregate m xs f))

-- the four words of a node
module _ (l r k : ℕ) (xs : List Item) where
  pub operator_again : (o : ℕ) → 1 ≤ o → o ≤ 8 → (parts (node_for o l r (kind_of k) xs)).operator ≡ o
  unfolding node_for
  operator_again = by_operator (λ o. (parts (node_for o l r (kind_of k) xs)).operator ≡ o) refl refl refl refl refl refl refl refl

  pub left_again : (o : ℕ) → 1 ≤ o → o ≤ 8 → (parts (node_for o l r (kind_of k) xs)).left ≡ l
  unfolding node_for
  left_again = by_operator (λ o. (parts (node_for o l r (kind_of k) xs)).left ≡ l) refl refl refl refl refl refl refl refl

  -- "Unused words are 0."
  pub right_again : (o : ℕ) → 1 ≤ o → o ≤ 8 → (has_right o ≡ false → r ≡ 0) → (parts (node_for o l r (kind_of k) xs)).right ≡ r
  unfolding node_for
  right_again =
      by_operator (λ o. (has_right o ≡ false → r ≡ 0) → (parts (node_for o l r (kind_of k) xs)).right ≡ r) zero zero zero zero (λ h. refl) zero
      (λ h. refl) (λ h. refl)
    where
      zero : (false ≡ false → r ≡ 0) → 0 ≡ r
      zero h = sym (h refl)

  -- a kind from 1 to 4 is written as its word
  kind_word_lem : (true ≡ true → 1 ≤ k) → (true ≡ true → k ≤ 4) → kind_word (kind_of k) ≡ k
  unfolding kind_of
  kind_word_lem g h = in_range_lem (λ j. kind_word (kind_of j) ≡ j) 1 4 (more refl (more refl (more refl (more refl done)))) k (g refl) (omega (arith, h refl))

  pub kind_again : (o : ℕ) → 1 ≤ o → o ≤ 8 → (has_kind o ≡ true → 1 ≤ k) → (has_kind o ≡ true → k ≤ 4) → (has_kind o ≡ false → k ≡ 0)
      → (parts (node_for o l r (kind_of k) xs)).kind ≡ k
  unfolding node_for
  kind_again = by_operator Again zero zero zero zero some zero zero some
    where
      Again : ℕ → Type 0
      Again o = (has_kind o ≡ true → 1 ≤ k) → (has_kind o ≡ true → k ≤ 4) → (has_kind o ≡ false → k ≡ 0) → (parts (node_for o l r (kind_of k) xs)).kind ≡ k

      zero : (false ≡ true → 1 ≤ k) → (false ≡ true → k ≤ 4) → (false ≡ false → k ≡ 0) → 0 ≡ k
      zero f g h = sym (h refl)

      some : (true ≡ true → 1 ≤ k) → (true ≡ true → k ≤ 4) → (true ≡ false → k ≡ 0) → kind_word (kind_of k) ≡ k
      some f g h = kind_word_lem f g
