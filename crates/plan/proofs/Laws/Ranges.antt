-- What a chain over a range says of the list of its numbers.
use mathlib.Core.Path.{◌≡◌, refl, sym, ap, ◌∙◌}
use mathlib.Core.Bool.{Bool, true, false, cond}
use mathlib.Core.List.{List, [], ◌∷◌, map, map-id, map-map}
use Prim.Native.Nat.{ℕ, zero, suc, ◌+◌}
use native.Mathlib.Nat.{zero-add}
use native.Mathlib.Numerals.{add-one}
use lib.ListN.{length}
use Rattle.std.specs.List.{range_with_len, list_all, filter}
use Rattle.std.proofs.lemmas.List.FromFn.{map-range_with_len_more}
use Rattle.algebra.specs.Lists.{keep, all, upto}
use Rattle.algebra.proofs.Lists.Keep.{map_append}

-- the numbers of a range
numbers : (a n : ℕ) → range_with_len a n ≡ map (λ i. a + i) (upto n)
numbers a zero = refl
numbers a (suc n) =
    let more = rw (add-one n, map-id (range_with_len a (suc n)), map-id (range_with_len a n), numbers a n) at (map-range_with_len_more (λ (i : ℕ). i) a n (a + n) refl) in
    more ∙ sym (map_append (λ (i : ℕ). a + i) (upto n) (n ∷ []))

module _ {A : Type 0} (p : A → Bool) (f : ℕ → A) where
  all_mapped : (ks : List ℕ) → list_all (λ k. p (f k)) ks ≡ all p (map f ks)
  all_mapped [] = refl
  all_mapped (k ∷ ks) = rw (all_mapped ks)

  kept_mapped : (ks : List ℕ) → length (filter (λ k. p (f k)) ks) ≡ length (keep p (map f ks))
  kept_mapped [] = refl
  kept_mapped (k ∷ ks) = go (p (f k)) (kept_mapped ks)
    where
      go : (b : Bool) → length (filter (λ i. p (f i)) ks) ≡ length (keep p (map f ks))
          → length (cond b (k ∷ filter (λ i. p (f i)) ks) (filter (λ i. p (f i)) ks)) ≡ length (cond b (f k ∷ keep p (map f ks)) (keep p (map f ks)))
      go true e = ap suc e
      go false e = e

  -- a test of every number of a range
  pub all_numbers : (a n : ℕ) → list_all (λ k. p (f k)) (range_with_len a n) ≡ all p (map (λ i. f (a + i)) (upto n))
  all_numbers a n = ap (list_all (λ k. p (f k))) (numbers a n) ∙ all_mapped (map (λ i. a + i) (upto n)) ∙ ap (all p) (map-map f (λ (i : ℕ). a + i) (upto n))

  -- how many numbers of a range pass
  pub count_numbers : (a n : ℕ) → length (filter (λ k. p (f k)) (range_with_len a n)) ≡ length (keep p (map (λ i. f (a + i)) (upto n)))
  count_numbers a n =
      ap (λ (ks : List ℕ). length (filter (λ k. p (f k)) ks)) (numbers a n) ∙ kept_mapped (map (λ i. a + i) (upto n))
      ∙ ap (λ (xs : List A). length (keep p xs)) (map-map f (λ (i : ℕ). a + i) (upto n))

-- a test of every number below n
pub all_below : (p : ℕ → Bool) (n : ℕ) → list_all p (range_with_len 0 n) ≡ all p (upto n)
all_below p n = ap (list_all p) (numbers 0 n) ∙ all_mapped p (λ k. k) (map (λ i. 0 + i) (upto n)) ∙ ap (all p) (map-id _ ∙ simp zero-add (map-id (upto n)))
