-- What a loop over 0, 1, .. knows: of the lowest number that passes, of a list all of whose elements pass, of what is kept of a list, and of a table.
use mathlib.Core.Path.{◌≡◌, refl, sym, ap, ◌∙◌}
use mathlib.Core.Bool.{Bool, true, false, not, cond, ◌&&◌, and_assoc, and-false, true≢false}
use mathlib.Core.List.{List, [], ◌∷◌, ◌++◌, map, append-nil}
use Prim.Native.Nat.{ℕ, zero, suc, ◌+◌, ◌≤◌, ◌<◌}
use native.Mathlib.Omega.{arith}
use native.Mathlib.Numerals.{add-one}
use lib.Dec.{ltb, eqb}
use lib.ListN.{length, get_or, replicate, set}
use lib.Seq.{get_or-set_same, get_or-set_other}
use borrow.Author.Tests.{ltb-true, ltb-false, ne_eqb}
use Rattle.algebra.specs.Lists.{keep, all, upto, is_empty, Every, done, more}
use Rattle.algebra.proofs.Lists.Keep.{keep_append, keep_same, keep_all, keep_none, map_append}
use Rattle.algebra.proofs.Lists.Every.{every_keep, every_kept, every_unkeep}
use Rattle.algebra.proofs.Domains.Keys.{upto_all, upto_below}
use Rattle.std.specs.Prelude.{Some, None, slice_get}
use Rattle.plan.specs.Verdict.{lowest}
use Rattle.plan.specs.Passes.{first}

-- ---- the lowest number that passes

module _ (p : ℕ → Bool) where
  -- one number more that does not pass
  pub none_more : (i : ℕ) → keep p (upto i) ≡ [] → p i ≡ false → keep p (upto (i + 1)) ≡ []
  none_more i e h = rw (add-one i, keep_append p (upto i) (i ∷ []), e, h)

  -- the first number that passes is kept first
  pub first_kept : (i n : ℕ) → keep p (upto i) ≡ [] → p i ≡ true → i < n → (rest : List ℕ) × (keep p (upto n) ≡ i ∷ rest)
  first_kept i zero e h l = absurd (omega arith)
  first_kept i (suc n) e h l = go (ltb i n) refl (first_kept i n e h)
    where
      here : (m : ℕ) → i ≡ m → keep p (upto m ++ (m ∷ [])) ≡ i ∷ []
      here m q = rw (sym q, keep_append p (upto i) (i ∷ []), e, h)

      go : (b : Bool) → ltb i n ≡ b → (i < n → (rest : List ℕ) × (keep p (upto n) ≡ i ∷ rest)) → (rest : List ℕ) × (keep p (upto n ++ (n ∷ [])) ≡ i ∷ rest)
      go true t before =
          let f = before (ltb-true i n t) in
          (f.0 ++ keep p (n ∷ []), keep_append p (upto n) (n ∷ []) ∙ ap (λ (l : List ℕ). l ++ keep p (n ∷ [])) f.1)
      go false t before = ([], here n (omega (arith, ltb-false i n t)))

  -- the first number that passes
  pub lowest_found : (i n : ℕ) → keep p (upto i) ≡ [] → p i ≡ true → i < n → i ≡ lowest p n
  lowest_found i n e h l = sym (ap (λ (l : List ℕ). get_or l 0 n) (first_kept i n e h l).1)

  -- the same, where there may be none
  pub first_found : (i n : ℕ) → keep p (upto i) ≡ [] → p i ≡ true → i < n → Some i ≡ first p n
  first_found i n e h l = sym (ap (λ (l : List ℕ). slice_get l 0) (first_kept i n e h l).1)

  -- the loop ended without finding one
  pub first_end : (i n : ℕ) → keep p (upto i) ≡ [] → n ≤ i → i ≤ n → None ≡ first p n
  first_end i n e g h = let q : i ≡ n = omega arith in sym (ap (λ (l : List ℕ). slice_get l 0) (rw q at e))

  -- no number passes
  pub lowest_none : (n : ℕ) → keep p (upto n) ≡ [] → n ≡ lowest p n
  lowest_none n e = sym (ap (λ (l : List ℕ). get_or l 0 n) e)

  -- the loop ended without finding one
  pub lowest_end : (i n : ℕ) → keep p (upto i) ≡ [] → n ≤ i → i ≤ n → n ≡ lowest p n
  lowest_end i n e g h = let q : i ≡ n = omega arith in lowest_none n (rw q at e)

  -- where the first of some numbers below n is not below n there are none
  below_end : (n : ℕ) (ks : List ℕ) → Every (λ k. k < n) ks → n ≤ get_or ks 0 n → ks ≡ []
  below_end n [] t h = refl
  below_end n (k ∷ ks) (more g t) h = absurd (omega arith)

  -- where none was found, none passes
  pub lowest_not : (n : ℕ) → n ≤ lowest p n → (i : ℕ) → i < n → p i ≡ false
  lowest_not n h i l = go (p i) refl
    where
      empty : keep p (upto n) ≡ []
      empty = below_end n (keep p (upto n)) (every_keep p (upto_below n)) h

      go : (b : Bool) → p i ≡ b → p i ≡ false
      go false e = e
      go true e = absurd (upto_all n (every_unkeep {P = λ k. ⊥} p (upto n) (rw empty done)) i l e)

  -- the lowest number that passes passes
  pub lowest_passes : (n : ℕ) → lowest p n < n → p (lowest p n) ≡ true
  lowest_passes n = go (keep p (upto n)) (every_kept p (upto n))
    where
      go : (ks : List ℕ) → Every (λ k. p k ≡ true) ks → get_or ks 0 n < n → p (get_or ks 0 n) ≡ true
      go ks done h = absurd (omega arith)
      go ks (more e t) h = e

-- two tests that agree find the same number
pub lowest_same : (p q : ℕ → Bool) (n : ℕ) → ((k : ℕ) → p k ≡ q k) → lowest p n ≡ lowest q n
lowest_same p q n f = ap (λ (ks : List ℕ). get_or ks 0 n) (keep_same p q (upto n) f)

-- the lowest number that does not pass, where the loop answered b for i
module _ (p : ℕ → Bool) (i : ℕ) {b : Bool} (says : b ≡ p i) (none : keep (λ k. not (p k)) (upto i) ≡ []) where
  -- i does not pass
  pub wrong_found : not b ≡ true → (n : ℕ) → i < n → Some i ≡ first (λ k. not (p k)) n
  wrong_found e n h = first_found (λ k. not (p k)) i n none (rw (← says) e) h

  -- i passes
  pub wrong_more : not b ≡ false → keep (λ k. not (p k)) (upto (i + 1)) ≡ []
  wrong_more e = none_more (λ k. not (p k)) i none (rw (← says) e)

-- ---- a list all of whose elements pass

module _ {A : Type 0} (p : A → Bool) where
  pub all_append : (xs ys : List A) → all p (xs ++ ys) ≡ (all p xs && all p ys)
  all_append [] ys = refl
  all_append (x ∷ xs) ys = rw (all_append xs ys) (sym (and_assoc (p x) (all p xs) (all p ys)))

  -- where every element passes, all pass
  pub all_of : {xs : List A} → Every (λ x. p x ≡ true) xs → all p xs ≡ true
  all_of done = refl
  all_of (more h t) = rw (h, all_of t)

  module _ (f : ℕ → A) where
    -- one element more that passes
    pub all_more : (i : ℕ) → all p (map f (upto i)) ≡ true → p (f i) ≡ true → all p (map f (upto (i + 1))) ≡ true
    all_more i e h = rw (add-one i, map_append f (upto i) (i ∷ []), all_append (map f (upto i)) (f i ∷ []), e, h)

    -- an element that does not
    pub all_fails : (i n : ℕ) → p (f i) ≡ false → i < n → false ≡ all p (map f (upto n))
    all_fails i zero h l = absurd (omega arith)
    all_fails i (suc n) h l = sym (rw (map_append f (upto n) (n ∷ []), all_append (map f (upto n)) (f n ∷ [])) (go (ltb i n) refl (all_fails i n h)))
      where
        here : (m : ℕ) → i ≡ m → (all p (map f (upto m)) && (p (f m) && true)) ≡ false
        here m q = rw (sym q, h) (and-false (all p (map f (upto i))))

        go : (b : Bool) → ltb i n ≡ b → (i < n → false ≡ all p (map f (upto n))) → (all p (map f (upto n)) && (p (f n) && true)) ≡ false
        go true t before = rw (sym (before (ltb-true i n t)))
        go false t before = here n (omega (arith, ltb-false i n t))

-- what is worked out of each element passes as the element does
pub all_map : {A B : Type 0} (f : A → B) (p : B → Bool) (q : A → Bool) {xs : List A} → Every (λ x. p (f x) ≡ q x) xs → all p (map f xs) ≡ all q xs
all_map f p q done = refl
all_map f p q (more h t) = rw (h, all_map f p q t)

-- ---- what is kept of a list

module _ {A : Type 0} (p : A → Bool) where
  -- no more than there is
  pub keep_few : (xs : List A) → length (keep p xs) ≤ length xs
  keep_few [] = omega arith
  keep_few (x ∷ xs) = go (p x) (keep_few xs)
    where
      go : (b : Bool) → length (keep p xs) ≤ length xs → length (cond b (x ∷ keep p xs) (keep p xs)) ≤ suc (length xs)
      go true h = omega arith
      go false h = omega arith

  -- elements that pass in front, others behind
  pub keep_first : {xs ys : List A} → Every (λ x. p x ≡ true) xs → Every (λ x. p x ≡ false) ys → keep p (xs ++ ys) ≡ xs
  keep_first {xs} {ys} s t = rw (keep_append p xs ys, keep_all p s, keep_none p t) (append-nil xs)

  -- elements that pass behind, others in front
  pub keep_second : {xs ys : List A} → Every (λ x. p x ≡ false) xs → Every (λ x. p x ≡ true) ys → keep p (xs ++ ys) ≡ ys
  keep_second {xs} {ys} s t = rw (keep_append p xs ys, keep_none p s, keep_all p t)

-- ---- lists of no element and of one

-- an empty list has no element
pub empty_nil : {A : Type 0} (xs : List A) → is_empty xs ≡ true → xs ≡ []
empty_nil [] e = refl
empty_nil (x ∷ xs) e = absurd (true≢false (sym e))

-- a property of the lists of one element
pub by_one : {A : Type 0} (P : List A → Type 0) → ((x : A) → P (x ∷ [])) → (xs : List A) → length xs ≡ 1 → P xs
by_one P f [] e = absurd (omega arith)
by_one P f (x ∷ []) e = f x
by_one P f (x ∷ y ∷ xs) e = absurd (omega arith)

-- a list is empty where its length is 0
pub empty_length : {A : Type 0} (xs : List A) → is_empty xs ≡ eqb (length xs) 0
empty_length [] = refl
empty_length (x ∷ xs) = sym (ne_eqb (suc (length xs)) 0 (λ q. omega arith))

-- ---- a table

-- one entry more
pub table_more : (table : List ℕ) (n : ℕ) (meant : ℕ → ℕ) {i v : ℕ} → ((m : ℕ) → m < n → get_or table m 0 ≡ meant m) → n < length table → i ≡ n → v ≡ meant n
    → (m : ℕ) → m < n + 1 → get_or (set table i v) m 0 ≡ meant m
table_more table n meant {i} {v} before l q e m h = rw q (go (ltb m n) refl)
  where
    go : (b : Bool) → ltb m n ≡ b → get_or (set table n v) m 0 ≡ meant m
    go true t = let less : m < n = ltb-true m n t in get_or-set_other table n m v 0 (omega arith) ∙ before m less
    go false t = let same : m ≡ n = omega (arith, ltb-false m n t) in rw same (get_or-set_same table n v 0 l ∙ e)

-- past it nothing has changed
pub zeros_more : (table : List ℕ) (n v : ℕ) {i : ℕ} → ((m : ℕ) → n ≤ m → get_or table m 0 ≡ 0) → i ≡ n → (m : ℕ) → n + 1 ≤ m → get_or (set table i v) m 0 ≡ 0
zeros_more table n v {i} rest q m h = rw q (get_or-set_other table n m v 0 (omega arith) ∙ rest m (omega arith))

-- a table that starts with zeros
pub zeros_at : (n i : ℕ) → ◌≡◌ {A = ℕ} (get_or (replicate n 0) i 0) 0
zeros_at zero i = refl
zeros_at (suc n) zero = refl
zeros_at (suc n) (suc i) = zeros_at n i
