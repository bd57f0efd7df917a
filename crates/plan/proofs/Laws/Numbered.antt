-- Lists worked out at 0, 1, ..: by their elements, and one behind the other.
use mathlib.Core.Path.{◌≡◌, refl, sym, ap, subst, ◌∙◌}
use mathlib.Core.Bool.{Bool, true}
use mathlib.Core.List.{List, [], ◌∷◌, ◌++◌, map, append_assoc, append-nil}
use Prim.Native.Nat.{ℕ, zero, suc, ◌+◌, ◌-◌, ◌*◌, ◌<◌, ◌≤◌, suc-le-suc}
use native.Mathlib.Nat.{add-zero, add-suc, zero-lt-suc}
use native.Mathlib.Omega.{arith}
use lib.ListN.{length, get_or, take, length-append, length-map, get_or-append}
use lib.Seq.{get_or-append-add, take_at}
use Rattle.algebra.specs.Lists.{all, upto, each, Every, done, more}
use Rattle.algebra.proofs.Lists.Keep.{map_append, map_map, each_append}
use Rattle.algebra.proofs.Lists.Same.{and_left, and_right}
use Rattle.algebra.proofs.Columns.Picked.{length_upto}
use Rattle.algebra.proofs.Domains.Keys.{upto_all}

-- 0 comes first
pub upto_first : (n : ℕ) → upto (suc n) ≡ 0 ∷ map suc (upto n)
upto_first zero = refl
upto_first (suc n) = ap (λ (l : List ℕ). l ++ (suc n ∷ [])) (upto_first n) ∙ ap (λ (l : List ℕ). 0 ∷ l) (sym (map_append suc (upto n) (n ∷ [])))

-- a numbers, then c more
pub upto_add : (a c : ℕ) → upto (a + c) ≡ upto a ++ map (λ i. a + i) (upto c)
upto_add a zero = rw (add-zero a) (sym (append-nil (upto a)))
upto_add a (suc c) =
    rw (add-suc a c, upto_add a c, map_append (λ i. a + i) (upto c) (c ∷ [])) (append_assoc (upto a) (map (λ i. a + i) (upto c)) ((a + c) ∷ []))

module _ {A : Type 0} where
  -- a list is what a function gives at 0, 1, .. that gives its elements
  pub numbered : (f : ℕ → A) (xs : List A) (d : A) → ((i : ℕ) → i < length xs → f i ≡ get_or xs i d) → map f (upto (length xs)) ≡ xs
  numbered f [] d h = refl
  numbered f (x ∷ xs) d h =
      ap (map f) (upto_first (length xs))
      ∙ ap (λ (y : A). y ∷ map f (map suc (upto (length xs)))) (h 0 (zero-lt-suc (length xs)))
      ∙ ap (λ (l : List A). x ∷ l) (map_map f suc (upto (length xs)) ∙ numbered (λ i. f (suc i)) xs d (λ i l. h (suc i) (suc-le-suc l)))

  -- its element at i
  pub numbered_at : (f : ℕ → A) (n i : ℕ) (d : A) → i < n → get_or (map f (upto n)) i d ≡ f i
  numbered_at f zero i d h = absurd (omega arith)
  numbered_at f (suc n) zero d h = ap (λ (l : List ℕ). get_or (map f l) 0 d) (upto_first n)
  numbered_at f (suc n) (suc i) d h =
      ap (λ (l : List ℕ). get_or (map f l) (suc i) d) (upto_first n)
      ∙ ap (λ (l : List A). get_or l i d) (map_map f suc (upto n))
      ∙ numbered_at (λ j. f (suc j)) n i d (omega arith)

  pub numbered_length : (f : ℕ → A) (n : ℕ) → length (map f (upto n)) ≡ n
  numbered_length f n = length-map (upto n) f ∙ length_upto n

  -- c elements from element a on
  pub numbered_add : (f : ℕ → A) (a c : ℕ) → map f (upto (a + c)) ≡ map f (upto a) ++ map (λ i. f (a + i)) (upto c)
  numbered_add f a c =
      ap (map f) (upto_add a c)
      ∙ map_append f (upto a) (map (λ i. a + i) (upto c))
      ∙ ap (λ (l : List A). map f (upto a) ++ l) (map_map f (λ i. a + i) (upto c))

  -- the first elements
  pub numbered_take : (f : ℕ → A) (n i : ℕ) → i ≤ n → take i (map f (upto n)) ≡ map f (upto i)
  numbered_take f n i h =
      let p : n ≡ i + (n - i) = omega arith in
      ap (λ (k : ℕ). take i (map f (upto k))) p
      ∙ ap (take i) (numbered_add f i (n - i))
      ∙ take_at (map f (upto i)) (map (λ j. f (i + j)) (upto (n - i))) i (numbered_length f i)

-- one list more behind the others
pub each_more : {A B : Type 0} (g : A → List B) (f : ℕ → A) (n : ℕ) → each g (map f (upto (suc n))) ≡ each g (map f (upto n)) ++ g (f n)
each_more g f n = rw (map_append f (upto n) (n ∷ []), each_append g (map f (upto n)) (f n ∷ []), append-nil (g (f n)))

-- a property of n numbers from a on
pub in_range_lem : (P : ℕ → Type 0) (a n : ℕ) → Every (λ i. P (a + i)) (upto n) → (x : ℕ) → a ≤ x → x < a + n → P x
in_range_lem P a n t x g h =
    let p : a + (x - a) ≡ x = omega arith in
    subst P p (upto_all n t (x - a) (omega arith))

-- where all elements pass, every element passes
pub every_all : {A : Type 0} (p : A → Bool) (xs : List A) → all p xs ≡ true → Every (λ x. p x ≡ true) xs
every_all p [] e = done
every_all p (x ∷ xs) e = more (and_left (p x) (all p xs) e) (every_all p xs (and_right (p x) (all p xs) e))

-- element k of list j, where each list has m elements and all stand one behind the other
pub each_at : (m : ℕ) {xs : List (List ℕ)} → Every (λ x. length x ≡ m) xs → (j k : ℕ) → k < m → get_or (each (λ x. x) xs) (m * j + k) 0 ≡ get_or (get_or xs j []) k 0
each_at m done j k h = refl
each_at m (more {x = x} {xs = xs} e t) zero k h =
    let p : m * zero + k ≡ k = omega arith in
    rw p (get_or-append x (each (λ y. y) xs) 0 k (rw e h))
each_at m (more {x = x} {xs = xs} e t) (suc j) k h =
    let p : m * suc j + k ≡ length x + (m * j + k) = rw e (omega arith) in
    rw p (get_or-append-add x (each (λ y. y) xs) (m * j + k) 0) ∙ each_at m t j k h

-- the length of such lists one behind the other
pub each_length : (m : ℕ) {xs : List (List ℕ)} → Every (λ x. length x ≡ m) xs → length (each (λ x. x) xs) ≡ m * length xs
each_length m done = omega arith
each_length m (more {x = x} {xs = xs} e t) = rw (length-append x (each (λ y. y) xs), e, each_length m t) (omega arith)
