-- A property of every element of a list.
use mathlib.Core.Path.{◌≡◌, refl, sym}
use mathlib.Core.Bool.{Bool, cond, false, false≢true, true, true≢false}
use mathlib.Core.List.{List, [], ◌++◌, ◌∷◌, head-eq_of_cons-eq, map, tail-eq_of_cons-eq}
use Prim.Native.Nat.{◌<◌, suc, zero, ℕ}
use native.Mathlib.Omega.{arith}
use lib.ListN.{get_or, length}
use Rattle.algebra.specs.Lists.{Every, any, done, each, is_empty, keep, more}

any_if : (b c : Bool) → c ≡ true → cond b true c ≡ true
any_if true c e = refl
any_if false c e = e

module _ {A : Type 0} where
  pub every_head : {P : A → Type 0} {x : A} {xs : List A} → Every P (x ∷ xs) → P x
  every_head (more h t) = h

  pub every_tail : {P : A → Type 0} {x : A} {xs : List A} → Every P (x ∷ xs) → Every P xs
  every_tail (more h t) = t

  pub every_map : {P Q : A → Type 0} {xs : List A} → ((x : A) → P x → Q x) → Every P xs → Every Q xs
  every_map f done = done
  every_map f (more {x} h t) = more (f x h) (every_map f t)

  pub every_of : {P : A → Type 0} → ((x : A) → P x) → (xs : List A) → Every P xs
  every_of f [] = done
  every_of f (x ∷ xs) = more (f x) (every_of f xs)

  pub every_both : {P Q : A → Type 0} {xs : List A} → Every P xs → Every Q xs → Every (λ x. P x × Q x) xs
  every_both done t = done
  every_both (more h s) t = more (h, every_head t) (every_both s (every_tail t))

  pub every_append : {P : A → Type 0} {xs ys : List A} → Every P xs → Every P ys → Every P (xs ++ ys)
  every_append done t = t
  every_append (more h s) t = more h (every_append s t)

  pub every_front : {P : A → Type 0} (xs ys : List A) → Every P (xs ++ ys) → Every P xs
  every_front [] ys t = done
  every_front (x ∷ xs) ys t = more (every_head t) (every_front xs ys (every_tail t))

  pub every_back : {P : A → Type 0} (xs ys : List A) → Every P (xs ++ ys) → Every P ys
  every_back [] ys t = t
  every_back (x ∷ xs) ys t = every_back xs ys (every_tail t)

  pub every_cond : {P : A → Type 0} (b : Bool) {xs ys : List A} → Every P xs → Every P ys → Every P (cond b xs ys)
  every_cond true s t = s
  every_cond false s t = t

  pub every_keep : {P : A → Type 0} (p : A → Bool) {xs : List A} → Every P xs → Every P (keep p xs)
  every_keep p done = done
  every_keep p (more {x} h t) = let r = every_keep p t in every_cond (p x) (more h r) r

  -- what a keep kept passes its test
  every_kept_if : (p : A → Bool) (x : A) (xs : List A) (b : Bool) → p x ≡ b → Every (λ y. p y ≡ true) xs → Every (λ y. p y ≡ true) (cond b (x ∷ xs) xs)
  every_kept_if p x xs true e t = more e t
  every_kept_if p x xs false e t = t

  pub every_kept : (p : A → Bool) (xs : List A) → Every (λ x. p x ≡ true) (keep p xs)
  every_kept p [] = done
  every_kept p (x ∷ xs) = every_kept_if p x (keep p xs) (p x) refl (every_kept p xs)

module _ {A B : Type 0} where
  pub every_mapped : {P : B → Type 0} (f : A → B) {xs : List A} → Every (λ x. P (f x)) xs → Every P (map f xs)
  every_mapped f done = done
  every_mapped f (more h t) = more h (every_mapped f t)

  pub every_each : {P : B → Type 0} (f : A → List B) {xs : List A} → Every (λ x. Every P (f x)) xs → Every P (each f xs)
  every_each f done = done
  every_each f (more h t) = every_append h (every_each f t)

  pub every_unmapped : {P : B → Type 0} (f : A → B) (xs : List A) → Every P (map f xs) → Every (λ x. P (f x)) xs
  every_unmapped f [] t = done
  every_unmapped f (x ∷ xs) t = more (every_head t) (every_unmapped f xs (every_tail t))

  pub every_uneach : {P : B → Type 0} (f : A → List B) (xs : List A) → Every P (each f xs) → Every (λ x. Every P (f x)) xs
  every_uneach f [] t = done
  every_uneach f (x ∷ xs) t = more (every_front (f x) (each f xs) t) (every_uneach f xs (every_back (f x) (each f xs) t))

  -- two functions that give the same list agree on its elements
  pub map_agree : (f g : A → B) (xs : List A) → map f xs ≡ map g xs → Every (λ x. f x ≡ g x) xs
  map_agree f g [] e = done
  map_agree f g (x ∷ xs) e = more {x = x} (head-eq_of_cons-eq e) (map_agree f g xs (tail-eq_of_cons-eq e))

module _ {A : Type 0} where
  every_unkeep_if : {P : A → Type 0} (x : A) (xs : List A) (b : Bool) → Every P (cond b (x ∷ xs) xs) → (b ≡ true → P x) × Every P xs
  every_unkeep_if x xs true t = (λ e. every_head t, every_tail t)
  every_unkeep_if x xs false t = (λ e. absurd (false≢true e), t)

  pub every_unkeep : {P : A → Type 0} (p : A → Bool) (xs : List A) → Every P (keep p xs) → Every (λ x. p x ≡ true → P x) xs
  every_unkeep p [] t = done
  every_unkeep p (x ∷ xs) t = let h = every_unkeep_if x (keep p xs) (p x) t in more h.0 (every_unkeep p xs h.1)

  any_none_if : (p : A → Bool) (x : A) (xs : List A) (b : Bool) → p x ≡ b → cond b true (any p xs) ≡ false → (p x ≡ false) × (any p xs ≡ false)
  any_none_if p x xs true h e = absurd (true≢false e)
  any_none_if p x xs false h e = (h, e)

  -- no element passes
  pub any_none : (p : A → Bool) (xs : List A) → any p xs ≡ false → Every (λ x. p x ≡ false) xs
  any_none p [] e = done
  any_none p (x ∷ xs) e = let h = any_none_if p x xs (p x) refl e in more h.0 (any_none p xs h.1)

  -- where one passes, the list is not empty
  pub any_some : (p : A → Bool) (xs : List A) → any p xs ≡ true → is_empty xs ≡ false
  any_some p [] e = sym e
  any_some p (x ∷ xs) e = refl

  -- an element is found by a test that it passes
  pub any_self : (p : A → A → Bool) → ((x : A) → p x x ≡ true) → (xs : List A) → Every (λ x. any (p x) xs ≡ true) xs
  any_self p h [] = done
  any_self p h (x ∷ xs) = more {x = x} (rw (h x)) (every_map (λ y (e : any (p y) xs ≡ true). any_if (p y x) (any (p y) xs) e) (any_self p h xs))

-- the element at a place, or what stands for one past the end
pub every_at : {A : Type 0} {P : A → Type 0} (z : A) {xs : List A} → P z → Every P xs → (i : ℕ) → P (get_or xs i z)
every_at z h done i = h
every_at z h (more g t) zero = g
every_at z h (more g t) (suc i) = every_at z h t i

-- the element at a place that is there
pub every_in : {A : Type 0} {P : A → Type 0} (z : A) {xs : List A} → Every P xs → (i : ℕ) → i < length xs → P (get_or xs i z)
every_in z done i h = absurd (omega arith)
every_in z (more g t) zero h = g
every_in z (more g t) (suc i) h = every_in z t i (omega arith)
