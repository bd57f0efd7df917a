-- Laws of keep, each and map.
use mathlib.Core.Path.{◌∙◌, ◌≡◌, refl, sym}
use mathlib.Core.Bool.{Bool, ◌&&◌, and_comm, cond, false, true}
use mathlib.Core.List.{List, [], ◌++◌, ◌∷◌, append_assoc, map}
use Rattle.algebra.specs.Lists.{Every, done, each, keep, more}
use Rattle.algebra.proofs.Lists.Every.{every_of}

module _ {A : Type 0} where
  pub cond_append : (b : Bool) (xs ys zs : List A) → cond b xs ys ++ zs ≡ cond b (xs ++ zs) (ys ++ zs)
  cond_append true xs ys zs = refl
  cond_append false xs ys zs = refl

  pub keep_append : (p : A → Bool) (xs ys : List A) → keep p (xs ++ ys) ≡ keep p xs ++ keep p ys
  keep_append p [] ys = refl
  keep_append p (x ∷ xs) ys = rw (keep_append p xs ys, cond_append)

  -- keep sees only what its test says of the elements
  pub keep_cong : (p q : A → Bool) {xs : List A} → Every (λ x. p x ≡ q x) xs → keep p xs ≡ keep q xs
  keep_cong p q done = refl
  keep_cong p q (more h t) = rw (h, keep_cong p q t)

  pub keep_same : (p q : A → Bool) (xs : List A) → ((x : A) → p x ≡ q x) → keep p xs ≡ keep q xs
  keep_same p q xs f = keep_cong p q (every_of f xs)

  pub keep_all : (p : A → Bool) {xs : List A} → Every (λ x. p x ≡ true) xs → keep p xs ≡ xs
  keep_all p done = refl
  keep_all p (more h t) = rw (h, keep_all p t)

  pub keep_none : (p : A → Bool) {xs : List A} → Every (λ x. p x ≡ false) xs → keep p xs ≡ []
  keep_none p done = refl
  keep_none p (more h t) = rw (h, keep_none p t)

  -- two tests one after the other are their conjunction
  keep_keep_if : (p : A → Bool) (x : A) (ys zs : List A) (b : Bool) → keep p ys ≡ zs
      → keep p (cond b (x ∷ ys) ys) ≡ cond ((b && (p x))) (x ∷ zs) zs
  keep_keep_if p x ys zs true e = rw e
  keep_keep_if p x ys zs false e = e

  pub keep_keep : (p q : A → Bool) (xs : List A) → keep p (keep q xs) ≡ keep (λ x. ((q x) && (p x))) xs
  keep_keep p q [] = refl
  keep_keep p q (x ∷ xs) = keep_keep_if p x (keep q xs) (keep (λ y. ((q y) && (p y))) xs) (q x) (keep_keep p q xs)

  pub keep_swap : (p q : A → Bool) (xs : List A) → keep p (keep q xs) ≡ keep q (keep p xs)
  keep_swap p q xs = keep_keep p q xs ∙ keep_same (λ x. ((q x) && (p x))) (λ x. ((p x) && (q x))) xs (λ x. and_comm (q x) (p x)) ∙ sym (keep_keep q p xs)

module _ {A B : Type 0} where
  pub map_cond : (f : A → B) (b : Bool) (xs ys : List A) → map f (cond b xs ys) ≡ cond b (map f xs) (map f ys)
  map_cond f true xs ys = refl
  map_cond f false xs ys = refl

  pub map_append : (f : A → B) (xs ys : List A) → map f (xs ++ ys) ≡ map f xs ++ map f ys
  map_append f [] ys = refl
  map_append f (x ∷ xs) ys = rw (map_append f xs ys)

  pub keep_map : (p : B → Bool) (f : A → B) (xs : List A) → keep p (map f xs) ≡ map f (keep (λ x. p (f x)) xs)
  keep_map p f [] = refl
  keep_map p f (x ∷ xs) = rw (keep_map p f xs, map_cond)

  pub map_cong : (f g : A → B) {xs : List A} → Every (λ x. f x ≡ g x) xs → map f xs ≡ map g xs
  map_cong f g done = refl
  map_cong f g (more h t) = rw (h, map_cong f g t)

  pub each_cong : (f g : A → List B) {xs : List A} → Every (λ x. f x ≡ g x) xs → each f xs ≡ each g xs
  each_cong f g done = refl
  each_cong f g (more h t) = rw (h, each_cong f g t)

  pub each_append : (f : A → List B) (xs ys : List A) → each f (xs ++ ys) ≡ each f xs ++ each f ys
  each_append f [] ys = refl
  each_append f (x ∷ xs) ys = rw (each_append f xs ys, append_assoc)

  -- map (keep && are) each
  pub map_each : (f : A → B) (xs : List A) → map f xs ≡ each (λ x. f x ∷ []) xs
  map_each f [] = refl
  map_each f (x ∷ xs) = rw (map_each f xs)

module _ {A : Type 0} where
  pub keep_each : (p : A → Bool) (xs : List A) → keep p xs ≡ each (λ x. cond (p x) (x ∷ []) []) xs
  keep_each p [] = refl
  keep_each p (x ∷ xs) = rw (keep_each p xs, cond_append)

  pub map_id : (f : A → A) {xs : List A} → Every (λ x. f x ≡ x) xs → map f xs ≡ xs
  map_id f done = refl
  map_id f (more h t) = rw (h, map_id f t)

module _ {A B C : Type 0} where
  pub map_map : (f : B → C) (g : A → B) (xs : List A) → map f (map g xs) ≡ map (λ x. f (g x)) xs
  map_map f g [] = refl
  map_map f g (x ∷ xs) = rw (map_map f g xs)

  pub map_of_each : (f : B → C) (g : A → List B) (xs : List A) → map f (each g xs) ≡ each (λ x. map f (g x)) xs
  map_of_each f g [] = refl
  map_of_each f g (x ∷ xs) = rw (map_append, map_of_each f g xs)
