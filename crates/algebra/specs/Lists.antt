-- The few list operations that the definitions are written with.
use Rattle.std.specs.Prelude.{Bool, true, false, cond, ◌&&◌, List, [], ◌∷◌, ◌++◌, ℕ, zero, suc, get_or}

-- the elements that pass a test, in order
abbrev pub keep {ℓ} : {A : Type ℓ} → (A → Bool) → List A → List A
keep p [] = []
keep p (x ∷ xs) = cond (p x) (x ∷ keep p xs) (keep p xs)

-- some element passes
abbrev pub any {ℓ} : {A : Type ℓ} → (A → Bool) → List A → Bool
any p [] = false
any p (x ∷ xs) = cond (p x) true (any p xs)

-- every element passes
abbrev pub all {ℓ} : {A : Type ℓ} → (A → Bool) → List A → Bool
all p [] = true
all p (x ∷ xs) = p x && all p xs

-- what a function gives for each element, one list behind the other
abbrev pub each {ℓ κ} : {A : Type ℓ} {B : Type κ} → (A → List B) → List A → List B
each f [] = []
each f (x ∷ xs) = f x ++ each f xs

abbrev pub is_empty {ℓ} : {A : Type ℓ} → List A → Bool
is_empty [] = true
is_empty (x ∷ xs) = false

-- 0, 1, .. below a number
abbrev pub upto : ℕ → List ℕ
upto zero = []
upto (suc k) = upto k ++ (k ∷ [])

-- every element has a property
pub data Every {A : Type 0} (P : A → Type 0) : List A → Type 0 where
  done : Every P []
  more : {x : A} {xs : List A} → P x → Every P xs → Every P (x ∷ xs)

-- a list worked out node by node: the entry of a node from those of the nodes before it, z where there is none
module _ {X N : Type 0} (z : X) (f : (ℕ → X) → N → X) where
  abbrev pub list_from : List X → List N → List X
  list_from xs [] = xs
  list_from xs (n ∷ ns) = list_from (xs ++ (f (λ i. get_or xs i z) n ∷ [])) ns

  abbrev pub entry : List N → ℕ → X
  entry ns i = get_or (list_from [] ns) i z
