-- One place of a list: read, stored, and what is behind it.
use mathlib.Core.Path.{◌≡◌, refl, ap, ◌∙◌}
use mathlib.Core.Bool.{Bool, true, false}
use mathlib.Core.List.{List, [], ◌∷◌, ◌++◌}
use Prim.Native.Nat.{ℕ, suc, ◌+◌, ◌<◌, ◌≤◌}
use native.Mathlib.Omega.{arith}
use native.Mathlib.Numerals.{add-one}
use borrow.Author.Tests.{ltb-true, ltb-false}
use lib.Dec.{ltb}
use lib.ListN.{length, get_or, set, drop, get_or-eq_default}
use lib.Seq.{sets, set_comm, drop-cons}

-- a place that holds something is there
pub inside : (l : List ℕ) (i b : ℕ) → b ≡ get_or l i 0 → 1 ≤ b → i < length l
inside l i b e h = go (ltb i (length l)) refl
  where
    go : (t : Bool) → ltb i (length l) ≡ t → i < length l
    go true q = ltb-true i (length l) q
    go false q =
        let z : b ≡ 0 = e ∙ get_or-eq_default l 0 (ltb-false i (length l) q) in
        omega (arith, z)

-- what is behind a place that holds b begins with it
pub behind_place : (l : List ℕ) (i b : ℕ) → b ≡ get_or l i 0 → i < length l → drop i l ≡ b ∷ drop (i + 1) l
behind_place l i b e h = rw (e, add-one i) (drop-cons l i 0 h)

-- stores one behind the other
pub sets_append : (l : List ℕ) (i : ℕ) (xs ys : List ℕ) → sets l i (xs ++ ys) ≡ sets (sets l i xs) (i + length xs) ys
sets_append l i [] ys = ap (λ (k : ℕ). sets l k ys) (omega arith)
sets_append l i (x ∷ xs) ys = sets_append (set l i x) (suc i) xs ys ∙ ap (λ (k : ℕ). sets (sets (set l i x) (suc i) xs) k ys) (omega arith)

-- a store in front of others, made after them
pub store_in_front : (l : List ℕ) (i p x : ℕ) (xs : List ℕ) → p < i → set (sets l i xs) p x ≡ sets (set l p x) i xs
store_in_front l i p x [] h = refl
store_in_front l i p x (y ∷ ys) h =
    store_in_front (set l i y) (suc i) p x ys (omega arith) ∙ ap (λ (m : List ℕ). sets m (suc i) ys) (set_comm l i p y x (λ e. omega (arith, e)))
