-- What stands in a list of numbers, and beside it.
use mathlib.Core.Path.{◌≡◌, refl, subst, sym}
use mathlib.Core.Bool.{Bool, cond, false, true}
use mathlib.Core.List.{List, [], ◌++◌, ◌∷◌}
use Prim.Native.Nat.{◌+◌, ◌<◌, ◌≤◌, suc, zero, ℕ}
use native.Mathlib.Omega.{arith}
use lib.Dec.{eqb, ltb}
use lib.ListN.{get_or, length, length-append}
use borrow.Author.Tests.{eq-eqb, eqb-true, ltb-false, ltb-true, ne_eqb}
use Rattle.algebra.specs.Lists.{Every, done, each, keep, more}
use Rattle.algebra.proofs.Lists.Every.{every_map}
use Rattle.algebra.proofs.Lists.Keep.{keep_append, keep_none}
use Rattle.algebra.proofs.Lists.Entries.{Beside, beside, ended}
use Rattle.algebra.proofs.Lists.Sums.{occurs}

-- a number stands in a list
abbrev pub Has : ℕ → List ℕ → Type 0
Has i xs = 0 < occurs i xs

pub occurs_append : (i : ℕ) (xs ys : List ℕ) → occurs i (xs ++ ys) ≡ occurs i xs + occurs i ys
occurs_append i xs ys = rw (keep_append, length-append)

-- one more number in front hides none
cond_longer : (b : Bool) (x : ℕ) (xs : List ℕ) → length xs ≤ length (cond b (x ∷ xs) xs)
cond_longer true x xs = omega arith
cond_longer false x xs = omega arith

has_more : (i x : ℕ) (xs : List ℕ) → Has i xs → Has i (x ∷ xs)
has_more i x xs h = omega (arith, cond_longer (eqb i x) x (keep (eqb i) xs))

pub has_first : (i : ℕ) (xs : List ℕ) → Has i (i ∷ xs)
has_first i xs = rw (eq-eqb i i refl) (omega arith)

-- what stands in a list of one is that one
pub has_only : (i j : ℕ) → Has i (j ∷ []) → i ≡ j
has_only i j h = go (eqb i j) refl h
  where
    go : (b : Bool) → eqb i j ≡ b → 0 < length (cond b (j ∷ []) []) → i ≡ j
    go true e h = eqb-true i j e
    go false e h = absurd (omega arith)

-- the numbers of a list stand in it
pub has_all : (xs : List ℕ) → Every (λ i. Has i xs) xs
has_all [] = done
has_all (x ∷ xs) = more {x = x} (has_first x xs) (every_map (λ i (h : Has i xs). has_more i x xs h) (has_all xs))

-- what holds of every number of a list holds of one that stands in it
pub every_has : {P : ℕ → Type 0} (i : ℕ) {xs : List ℕ} → Every P xs → Has i xs → P i
every_has i done h = absurd (omega arith)
every_has {P} i (more {x} {xs} p t) h = go (eqb i x) refl h (every_has i t)
  where
    go : (b : Bool) → eqb i x ≡ b → 0 < length (cond b (x ∷ keep (eqb i) xs) (keep (eqb i) xs)) → (Has i xs → P i) → P i
    go true e h f = subst P (sym (eqb-true i x e)) p
    go false e h f = f h

-- a number beyond all of a list does not stand in it
pub beyond_all : (i : ℕ) {xs : List ℕ} → Every (λ j. j < i) xs → occurs i xs ≡ 0
beyond_all i t = rw (keep_none (eqb i) (every_map (λ j (h : j < i). ne_eqb i j (λ e. omega arith)) t))

-- what is given for a number of a list stands in what is given for all
pub has_each : (f : ℕ → List ℕ) (i j : ℕ) (xs : List ℕ) → Has i xs → Has j (f i) → Has j (each f xs)
has_each f i j xs h g = every_has {P = λ k. Has j (f k) → Has j (each f xs)} i (go xs) h g
  where
    go : (ys : List ℕ) → Every (λ k. Has j (f k) → Has j (each f ys)) ys
    go [] = done
    go (y ∷ ys) =
        more {x = y} (λ h. rw occurs_append (omega arith))
        (every_map (λ k (r : Has j (f k) → Has j (each f ys)) (h : Has j (f k)). rw occurs_append (omega (arith, r h))) (go ys))

-- what holds of the last number below k, and of the others, holds of all below k
pub but_last : (P : ℕ → Type 0) (m k : ℕ) → suc m ≡ k → P m → (j : ℕ) → j < k → (suc j < k → P j) → P j
but_last P m k e p j h f = go (ltb (suc j) k) refl
  where
    go : (b : Bool) → ltb (suc j) k ≡ b → P j
    go true t = f (ltb-true (suc j) k t)
    go false t = let q : k ≤ suc j = ltb-false (suc j) k t in let r : m ≡ j = omega arith in subst P r p

-- two elements that stand side by side
pub beside_inside : {X Y : Type 0} {Q : X → Y → Type 0} (a : X) (b : Y) {xs : List X} {ys : List Y} → Beside Q xs ys → (i : ℕ) → i < length ys → Q (get_or xs i a) (get_or ys i b)
beside_inside a b ended i h = absurd (omega arith)
beside_inside a b (beside q t) zero h = q
beside_inside a b (beside q t) (suc i) h = beside_inside a b t i (omega arith)
