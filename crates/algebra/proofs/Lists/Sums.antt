-- Sums of lists of numbers.
use mathlib.Core.Path.{◌≡◌, refl, subst, sym}
use mathlib.Core.List.{List, [], ◌++◌, ◌∷◌, map}
use Prim.Native.Nat.{◌*◌, ◌+◌, ◌≤◌, suc, zero, ℕ}
use native.Mathlib.Nat.{add-suc, add-zero, suc-add, zero-add}
use native.Mathlib.Omega.{arith}
use lib.Dec.{eqb}
use lib.ListN.{get_or, length, length-append}
use borrow.Author.Tests.{eq-eqb}
use Rattle.algebra.specs.Lists.{keep}
use Rattle.algebra.proofs.Lists.Keep.{keep_append}

abbrev pub total : List ℕ → ℕ
total [] = 0
total (x ∷ xs) = x + total xs

-- one more number behind
pub total_snoc : (xs : List ℕ) (x : ℕ) → total (xs ++ (x ∷ [])) ≡ total xs + x
total_snoc [] x = omega arith
total_snoc (y ∷ xs) x = rw (total_snoc xs x) (omega arith)

-- how often a number stands in a list
abbrev pub occurs : ℕ → List ℕ → ℕ
occurs i js = length (keep (eqb i) js)

-- the sum of a list whose first place is i, each entry as often as its place stands in js
abbrev pub taken : List ℕ → ℕ → List ℕ → ℕ
taken js i [] = 0
taken js i (x ∷ xs) = occurs i js * x + taken js (suc i) xs

-- two lists of places one behind the other take what each of them takes
pub taken_append : (js ks : List ℕ) (i : ℕ) (xs : List ℕ) → taken (js ++ ks) i xs ≡ taken js i xs + taken ks i xs
taken_append js ks i [] = omega arith
taken_append js ks i (x ∷ xs) = rw (keep_append (eqb i) js ks, length-append, taken_append js ks (suc i) xs) (omega arith)

-- of a longer list no less is taken
pub taken_snoc : (js : List ℕ) (i : ℕ) (xs : List ℕ) (x : ℕ) → taken js i xs ≤ taken js i (xs ++ (x ∷ []))
taken_snoc js i [] x = omega arith
taken_snoc js i (y ∷ xs) x = omega (arith, taken_snoc js (suc i) xs x)

-- one place takes the entry that stands there
taken_one : (i j : ℕ) (xs : List ℕ) → get_or xs j 0 ≤ taken ((i + j) ∷ []) i xs
taken_one i j [] = omega arith
taken_one i zero (x ∷ xs) = rw (add-zero, eq-eqb i i refl) (omega arith)
taken_one i (suc j) (x ∷ xs) =
    let e : suc i + j ≡ i + suc j = omega arith in
    subst (λ (k : ℕ). get_or (x ∷ xs) (suc j) 0 ≤ taken (k ∷ []) i (x ∷ xs)) e (omega (arith, taken_one (suc i) j xs))

-- the entries at some places are taken by those places
pub taken_all : (js xs : List ℕ) → total (map (λ j. get_or xs j 0) js) ≤ taken js 0 xs
taken_all [] xs = omega arith
taken_all (j ∷ js) xs = rw (taken_append (j ∷ []) js 0 xs) (omega (arith, rw zero-add at (taken_one 0 j xs), taken_all js xs))

-- where no entry but 0 is taken twice, no more than the sum is taken
pub taken_once : (js : List ℕ) (i : ℕ) (xs : List ℕ) → ((k : ℕ) → occurs (i + k) js * get_or xs k 0 ≤ get_or xs k 0) → taken js i xs ≤ total xs
taken_once js i [] h = omega arith
taken_once js i (x ∷ xs) h =
    let first : occurs i js * x ≤ x = rw add-zero at (h 0) in
    omega (arith, taken_once js (suc i) xs (λ k. rw (suc-add i k, sym (add-suc i k)) (h (suc k))))
