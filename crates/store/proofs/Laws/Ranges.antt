-- The test of a cell's range, and of all cells of a list; and the sizes of numbers.
use mathlib.Core.Path.{◌≡◌, refl, sym, ap, ◌∙◌}
use mathlib.Core.Bool.{Bool, true, false, ◌&&◌, not, true≢false}
use mathlib.Core.List.{List, [], ◌∷◌}
use Prim.Native.Nat.{ℕ, suc, ◌+◌, ◌-◌, ◌^◌, ◌<◌, ◌≤◌}
use native.Mathlib.Omega.{arith}
use lib.Dec.{ltb, leb}
use lib.IntN.{ℤ, pos, negsuc, nat_abs, sub_ℕ, ◌+ℤ◌}
use lib.ListN.{get_or}
use lib.Signed.{lt_z, le_z}
use mir.Syntax.{w64}
use mir.Val.{SFits, to_z, of_z}
use mir.ValLaws.{to_z-of_z}
use borrow.Author.Tests.{ltb-true, ltb-false, leb-true, leb-false, lt-ltb, le-ltb}
use Rattle.std.specs.List.{list_all}
use Rattle.algebra.specs.Lists.{all}
use Rattle.algebra.specs.Value.{null, num, Row}
use Rattle.algebra.proofs.Lists.Every.{every_at}
use Rattle.plan.proofs.Laws.Numbered.{every_all}
use Rattle.store.specs.Cells.{null_cell, value, in_range}
use Rattle.store.proofs.Laws.Bits.{bits_null, other_number}

-- ---- one cell

-- the bits of null
pub null_ranged : (x : ℤ) → SFits w64 x → of_z w64 x ≡ 2 ^ 63 → true ≡ in_range (value x)
unfolding in_range
null_ranged x fits e = rw (bits_null fits e)

-- below the lowest number, where it is not null
low : (x : ℤ) → (x ≡ null_cell → ⊥) → lt_z x (negsuc (2 ^ 47 - 2)) ≡ true → false ≡ in_range (value x)
unfolding in_range
low (pos n) h e = absurd (true≢false (sym e))
low (negsuc n) h e = rw (other_number (negsuc n) h) (sym (le-ltb n (2 ^ 47 - 1) (omega (arith, ltb-true (2 ^ 47 - 2) n e))))

-- not below it
high : (x : ℤ) → (x ≡ null_cell → ⊥) → lt_z x (negsuc (2 ^ 47 - 2)) ≡ false → le_z x (pos (2 ^ 47 - 1)) ≡ in_range (value x)
unfolding value in_range
high (pos n) h e = go (leb n (2 ^ 47 - 1)) refl
  where
    go : (b : Bool) → leb n (2 ^ 47 - 1) ≡ b → leb n (2 ^ 47 - 1) ≡ ltb n (2 ^ 47)
    go true q = q ∙ sym (lt-ltb n (2 ^ 47) (omega (arith, leb-true n (2 ^ 47 - 1) q)))
    go false q = q ∙ sym (le-ltb n (2 ^ 47) (omega (arith, leb-false n (2 ^ 47 - 1) q)))
high (negsuc n) h e = rw (other_number (negsuc n) h) (sym (lt-ltb n (2 ^ 47 - 1) (omega (arith, ltb-false (2 ^ 47 - 2) n e))))

-- a number at most another, or above it
turned : (a b : ℕ) → ltb b a ≡ not (leb a b)
turned a b = go (leb a b) refl
  where
    go : (t : Bool) → leb a b ≡ t → ltb b a ≡ not t
    go true e = le-ltb b a (leb-true a b e)
    go false e = lt-ltb b a (leb-false a b e)

turned_less : (a b : ℤ) → lt_z b a ≡ not (le_z a b)
turned_less (pos a) (pos b) = turned a b
turned_less (pos a) (negsuc b) = refl
turned_less (negsuc a) (pos b) = refl
turned_less (negsuc a) (negsuc b) = turned b a

module _ (x : ℤ) (fits : SFits w64 x) (other : of_z w64 x ≡ 2 ^ 63 → ⊥) where
  no_null : x ≡ null_cell → ⊥
  no_null e = other (ap (of_z w64) e)

  pub low_ranged : le_z (negsuc (2 ^ 47 - 2)) (to_z w64 (of_z w64 x)) ≡ false → false ≡ in_range (value x)
  low_ranged e = low x no_null (turned_less (negsuc (2 ^ 47 - 2)) x ∙ ap not (rw (to_z-of_z w64 x fits) at e))

  pub high_ranged : le_z (negsuc (2 ^ 47 - 2)) (to_z w64 (of_z w64 x)) ≡ true → le_z (to_z w64 (of_z w64 x)) (pos (2 ^ 47 - 1)) ≡ in_range (value x)
  high_ranged e =
      ap (λ (z : ℤ). le_z z (pos (2 ^ 47 - 1))) (to_z-of_z w64 x fits)
      ∙ high x no_null (turned_less (negsuc (2 ^ 47 - 2)) x ∙ ap not (rw (to_z-of_z w64 x fits) at e))

-- ---- sizes

abs_difference : (a b : ℕ) (t : Bool) → ltb a b ≡ t → nat_abs (sub_ℕ a b) ≤ a + b
abs_difference a b true e = rw e (omega (arith, ltb-true a b e))
abs_difference a b false e = rw e (omega arith)

-- the triangle
pub abs_sum : (x y : ℤ) → nat_abs (x +ℤ y) ≤ nat_abs x + nat_abs y
abs_sum (pos a) (pos b) = omega arith
abs_sum (pos a) (negsuc b) = abs_difference a (suc b) (ltb a (suc b)) refl
abs_sum (negsuc a) (pos b) = omega (arith, abs_difference b (suc a) (ltb b (suc a)) refl)
abs_sum (negsuc a) (negsuc b) = omega arith

pub fits_size : (z : ℤ) → nat_abs z < 2 ^ 63 → SFits w64 z
fits_size (pos n) h = record { sfits = h }
fits_size (negsuc n) h = record { sfits = omega arith }

-- a small number is no null
pub small_number : (z : ℤ) → nat_abs z < 2 ^ 63 → value z ≡ num z
small_number z h = other_number z (λ e. let q : nat_abs z ≡ 2 ^ 63 = ap nat_abs e in omega arith)

-- a number in range
pub small : (z : ℤ) → in_range (num z) ≡ true → nat_abs z < 2 ^ 47
unfolding in_range
small (pos n) h = ltb-true n (2 ^ 47) h
small (negsuc n) h = omega (arith, ltb-true n (2 ^ 47 - 1) h)

-- ---- all cells

-- a cell of a row in range, null past its end
pub entry_ranged : (r : Row) (p : ℕ) → all in_range r ≡ true → in_range (get_or r p null) ≡ true
unfolding in_range
entry_ranged r p e = every_at {P = λ v. in_range v ≡ true} null refl (every_all in_range r e) p

-- ---- what `all` answers

pub all_listed : {A : Type 0} (p : A → Bool) (xs : List A) → list_all p xs ≡ all p xs
all_listed p [] = refl
all_listed p (x ∷ xs) = ap (λ (b : Bool). p x && b) (all_listed p xs)
