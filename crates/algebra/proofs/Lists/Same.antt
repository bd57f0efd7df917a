-- same_row decides equality.
use mathlib.Core.Path.{◌∙◌, ◌≡◌, ap, refl, sym}
use mathlib.Core.Bool.{Bool, ◌&&◌, and_assoc, false, true}
use mathlib.Core.List.{[], ◌++◌, ◌∷◌}
use Prim.Native.Nat.{ℕ}
use native.Mathlib.Omega.{arith}
use lib.IntN.{negsuc, pos, ℤ}
use lib.ListN.{length}
use borrow.Author.Tests.{eqb-true, eq-eqb}
use Rattle.algebra.specs.Value.{Row, Value, eq_z, holds, null, num, same, same_row}

pub and_left : (a b : Bool) → (a && b) ≡ true → a ≡ true
and_left true b e = refl
and_left false b e = e

pub and_both : (a b : Bool) → a ≡ true → b ≡ true → (a && b) ≡ true
and_both a b e f = rw (e, f)

pub and_right : (a b : Bool) → (a && b) ≡ true → b ≡ true
and_right true b e = e
and_right false b e = cc

-- ---- same_row

pub eq_z_eq : (a b : ℤ) → eq_z a b ≡ true → a ≡ b
eq_z_eq (pos a) (pos b) e = ap pos (eqb-true a b e)
eq_z_eq (pos a) (negsuc b) e = cc
eq_z_eq (negsuc a) (pos b) e = cc
eq_z_eq (negsuc a) (negsuc b) e = ap negsuc (eqb-true a b e)

pub eq_z_refl : (a : ℤ) → eq_z a a ≡ true
eq_z_refl (pos a) = eq-eqb a a refl
eq_z_refl (negsuc a) = eq-eqb a a refl

pub same_value_eq : (a b : Value) → holds same a b ≡ true → a ≡ b
same_value_eq null null e = refl
same_value_eq null (num b) e = cc
same_value_eq (num a) null e = cc
same_value_eq (num a) (num b) e = ap num (eq_z_eq a b e)

pub same_value_refl : (a : Value) → holds same a a ≡ true
same_value_refl null = refl
same_value_refl (num a) = eq_z_refl a

pub same_eq : (a b : Row) → same_row a b ≡ true → a ≡ b
same_eq [] [] e = refl
same_eq [] (y ∷ ys) e = cc
same_eq (x ∷ xs) [] e = cc
same_eq (x ∷ xs) (y ∷ ys) e =
    let h = same_value_eq x y (and_left (holds same x y) (same_row xs ys) e) in
    let t = same_eq xs ys (and_right (holds same x y) (same_row xs ys) e) in
    cc

pub same_refl : (a : Row) → same_row a a ≡ true
same_refl [] = refl
same_refl (x ∷ xs) = rw (same_value_refl x, same_refl xs)

pub same_append : (a b r s : Row) → length a ≡ length b → same_row (a ++ r) (b ++ s) ≡ ((same_row a b) && (same_row r s))
same_append [] [] r s e = refl
same_append [] (y ∷ b) r s e = let z : ◌≡◌ {A = ℕ} 0 1 = omega arith in cc
same_append (x ∷ a) [] r s e = let z : ◌≡◌ {A = ℕ} 0 1 = omega arith in cc
same_append (x ∷ a) (y ∷ b) r s e = rw (same_append a b r s (omega arith)) (sym (and_assoc (holds same x y) (same_row a b) (same_row r s)))

pub same_front : (a r s : Row) → same_row (a ++ r) (a ++ s) ≡ same_row r s
same_front a r s = same_append a a r s refl ∙ rw (same_refl a)

-- a test that tells two rows apart
pub differ : (p : Row → Bool) (x y : Row) → p x ≡ false → p y ≡ true → same_row x y ≡ false
differ p x y f t = go (same_row x y) refl
  where
    go : (b : Bool) → same_row x y ≡ b → same_row x y ≡ false
    go true e = let s = same_eq x y e in cc
    go false e = e
