-- What a computation makes of two cells: sums and differences of numbers in range fit, and are no null; and what its terms are.
use mathlib.Core.Path.{◌≡◌, refl, ap, subst, ◌∙◌}
use mathlib.Core.Bool.{Bool, true, false, cond, ◌&&◌}
use mathlib.Core.List.{List, [], ◌∷◌, ◌++◌, map}
use Prim.Native.Nat.{ℕ, zero, suc, ◌^◌, ◌<◌}
use native.Mathlib.Omega.{arith}
use lib.IntN.{ℤ, pos, negsuc, nat_abs, neg_ℤ, ◌+ℤ◌, ◌-ℤ◌}
use lib.Dec.{eqb}
use lib.ListN.{length}
use mir.Syntax.{w64}
use mir.Val.{SFits, to_z, of_z}
use mir.ValLaws.{to_z-of_z}
use mathlib.Core.Logic.{◌⊎◌, ⊎_elim}
use Rattle.std.specs.Prelude.{Result}
use Rattle.algebra.specs.Value.{Value, null, num, Row}
use Rattle.algebra.specs.Plan.{Term, copy, add, subtract}
use Rattle.algebra.specs.Operators.{Outer, value_of, computed}
use Rattle.algebra.specs.Statements.{Wide}
use Rattle.algebra.proofs.Lists.Every.{every_map}
use Rattle.algebra.proofs.Lists.Keep.{map_cong}
use Rattle.algebra.proofs.Lists.Same.{and_left, and_right}
use Rattle.plan.specs.Words.{Three, Item}
use Rattle.plan.specs.Items.{term_of, computation_of, term_right, is_local, is_unused, is_computation, computation_right}
use Rattle.plan.specs.declared.sorts.Operation.{Operation}
use Rattle.plan.specs.declared.sorts.Operation.TheVariants.{Copy, Add, Subtract}
use Rattle.plan.specs.Codes.{operation_of}
use Rattle.operators.specs.declared.operand.Operand.{Operand}
use Rattle.operators.specs.declared.fault.Fault.{Fault}
use Rattle.store.specs.Cells.{value, in_range}
use Rattle.operators.specs.Bindings.{Readable, taken, combined}
use Rattle.operators.specs.Made.{Makes}
use Rattle.operators.proofs.Laws.NewColumns.{added}
use Rattle.store.proofs.Laws.Bits.{bits_null, bits_number}
use Rattle.store.proofs.Laws.Ranges.{abs_sum, fits_size, small_number, small}
use Rattle.operators.proofs.Laws.Operands.{readable}

-- ---- sizes of sums

abs_negative : (x : ℤ) → nat_abs (neg_ℤ x) ≡ nat_abs x
abs_negative (pos zero) = refl
abs_negative (pos (suc n)) = refl
abs_negative (negsuc n) = refl

-- ---- two cells combined

-- one of the two is null
pub combined_null : (t : Operation) → (t ≡ Copy → ⊥) → (x y : ℤ) → SFits w64 x → SFits w64 y
    → (of_z w64 x ≡ 9223372036854775808) ⊎ ((of_z w64 x ≡ 9223372036854775808 → ⊥) × (of_z w64 y ≡ 9223372036854775808))
    → value (negsuc 9223372036854775807) ≡ combined t (value x) (value y)
unfolding value
combined_null t other x y fx fy =
    ⊎_elim (λ e. let q : value x ≡ null = bits_null fx e in rw q (first t other (value y)))
    (λ e. let q : value y ≡ null = bits_null fy e.1 in rw q (second t other (value x)))
  where
    first : (t : Operation) → (t ≡ Copy → ⊥) → (v : Value) → null ≡ combined t null v
    first Copy h v = absurd (h refl)
    first Add h v = refl
    first Subtract h v = refl

    second : (t : Operation) → (t ≡ Copy → ⊥) → (v : Value) → null ≡ combined t v null
    second Copy h v = absurd (h refl)
    second Add h null = refl
    second Add h (num z) = refl
    second Subtract h null = refl
    second Subtract h (num z) = refl

-- two numbers in range
module _ (x y : ℤ) (fx : SFits w64 x) (fy : SFits w64 y) (some-x : of_z w64 x ≡ 9223372036854775808 → ⊥) (some-y : of_z w64 y ≡ 9223372036854775808 → ⊥)
    (in-x : in_range (value x) ≡ true) (in-y : in_range (value y) ≡ true) where
  value_x : value x ≡ num x
  value_x = bits_number some-x

  value_y : value y ≡ num y
  value_y = bits_number some-y

  small_x : nat_abs x < 2 ^ 47
  small_x = small x (rw value_x at in-x)

  small_y : nat_abs y < 2 ^ 47
  small_y = small y (rw value_y at in-y)

  small_sum : nat_abs (x +ℤ y) < 2 ^ 63
  small_sum = omega (arith, small_x, small_y, abs_sum x y)

  small_difference : nat_abs (x -ℤ y) < 2 ^ 63
  small_difference = omega (arith, small_x, small_y, abs_sum x (neg_ℤ y), abs_negative y)

  pub sum_fits : SFits w64 (to_z w64 (of_z w64 x) +ℤ to_z w64 (of_z w64 y))
  sum_fits = rw (to_z-of_z w64 x fx, to_z-of_z w64 y fy) (fits_size (x +ℤ y) small_sum)

  pub difference_fits : SFits w64 (to_z w64 (of_z w64 x) -ℤ to_z w64 (of_z w64 y))
  difference_fits = rw (to_z-of_z w64 x fx, to_z-of_z w64 y fy) (fits_size (x -ℤ y) small_difference)

  pub combined_sum : value (to_z w64 (of_z w64 (to_z w64 (of_z w64 x) +ℤ to_z w64 (of_z w64 y)))) ≡ combined Add (value x) (value y)
  combined_sum =
      rw (
        to_z-of_z w64 x fx,
        to_z-of_z w64 y fy,
        to_z-of_z w64 (x +ℤ y) (fits_size (x +ℤ y) small_sum),
        small_number (x +ℤ y) small_sum,
        value_x,
        value_y,
      )

  pub combined_difference : value (to_z w64 (of_z w64 (to_z w64 (of_z w64 x) -ℤ to_z w64 (of_z w64 y)))) ≡ combined Subtract (value x) (value y)
  combined_difference =
      rw (
        to_z-of_z w64 x fx,
        to_z-of_z w64 y fy,
        to_z-of_z w64 (x -ℤ y) (fits_size (x -ℤ y) small_difference),
        small_number (x -ℤ y) small_difference,
        value_x,
        value_y,
      )

-- ---- the terms of a computation

unused_readable : (t : Three) → is_unused t ≡ true → Readable (term_of t)
unfolding term_of
unused_readable t h = rw (and_left (eqb t.code 0) (eqb t.level 0) (and_left (is_local t) (eqb t.value 0) h)) tt

module _ (x : Item) (right : computation_right x ≡ true) where
  terms_right : (term_right x.first && cond (eqb x.tag 8) (is_unused x.second) (term_right x.second)) ≡ true
  terms_right = and_right (is_computation x) (term_right x.first && cond (eqb x.tag 8) (is_unused x.second) (term_right x.second)) right

  pub first_readable : {t : Term} → t ≡ term_of x.first → Readable t
  first_readable e =
      rw e (readable x.first (and_left (term_right x.first) (cond (eqb x.tag 8) (is_unused x.second) (term_right x.second)) terms_right))

  pub second_readable : {t : Term} → t ≡ term_of x.second → Readable t
  second_readable e =
      rw e (go (eqb x.tag 8) (and_right (term_right x.first) (cond (eqb x.tag 8) (is_unused x.second) (term_right x.second)) terms_right))
    where
      go : (q : Bool) → cond q (is_unused x.second) (term_right x.second) ≡ true → Readable (term_of x.second)
      go true h = unused_readable x.second h
      go false h = readable x.second h

-- what its operation makes of its terms is what it means
combined_computed : (o : Outer) (x : Item) (r : Row) {t : Operation} {a b : Value} → t ≡ operation_of x.tag → a ≡ value_of o r (term_of x.first)
    → b ≡ value_of o r (term_of x.second) → combined t a b ≡ computed o (computation_of x) r
unfolding computation_of operation_of
combined_computed o x r {t} {a} {b} e p q = rw (e, p, q) (go (eqb x.tag 8) (eqb x.tag 9))
  where
    go : (c d : Bool)
        → combined (cond c Copy (cond d Add Subtract)) (value_of o r (term_of x.first)) (value_of o r (term_of x.second))
        ≡ computed o
        (cond c (copy (term_of x.first)) (cond d (add (term_of x.first) (term_of x.second)) (subtract (term_of x.first) (term_of x.second)))) r
    go true d = refl
    go false true = refl
    go false false = refl

-- the rows with their new column, by the meaning of the computation
pub compute_makes : (o : Outer) (x : Item) (w : ℕ) (t : Operation) (first second : Operand) (rows : List Row) {R to : ℕ} {s u : List ℤ}
    {r : Result ℕ Fault} {f g : Term}
    → Wide w rows → t ≡ operation_of x.tag → f ≡ term_of x.first → g ≡ term_of x.second
    → ((row : Row) → length row ≡ w → taken first row ≡ value_of o row f) → ((row : Row) → length row ≡ w → taken second row ≡ value_of o row g)
    → Makes R (map (added t first second) rows) to s u r → Makes R (map (λ row. row ++ (computed o (computation_of x) row ∷ [])) rows) to s u r
compute_makes o x w t first second rows {R} {to} {s} {u} {r} wide e p q h k m =
    let same : map (added t first second) rows ≡ map (λ row. row ++ (computed o (computation_of x) row ∷ [])) rows =
    map_cong (added t first second) (λ row. row ++ (computed o (computation_of x) row ∷ []))
    (every_map (λ row l. ap (λ (v : Value). row ++ (v ∷ []))
    (combined_computed o x row e (h row l ∙ ap (value_of o row) p) (k row l ∙ ap (value_of o row) q))) wide) in
    subst (λ (rs : List Row). Makes R rs to s u r) same m
