-- The sum that document 02 gives: null exactly where there is no number, and everywhere else the numbers added up.
use mathlib.Core.Path.{◌≡◌, refl}
use mathlib.Core.Bool.{Bool, true, false}
use mathlib.Core.List.{List}
use Prim.Native.Nat.{ℕ}
use lib.ListN.{get_or}
use Rattle.algebra.specs.Lists.{any, Every, done, more}
use Rattle.algebra.specs.Value.{Value, null, num, Row}
use Rattle.algebra.specs.Plan.{sum}
use Rattle.algebra.specs.Operators.{is_number, add_up, summed, column_of, aggregated}
use Rattle.algebra.proofs.Lists.Every.{every_map, every_mapped, every_unmapped, any_none}

-- ---- of values

no_number : {vs : List Value} → Every (λ v. v ≡ null) vs → any is_number vs ≡ false
no_number done = refl
no_number (more h t) = rw h (no_number t)

is_null : (v : Value) → is_number v ≡ false → v ≡ null
is_null null e = refl
is_null (num z) e = cc

pub summed_none : (vs : List Value) → any is_number vs ≡ false → summed vs ≡ null
summed_none vs e = rw e

pub summed_some : (vs : List Value) → any is_number vs ≡ true → summed vs ≡ num (add_up vs)
summed_some vs e = rw e

null_none : (vs : List Value) (b : Bool) → any is_number vs ≡ b → summed vs ≡ null → any is_number vs ≡ false
null_none vs true e h = let q = summed_some vs e in cc
null_none vs false e h = e

-- ---- of a column of rows

module _ (p : ℕ) (rs : List Row) where
  -- "null for the sum of no numbers .. empty or all null"
  pub sum_of_nothing : Every (λ r. get_or r p null ≡ null) rs → aggregated (sum p) rs ≡ null
  sum_of_nothing t = summed_none (column_of p rs) (no_number (every_mapped (λ r. get_or r p null) t))

  -- and of nothing else
  pub null_sum : aggregated (sum p) rs ≡ null → Every (λ r. get_or r p null ≡ null) rs
  null_sum e =
      let vs : List Value = column_of p rs in
      every_unmapped (λ r. get_or r p null) rs (every_map is_null (any_none is_number vs (null_none vs (any is_number vs) refl e)))

  -- where there is a number, a zero too, the sum is document 01's
  pub sum_of_numbers : any is_number (column_of p rs) ≡ true → aggregated (sum p) rs ≡ num (add_up (column_of p rs))
  sum_of_numbers e = summed_some (column_of p rs) e
