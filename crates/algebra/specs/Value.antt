-- "A value is null or a whole number without bound; a result is a list of rows."
use Rattle.std.specs.Prelude.{Bool, true, false, not, ◌&&◌, List, [], ◌∷◌, ℤ, pos, negsuc, neg_ℤ, ◌+ℤ◌, eqb}
use Rattle.std.specs.Int.Signed.{lt_z, le_z}

pub data Value : Type 0 where
  null : Value
  num : ℤ → Value

abbrev pub Row : Type 0
Row = List Value

-- two whole numbers are equal
abbrev pub eq_z : ℤ → ℤ → Bool
eq_z (pos a) (pos b) = eqb a b
eq_z (pos a) (negsuc b) = false
eq_z (negsuc a) (pos b) = false
eq_z (negsuc a) (negsuc b) = eqb a b

-- "Conjunct tags: 1 =, 2 ≠, 3 <, 4 ≤, 5 >, 6 ≥, 7 not distinct"
pub data Test : Type 0 where
  equal unequal less at_most more at_least same : Test

-- a test of two numbers
abbrev pub compare_z : Test → ℤ → ℤ → Bool
compare_z equal a b = eq_z a b
compare_z unequal a b = not (eq_z a b)
compare_z less a b = lt_z a b
compare_z at_most a b = le_z a b
compare_z more a b = lt_z b a
compare_z at_least a b = le_z b a
compare_z same a b = eq_z a b

-- the tests that two nulls pass
abbrev pub takes_nulls : Test → Bool
takes_nulls equal = false
takes_nulls unequal = false
takes_nulls less = false
takes_nulls at_most = false
takes_nulls more = false
takes_nulls at_least = false
takes_nulls same = true

-- "Tags 1..6 with a null are unknown, which isn't true. Tag 7 is true for two nulls or two equal numbers, otherwise false."
abbrev pub holds : Test → Value → Value → Bool
holds t null null = takes_nulls t
holds t null (num b) = false
holds t (num a) null = false
holds t (num a) (num b) = compare_z t a b

-- rows that are not distinct, column by column: null equal to null
abbrev pub same_row : Row → Row → Bool
same_row [] [] = true
same_row [] (b ∷ ys) = false
same_row (a ∷ xs) [] = false
same_row (a ∷ xs) (b ∷ ys) = holds same a b && same_row xs ys

-- "Add and subtract with a null give null."
abbrev pub plus : Value → Value → Value
plus null b = null
plus (num a) null = null
plus (num a) (num b) = num (a +ℤ b)

abbrev pub minus : Value → Value → Value
minus null b = null
minus (num a) null = null
minus (num a) (num b) = num (a +ℤ neg_ℤ b)
