-- Read columns as a set of bits; the place is the count of ones below a position, the width the count of all.
use Rattle.std.specs.Prelude.{Bool, List, ℕ, zero, suc, ◌+◌, ◌/◌, ◌%◌, ◌^◌, eqb}
use Rattle.algebra.specs.Lists.{keep, upto}
use Rattle.pages.specs.declared.sets.ColumnSet.{ColumnSet}

-- 1 where p is in s, else 0
abbrev pub bit_of : ColumnSet → ℕ → ℕ
bit_of s p = (s.bits / 2 ^ p) % 2

abbrev pub in_set : ColumnSet → ℕ → Bool
in_set s p = eqb (bit_of s p) 1

-- how many of s are below p
unfoldable pub rank : ColumnSet → ℕ → ℕ
rank s zero = 0
rank s (suc p) = rank s p + bit_of s p

-- the positions in s, ascending
abbrev pub members : ColumnSet → List ℕ
members s = keep (in_set s) (upto 64)
