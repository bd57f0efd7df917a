-- Cells: "Null is −2^63; other cells lie within ±140,737,488,355,327 (2^47−1)."
use Rattle.std.specs.Prelude.{◌≡◌, Bool, true, cond, List, ◌++◌, map, ℕ, ◌+◌, ◌-◌, ◌*◌, ◌^◌, ℤ, pos, negsuc, ltb, length, take, drop}
use Rattle.algebra.specs.Lists.{all, each, upto}
use Rattle.algebra.specs.Value.{Value, null, num, Row, eq_z}

abbrev pub null_cell : ℤ
null_cell = negsuc (2 ^ 63 - 1)

-- what a cell means
unfoldable pub value : ℤ → Value
value z = cond (eq_z z null_cell) null (num z)

-- the cell of a value
unfoldable pub cell : Value → ℤ
cell null = null_cell
cell (num z) = z

-- null, or a number within 2^47−1 of zero
unfoldable pub in_range : Value → Bool
in_range null = true
in_range (num (pos n)) = ltb n (2 ^ 47)
in_range (num (negsuc n)) = ltb n (2 ^ 47 - 1)

-- no number of some rows is out of range
abbrev pub InRange : List Row → Type 0
InRange rows = all (all in_range) rows ≡ true

-- the row of a width that begins at a place
abbrev pub row_in : List ℤ → ℕ → ℕ → Row
row_in cells from width = map value (take width (drop from cells))

-- count rows, one after the other
unfoldable pub rows_in : List ℤ → ℕ → ℕ → ℕ → List Row
rows_in cells from width count = map (λ i. row_in cells (from + i * width) width) (upto count)

abbrev pub cells_of : List Row → List ℤ
cells_of rows = each (map cell) rows

-- s with cs written over it from a place on
unfoldable pub written : List ℤ → ℕ → List ℤ → List ℤ
written s at cs = take at s ++ (cs ++ drop (at + length cs) s)
