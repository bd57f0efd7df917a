-- Document 01's statement on the right side of a dependent join, over words.
use Rattle.std.specs.Prelude.{◌≡◌, List, ◌∷◌, ℕ, ◌<◌}
use Rattle.algebra.specs.Value.{Row}
use Rattle.algebra.specs.Operators.{Outer}
use Rattle.algebra.specs.Meaning.{Database, result_of}
use Rattle.algebra.specs.Columns.{shape_at}
use Rattle.algebra.specs.Statements.{Agree}
use Rattle.plan.specs.Words.{nodes, operator, right}
use Rattle.plan.specs.Plan.{widths_of, nodes_of}

-- the rows that the operator rules give the right side of dependent join n under its left row and those around it
abbrev pub right_rows : List ℕ → Database → ℕ → Row → Outer → List Row
right_rows ws db n l o = (result_of (widths_of ws) db (nodes_of ws) (right ws n)).rows (l ∷ o)

-- "Under equal outer rows, two left rows that agree on the columns read give the right side the same result"
abbrev pub Agreement : List ℕ → Type 0
Agreement ws =
    (db : Database) (n : ℕ) → n < nodes ws → operator ws n ≡ 8 → (o : Outer) (x y : Row)
    → Agree x y (shape_at (widths_of ws) (nodes_of ws) (right ws n)).reads
    → right_rows ws db n x o ≡ right_rows ws db n y o
