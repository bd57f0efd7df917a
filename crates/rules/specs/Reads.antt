-- The columns that nodes read, as sets: for each node and each level one.
use Rattle.std.specs.Prelude.{◌≡◌, Bool, false, cond, ◌&&◌, ◌||◌, List, [], ◌++◌, ℕ, suc, ◌+◌, ◌<◌, ◌≤◌, eqb, ltb, length, get_or}
use Rattle.algebra.specs.Lists.{any, Every}
use Rattle.algebra.specs.Columns.{Column, past, shape_at}
use Rattle.algebra.specs.Domains.{Domain, spot, domain_keys}
use Rattle.plan.specs.Words.{operator, left, right}
use Rattle.plan.specs.Plan.{widths_of, nodes_of}
use Rattle.plan.specs.Verdict.{has_right}
use Rattle.pages.specs.declared.domain.Domain as code
use Rattle.pages.specs.declared.sets.ColumnSet.{ColumnSet}
use Rattle.pages.specs.Sets.{in_set, members}
use Rattle.pages.specs.Domains.{Means}

-- the columns that node n reads
abbrev pub reads_at : List ℕ → ℕ → List Column
reads_at ws n = (shape_at (widths_of ws) (nodes_of ws) n).reads

-- column p of level l is among them
abbrev pub reads : List Column → ℕ → ℕ → Bool
reads cs l p = any (λ c. eqb c.level l && eqb c.position p) cs

-- a table's rows have a set for each level
abbrev pub Rows : List (List ColumnSet) → Type 0
Rows table = (n : ℕ) → n < 256 → length (get_or table n []) ≡ 8

-- the columns of level l that a table has for node n
abbrev pub set_at : List (List ColumnSet) → ℕ → ℕ → ColumnSet
set_at table n l = get_or (get_or table n []) l (record { bits = 0 })

-- the table has them for the first k nodes
abbrev pub ReadsTable : List ℕ → ℕ → List (List ColumnSet) → Type 0
ReadsTable ws k table = (n l p : ℕ) → n < k → l < 8 → p < 64 → in_set (set_at table n l) p ≡ reads (reads_at ws n) l p

-- every column of cs stands in a row under D with w columns behind D's
abbrev pub Spotted : Domain → ℕ → List Column → Type 0
Spotted D w cs = Every (λ c. (c.level < 8) × (c.position < 64) × (spot D c.level c.position < D.width + w)) cs

-- node n gets the columns (level, position) that f says, all else stays
pub record Added (n : ℕ) (f : ℕ → ℕ → Bool) (table table' : List (List ColumnSet)) : Type 0 where
  pub rows : Rows table → Rows table'
  pub each : (m l p : ℕ) → m < 256 → l < 8 → p < 64 → in_set (set_at table' m l) p ≡ (in_set (set_at table m l) p || (eqb m n && f l p))

-- what the table has for input i, counted from level skip on
abbrev pub input_read : List (List ColumnSet) → ℕ → ℕ → ℕ → ℕ → Bool
input_read table i skip l p = ltb (l + skip) 8 && in_set (set_at table i (l + skip)) p

-- what the inputs of node n read, seen from n
abbrev pub input_reads : List ℕ → ℕ → List Column
input_reads ws n =
    cond (eqb (operator ws n) 1) []
    (cond (has_right (operator ws n)) (reads_at ws (left ws n) ++ cond (eqb (operator ws n) 8) (past (reads_at ws (right ws n))) (reads_at ws (right ws n)))
    (reads_at ws (left ws n)))

-- the first n nodes are done, the others not begun
pub record Filled (ws : List ℕ) (n : ℕ) (table : List (List ColumnSet)) : Type 0 where
  pub rows : Rows table
  pub done : ReadsTable ws n table
  pub fresh : (m l p : ℕ) → n ≤ m → m < 256 → l < 8 → p < 64 → in_set (set_at table m l) p ≡ false

-- the members are the keys of the domain over a left side of width w whose right side is r
abbrev pub KeySet : code.Domain → ℕ → List (List ColumnSet) → ColumnSet → Type 0
KeySet d r table set =
    (ws : List ℕ) (D : Domain) (w : ℕ) → Means d D → ReadsTable ws (suc r) table → D.width + w ≤ 64 → Spotted D w (reads_at ws r)
    → members set ≡ domain_keys D w (reads_at ws r)
