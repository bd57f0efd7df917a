-- The columns that a node reads of the rows outside it; open and closed nodes.
use Rattle.std.specs.Prelude.{Bool, List, [], ◌∷◌, ◌++◌, ℕ, zero, suc, eqb}
use Rattle.algebra.specs.Lists.{any, each, is_empty, entry}
use Rattle.algebra.specs.Plan.{Term, column, outer, constant, nothing, Conjunct, Computation, copy, add, subtract, Node, scan, select, compute, project, join, group, groupjoin, dependent, width_of}

-- an outer column
pub record Column : Type 0 where
  pub level : ℕ
  pub position : ℕ

abbrev pub term_reads : Term → List Column
term_reads (column p) = []
term_reads (outer l p) = record { level = l; position = p } ∷ []
term_reads (constant z) = []
term_reads nothing = []

abbrev pub conjunct_reads : Conjunct → List Column
conjunct_reads c = term_reads c.first ++ term_reads c.second

abbrev pub computation_reads : Computation → List Column
computation_reads (copy a) = term_reads a
computation_reads (add a b) = term_reads a ++ term_reads b
computation_reads (subtract a b) = term_reads a ++ term_reads b

-- a column that the right side of a dependent join reads, seen from outside the join: level 0 is the join's own left row
abbrev pub past_one : ℕ → ℕ → List Column
past_one zero p = []
past_one (suc l) p = record { level = l; position = p } ∷ []

abbrev pub past : List Column → List Column
past cs = each (λ c. past_one c.level c.position) cs

-- the outer columns "in it or below it" that reach beyond a node, over those of its inputs
abbrev pub reads_of : (ℕ → List Column) → Node → List Column
reads_of at (scan t) = []
reads_of at (select cs i) = each conjunct_reads cs ++ at i
reads_of at (compute c i) = computation_reads c ++ at i
reads_of at (project ps i) = at i
reads_of at (join k cs l r) = each conjunct_reads cs ++ (at l ++ at r)
reads_of at (group ks gs i) = at i
reads_of at (groupjoin cs gs l r) = each conjunct_reads cs ++ (at l ++ at r)
reads_of at (dependent k cs l r) = each conjunct_reads cs ++ (at l ++ past (at r))

-- what is known of a node before its rows
pub record Shape : Type 0 where
  pub width : ℕ
  pub reads : List Column

abbrev pub shapeless : Shape
shapeless = record { width = 0; reads = [] }

abbrev pub shape_of : List ℕ → (ℕ → Shape) → Node → Shape
shape_of widths at n = record { width = width_of widths (λ i. (at i).width) n; reads = reads_of (λ i. (at i).reads) n }

-- the shape of node i of a plan, each from those before it
abbrev pub shape_at : List ℕ → List Node → ℕ → Shape
shape_at widths ns i = entry shapeless (shape_of widths) ns i

-- "A node is open if an outer column in it or below it reaches beyond it, otherwise closed."
abbrev pub closed : Shape → Bool
closed s = is_empty s.reads

-- a right side that reads the left row of its dependent join
abbrev pub reads_left : Shape → Bool
reads_left s = any (λ c. eqb c.level 0) s.reads
