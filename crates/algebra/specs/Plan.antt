-- A plan: the widths of the tables, and the nodes, each naming its inputs by number.
use Rattle.std.specs.Prelude.{List, [], ◌∷◌, ℕ, ◌+◌, ℤ, length, get_or}
use Rattle.algebra.specs.Value.{Test}

-- "A term is a local column, an outer column, a constant or null"; an outer column has a level and a position
pub data Term : Type 0 where
  column : ℕ → Term
  outer : ℕ → ℕ → Term
  constant : ℤ → Term
  nothing : Term

-- "An item is .. tag and two terms": here with a tag 1 to 7
pub record Conjunct : Type 0 where
  pub test : Test
  pub first : Term
  pub second : Term

-- "Computations: 8 copy (first term), 9 add, 10 subtract"
pub data Computation : Type 0 where
  copy : Term → Computation
  add subtract : Term → Term → Computation

-- "13 count, 14 sum, 15 min, 16 max", the last three of a local column
pub data Aggregate : Type 0 where
  count : Aggregate
  sum minimum maximum : ℕ → Aggregate

-- "Kinds of 5 and 8: 1 inner, 2 semi, 3 anti, 4 left outer"
pub data Kind : Type 0 where
  inner semi anti left_outer : Kind

-- the eight operators with their items and inputs; compute is 01's map
pub data Node : Type 0 where
  scan : ℕ → Node
  select : List Conjunct → ℕ → Node
  compute : Computation → ℕ → Node
  project : List ℕ → ℕ → Node
  join : Kind → List Conjunct → ℕ → ℕ → Node
  group : List ℕ → List Aggregate → ℕ → Node
  groupjoin : List Conjunct → List Aggregate → ℕ → ℕ → Node
  dependent : Kind → List Conjunct → ℕ → ℕ → Node

-- the inputs of a node, left first; a scan's table is none
abbrev pub inputs : Node → List ℕ
inputs (scan t) = []
inputs (select cs i) = i ∷ []
inputs (compute c i) = i ∷ []
inputs (project ps i) = i ∷ []
inputs (join k cs l r) = l ∷ r ∷ []
inputs (group ks gs i) = i ∷ []
inputs (groupjoin cs gs l r) = l ∷ r ∷ []
inputs (dependent k cs l r) = l ∷ r ∷ []

-- "Inner and outer rows are left then right; semi and anti rows are left's."
abbrev pub join_width : Kind → ℕ → ℕ → ℕ
join_width inner l r = l + r
join_width semi l r = l
join_width anti l r = l
join_width left_outer l r = l + r

-- the width of a node's row, over those of its inputs: the last column of 01's table of operators
abbrev pub width_of : List ℕ → (ℕ → ℕ) → Node → ℕ
width_of widths at (scan t) = get_or widths t 0
width_of widths at (select cs i) = at i
width_of widths at (compute c i) = at i + 1
width_of widths at (project ps i) = length ps
width_of widths at (join k cs l r) = join_width k (at l) (at r)
width_of widths at (group ks gs i) = length ks + length gs
width_of widths at (groupjoin cs gs l r) = at l + length gs
width_of widths at (dependent k cs l r) = join_width k (at l) (at r)
