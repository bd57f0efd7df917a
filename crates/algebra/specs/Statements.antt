-- The words in which the statements about plans are made.
use Rattle.std.specs.Prelude.{◌≡◌, true, false, List, [], ◌∷◌, ◌++◌, ℕ, zero, suc, ◌<◌, ◌≤◌, pred, eqb, length, get_or}
use Rattle.algebra.specs.Lists.{keep, each, Every}
use Rattle.algebra.specs.Value.{null, Row, same_row}
use Rattle.algebra.specs.Plan.{Node, scan, select, compute, project, join, group, groupjoin, dependent, inputs}
use Rattle.algebra.specs.Meaning.{Database}
use Rattle.algebra.specs.Columns.{Column, Shape, shape_at, closed}

-- rows of one width
abbrev pub Wide : ℕ → List Row → Type 0
Wide n rs = Every (λ r. length r ≡ n) rs

-- a database whose rows have the tables' widths
abbrev pub Fitting : List ℕ → Database → Type 0
Fitting widths db = (t : ℕ) → Wide (get_or widths t 0) (get_or db t [])

-- how often a row stands in a result
abbrev pub times : Row → List Row → ℕ
times r rs = length (keep (same_row r) rs)

-- ---- well-formed plans: what the rewriting asks of one

-- a column of the left row exists in it; a further-out one is not the left row's business
abbrev pub InLeft : ℕ → ℕ → ℕ → Type 0
InLeft w zero p = p < w
InLeft w (suc l) p = Unit {0}

-- node n may stand behind c nodes: "Inputs are node numbers below the node's own", and what the right side of a dependent join
-- reads of its left row exists there
abbrev pub Fine : (ℕ → Shape) → ℕ → Node → Type 0
Fine sh c (scan t) = Unit {0}
Fine sh c (select cs i) = i < c
Fine sh c (compute e i) = i < c
Fine sh c (project ps i) = i < c
Fine sh c (join k cs l r) = (l < c) × (r < c)
Fine sh c (group ks gs i) = i < c
Fine sh c (groupjoin cs gs l r) = (l < c) × (r < c)
Fine sh c (dependent k cs l r) = (l < c) × (r < c) × Every (λ e. InLeft (sh l).width e.level e.position) (sh r).reads

-- how often a node is an input
abbrev pub uses : List Node → ℕ → ℕ
uses ns m = length (keep (eqb m) (each inputs ns))

module _ (widths : List ℕ) where
  -- every node of ns may stand where it does, behind the nodes before
  abbrev pub FineFrom : List Node → List Node → Type 0
  FineFrom before [] = Unit {0}
  FineFrom before (n ∷ ns) = Fine (shape_at widths before) (length before) n × FineFrom (before ++ (n ∷ [])) ns

  -- there is a root, every node may stand where it does, and the root reads nothing outside the plan
  pub record WellFormed (ns : List Node) : Type 0 where
    pub some : 0 < length ns
    pub nodes : FineFrom [] ns
    pub root : closed (shape_at widths ns (pred (length ns))) ≡ true

  -- no "open node used more than once"
  abbrev pub OpenOnce : List Node → Type 0
  OpenOnce ns = (i : ℕ) → i < length ns → closed (shape_at widths ns i) ≡ false → uses ns i ≤ 1

-- a node that is no dependent join
abbrev pub Plain : Node → Type 0
Plain (scan t) = Unit {0}
Plain (select cs i) = Unit {0}
Plain (compute c i) = Unit {0}
Plain (project ps i) = Unit {0}
Plain (join k cs l r) = Unit {0}
Plain (group ks gs i) = Unit {0}
Plain (groupjoin cs gs l r) = Unit {0}
Plain (dependent k cs l r) = ⊥

-- "two left rows that agree on the columns read"
abbrev pub AgreeAt : Row → Row → ℕ → ℕ → Type 0
AgreeAt x y zero p = get_or x p null ≡ get_or y p null
AgreeAt x y (suc l) p = Unit {0}

abbrev pub Agree : Row → Row → List Column → Type 0
Agree x y cs = Every (λ c. AgreeAt x y c.level c.position) cs
