-- What the check works out on its way.
use Rattle.std.specs.Prelude.{◌≡◌, Bool, true, cond, ◌&&◌, List, [], ◌∷◌, ℕ, suc, ◌<◌, ◌≤◌, max, pred, ltb, eqb, length, get_or, set, Option, Some, None}
use Rattle.std.specs.List.{slice_get}
use Rattle.algebra.specs.Lists.{keep, upto}
use Rattle.algebra.specs.Columns.{Column, shape_at}
use Rattle.plan.specs.Words.{Three, Item, nodes, operator, left, right, items_of}
use Rattle.plan.specs.Items.{between, position_of, term_of}
use Rattle.plan.specs.Plan.{widths_of, nodes_of}
use Rattle.plan.specs.Verdict.{lowest, uses_of, width_at, is_too_wide, is_right_side, scope_of, term_there, has_right}
use Rattle.plan.specs.Promise.{Formed}

-- a word for each of 256 nodes, 0 from node n on
abbrev pub ZeroFrom : ℕ → List ℕ → Type 0
ZeroFrom n table = (length table ≡ 256) × ((m : ℕ) → n ≤ m → get_or table m 0 ≡ 0)

-- the lowest number below n that passes, where there is one
abbrev pub first : (ℕ → Bool) → ℕ → Option ℕ
first p n = slice_get (keep p (upto n)) 0

-- ---- uses

-- the table has how often each node is an input
abbrev pub Counted : List ℕ → List ℕ → Type 0
Counted ws table = (m : ℕ) → m < 256 → get_or table m 0 ≡ uses_of ws m

-- ---- widths

-- the first nodes, up to the first that is too wide, and their widths
pub record Measured (ws rows : List ℕ) (narrow : ℕ) : Type 0 where
  pub first : narrow ≡ lowest (is_too_wide ws) (nodes ws)
  pub each : (m : ℕ) → m < narrow → get_or rows m 0 ≡ width_at ws m
  pub rest : ZeroFrom narrow rows

-- the widths of all nodes
abbrev pub Widths : List ℕ → List ℕ → Type 0
Widths ws rows = (m : ℕ) → m < nodes ws → get_or rows m 0 ≡ width_at ws m

-- none is wider than 64
abbrev pub AllNarrow : List ℕ → List ℕ → Type 0
AllNarrow ws rows = (m : ℕ) → m < nodes ws → get_or rows m 0 ≤ 64

-- ---- reach: one more than the highest level read, 0 where nothing is read

abbrev pub reach : List Column → ℕ
reach [] = 0
reach (c ∷ cs) = max (suc c.level) (reach cs)

abbrev pub term_reach : Three → ℕ
term_reach t = cond (eqb t.code 1) (suc t.level) 0

abbrev pub items_reach : List Item → ℕ
items_reach [] = 0
items_reach (x ∷ xs) = max (max (term_reach x.first) (term_reach x.second)) (items_reach xs)

-- the reach of node n, from those of its inputs: past a dependent join one less
abbrev pub node_reach : List ℕ → (ℕ → ℕ) → ℕ → ℕ
node_reach ws at n =
    let own = items_reach (items_of ws n) in
    cond (eqb (operator ws n) 1) own
    (cond (has_right (operator ws n))
    (max (max own (at (left ws n))) (cond (eqb (operator ws n) 8) (pred (at (right ws n))) (at (right ws n))))
    (max own (at (left ws n))))

abbrev pub Reaches : List ℕ → List ℕ → Type 0
Reaches ws table = (m : ℕ) → m < nodes ws → get_or table m 0 ≡ reach (shape_at (widths_of ws) (nodes_of ws) m).reads

-- ---- columns

-- the rows from a join on, the nearest first; none where there is no join
abbrev pub rows_from : List ℕ → Option ℕ → List ℕ
rows_from ws None = []
rows_from ws (Some p) = width_at ws (left ws p) ∷ scope_of ws p

-- the table has for each node the dependent join whose left row is its level 0, where there is one
abbrev pub Joins : List ℕ → List (Option ℕ) → Type 0
Joins ws table = (m : ℕ) → m < nodes ws → scope_of ws m ≡ rows_from ws (get_or table m None)

-- every join of the table is a dependent join of the plan
abbrev pub InPlan : List ℕ → List (Option ℕ) → Type 0
InPlan ws table = (m p : ℕ) → m < nodes ws → get_or table m None ≡ Some p → (p < nodes ws) × (operator ws p ≡ 8)

-- the table with input i of node p, where it is open
abbrev pub entered : List ℕ → List ℕ → ℕ → ℕ → List (Option ℕ) → List (Option ℕ)
entered ws reaches p i joins = cond (ltb 0 (get_or reaches i 0)) (set joins i (cond (is_right_side ws p i) (Some p) (get_or joins p None))) joins

-- the widths and the joins that columns are looked up in
pub record Placed (ws rows : List ℕ) (joins : List (Option ℕ)) : Type 0 where
  pub formed : Formed ws
  pub widths : Widths ws rows
  pub narrow : AllNarrow ws rows
  pub around : Joins ws joins
  pub in_plan : InPlan ws joins

-- the columns of an item: conjuncts and computations over rows of width w, keys, output columns and aggregates over rows of width v
abbrev pub item_there : List ℕ → ℕ → ℕ → Item → Bool
item_there scope w v x =
    cond (between 11 16 x.tag) (cond (eqb x.tag 13) true (ltb (position_of x) v))
    (term_there scope w (term_of x.first) && cond (eqb x.tag 8) true (term_there scope w (term_of x.second)))
