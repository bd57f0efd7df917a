-- The plan that the words stand for.
use Rattle.std.specs.Prelude.{cond, List, [], ◌∷◌, map, ℕ, ◌-◌, eqb, get_or}
use Rattle.algebra.specs.Lists.{upto}
use Rattle.algebra.specs.Plan.{Computation, copy, nothing, Kind, inner, semi, anti, left_outer, Node, scan, select, compute, project, join, group, groupjoin, dependent}
use Rattle.plan.specs.Words.{Item, tables, nodes, table_width, operator, left, right, kind, items_of}
use Rattle.plan.specs.Items.{computation_of, position_of, conjuncts_in, keys_in, aggregates_in}

-- "1 inner, 2 semi, 3 anti, 4 left outer"
unfoldable pub kind_of : ℕ → Kind
kind_of k = get_or (inner ∷ semi ∷ anti ∷ left_outer ∷ []) (k - 1) inner

-- a map's "one computation"
abbrev pub computation_in : List Item → Computation
computation_in [] = copy nothing
computation_in (x ∷ xs) = computation_of x

-- the node with operator o, inputs l and r, kind k and items xs
unfoldable pub node_for : ℕ → ℕ → ℕ → Kind → List Item → Node
node_for o l r k xs =
    cond (eqb o 1) (scan l)
    (cond (eqb o 2) (select (conjuncts_in xs) l)
    (cond (eqb o 3) (compute (computation_in xs) l)
    (cond (eqb o 4) (project (map position_of xs) l)
    (cond (eqb o 5) (join k (conjuncts_in xs) l r)
    (cond (eqb o 6) (group (keys_in xs) (aggregates_in xs) l)
    (cond (eqb o 7) (groupjoin (conjuncts_in xs) (aggregates_in xs) l r)
    (dependent k (conjuncts_in xs) l r)))))))

module _ (ws : List ℕ) where
  abbrev pub node_at : ℕ → Node
  node_at n = node_for (operator ws n) (left ws n) (right ws n) (kind_of (kind ws n)) (items_of ws n)

  abbrev pub widths_of : List ℕ
  widths_of = map (table_width ws) (upto (tables ws))

  abbrev pub nodes_of : List Node
  nodes_of = map node_at (upto (nodes ws))
