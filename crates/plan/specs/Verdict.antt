-- The check: refusals 1 to 7, "looked for in this order, lowest node first".
use Rattle.std.specs.Prelude.{Bool, true, not, cond, ◌&&◌, ◌||◌, List, [], ◌∷◌, ℕ, zero, suc, ◌+◌, ◌*◌, leb, ltb, eqb, length, get_or, take, drop}
use Rattle.algebra.specs.Lists.{keep, any, all, is_empty, upto}
use Rattle.algebra.specs.Plan.{Term, column, outer, constant, nothing, Conjunct, Computation, copy, add, subtract, Aggregate, count, sum, minimum, maximum, Node, scan, select, compute, project, join, group, groupjoin, dependent, inputs}
use Rattle.algebra.specs.Columns.{shape_at, closed}
use Rattle.algebra.specs.Statements.{uses}
use Rattle.plan.specs.Words.{Item, word, tables, nodes, items, table_width, operator, left, right, kind, first_item, item_count, items_of}
use Rattle.plan.specs.Items.{between, is_conjunct, is_key, conjunct_right, computation_right, key_right, output_right, aggregate_right}
use Rattle.plan.specs.Plan.{node_at, widths_of, nodes_of}

-- "each returns number and node"; 0 and 0 for acceptance
pub record Answer : Type 0 where
  pub number : ℕ
  pub node : ℕ

-- the same with a count: "returns their number"
pub record CountedAnswer : Type 0 where
  pub number : ℕ
  pub node : ℕ
  pub count : ℕ

-- the lowest number below n that passes, n where there is none
abbrev pub lowest : (ℕ → Bool) → ℕ → ℕ
lowest p n = get_or (keep p (upto n)) 0 n

-- ---- 1 and 2

module _ (ws : List ℕ) where
  -- "slice under 8 words, or total, an offset or the last header word wrong"
  unfoldable pub header_right : Bool
  header_right =
      leb 8 (length ws)
      && (eqb (word ws 0) (length ws)
      && (eqb (word ws 0) (8 + tables ws + 6 * nodes ws + 7 * items ws)
      && (eqb (word ws 2) 8
      && (eqb (word ws 4) (8 + tables ws)
      && (eqb (word ws 6) (8 + tables ws + 6 * nodes ws)
      && eqb (word ws 7) 0)))))

  -- "T is 1..16, N 1..256, I 0..2,000, a table's width 1..64."
  unfoldable pub limits_right : Bool
  limits_right =
      between 1 16 (tables ws)
      && (between 1 256 (nodes ws)
      && (leb (items ws) 2000
      && all (λ t. between 1 64 (table_width ws t)) (upto (tables ws))))

-- ---- 3: "node or its items malformed, a wrong table or input number included"

-- items of one sort, then of another: the first m pass p, the others q
abbrev pub in_front : (Item → Bool) → (Item → Bool) → ℕ → List Item → Bool
in_front p q m xs = all p (take m xs) && all q (drop m xs)

-- the items of operator o
unfoldable pub items_right : ℕ → List Item → Bool
items_right o xs =
    cond (eqb o 1) (is_empty xs)
    (cond (eqb o 3) (eqb (length xs) 1 && all computation_right xs)
    (cond (eqb o 4) (not (is_empty xs) && all output_right xs)
    (cond (eqb o 6) (not (is_empty xs) && in_front key_right aggregate_right (length (keep is_key xs)) xs)
    (cond (eqb o 7) (ltb (length (keep is_conjunct xs)) (length xs) && in_front conjunct_right aggregate_right (length (keep is_conjunct xs)) xs)
    (all conjunct_right xs)))))

-- join, groupjoin and dependent join have a right input; join and dependent join have a kind
abbrev pub has_right : ℕ → Bool
has_right o = eqb o 5 || (eqb o 7 || eqb o 8)

abbrev pub has_kind : ℕ → Bool
has_kind o = eqb o 5 || eqb o 8

module _ (ws : List ℕ) where
  -- "First item is the sum of the counts of earlier nodes"
  unfoldable pub items_before : ℕ → ℕ
  items_before zero = 0
  items_before (suc n) = items_before n + item_count ws n

  -- "Inputs are node numbers below the node's own"; "Unused words are 0."
  unfoldable pub inputs_right : ℕ → Bool
  inputs_right n =
      cond (eqb (operator ws n) 1) (ltb (left ws n) (tables ws)) (ltb (left ws n) n)
      && cond (has_right (operator ws n)) (ltb (right ws n) n) (eqb (right ws n) 0)

  unfoldable pub kind_right : ℕ → Bool
  kind_right n = cond (has_kind (operator ws n)) (between 1 4 (kind ws n)) (eqb (kind ws n) 0)

  -- "a node whose items pass I is malformed, and so is the root when items are left over"
  unfoldable pub count_right : ℕ → Bool
  count_right n =
      eqb (first_item ws n) (items_before n)
      && cond (eqb (n + 1) (nodes ws)) (eqb (items_before n + item_count ws n) (items ws)) (leb (items_before n + item_count ws n) (items ws))

  unfoldable pub node_right : ℕ → Bool
  node_right n =
      between 1 8 (operator ws n)
      && (inputs_right n
      && (kind_right n
      && (count_right n
      && items_right (operator ws n) (items_of ws n))))

  -- ---- 4, 5 and 6

  abbrev pub uses_of : ℕ → ℕ
  uses_of m = uses (nodes_of ws) m

  -- "a node other than the root unused"
  abbrev pub is_unused_node : ℕ → Bool
  is_unused_node n = ltb (n + 1) (nodes ws) && eqb (uses_of n) 0

  abbrev pub width_at : ℕ → ℕ
  width_at n = (shape_at (widths_of ws) (nodes_of ws) n).width

  -- "a row wider than 64"
  abbrev pub is_too_wide : ℕ → Bool
  is_too_wide n = ltb 64 (width_at n)

  abbrev pub is_open : ℕ → Bool
  is_open n = not (closed (shape_at (widths_of ws) (nodes_of ws) n))

  -- "an open node used more than once"
  abbrev pub is_open_twice : ℕ → Bool
  is_open_twice n = is_open n && ltb 1 (uses_of n)

-- ---- 7: "a column that doesn't exist, local or outer"

-- a term over a row of width w; scope has the widths of the left rows of the dependent joins around, the nearest first
unfoldable pub term_there : List ℕ → ℕ → Term → Bool
term_there scope w (column p) = ltb p w
term_there scope w (outer l p) = ltb p (get_or scope l 0)
term_there scope w (constant z) = true
term_there scope w nothing = true

abbrev pub conjunct_there : List ℕ → ℕ → Conjunct → Bool
conjunct_there scope w c = term_there scope w c.first && term_there scope w c.second

unfoldable pub computation_there : List ℕ → ℕ → Computation → Bool
computation_there scope w (copy a) = term_there scope w a
computation_there scope w (add a b) = term_there scope w a && term_there scope w b
computation_there scope w (subtract a b) = term_there scope w a && term_there scope w b

unfoldable pub aggregate_there : ℕ → Aggregate → Bool
aggregate_there w count = true
aggregate_there w (sum p) = ltb p w
aggregate_there w (minimum p) = ltb p w
aggregate_there w (maximum p) = ltb p w

-- "Local positions count in the input's row; for conjuncts of 5, 7, 8 in left then right; for groupjoin aggregates in the right row."
unfoldable pub columns_there : (ℕ → ℕ) → List ℕ → Node → Bool
columns_there width scope (scan t) = true
columns_there width scope (select cs i) = all (conjunct_there scope (width i)) cs
columns_there width scope (compute c i) = computation_there scope (width i) c
columns_there width scope (project ps i) = all (λ p. ltb p (width i)) ps
columns_there width scope (join k cs l r) = all (conjunct_there scope (width l + width r)) cs
columns_there width scope (group ks gs i) = all (λ p. ltb p (width i)) ks && all (aggregate_there (width i)) gs
columns_there width scope (groupjoin cs gs l r) = all (conjunct_there scope (width l + width r)) cs && all (aggregate_there (width r)) gs
columns_there width scope (dependent k cs l r) = all (conjunct_there scope (width l + width r)) cs

module _ (ws : List ℕ) where
  -- the first node that has m as an input; nodes ws where there is none
  abbrev pub user_of : ℕ → ℕ
  user_of m = lowest (λ n. any (eqb m) (inputs (node_at ws n))) (nodes ws)

  -- m is the right side of the dependent join p
  abbrev pub is_right_side : ℕ → ℕ → Bool
  is_right_side p m = eqb (operator ws p) 8 && eqb (right ws p) m

  -- what stands around m: what stands around its user, and the user's left row where m is its right side
  unfoldable pub scope : ℕ → ℕ → List ℕ
  scope zero m = []
  scope (suc fuel) m =
      let p = user_of m in
      let beyond = scope fuel p in
      cond (is_open ws m && ltb p (nodes ws)) (cond (is_right_side p m) (width_at ws (left ws p) ∷ beyond) beyond) []

  -- a chain of users is no longer than the plan
  abbrev pub scope_of : ℕ → List ℕ
  scope_of m = scope (nodes ws) m

  unfoldable pub columns_right : ℕ → Bool
  columns_right n = columns_there (width_at ws) (scope_of n) (node_at ws n)

-- ---- the answer

abbrev pub accepted : Answer
accepted = record { number = 0; node = 0 }

-- refusal k at the lowest node that is at fault, where there is one
abbrev pub or_else : ℕ → (ℕ → Bool) → ℕ → Answer → Answer
or_else k fault bound rest = let n = lowest fault bound in cond (ltb n bound) (record { number = k; node = n }) rest

unfoldable pub verdict : List ℕ → Answer
verdict ws =
    cond (not (header_right ws)) (record { number = 1; node = 0 })
    (cond (not (limits_right ws)) (record { number = 2; node = 0 })
    (or_else 3 (λ n. not (node_right ws n)) (nodes ws)
    (or_else 4 (is_unused_node ws) (nodes ws)
    (or_else 5 (is_too_wide ws) (nodes ws)
    (or_else 6 (is_open_twice ws) (nodes ws)
    (or_else 7 (λ n. not (columns_right ws n)) (nodes ws)
    accepted))))))
