-- Nodes that have the items that they must have, scan a table that is there, and whose constants fit a word.
use mathlib.Core.Path.{◌≡◌, ap, refl, sym}
use mathlib.Core.Bool.{false, not, true, true≢false}
use mathlib.Core.List.{List, [], ◌++◌, ◌∷◌, map}
use Prim.Native.Nat.{◌+◌, ◌<◌, ◌^◌, ◌≤◌, ℕ}
use native.Mathlib.Omega.{arith}
use lib.Dec.{ltb}
use lib.ListN.{length, length-append, length-map}
use borrow.Author.Tests.{ltb-true}
use Rattle.algebra.specs.Lists.{Every, done, each, is_empty, keep, more, upto}
use Rattle.algebra.specs.Plan.{Computation, Conjunct, Kind, Node, Term, add, anti, column, compute, constant, copy, dependent, group}
use Rattle.algebra.specs.Plan.{groupjoin, inner, inputs, join, join_width, left_outer, nothing, outer, project, scan, select, semi, subtract, width_of}
use Rattle.algebra.specs.Columns.{Column, past}
use Rattle.algebra.specs.Domains.{Domain, around, below, domain_first, domain_keys, match}
use Rattle.algebra.specs.Domains.{move_computation, move_conjunct, move_term, shift_both, under_both, under_inner}
use Rattle.algebra.specs.Statements.{InLeft}
use Rattle.algebra.proofs.Lists.Every.{every_append, every_both, every_head, every_in, every_map, every_mapped}
use Rattle.algebra.proofs.Lists.Keep.{each_append}
use Rattle.algebra.proofs.Lists.Same.{and_left}
use Rattle.algebra.proofs.Columns.Picked.{length_upto}
use Rattle.algebra.proofs.Domains.Keys.{upto_below}
use Rattle.plan.specs.Words.{Item, items_of, left, nodes, operator, right, kind, tables}
use Rattle.plan.specs.Items.{is_conjunct}
use Rattle.plan.specs.Plan.{kind_of, node_at, nodes_of}
use Rattle.plan.specs.Verdict.{items_right}
use Rattle.plan.specs.Promise.{Formed}
use Rattle.plan.specs.Encoding.{StorableTerm, computation_terms, conjunct_terms, parts, terms_of}
use Rattle.plan.proofs.Laws.Decoded.{aggregate_not_conjunct, keep_front, tag_low}
use Rattle.plan.proofs.Laws.Fitting.{narrow, storable}
use Rattle.plan.proofs.Laws.Formed.{NodeFacts, facts_at}
use Rattle.plan.proofs.Laws.Rebuilt.{items_again, left_again, operator_again}
use Rattle.plan.proofs.Laws.Written.{aggregate_item, conjunct_item, node_items, position_item}
use Rattle.rules.proofs.Laws.Columns.{Held, inner_held}

-- ---- what is asked of a node

-- its table is one of T, and it has the items that it must have
abbrev pub Sensible : ℕ → Node → Type 0
Sensible T (scan t) = t < T
Sensible T (select cs i) = Unit {0}
Sensible T (compute c i) = Unit {0}
Sensible T (project ps i) = 0 < length ps
Sensible T (join k cs l r) = Unit {0}
Sensible T (group ks gs i) = 0 < length ks + length gs
Sensible T (groupjoin cs gs l r) = 0 < length gs
Sensible T (dependent k cs l r) = Unit {0}

-- and its constants fit a word
abbrev pub Fit : ℕ → Node → Type 0
Fit T n = Sensible T n × Every StorableTerm (terms_of n)

-- conjuncts whose constants fit a word
abbrev pub Stored : List Conjunct → Type 0
Stored cs = Every StorableTerm (each conjunct_terms cs)

-- ---- moved items keep their constants

module _ (D : Domain) (f : ℕ → ℕ) where
  -- a term
  term_stored : (t : Term) → StorableTerm t → StorableTerm (move_term D f t)
  term_stored (column p) h = tt
  term_stored (outer l p) h = tt
  term_stored (constant z) h = h
  term_stored nothing h = tt

  -- conjuncts
  pub conjuncts_stored : (cs : List Conjunct) → Stored cs → Stored (map (move_conjunct D f) cs)
  conjuncts_stored [] h = done
  conjuncts_stored (c ∷ cs) (more a (more b t)) = more (term_stored c.first a) (more (term_stored c.second b) (conjuncts_stored cs t))

  -- a computation
  pub computation_stored : (c : Computation) → Every StorableTerm (computation_terms c) → Every StorableTerm (computation_terms (move_computation D f c))
  computation_stored (copy a) (more h t) = more (term_stored a h) done
  computation_stored (add a b) (more h (more g t)) = more (term_stored a h) (more (term_stored b g) done)
  computation_stored (subtract a b) (more h (more g t)) = more (term_stored a h) (more (term_stored b g) done)

-- the conjuncts that match two rows have no constants
pub match_stored : (f g : ℕ → ℕ) (ks : List ℕ) → Stored (match f g ks)
match_stored f g [] = done
match_stored f g (k ∷ ks) = more tt (more tt (match_stored f g ks))

-- matching conjuncts, then moved ones
matched_stored : (f g h : ℕ → ℕ) (ks : List ℕ) (D : Domain) (cs : List Conjunct) → Stored cs → Stored (match f g ks ++ map (move_conjunct D h) cs)
matched_stored f g h ks D cs t = rw each_append (every_append (match_stored f g ks) (conjuncts_stored D h cs t))

module _ (D : Domain) (w : ℕ) (cs : List Conjunct) (t : Stored cs) where
  -- the conjuncts of a join of two sides under D
  pub both_stored : Stored (under_both D w cs)
  both_stored = matched_stored (λ q. q) (λ q. D.width + w + q) (shift_both w D.width D.width) (upto D.width) D cs t

  -- of a join whose right is under a new domain
  pub inner_stored : (ks : List ℕ) → Stored (under_inner D w ks cs)
  inner_stored ks = matched_stored (λ q. q) (λ q. D.width + w + below ks q) (shift_both w D.width (length ks)) ks D cs t

-- ---- lists that are not empty

-- a domain's columns in front of others
pub first_some : (D : Domain) (ps : List ℕ) → 0 < length ps → 0 < length (domain_first D ps)
first_some D ps h = simp (length-append, length-map) (omega arith)

-- the columns that a project keeps
pub around_some : (n m w : ℕ) → 0 < n → 0 < length (around n m w)
around_some n m w h = simp (length-append, length-map, length_upto) (omega arith)

-- the keys of a domain over which something is read
pub keys_some : (D : Domain) (w : ℕ) (reads : List Column) → is_empty reads ≡ false → Every (λ c. InLeft w c.level c.position) reads
    → Held D (past reads) → 0 < length (domain_keys D w reads)
keys_some D w [] e il h = absurd (true≢false e)
keys_some D w (c ∷ cs) e il h = omega (arith, every_head (inner_held D w (c ∷ cs) 0 il h))

-- ---- rows that are not empty

-- the row of a join has the left's columns
join_some : (k : Kind) (l r : ℕ) → 0 < l → 0 < join_width k l r
join_some inner l r h = omega arith
join_some semi l r h = h
join_some anti l r h = h
join_some left_outer l r h = omega arith

-- a sensible node over inputs with columns has a column
pub width_some : (widths : List ℕ) → Every (λ w. (1 ≤ w) × (w ≤ 64)) widths → (at : ℕ → ℕ) (n : Node) → Sensible (length widths) n
    → Every (λ i. 0 < at i) (inputs n) → 0 < width_of widths at n
width_some widths ws at (scan t) h is = (every_in 0 ws t h).0
width_some widths ws at (select cs i) h is = every_head is
width_some widths ws at (compute c i) h is = omega arith
width_some widths ws at (project ps i) h is = h
width_some widths ws at (join k cs l r) h is = join_some k (at l) (at r) (every_head is)
width_some widths ws at (group ks gs i) h is = h
width_some widths ws at (groupjoin cs gs l r) h is = omega (arith, every_head is)
width_some widths ws at (dependent k cs l r) h is = join_some k (at l) (at r) (every_head is)

-- ---- the nodes of a well-formed plan

-- a list that is not empty has elements
not_empty : {A : Type 0} (xs : List A) → not (is_empty xs) ≡ true → 0 < length xs
not_empty [] e = absurd (true≢false (sym e))
not_empty (x ∷ xs) e = omega arith

-- a node whose table is there and whose items pass
sensible_node : (T : ℕ) (x : Node) → ((parts x).operator ≡ 1 → (parts x).left < T) → items_right (parts x).operator (node_items x) ≡ true → Sensible T x
unfolding items_right
sensible_node T (scan t) h e = h refl
sensible_node T (select cs i) h e = tt
sensible_node T (compute c i) h e = tt
sensible_node T (project ps i) h e =
    omega (arith, length-map ps (position_item 12), not_empty (map (position_item 12) ps) (and_left (not (is_empty (map (position_item 12) ps))) _ e))
sensible_node T (join k cs l r) h e = tt
sensible_node T (group ks gs i) h e =
    let xs : List Item = map (position_item 11) ks in
    let ys : List Item = map aggregate_item gs in
    omega (
      arith,
      length-map ks (position_item 11),
      length-map gs aggregate_item,
      length-append xs ys,
      not_empty (xs ++ ys)
          (and_left (not (is_empty (xs ++ ys))) _ e),
    )
sensible_node T (groupjoin cs gs l r) h e =
    let xs : List Item = map conjunct_item cs in
    let ys : List Item = map aggregate_item gs in
    let m : length (keep is_conjunct (xs ++ ys)) ≡ length xs =
    ap length (keep_front conjunct_item aggregate_item is_conjunct cs gs (λ c. tag_low c.test) aggregate_not_conjunct) in
    omega (
      arith,
      length-map gs aggregate_item,
      length-append xs ys,
      ltb-true (length (keep is_conjunct (xs ++ ys))) (length (xs ++ ys))
          (and_left (ltb (length (keep is_conjunct (xs ++ ys))) (length (xs ++ ys))) _ e),
    )
sensible_node T (dependent k cs l r) h e = tt

module _ (ws : List ℕ) (f : Formed ws) (small : Every (λ w. w < 2 ^ 32) ws) where
  -- a node of well-formed words
  sensible_at : (n : ℕ) → n < nodes ws → Sensible (tables ws) (node_at ws n)
  sensible_at n h =
      let v : NodeFacts ws n = facts_at ws f n h in
      let o = operator_again (left ws n) (right ws n) (kind ws n) (items_of ws n) (operator ws n) v.low v.high in
      let l = left_again (left ws n) (right ws n) (kind ws n) (items_of ws n) (operator ws n) v.low v.high in
      let i = items_again (left ws n) (right ws n) (kind_of (kind ws n)) (items_of ws n) (narrow ws small n) (operator ws n) v.low v.high v.sorts in
      sensible_node (tables ws) (node_at ws n) (rw (o, l) v.left_table) (rw (o, i) v.sorts)

  -- all of them, and their constants fit a word
  pub plan_fits : Every (Fit (tables ws)) (nodes_of ws)
  plan_fits = every_both (every_mapped (node_at ws) (every_map sensible_at (upto_below (nodes ws)))) (storable ws small)
