-- What the inputs of a node read: low levels, small positions, and where they stand in the domain that the node puts them under.
use mathlib.Core.Path.{◌≡◌, ap, refl, sym}
use mathlib.Core.Bool.{Bool, ◌&&◌, cond, false, true, true≢false}
use mathlib.Core.List.{List, [], ◌++◌, ◌∷◌}
use Prim.Native.Nat.{◌<◌, ◌≤◌, suc, zero, ℕ}
use native.Mathlib.Nat.{zero-add}
use native.Mathlib.Omega.{arith}
use lib.Dec.{eqb}
use lib.ListN.{get_or}
use borrow.Author.Tests.{eq-eqb, eqb-true, ltb-true}
use Rattle.algebra.specs.Lists.{Every, all, done, each, more}
use Rattle.algebra.specs.Plan.{Computation, Conjunct, Kind, Node, Term, add, column, compute, constant, copy}
use Rattle.algebra.specs.Plan.{dependent, group, groupjoin, inputs, join, nothing, outer, project, scan, select, subtract}
use Rattle.algebra.specs.Columns.{Column, Shape, computation_reads, conjunct_reads, past, past_one, reads_left, reads_of, shape_at, term_reads}
use Rattle.algebra.specs.Domains.{Domain, inner_domain, inside}
use Rattle.algebra.specs.Statements.{Fine, InLeft}
use Rattle.algebra.proofs.Lists.Same.{and_left, and_right}
use Rattle.algebra.proofs.Lists.Every.{every_append, every_at, every_back, every_both, every_each, every_front, every_head, every_map, every_tail, every_uneach}
use Rattle.plan.specs.Words.{Item, items_of, kind, left, nodes, operator, right}
use Rattle.plan.specs.Items.{conjuncts_in}
use Rattle.plan.specs.Plan.{computation_in, kind_of, node_at, node_for, nodes_of, widths_of}
use Rattle.plan.specs.Verdict.{columns_right, columns_there, computation_there, conjunct_there, has_right, scope_of, term_there, width_at}
use Rattle.plan.specs.Promise.{Accepted}
use Rattle.plan.proofs.Laws.Formed.{NodeFacts, by_operator, facts_at, inputs_below, mapped_at, nodes_length, shape_of_lem}
use Rattle.rules.specs.Reads.{Spotted, reads_at}
use Rattle.rules.specs.Under.{Within}
use Rattle.algebra.proofs.Tables.Fine.{fine_at}
use Rattle.rules.proofs.Laws.Columns.{inner_held, inside_held, spot_below}
use Rattle.rules.proofs.Laws.ColumnsRead.{reads_low}
use Rattle.pages.proofs.Laws.SmallPositions.{around_narrow}

-- ---- positions are below 64

-- columns with small positions
abbrev Small : List Column → Type 0
Small cs = Every (λ c. c.position < 64) cs

module _ (around : List ℕ) (w : ℕ) (narrow : Every (λ v. v ≤ 64) around) where
  -- a term, two terms, conjuncts and a computation that are there
  term_small : (t : Term) → term_there around w t ≡ true → Small (term_reads t)
  unfolding term_there
  term_small (column p) e = done
  term_small (outer l p) e =
      let a = ltb-true p _ e in
      let b : get_or around l 0 ≤ 64 = every_at 0 (omega arith) narrow l in
      let c : p < 64 = omega arith in
      more c done
  term_small (constant z) e = done
  term_small nothing e = done

  two_small : (a b : Term) → (term_there around w a && term_there around w b) ≡ true → Small (term_reads a ++ term_reads b)
  two_small a b e = every_append (term_small a (and_left (term_there around w a) _ e)) (term_small b (and_right (term_there around w a) _ e))

  conjuncts_small : (cs : List Conjunct) → all (conjunct_there around w) cs ≡ true → Small (each conjunct_reads cs)
  conjuncts_small [] e = done
  conjuncts_small (c ∷ cs) e =
      every_append (two_small c.first c.second (and_left (conjunct_there around w c) _ e)) (conjuncts_small cs (and_right (conjunct_there around w c) _ e))

  computation_small : (c : Computation) → computation_there around w c ≡ true → Small (computation_reads c)
  unfolding computation_there
  computation_small (copy a) e = term_small a e
  computation_small (add a b) e = two_small a b e
  computation_small (subtract a b) e = two_small a b e

past_small : {cs : List Column} → Small cs → Small (past cs)
past_small t = every_each _ (every_map (λ c h. go c.level c.position h) t)
  where
    go : (l p : ℕ) → p < 64 → Small (past_one l p)
    go zero p h = done
    go (suc l) p h = more h done

-- a node that is there, over inputs with small positions
node_small : (width : ℕ → ℕ) (around : List ℕ) → Every (λ v. v ≤ 64) around → (at : ℕ → List Column) (n : Node) → columns_there width around n ≡ true
    → Every (λ i. Small (at i)) (inputs n) → Small (reads_of at n)
unfolding columns_there
node_small width around narrow at (scan t) e s = done
node_small width around narrow at (select cs i) e s = every_append (conjuncts_small around _ narrow cs e) (every_head s)
node_small width around narrow at (compute c i) e s = every_append (computation_small around _ narrow c e) (every_head s)
node_small width around narrow at (project ps i) e s = every_head s
node_small width around narrow at (join k cs l r) e s =
    every_append (conjuncts_small around _ narrow cs e) (every_append (every_head s) (every_head (every_tail s)))
node_small width around narrow at (group ks gs i) e s = every_head s
node_small width around narrow at (groupjoin cs gs l r) e s =
    every_append (conjuncts_small around _ narrow cs (and_left (all (conjunct_there around _) cs) _ e)) (every_append (every_head s) (every_head (every_tail s)))
node_small width around narrow at (dependent k cs l r) e s =
    every_append (conjuncts_small around _ narrow cs e) (every_append (every_head s) (past_small (every_head (every_tail s))))

module _ (ws : List ℕ) (a : Accepted ws) where
  small_within : (bound n : ℕ) → n < bound → n < nodes ws → Small (reads_at ws n)
  unfolding columns_right
  small_within zero n l h = absurd (omega arith)
  small_within (suc bound) n l h =
      rw (ap (λ (s : Shape). s.reads) (shape_of_lem ws a.formed n h))
      (node_small (width_at ws) (scope_of ws n) (around_narrow ws a (nodes ws) n) (reads_at ws) (node_at ws n) (a.columns n h)
      (every_map (λ m g. small_within bound m (omega arith) (omega arith)) (inputs_below ws a.formed n h)))

  -- what a node reads has small positions
  pub reads_small : (n : ℕ) → n < nodes ws → Every (λ c. c.position < 64) (reads_at ws n)
  reads_small n h = small_within (suc n) n (omega arith) h

-- ---- what the inputs read

module _ {P : Column → Type 0} (at : ℕ → List Column) (l r : ℕ) (k : Kind) (xs : List Item) where
  left_of : (o : ℕ) → 1 ≤ o → o ≤ 8 → (o ≡ 1 → ⊥) → Every P (reads_of at (node_for o l r k xs)) → Every P (at l)
  unfolding node_for
  left_of =
      by_operator (λ o. (o ≡ 1 → ⊥) → Every P (reads_of at (node_for o l r k xs)) → Every P (at l))
      (λ q t. absurd (q refl))
      (λ q t. every_back (each conjunct_reads (conjuncts_in xs)) _ t)
      (λ q t. every_back (computation_reads (computation_in xs)) _ t)
      (λ q t. t)
      (λ q t. every_front (at l) _ (every_back (each conjunct_reads (conjuncts_in xs)) _ t))
      (λ q t. t)
      (λ q t. every_front (at l) _ (every_back (each conjunct_reads (conjuncts_in xs)) _ t))
      (λ q t. every_front (at l) _ (every_back (each conjunct_reads (conjuncts_in xs)) _ t))

  right_of_lem : (o : ℕ) → 1 ≤ o → o ≤ 8 → has_right o ≡ true → Every P (reads_of at (node_for o l r k xs)) → Every P (cond (eqb o 8) (past (at r)) (at r))
  unfolding node_for
  right_of_lem =
      by_operator (λ o. has_right o ≡ true → Every P (reads_of at (node_for o l r k xs)) → Every P (cond (eqb o 8) (past (at r)) (at r)))
      (λ e t. absurd (true≢false (sym e)))
      (λ e t. absurd (true≢false (sym e)))
      (λ e t. absurd (true≢false (sym e)))
      (λ e t. absurd (true≢false (sym e)))
      (λ e t. every_back (at l) _ (every_back (each conjunct_reads (conjuncts_in xs)) _ t))
      (λ e t. absurd (true≢false (sym e)))
      (λ e t. every_back (at l) _ (every_back (each conjunct_reads (conjuncts_in xs)) _ t))
      (λ e t. every_back (at l) _ (every_back (each conjunct_reads (conjuncts_in xs)) _ t))

-- ---- what the right side of a dependent join reads of the left row is there

in_left_of : (sh : ℕ → Shape) (c l r : ℕ) (k : Kind) (xs : List Item) (o : ℕ) → o ≡ 8 → Fine sh c (node_for o l r k xs)
    → Every (λ e. InLeft (sh l).width e.level e.position) (sh r).reads
unfolding node_for
in_left_of sh c l r k xs o e f = (rw e at f).2

-- ---- the inputs of an open node

module _ (ws : List ℕ) (a : Accepted ws) (n : ℕ) (h : n < nodes ws) where
  facts : NodeFacts ws n
  facts = facts_at ws a.formed n h

  -- a node may stand where it does
  pub node_fine : Fine (shape_at (widths_of ws) (nodes_of ws)) n (node_at ws n)
  node_fine =
      rw (zero-add, mapped_at (node_at ws) (nodes ws) n 0 h) at
      (fine_at (widths_of ws) (node_at ws 0) [] (nodes_of ws) a.plan.nodes n (rw (nodes_length ws) h))

  -- what it reads stands in D
  module _ (D : Domain) (within : Within D (reads_at ws n)) where
    reads_are : Within D (reads_of (reads_at ws) (node_at ws n))
    reads_are = rw (ap (λ (s : Shape). s.reads) (shape_of_lem ws a.formed n h)) at within

    -- so does what its left input reads
    pub left_within : (operator ws n ≡ 1 → ⊥) → Within D (reads_at ws (left ws n))
    left_within q = left_of (reads_at ws) (left ws n) (right ws n) (kind_of (kind ws n)) (items_of ws n) (operator ws n) facts.low facts.high q reads_are

    module _ (q : has_right (operator ws n) ≡ true) where
      rights : Within D (cond (eqb (operator ws n) 8) (past (reads_at ws (right ws n))) (reads_at ws (right ws n)))
      rights = right_of_lem (reads_at ws) (left ws n) (right ws n) (kind_of (kind ws n)) (items_of ws n) (operator ws n) facts.low facts.high q reads_are

      -- and its right input, where that does not read its left row
      pub right_within : (operator ws n ≡ 8 → reads_left (shape_at (widths_of ws) (nodes_of ws) (right ws n)) ≡ false)
          → Within (cond (eqb (operator ws n) 8) (inside D) D) (reads_at ws (right ws n))
      right_within u = go (eqb (operator ws n) 8) refl rights
        where
          go : (b : Bool) → eqb (operator ws n) 8 ≡ b → Within D (cond b (past (reads_at ws (right ws n))) (reads_at ws (right ws n)))
              → Within (cond b (inside D) D) (reads_at ws (right ws n))
          go true e t = inside_held D (reads_at ws (right ws n)) (u (eqb-true _ _ e)) t
          go false e t = t

    -- a right side that reads its left row
    module _ (o : operator ws n ≡ 8) where
      pub eight_right : has_right (operator ws n) ≡ true
      eight_right = rw o

      past_within : Within D (past (reads_at ws (right ws n)))
      past_within = rw (eq-eqb (operator ws n) 8 o) at (rights eight_right)

      in_left : Every (λ e. InLeft (width_at ws (left ws n)) e.level e.position) (reads_at ws (right ws n))
      in_left = in_left_of (shape_at (widths_of ws) (nodes_of ws)) n (left ws n) (right ws n) (kind_of (kind ws n)) (items_of ws n) (operator ws n) o node_fine

      -- has its columns in the new domain
      pub inner_within : (g : ℕ) → Within (inner_domain D (width_at ws (left ws n)) (reads_at ws (right ws n)) g) (reads_at ws (right ws n))
      inner_within g = inner_held D (width_at ws (left ws n)) (reads_at ws (right ws n)) g in_left past_within

      -- and in the row of the left side
      pub spotted : Spotted D (width_at ws (left ws n)) (reads_at ws (right ws n))
      spotted =
          let below = facts.right_node eight_right in
          every_map (λ c t. (t.0.0, t.0.1, spot_below D (width_at ws (left ws n)) (reads_at ws (right ws n)) c.level c.position t.1.0 t.1.1))
          (every_both (every_both (reads_low ws a.formed (right ws n) (omega arith)) (reads_small ws a (right ws n) (omega arith)))
          (every_both in_left (every_uneach (λ c. past_one c.level c.position) (reads_at ws (right ws n)) past_within)))
