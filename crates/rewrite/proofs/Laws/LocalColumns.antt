-- Plans without dependent joins whose nodes mention columns of their inputs only.
use mathlib.Core.Path.{◌≡◌, refl, sym}
use mathlib.Core.Bool.{◌&&◌, true, true≢false}
use mathlib.Core.List.{List, [], ◌++◌, ◌∷◌, append_assoc, append-nil}
use Prim.Native.Nat.{◌+◌, ◌<◌, suc, ℕ}
use native.Mathlib.Nat.{add-zero, zero-add}
use native.Mathlib.Omega.{arith}
use lib.ListN.{get_or, length, length-append}
use borrow.Author.Tests.{ltb-true}
use Rattle.algebra.specs.Lists.{Every, all, done, each, is_empty, more}
use Rattle.algebra.specs.Plan.{Computation, Conjunct, Node, Term, add, column, compute, constant, copy, dependent}
use Rattle.algebra.specs.Plan.{group, groupjoin, inputs, join, nothing, outer, project, scan, select, subtract}
use Rattle.algebra.specs.Columns.{computation_reads, conjunct_reads, term_reads}
use Rattle.algebra.specs.Statements.{Plain}
use Rattle.algebra.proofs.Lists.Same.{and_left, and_right}
use Rattle.algebra.proofs.Lists.Every.{every_append, every_head, every_tail}
use Rattle.algebra.proofs.Tables.Tidy.{Ordered, Tidy, closed_append, closed_back, closed_front, no_node, one_more}
use Rattle.plan.specs.Verdict.{columns_there, computation_there, conjunct_there, term_there}
use Rattle.plan.specs.Encoding.{computation_terms, conjunct_terms, terms_of}
use Rattle.plan.proofs.Laws.Meets.{Levelled, Placed}
use Rattle.rewrite.proofs.Laws.Sensible.{Sensible}

-- ---- where nothing stands around, no outer column exists

module _ (w : ℕ) where
  -- a term
  term_local : (t : Term) → term_there [] w t ≡ true → is_empty (term_reads t) ≡ true
  unfolding term_there
  term_local (column p) e = refl
  term_local (outer l p) e = absurd (omega (arith, ltb-true p 0 e))
  term_local (constant z) e = refl
  term_local nothing e = refl

  -- two terms
  two_local : (a b : Term) → (term_there [] w a && term_there [] w b) ≡ true → is_empty (term_reads a ++ term_reads b) ≡ true
  two_local a b e = closed_append (term_reads a) (term_reads b) (term_local a (and_left (term_there [] w a) _ e)) (term_local b (and_right (term_there [] w a) _ e))

  -- conjuncts
  conjuncts_local : (cs : List Conjunct) → all (conjunct_there [] w) cs ≡ true → is_empty (each conjunct_reads cs) ≡ true
  conjuncts_local [] e = refl
  conjuncts_local (c ∷ cs) e =
      closed_append (conjunct_reads c) _ (two_local c.first c.second (and_left (conjunct_there [] w c) _ e))
      (conjuncts_local cs (and_right (conjunct_there [] w c) _ e))

  -- a computation
  computation_local : (c : Computation) → computation_there [] w c ≡ true → is_empty (computation_reads c) ≡ true
  unfolding computation_there
  computation_local (copy a) e = term_local a e
  computation_local (add a b) e = two_local a b e
  computation_local (subtract a b) e = two_local a b e

-- a node that is no dependent join, its inputs before it, its columns there
pub tidy_node : (width : ℕ → ℕ) (c : ℕ) (n : Node) → Plain n → Every (λ j. j < c) (inputs n) → columns_there width [] n ≡ true → Tidy c n
unfolding columns_there
tidy_node width c (scan t) p b e = tt
tidy_node width c (select cs i) p b e = (every_head b, conjuncts_local _ cs e)
tidy_node width c (compute x i) p b e = (every_head b, computation_local _ x e)
tidy_node width c (project ps i) p b e = every_head b
tidy_node width c (join k cs l r) p b e = (every_head b, every_head (every_tail b), conjuncts_local _ cs e)
tidy_node width c (group ks gs i) p b e = every_head b
tidy_node width c (groupjoin cs gs l r) p b e =
    (every_head b, every_head (every_tail b), conjuncts_local _ cs (and_left (all (conjunct_there [] (width l + width r)) cs) _ e))
tidy_node width c (dependent k cs l r) p b e = absurd p

-- ---- all nodes

module _ (d : Node) where
  -- nodes that may stand behind those of front
  ordered_behind : (front ns : List Node) → Ordered front → ((i : ℕ) → i < length ns → Tidy (length front + i) (get_or ns i d)) → Ordered (front ++ ns)
  ordered_behind front [] o h = rw append-nil o
  ordered_behind front (n ∷ ns) o h =
      rw append_assoc at
      (ordered_behind (front ++ (n ∷ [])) ns (one_more front n o (rw add-zero at (h 0 (omega arith)))) (λ i l. next i (h (suc i) (omega arith))))
    where
      next : (i : ℕ) → Tidy (length front + suc i) (get_or ns i d) → Tidy (length (front ++ (n ∷ [])) + i) (get_or ns i d)
      next i t = let q : length (front ++ (n ∷ [])) + i ≡ length front + suc i = rw length-append (omega arith) in rw q t

  -- nodes each of which may stand where it does
  pub ordered_all : (ns : List Node) → ((i : ℕ) → i < length ns → Tidy i (get_or ns i d)) → Ordered ns
  ordered_all ns h = ordered_behind [] ns no_node (λ i l. rw zero-add (h i l))

-- ---- what the check of the nodes asks

-- a sensible node behind n others stands where it may
pub sensible_placed : (T n : ℕ) (x : Node) → Sensible T x → Every (λ j. j < n) (inputs x) → Placed T n x
sensible_placed T n (scan t) h b = h
sensible_placed T n (select cs i) h b = every_head b
sensible_placed T n (compute c i) h b = every_head b
sensible_placed T n (project ps i) h b = (every_head b, h)
sensible_placed T n (join k cs l r) h b = (every_head b, every_head (every_tail b))
sensible_placed T n (group ks gs i) h b = (every_head b, h)
sensible_placed T n (groupjoin cs gs l r) h b = (every_head b, every_head (every_tail b), h)
sensible_placed T n (dependent k cs l r) h b = (every_head b, every_head (every_tail b))

-- a term that reads nothing outside has no level
term_levelled : (t : Term) → is_empty (term_reads t) ≡ true → Levelled t
term_levelled (column p) e = tt
term_levelled (outer l p) e = absurd (true≢false (sym e))
term_levelled (constant z) e = tt
term_levelled nothing e = tt

-- two terms
two_levelled : (a b : Term) → is_empty (term_reads a ++ term_reads b) ≡ true → Every Levelled (a ∷ b ∷ [])
two_levelled a b e = more (term_levelled a (closed_front (term_reads a) _ e)) (more (term_levelled b (closed_back (term_reads a) _ e)) done)

-- conjuncts
conjuncts_levelled : (cs : List Conjunct) → is_empty (each conjunct_reads cs) ≡ true → Every Levelled (each conjunct_terms cs)
conjuncts_levelled [] e = done
conjuncts_levelled (c ∷ cs) e =
    every_append (two_levelled c.first c.second (closed_front (conjunct_reads c) _ e)) (conjuncts_levelled cs (closed_back (conjunct_reads c) _ e))

-- a computation
computation_levelled : (c : Computation) → is_empty (computation_reads c) ≡ true → Every Levelled (computation_terms c)
computation_levelled (copy a) e = more (term_levelled a e) done
computation_levelled (add a b) e = two_levelled a b e
computation_levelled (subtract a b) e = two_levelled a b e

-- a node
tidy_levelled : (c : ℕ) (n : Node) → Tidy c n → Every Levelled (terms_of n)
tidy_levelled c (scan t) h = done
tidy_levelled c (select cs i) h = conjuncts_levelled cs h.1
tidy_levelled c (compute x i) h = computation_levelled x h.1
tidy_levelled c (project ps i) h = done
tidy_levelled c (join k cs l r) h = conjuncts_levelled cs h.2
tidy_levelled c (group ks gs i) h = done
tidy_levelled c (groupjoin cs gs l r) h = conjuncts_levelled cs h.2
tidy_levelled c (dependent k cs l r) h = absurd h

-- nodes that mention local columns only have no level
pub ordered_levelled : {ns : List Node} → Ordered ns → Every (λ n. Every Levelled (terms_of n)) ns
ordered_levelled no_node = done
ordered_levelled (one_more out n t h) = every_append (ordered_levelled t) (more (tidy_levelled (length out) n h) done)
