-- The domain of a right side, and whether a right side reads the left row of its dependent join.
use mathlib.Core.Path.{◌∙◌, ◌≡◌, ap, refl, sym}
use mathlib.Core.Bool.{Bool, ◌&&◌, cond, false, not, true, true≢false}
use mathlib.Core.List.{List, [], ◌∷◌}
use Prim.Native.Nat.{◌<◌, suc, zero, ℕ}
use native.Mathlib.Omega.{arith}
use lib.Dec.{eqb, ltb}
use borrow.Author.Tests.{eq-eqb, eqb-false, ltb-false, ltb-true, ne_eqb}
use Rattle.algebra.specs.Lists.{Every, any}
use Rattle.algebra.specs.Columns.{Column, reads_left, shape_at}
use Rattle.algebra.specs.Domains as algebra
use Rattle.algebra.proofs.Lists.Every.{every_head, every_tail}
use Rattle.plan.specs.Words.{nodes, operator, right}
use Rattle.plan.specs.Plan.{nodes_of, widths_of}
use Rattle.plan.specs.Promise.{Accepted}
use Rattle.plan.proofs.Laws.Formed.{facts_at}
use Rattle.pages.specs.declared.domain.Domain.{Domain}
use Rattle.pages.specs.declared.sets.ColumnSet.{ColumnSet}
use Rattle.pages.specs.Sets.{bit_of, in_set, rank}
use Rattle.pages.specs.Domains.{Means}
use Rattle.rules.specs.Reads.{ReadsTable, reads, reads_at, set_at}
use Rattle.pages.proofs.Laws.Sets.{rank_step}
use Rattle.pages.proofs.Laws.Limits.{node_index}
use Rattle.rules.proofs.Laws.InputReads.{reads_small}

-- ---- the domain of a right side

module _ {d : Domain} {m : ℕ} where
  -- past a dependent join
  pub domain_inside : {r : Domain} → ((D : algebra.Domain) → Means d D → Means r (algebra.inside D)) → m ≡ 8
      → (D : algebra.Domain) → Means d D → Means r (cond (eqb m 8) (algebra.inside D) D)
  domain_inside f q D t = rw (eq-eqb m 8 q) (f D t)

  -- elsewhere it is the same
  pub domain_same : (m ≡ 8 → ⊥) → (D : algebra.Domain) → Means d D → Means d (cond (eqb m 8) (algebra.inside D) D)
  domain_same q D t = rw (ne_eqb m 8 q) t

-- ---- a set without members

rank_zero : (s : ColumnSet) (k : ℕ) → rank s k ≡ 0 → (p : ℕ) → p < k → in_set s p ≡ false
rank_zero s zero e p h = absurd (omega arith)
rank_zero s (suc k) e p h = go (ltb p k) refl (rank_zero s k (omega (arith, rank_step s k)) p)
  where
    go : (b : Bool) → ltb p k ≡ b → (p < k → in_set s p ≡ false) → in_set s p ≡ false
    go true t rest = rest (ltb-true p k t)
    go false t rest =
        let q : p ≡ k = omega (arith, ltb-false p k t) in
        let none : bit_of s k ≡ 0 = omega (arith, rank_step s k) in
        rw (q, none)

zero_rank : (s : ColumnSet) (k : ℕ) → ((p : ℕ) → p < k → in_set s p ≡ false) → rank s k ≡ 0
unfolding rank
zero_rank s zero f = refl
zero_rank s (suc k) f =
    let out = eqb-false (bit_of s k) 1 (f k (omega arith)) in
    omega (arith, zero_rank s k (λ p h. f p (omega arith)))

-- ---- a right side that reads its left row

-- none reads it
left_none : (cs : List Column) (p : ℕ) → any (λ c. eqb c.level 0) cs ≡ false → reads cs 0 p ≡ false
left_none [] p e = refl
left_none (c ∷ cs) p e = go (eqb c.level 0) e (left_none cs p)
  where
    go : (b : Bool) → cond b true (any (λ d. eqb d.level 0) cs) ≡ false → (any (λ d. eqb d.level 0) cs ≡ false → reads cs 0 p ≡ false)
        → cond (b && eqb c.position p) true (reads cs 0 p) ≡ false
    go true q rest = absurd (true≢false q)
    go false q rest = rest q

left_all : (cs : List Column) → Every (λ c. c.position < 64) cs → ((p : ℕ) → p < 64 → reads cs 0 p ≡ false) → any (λ c. eqb c.level 0) cs ≡ false
left_all [] s f = refl
left_all (c ∷ cs) s f = go (eqb c.level 0) f (left_all cs (every_tail s))
  where
    go : (b : Bool) → ((p : ℕ) → p < 64 → cond (b && eqb c.position p) true (reads cs 0 p) ≡ false)
        → (((p : ℕ) → p < 64 → reads cs 0 p ≡ false) → any (λ d. eqb d.level 0) cs ≡ false) → cond b true (any (λ d. eqb d.level 0) cs) ≡ false
    go true g rest = absurd (true≢false (rw (eq-eqb c.position c.position refl) at (g c.position (every_head s))))
    go false g rest = rest g

module _ (ws : List ℕ) (a : Accepted ws) (n : ℕ) (h : n < nodes ws) where
  -- another operator
  pub left_unread : (operator ws n ≡ 8 → ⊥) → false ≡ (eqb (operator ws n) 8 && reads_left (shape_at (widths_of ws) (nodes_of ws) (right ws n)))
  left_unread q = rw (ne_eqb (operator ws n) 8 q)

  module _ (q : operator ws n ≡ 8) {r i : ℕ} (er : r ≡ right ws n) (ei : i ≡ r) where
    right_node : right ws n < nodes ws
    right_node = let below = (facts_at ws a.formed n h).right_node (rw q) in omega arith

    pub right_index : i < 256
    right_index = node_index a right_node (ei ∙ er)

    -- the number of positions that the table has
    pub left_read : (table : List (List ColumnSet)) → ReadsTable ws (nodes ws) table → {b : Bool} → b ≡ eqb (rank (set_at table i 0) 64) 0
        → not b ≡ (eqb (operator ws n) 8 && reads_left (shape_at (widths_of ws) (nodes_of ws) (right ws n)))
    left_read table t f =
        rw (f, eq-eqb (operator ws n) 8 q) (go (reads_left (shape_at (widths_of ws) (nodes_of ws) (right ws n))) refl)
      where
        entry : (p : ℕ) → p < 64 → in_set (set_at table i 0) p ≡ reads (reads_at ws (right ws n)) 0 p
        entry p g = rw (ei ∙ er) (t (right ws n) 0 p right_node (omega arith) g)

        go : (b : Bool) → reads_left (shape_at (widths_of ws) (nodes_of ws) (right ws n)) ≡ b → not (eqb (rank (set_at table i 0) 64) 0) ≡ b
        go true u =
            ap not (ne_eqb _ 0 (λ z. true≢false (sym u ∙ left_all (reads_at ws (right ws n)) (reads_small ws a (right ws n) right_node)
            (λ p g. sym (entry p g) ∙ rank_zero (set_at table i 0) 64 z p g))))
        go false u = ap not (eq-eqb _ 0 (zero_rank (set_at table i 0) 64 (λ p g. entry p g ∙ left_none (reads_at ws (right ws n)) p u)))
