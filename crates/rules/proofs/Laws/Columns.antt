-- Columns that are there are there again when references move behind a domain.
use mathlib.Core.Path.{◌∙◌, ◌≡◌, refl, sym}
use mathlib.Core.Bool.{Bool, ◌&&◌, cond, false, true, true≢false}
use mathlib.Core.List.{List, [], ◌++◌, ◌∷◌, map}
use Prim.Native.Nat.{◌+◌, ◌<◌, ◌≤◌, suc, zero, ℕ}
use native.Mathlib.Omega.{arith}
use lib.Dec.{eqb, ltb}
use lib.ListN.{length}
use borrow.Author.Tests.{eq-eqb, lt-ltb, ltb-true}
use Rattle.algebra.specs.Lists.{Every, all, any, done, each, is_empty, more, upto}
use Rattle.algebra.specs.Plan.{Aggregate, Computation, Conjunct, Node, Term, add, column, compute, constant, copy, count, dependent}
use Rattle.algebra.specs.Plan.{group, groupjoin, inputs, join, maximum, minimum, nothing, outer, project, scan, select, subtract, sum}
use Rattle.algebra.specs.Columns.{Column, computation_reads, conjunct_reads, past, past_one, reads_of, term_reads}
use Rattle.algebra.specs.Domains.{Domain, around, below, domain_first, domain_keys, inner_domain, inside, match, move_aggregate}
use Rattle.algebra.specs.Domains.{move_computation, move_conjunct, move_term, shift, shift_both, span, spot, under_both, under_inner}
use Rattle.algebra.specs.Statements.{InLeft}
use Rattle.algebra.proofs.Lists.Same.{and_left, and_right, and_both}
use Rattle.algebra.proofs.Lists.Every.{any_none, any_self, every_append, every_back, every_both, every_front}
use Rattle.algebra.proofs.Lists.Every.{every_head, every_keep, every_map, every_mapped, every_tail, every_uneach, every_unkeep}
use Rattle.algebra.proofs.Tables.Tidy.{closed_back, closed_front}
use Rattle.algebra.proofs.Domains.Keys.{rank_below, ranks, upto_all, upto_below}
use Rattle.plan.specs.Verdict.{aggregate_there, columns_there, computation_there, conjunct_there, term_there}
use Rattle.plan.proofs.Laws.Loops.{all_append, all_of}
use Rattle.plan.proofs.Laws.Numbered.{every_all}

-- ---- tests of all elements

module _ {A : Type 0} (p : A → Bool) where
  -- two lists behind each other
  pub all_both : (xs ys : List A) → all p xs ≡ true → all p ys ≡ true → all p (xs ++ ys) ≡ true
  all_both xs ys e f = all_append p xs ys ∙ and_both (all p xs) (all p ys) e f

module _ (w : ℕ) where
  -- columns of a row of width w
  pub columns_all : {ps : List ℕ} → Every (λ p. p < w) ps → all (λ p. ltb p w) ps ≡ true
  columns_all t = all_of (λ p. ltb p w) (every_map (λ p h. lt-ltb p w h) t)

  -- and the other way round
  pub columns_every : (ps : List ℕ) → all (λ p. ltb p w) ps ≡ true → Every (λ p. p < w) ps
  columns_every ps e = every_map (λ p h. ltb-true p w h) (every_all (λ p. ltb p w) ps e)

-- ---- where moved columns stand

-- n columns from a on
span_there : (a n : ℕ) → Every (λ p. p < a + n) (span a n)
span_there a n = every_mapped (shift a) (every_map (λ q (h : q < n). omega arith) (upto_below n))

-- the columns that a project keeps around m columns
pub around_there : (n m w : ℕ) → all (λ p. ltb p (n + (m + w))) (around n m w) ≡ true
around_there n m w =
    columns_all (n + (m + w))
    (every_append (every_map (λ p (h : p < 0 + n). omega arith) (span_there 0 n)) (every_map (λ p (h : p < n + m + w). omega arith) (span_there (n + m) w)))

-- a position of two rows, with columns in front of each
pub both_below : (w v a b p : ℕ) → p < w + v → shift_both w a b p < a + w + (b + v)
both_below w v a b p h = go (ltb p w) refl
  where
    go : (t : Bool) → ltb p w ≡ t → cond t (a + p) (a + b + p) < a + w + (b + v)
    go true e = omega (arith, ltb-true p w e)
    go false e = omega arith

-- the columns of a domain, then others moved behind them
pub first_there : (D : Domain) (w : ℕ) (ps : List ℕ) → all (λ p. ltb p w) ps ≡ true → all (λ p. ltb p (D.width + w)) (domain_first D ps) ≡ true
first_there D w ps e =
    columns_all (D.width + w)
    (every_append (every_map (λ p (h : p < D.width). omega arith) (upto_below D.width))
    (every_mapped (shift D.width) (every_map (λ p (h : p < w). omega arith) (columns_every w ps e))))

-- aggregates of columns that move
pub aggregates_moved : (f : ℕ → ℕ) (w v : ℕ) → ((p : ℕ) → p < w → f p < v) → (gs : List Aggregate) → all (aggregate_there w) gs ≡ true
    → all (aggregate_there v) (map (move_aggregate f) gs) ≡ true
unfolding aggregate_there
aggregates_moved f w v h gs e = all_of (aggregate_there v) (every_mapped (move_aggregate f) (every_map one (every_all (aggregate_there w) gs e)))
  where
    one : (g : Aggregate) → aggregate_there w g ≡ true → aggregate_there v (move_aggregate f g) ≡ true
    one count t = refl
    one (sum p) t = lt-ltb _ _ (h p (ltb-true _ _ t))
    one (minimum p) t = lt-ltb _ _ (h p (ltb-true _ _ t))
    one (maximum p) t = lt-ltb _ _ (h p (ltb-true _ _ t))

-- ---- outer columns in a domain

-- the outer columns cs stand in D
abbrev pub Held : Domain → List Column → Type 0
Held D cs = Every (λ c. D.place c.level c.position < D.width) cs

-- terms that move to a row of width v, behind D's columns
module _ (D : Domain) (f : ℕ → ℕ) (scope : List ℕ) (w v : ℕ) (local : (p : ℕ) → p < w → f p < v) (wide : D.width ≤ v) where
  -- a term
  term_moved : (t : Term) → term_there scope w t ≡ true → Held D (term_reads t) → term_there [] v (move_term D f t) ≡ true
  unfolding term_there
  term_moved (column p) e h = lt-ltb _ _ (local p (ltb-true _ _ e))
  term_moved (outer l p) e h = let g : D.place l p < D.width = every_head h in lt-ltb (D.place l p) v (omega arith)
  term_moved (constant z) e h = refl
  term_moved nothing e h = refl

  -- two terms
  two_moved : (a b : Term) → (term_there scope w a && term_there scope w b) ≡ true → Held D (term_reads a ++ term_reads b)
      → (term_there [] v (move_term D f a) && term_there [] v (move_term D f b)) ≡ true
  two_moved a b e h =
      and_both (term_there [] v (move_term D f a)) (term_there [] v (move_term D f b))
      (term_moved a (and_left (term_there scope w a) _ e) (every_front (term_reads a) _ h))
      (term_moved b (and_right (term_there scope w a) _ e) (every_back (term_reads a) _ h))

  -- conjuncts
  pub conjuncts_moved : (cs : List Conjunct) → all (conjunct_there scope w) cs ≡ true → Held D (each conjunct_reads cs)
      → all (conjunct_there [] v) (map (move_conjunct D f) cs) ≡ true
  conjuncts_moved [] e h = refl
  conjuncts_moved (c ∷ cs) e h =
      and_both (conjunct_there [] v (move_conjunct D f c)) (all (conjunct_there [] v) (map (move_conjunct D f) cs))
      (two_moved c.first c.second (and_left (conjunct_there scope w c) _ e) (every_front (conjunct_reads c) _ h))
      (conjuncts_moved cs (and_right (conjunct_there scope w c) _ e) (every_back (conjunct_reads c) _ h))

  -- a computation
  pub computation_moved : (c : Computation) → computation_there scope w c ≡ true → Held D (computation_reads c)
      → computation_there [] v (move_computation D f c) ≡ true
  unfolding computation_there
  computation_moved (copy a) e h = term_moved a e h
  computation_moved (add a b) e h = two_moved a b e h
  computation_moved (subtract a b) e h = two_moved a b e h

-- the conjuncts that match a left row with a domain's row
pub match_there : (f g : ℕ → ℕ) (v : ℕ) {ks : List ℕ} → Every (λ k. (f k < v) × (g k < v)) ks → all (conjunct_there [] v) (match f g ks) ≡ true
unfolding term_there
match_there f g v done = refl
match_there f g v (more {x} h t) = rw (lt-ltb (f x) v h.0, lt-ltb (g x) v h.1) (match_there f g v t)

module _ (D : Domain) (scope : List ℕ) (w v : ℕ) (cs : List Conjunct) (e : all (conjunct_there scope (w + v)) cs ≡ true)
    (h : Held D (each conjunct_reads cs)) where
  -- the conjuncts of a join whose right is closed
  pub left_there : all (conjunct_there [] (D.width + w + v)) (map (move_conjunct D (shift D.width)) cs) ≡ true
  left_there = conjuncts_moved D (shift D.width) scope (w + v) (D.width + w + v) (λ p g. omega arith) (omega arith) cs e h

  -- of a join with both sides under D
  pub both_there : all (conjunct_there [] (D.width + w + (D.width + v))) (under_both D w cs) ≡ true
  both_there =
      all_both (conjunct_there [] (D.width + w + (D.width + v))) (match (λ q. q) (λ q. D.width + w + q) (upto D.width)) _
      (match_there _ _ _ (every_map (λ q (g : q < D.width). (omega arith, omega arith)) (upto_below D.width)))
      (conjuncts_moved D (shift_both w D.width D.width) scope (w + v) _ (both_below w v D.width D.width) (omega arith) cs e h)

  -- of a join with the right side under a new domain
  pub inner_there : (ks : List ℕ) → Every (λ q. q < D.width + w) ks → Every (λ q. below ks q < length ks) ks
      → all (conjunct_there [] (D.width + w + (length ks + v))) (under_inner D w ks cs) ≡ true
  inner_there ks low ranked =
      all_both (conjunct_there [] (D.width + w + (length ks + v))) (match (λ q. q) (λ q. D.width + w + below ks q) ks) _
      (match_there _ _ _ (every_map (λ q (g : (q < D.width + w) × (below ks q < length ks)). (omega (arith, g.0), omega (arith, g.1)))
      (every_both low ranked)))
      (conjuncts_moved D (shift_both w D.width (length ks)) scope (w + v) _ (both_below w v D.width (length ks)) (omega arith) cs e h)

-- ---- the domain of a right side

module _ (D : Domain) (w : ℕ) (reads : List Column) where
  -- the keys of a new domain are columns of the left side
  pub keys_below : Every (λ q. q < D.width + w) (domain_keys D w reads)
  keys_below = every_keep _ (upto_below (D.width + w))

  -- and have places in it
  pub keys_ranked : Every (λ q. below (domain_keys D w reads) q < length (domain_keys D w reads)) (domain_keys D w reads)
  keys_ranked = rank_below (domain_keys D w reads) (ranks _ (D.width + w))

  -- a column that the right side reads stands in the row of the left side
  pub spot_below : (l p : ℕ) → InLeft w l p → Held D (past_one l p) → spot D l p < D.width + w
  spot_below zero p i h = omega arith
  spot_below (suc l) p i h = let g : D.place l p < D.width = every_head h in omega arith

  -- and has a place in the new domain
  pub inner_held : (g : ℕ) → Every (λ c. InLeft w c.level c.position) reads → Held D (past reads) → Held (inner_domain D w reads g) reads
  inner_held g il h =
      every_map one
      (every_both (every_both il (every_uneach _ reads h))
      (any_self (λ c e. eqb (spot D c.level c.position) (spot D e.level e.position))
      (λ c. eq-eqb (spot D c.level c.position) (spot D c.level c.position) refl) reads))
    where
      wanted : ℕ → Bool
      wanted q = any (λ c. eqb q (spot D c.level c.position)) reads

      one : (c : Column) → ((InLeft w c.level c.position × Held D (past_one c.level c.position)) × (wanted (spot D c.level c.position) ≡ true))
          → (inner_domain D w reads g).place c.level c.position < (inner_domain D w reads g).width
      one c t =
          upto_all (D.width + w) (every_unkeep wanted (upto (D.width + w)) keys_ranked) (spot D c.level c.position)
          (spot_below c.level c.position t.0.0 t.0.1) t.1

-- a right side that does not read its left row stays under D
pub inside_held : (D : Domain) (reads : List Column) → any (λ c. eqb c.level 0) reads ≡ false → Held D (past reads) → Held (inside D) reads
inside_held D reads e h =
    every_map (λ c t. one c.level c.position t.0 t.1) (every_both (any_none (λ c. eqb c.level 0) reads e) (every_uneach _ reads h))
  where
    one : (l p : ℕ) → eqb l 0 ≡ false → Held D (past_one l p) → (inside D).place l p < D.width
    one zero p t g = absurd (true≢false t)
    one (suc l) p t g = every_head g

-- ---- nodes that read nothing outside

module _ (scope : List ℕ) (w : ℕ) where
  -- a term
  term_closed : (t : Term) → is_empty (term_reads t) ≡ true → term_there scope w t ≡ true → term_there [] w t ≡ true
  unfolding term_there
  term_closed (column p) c e = e
  term_closed (outer l p) c e = absurd (true≢false (sym c))
  term_closed (constant z) c e = refl
  term_closed nothing c e = refl

  -- two terms
  two_closed : (a b : Term) → is_empty (term_reads a ++ term_reads b) ≡ true → (term_there scope w a && term_there scope w b) ≡ true
      → (term_there [] w a && term_there [] w b) ≡ true
  two_closed a b c e =
      and_both (term_there [] w a) (term_there [] w b)
      (term_closed a (closed_front (term_reads a) _ c) (and_left (term_there scope w a) _ e))
      (term_closed b (closed_back (term_reads a) _ c) (and_right (term_there scope w a) _ e))

  -- conjuncts
  conjuncts_closed : (cs : List Conjunct) → is_empty (each conjunct_reads cs) ≡ true → all (conjunct_there scope w) cs ≡ true → all (conjunct_there [] w) cs ≡ true
  conjuncts_closed [] c e = refl
  conjuncts_closed (x ∷ xs) c e =
      and_both (conjunct_there [] w x) (all (conjunct_there [] w) xs)
      (two_closed x.first x.second (closed_front (conjunct_reads x) _ c) (and_left (conjunct_there scope w x) _ e))
      (conjuncts_closed xs (closed_back (conjunct_reads x) _ c) (and_right (conjunct_there scope w x) _ e))

  -- a computation
  computation_closed : (x : Computation) → is_empty (computation_reads x) ≡ true → computation_there scope w x ≡ true → computation_there [] w x ≡ true
  unfolding computation_there
  computation_closed (copy a) c e = term_closed a c e
  computation_closed (add a b) c e = two_closed a b c e
  computation_closed (subtract a b) c e = two_closed a b c e

-- a closed node has its columns wherever it stands
pub columns_closed : (width : ℕ → ℕ) (scope : List ℕ) (at : ℕ → List Column) (n : Node) → is_empty (reads_of at n) ≡ true → columns_there width scope n ≡ true
    → columns_there width [] n ≡ true
unfolding columns_there
columns_closed width scope at (scan t) c e = refl
columns_closed width scope at (select cs i) c e = conjuncts_closed scope _ cs (closed_front (each conjunct_reads cs) _ c) e
columns_closed width scope at (compute x i) c e = computation_closed scope _ x (closed_front (computation_reads x) _ c) e
columns_closed width scope at (project ps i) c e = e
columns_closed width scope at (join k cs l r) c e = conjuncts_closed scope _ cs (closed_front (each conjunct_reads cs) _ c) e
columns_closed width scope at (group ks gs i) c e = e
columns_closed width scope at (groupjoin cs gs l r) c e =
    and_both (all (conjunct_there [] (width l + width r)) cs) (all (aggregate_there (width r)) gs)
    (conjuncts_closed scope _ cs (closed_front (each conjunct_reads cs) _ c) (and_left (all (conjunct_there scope (width l + width r)) cs) _ e))
    (and_right (all (conjunct_there scope (width l + width r)) cs) _ e)
columns_closed width scope at (dependent k cs l r) c e = conjuncts_closed scope _ cs (closed_front (each conjunct_reads cs) _ c) e

-- a node looks only at its inputs' widths
pub columns_same : (a b : ℕ → ℕ) (scope : List ℕ) (n : Node) → Every (λ j. a j ≡ b j) (inputs n) → columns_there a scope n ≡ columns_there b scope n
unfolding columns_there
columns_same a b scope (scan t) h = refl
columns_same a b scope (select cs i) h = rw (every_head h)
columns_same a b scope (compute c i) h = rw (every_head h)
columns_same a b scope (project ps i) h = rw (every_head h)
columns_same a b scope (join k cs l r) h = rw (every_head h, every_head (every_tail h))
columns_same a b scope (group ks gs i) h = rw (every_head h)
columns_same a b scope (groupjoin cs gs l r) h = rw (every_head h, every_head (every_tail h))
columns_same a b scope (dependent k cs l r) h = rw (every_head h, every_head (every_tail h))
