-- A reference to where the same column now stands gives the same value.
use mathlib.Core.Path.{◌∙◌, ◌≡◌, refl, sym}
use mathlib.Core.Bool.{Bool, ◌&&◌, and_assoc, cond, false, true}
use mathlib.Core.List.{List, [], ◌++◌, ◌∷◌, append_assoc, map}
use Prim.Native.Nat.{◌+◌, ◌-◌, ◌<◌, ◌≤◌, ℕ}
use native.Mathlib.Omega.{arith}
use lib.Dec.{ltb}
use lib.ListN.{get_or-append, drop, get_or, length, length-append, length-map, take}
use lib.Seq.{drop_at, get_or-drop, take-append-le}
use borrow.Author.Tests.{ltb-true, ltb-false}
use Rattle.algebra.specs.Lists.{Every, each, upto}
use Rattle.algebra.specs.Value.{Row, holds, null, same_row}
use Rattle.algebra.specs.Plan.{Aggregate, Computation, Conjunct, Term, add, column, constant, copy, count, maximum, minimum, nothing, outer, subtract, sum}
use Rattle.algebra.specs.Operators.{Outer, aggregated, aggregates, column_of, computed, passes, picked, value_of}
use Rattle.algebra.specs.Columns.{Column, computation_reads, conjunct_reads, term_reads}
use Rattle.algebra.specs.Domains.{Domain, match, move_aggregate, move_computation, move_conjunct, move_term, shift, shift_both}
use Rattle.algebra.proofs.Lists.Every.{every_back, every_front, every_head, every_map, every_of}
use Rattle.algebra.proofs.Lists.Keep.{map_id, map_map}
use Rattle.algebra.proofs.Columns.Picked.{get_d_past, picked_span, picked_upto}

-- ---- aggregates over columns behind a domain

pub column_under : (d p : ℕ) (rs : List Row) → column_of (shift d p) rs ≡ column_of p (map (drop d) rs)
column_under d p rs = simp (map_map, get_or-drop)

pub aggregated_under : (d : ℕ) (g : Aggregate) (rs : List Row) → aggregated (move_aggregate (shift d) g) rs ≡ aggregated g (map (drop d) rs)
aggregated_under d count rs = rw length-map
aggregated_under d (sum p) rs = rw (column_under d p rs)
aggregated_under d (minimum p) rs = rw (column_under d p rs)
aggregated_under d (maximum p) rs = rw (column_under d p rs)

pub aggregates_under : (d : ℕ) (gs : List Aggregate) (rs : List Row) → aggregates (map (move_aggregate (shift d)) gs) rs ≡ aggregates gs (map (drop d) rs)
aggregates_under d gs rs = simp (map_map, aggregated_under)

-- ---- terms

-- the outer columns of cs stand in x at their places in D
abbrev pub Outside : Domain → Outer → Row → List Column → Type 0
Outside D o x cs = Every (λ c. get_or x (D.place c.level c.position) null ≡ get_or (get_or o c.level []) c.position null) cs

-- x has at f p what y has at p
module _ (D : Domain) (f : ℕ → ℕ) (o : Outer) (x y : Row) (local : (p : ℕ) → get_or x (f p) null ≡ get_or y p null) where
  pub value_moves : (t : Term) → Outside D o x (term_reads t) → value_of [] x (move_term D f t) ≡ value_of o y t
  value_moves (column p) h = local p
  value_moves (outer l p) h = every_head h
  value_moves (constant z) h = refl
  value_moves nothing h = refl

  pub passes_moves : (cs : List Conjunct) → Outside D o x (each conjunct_reads cs) → passes [] (map (move_conjunct D f) cs) x ≡ passes o cs y
  passes_moves [] h = refl
  passes_moves (c ∷ cs) h =
      let rs = every_front (conjunct_reads c) (each conjunct_reads cs) h in
      rw (value_moves c.first (every_front (term_reads c.first) _ rs), value_moves c.second (every_back (term_reads c.first) _ rs), passes_moves cs (every_back (conjunct_reads c) _ h))

  pub computed_moves : (c : Computation) → Outside D o x (computation_reads c) → computed [] (move_computation D f c) x ≡ computed o c y
  computed_moves (copy a) h = value_moves a h
  computed_moves (add a b) h = rw (value_moves a (every_front (term_reads a) _ h), value_moves b (every_back (term_reads a) _ h))
  computed_moves (subtract a b) h = rw (value_moves a (every_front (term_reads a) _ h), value_moves b (every_back (term_reads a) _ h))

-- ---- conjuncts

pub passes_append : (o : Outer) (cs ds : List Conjunct) (r : Row) → passes o (cs ++ ds) r ≡ ((passes o cs r) && (passes o ds r))
passes_append o [] ds r = refl
passes_append o (c ∷ cs) ds r = rw (passes_append o cs ds r) (sym (and_assoc (holds c.test (value_of o r c.first) (value_of o r c.second)) (passes o cs r) (passes o ds r)))

pub passes_match : (o : Outer) (f g : ℕ → ℕ) (ks : List ℕ) (r : Row) → passes o (match f g ks) r ≡ same_row (picked (map f ks) r) (picked (map g ks) r)
passes_match o f g [] r = refl
passes_match o f g (k ∷ ks) r = rw (passes_match o f g ks r)

-- ---- where columns stand

pub local_shift : (d : ℕ) (a r : Row) → length a ≡ d → (p : ℕ) → get_or (a ++ r) (shift d p) null ≡ get_or r p null
local_shift d a r e p = get_d_past a r (d + p) p (omega arith)

pub local_both : (w d m : ℕ) (a l b r : Row) → length a ≡ d → length l ≡ w → length b ≡ m → (p : ℕ)
    → get_or ((a ++ l) ++ (b ++ r)) (shift_both w d m p) null ≡ get_or (l ++ r) p null
local_both w d m a l b r ea el eb p = go (ltb p w) refl
  where
    go : (t : Bool) → ltb p w ≡ t → get_or ((a ++ l) ++ (b ++ r)) (cond t (d + p) (d + m + p)) null ≡ get_or (l ++ r) p null
    go true e =
        let h : p < length l = omega (arith, ltb-true p w e) in
        rw (append_assoc a l (b ++ r)) (get_d_past a (l ++ (b ++ r)) (d + p) p (omega arith) ∙ get_or-append l (b ++ r) null p h ∙ sym (get_or-append l r null p h))
    go false e =
        let h : w ≤ p = ltb-false p w e in
        rw (← append_assoc (a ++ l) b r) (get_d_past (a ++ l ++ b) r (d + m + p) (p - w) (simp length-append (omega arith)) ∙ sym (get_d_past l r p (p - w) (omega arith)))

-- ---- a domain's row (the && outer) rows

-- the column stands in the domain's row
abbrev pub Fits : Domain → Outer → Row → Column → Type 0
Fits D o k c = (D.place c.level c.position < D.width) × (get_or k (D.place c.level c.position) null ≡ get_or (get_or o c.level []) c.position null)

abbrev pub Agrees : Domain → Outer → Row → List Column → Type 0
Agrees D o k cs = Every (Fits D o k) cs

pub agrees_outside : (D : Domain) (o : Outer) (k r : Row) {cs : List Column} → length k ≡ D.width → Agrees D o k cs → Outside D o (k ++ r) cs
agrees_outside D o k r e t = every_map (λ c (h : Fits D o k c). get_or-append k r null _ (rw e h.0) ∙ h.1) t

-- a test of the columns of a domain in two rows
pub passes_pairs : (o : Outer) (d n : ℕ) (x y : Row) → length x ≡ n → d ≤ n → d ≤ length y
    → passes o (match (λ q. q) (λ q. n + q) (upto d)) (x ++ y) ≡ same_row (take d x) (take d y)
passes_pairs o d n x y e h g =
    let len : length (x ++ y) ≡ n + length y = simp length-append (omega arith) in
    passes_match o _ _ (upto d) (x ++ y)
    ∙ rw (map_id (λ q. q) (every_of (λ q. refl) (upto d)), picked_upto d (x ++ y) (omega arith), take-append-le d x y (omega arith), picked_span n d (x ++ y) (omega arith), drop_at x y n e)
