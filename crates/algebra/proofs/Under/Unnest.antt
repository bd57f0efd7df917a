-- A dependent join whose right side reads its left row: the join of the left side with the right side under a new domain.
use mathlib.Core.Path.{◌∙◌, ◌≡◌, refl}
use mathlib.Core.Bool.{Bool, ◌&&◌, true}
use mathlib.Core.List.{List, [], ◌++◌, ◌∷◌, map}
use Prim.Native.Nat.{◌+◌, ◌<◌, suc, zero, ℕ}
use native.Mathlib.Omega.{arith}
use lib.Dec.{eqb}
use lib.ListN.{get_or-append, get_or, length, length-map, take}
use Rattle.algebra.specs.Lists.{Every, any, each, upto}
use Rattle.algebra.specs.Value.{Row, null, same_row}
use Rattle.algebra.specs.Plan.{Conjunct, Kind}
use Rattle.algebra.specs.Operators.{Outer, grouped, join_rows, passes, picked}
use Rattle.algebra.specs.Columns.{Column, conjunct_reads, past, past_one}
use Rattle.algebra.specs.Domains.{Domain, below, domain_keys, inner_domain, match, move_conjunct, shift_both, span, spot}
use Rattle.algebra.specs.Statements.{InLeft, Wide}
use borrow.Author.Tests.{eq-eqb}
use Rattle.algebra.proofs.Lists.Every.{any_self, every_both, every_head, every_keep, every_map, every_uneach, every_unkeep}
use Rattle.algebra.proofs.Lists.Keep.{map_cong, map_map}
use Rattle.algebra.proofs.Lists.Distinct.{Once}
use Rattle.algebra.proofs.Columns.Picked.{get_d_past}
use Rattle.algebra.proofs.Columns.Moved.{Agrees, Fits, passes_append, passes_match}
use Rattle.algebra.proofs.Domains.Part.{part}
use Rattle.algebra.proofs.Domains.Keys.{at_rank, grouped_once, picked_ranks, rank_below, ranks, upto_all, upto_below}
use Rattle.algebra.proofs.Under.Joins.{dropped, under_join}
use Rattle.algebra.proofs.Under.Operators.{moved_both}

module _ (D : Domain) (o : Outer) (k : Row) (lk : length k ≡ D.width) (wl : ℕ) (reads : List Column) where
  abbrev ks : List ℕ
  ks = domain_keys D wl reads

  -- the value of a column that the right side reads, at its spot in the row of the left side
  spot_value : (l : Row) (v p : ℕ) → length l ≡ wl → InLeft wl v p → Every (Fits D o k) (past_one v p)
      → (spot D v p < D.width + wl) × (get_or (k ++ l) (spot D v p) null ≡ get_or (get_or (l ∷ o) v []) p null)
  spot_value l zero p ll i f = (omega arith, get_d_past k l (D.width + p) p (omega arith))
  spot_value l (suc v) p ll i f =
      let h : Fits D o k (record { level = v; position = p }) = every_head f in
      (omega (arith, h.0), get_or-append k l null (D.place v p) (rw lk h.0) ∙ h.1)

  abbrev wanted : ℕ → Bool
  wanted q = any (λ c. eqb q (spot D c.level c.position)) reads

  ranked : map (below ks) ks ≡ upto (length ks)
  ranked = ranks wanted (D.width + wl)

  -- a column that the right side reads, in the row of the new domain
  at_place : (x : Row) (q : ℕ) → q < D.width + wl → wanted q ≡ true → (below ks q < length ks) × (get_or (picked ks x) (below ks q) null ≡ get_or x q null)
  at_place x = upto_all (D.width + wl) (every_unkeep wanted (upto (D.width + wl)) (every_both (rank_below ks ranked) (at_rank ks ranked x)))

  -- the row of the new domain agrees with the left row (the && outer) rows
  agrees_inner : (g : ℕ) (l : Row) → length l ≡ wl → Every (λ c. InLeft wl c.level c.position) reads → Agrees D o k (past reads)
      → Agrees (inner_domain D wl reads g) (l ∷ o) (picked ks (k ++ l)) reads
  agrees_inner g l ll il ag = every_map one (every_both (every_both il (every_uneach _ reads ag)) (any_self (λ c e. eqb (spot D c.level c.position) (spot D e.level e.position)) (λ c. eq-eqb (spot D c.level c.position) (spot D c.level c.position) refl) reads))
    where
      one : (c : Column) → ((InLeft wl c.level c.position × Every (Fits D o k) (past_one c.level c.position)) × (wanted (spot D c.level c.position) ≡ true))
          → Fits (inner_domain D wl reads g) (l ∷ o) (picked ks (k ++ l)) c
      one c h =
          let v = spot_value l c.level c.position ll h.0.0 h.0.1 in
          let a = at_place (k ++ l) (spot D c.level c.position) v.0 h.1 in
          (a.0, a.1 ∙ v.1)

  module _ (g : ℕ) (wr : ℕ) (right : Outer → List Row) (xs ys : List Row) (wx : Wide (D.width + wl) xs) (wy : Wide (length (domain_keys D wl reads) + wr) ys)
      (hr : (e : Row) (p : Outer) → length e ≡ length (domain_keys D wl reads) → Once (grouped (domain_keys D wl reads) [] xs) e → Agrees (inner_domain D wl reads g) p e reads → part (length (domain_keys D wl reads)) e ys ≡ right p)
      (il : Every (λ c. InLeft wl c.level c.position) reads) (ag : Agrees D o k (past reads)) where
    abbrev conjuncts : List Conjunct → List Conjunct
    conjuncts cs = match (λ q. q) (λ q. D.width + wl + below ks q) ks ++ map (move_conjunct D (shift_both wl D.width (length ks))) cs

    picked_left : (x y : Row) → length x ≡ D.width + wl → picked (map (λ q. q) ks) (x ++ y) ≡ picked ks x
    picked_left x y lx =
        map_map _ _ ks ∙ map_cong _ _ (every_keep wanted (every_map (λ q (h : q < D.width + wl). get_or-append x y null q (omega arith)) (upto_below (D.width + wl))))

    matches : (cs : List Conjunct) (x y : Row) → length x ≡ D.width + wl → length y ≡ length ks + wr
        → passes [] (conjuncts cs) (x ++ y) ≡ ((same_row (picked ks x) (take (length ks) y)) && (passes [] (map (move_conjunct D (shift_both wl D.width (length ks))) cs) (x ++ y)))
    matches cs x y lx ly =
        passes_append [] (match (λ q. q) (λ q. D.width + wl + below ks q) ks) (map (move_conjunct D (shift_both wl D.width (length ks))) cs) (x ++ y)
        ∙ rw (passes_match [] (λ q. q) (λ q. D.width + wl + below ks q) ks (x ++ y), picked_left x y lx, picked_ranks ks ranked (D.width + wl) x y lx (omega arith))

    pub under_unnest : (kind : Kind) (cs : List Conjunct) → Agrees D o k (each conjunct_reads cs)
        → part D.width k (dropped kind (span 0 (D.width + wl) ++ span (D.width + wl + length ks) wr) (join_rows kind (length ks + wr) [] (conjuncts cs) xs (λ x. ys)))
        ≡ join_rows kind wr o cs (part D.width k xs) (λ x. right (x ∷ o))
    under_unnest kind cs h =
        under_join D.width wl (length ks) wr k (picked ks) (λ x y. passes [] (conjuncts cs) (x ++ y)) (λ x y. passes [] (map (move_conjunct D (shift_both wl D.width (length ks))) cs) (x ++ y))
        (λ x. Once (grouped ks [] xs) (picked ks x)) (λ l. right (l ∷ o)) (λ l r. passes o cs (l ++ r)) xs ys
        (λ x lx. length-map ks _) (matches cs)
        (λ l ll once. hr (picked ks (k ++ l)) (l ∷ o) (length-map ks _) once (agrees_inner g l ll il ag))
        (λ l r ll lr. moved_both D o k lk wl (length ks) cs h l (picked ks (k ++ l)) r ll (length-map ks _))
        wx wy (grouped_once ks xs) kind
