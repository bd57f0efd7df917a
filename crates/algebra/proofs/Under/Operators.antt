-- Each operator under a domain: for a row k of it that agrees with the outer rows o, the rows behind k are the operator's rows under o.
use mathlib.Core.Path.{◌∙◌, ◌≡◌, ap, refl, sym}
use mathlib.Core.Bool.{◌&&◌, cond}
use mathlib.Core.List.{List, [], ◌++◌, ◌∷◌, append_assoc, append-nil, map}
use Prim.Native.Nat.{◌+◌, ℕ}
use native.Mathlib.Omega.{arith}
use lib.ListN.{drop, length, take}
use lib.Seq.{length-take-le, take_all, take_at}
use Rattle.algebra.specs.Lists.{each, keep, upto}
use Rattle.algebra.specs.Value.{Row, same_row}
use Rattle.algebra.specs.Plan.{Aggregate, Computation, Conjunct, Kind, inner}
use Rattle.algebra.specs.Operators.{Outer, aggregates, computed, groupjoin_rows, join_rows, joined, partners, passes, picked}
use Rattle.algebra.specs.Columns.{computation_reads, conjunct_reads}
use Rattle.algebra.specs.Domains.{Domain, match, move_aggregate, move_computation, move_conjunct, shift, shift_both, span}
use Rattle.algebra.specs.Statements.{Wide}
use Rattle.algebra.proofs.Lists.Every.{every_map, every_of}
use Rattle.algebra.proofs.Lists.Keep.{keep_all, keep_cong, keep_each, map_cond, map_each}
use Rattle.algebra.proofs.Lists.Distinct.{Once}
use Rattle.algebra.proofs.Columns.Picked.{picked_under}
use Rattle.algebra.proofs.Columns.Moved.{Agrees, aggregates_under, agrees_outside, computed_moves, local_both, local_shift, passes_append, passes_moves, passes_pairs}
use Rattle.algebra.proofs.Domains.Part.{part, under_each}
use Rattle.algebra.proofs.Under.Joins.{dropped, joined_front, under_groupjoin, under_join}

abbrev Any : Row → Type 0
Any x = Unit {0}

-- ---- operators over the rows of the domain itself

module _ (d : ℕ) (k : Row) (ds : List Row) (wide : Wide d ds) (once : Once ds k) where
  part_domain : part d k ds ≡ drop d k ∷ []
  part_domain = ap (map (drop d)) (keep_cong _ (λ x. same_row k x) (every_map (λ x (h : length x ≡ d). rw (take_all d x (omega arith))) wide) ∙ once)

  pub under_domain : (E F : Row → List Row) → ((a : Row) → length a ≡ d → E a ≡ map (λ s. a ++ s) (F a)) → part d k (each E ds) ≡ F k
  under_domain E F f =
      under_each d 0 k Any E (λ a r. F a) (λ r. F k) front (λ r lr p. refl) (every_map (λ x (h : length x ≡ d). omega arith) wide) (every_of (λ x. tt) ds)
      ∙ rw (part_domain, append-nil)
    where
      front : (a r : Row) → length a ≡ d → length r ≡ 0 → E (a ++ r) ≡ map (λ s. a ++ s) (F a)
      front a [] la lr = rw (append-nil a) (f a la)
      front a (v ∷ r) la lr = absurd (omega arith)

  -- a closed node: the inner join with the domain
  pub under_closed : (w : ℕ) (cs : List Row) → part d k (join_rows inner w [] [] ds (λ x. cs)) ≡ cs
  under_closed w cs = under_domain _ (λ a. cs) (λ a la. rw (keep_all _ (every_of (λ r. refl) cs)))

  -- a group without keys: the groupjoin with the domain
  pub under_total : (w : ℕ) (gs : List Aggregate) (xs : List Row) → Wide (d + w) xs
      → part d k (groupjoin_rows [] (match (λ q. q) (λ q. d + q) (upto d)) (map (move_aggregate (shift d)) gs) ds xs) ≡ aggregates gs (part d k xs) ∷ []
  under_total w gs xs ws = ap (part d k) (map_each _ ds) ∙ under_domain _ (λ a. aggregates gs (part d a xs) ∷ []) front
    where
      front : (a : Row) → length a ≡ d
          → ◌≡◌ {A = List Row} ((a ++ aggregates (map (move_aggregate (shift d)) gs) (partners [] (match (λ q. q) (λ q. d + q) (upto d)) xs a)) ∷ []) (map (λ s. a ++ s) (aggregates gs (part d a xs) ∷ []))
      front a la =
          let same : partners [] (match (λ q. q) (λ q. d + q) (upto d)) xs a ≡ keep (λ x. same_row a (take d x)) xs
          = keep_cong _ _ (every_map (λ x (h : length x ≡ d + w). passes_pairs [] d d a x la (omega arith) (omega arith) ∙ rw (take_all d a (omega arith))) ws) in
          rw (same, aggregates_under d gs (keep (λ x. same_row a (take d x)) xs))

-- ---- operators that go row by row

module _ (D : Domain) (o : Outer) (k : Row) (lk : length k ≡ D.width) where
  abbrev d : ℕ
  d = D.width

  moved : (cs : List Conjunct) → Agrees D o k (each conjunct_reads cs) → (r : Row) → passes [] (map (move_conjunct D (shift d)) cs) (k ++ r) ≡ passes o cs r
  moved cs h r = passes_moves D (shift d) o (k ++ r) r (local_shift d k r lk) cs (agrees_outside D o k r lk h)

  moved_partners : (cs : List Conjunct) (ys : List Row) → Agrees D o k (each conjunct_reads cs) → (l : Row)
      → partners [] (map (move_conjunct D (shift d)) cs) ys (k ++ l) ≡ partners o cs ys l
  moved_partners cs ys h l = keep_cong _ _ (every_of (λ r. ap (passes [] (map (move_conjunct D (shift d)) cs)) (append_assoc k l r) ∙ moved cs h (l ++ r)) ys)

  pub moved_both : (wl m : ℕ) (cs : List Conjunct) → Agrees D o k (each conjunct_reads cs) → (l e r : Row) → length l ≡ wl → length e ≡ m
      → passes [] (map (move_conjunct D (shift_both wl d m)) cs) (k ++ l ++ (e ++ r)) ≡ passes o cs (l ++ r)
  moved_both wl m cs h l e r ll le =
      passes_moves D (shift_both wl d m) o _ (l ++ r) (local_both wl d m k l e r lk ll le) cs (rw append_assoc (agrees_outside D o k (l ++ (e ++ r)) lk h))

  module _ (w : ℕ) (xs : List Row) (wx : Wide (D.width + w) xs) where
    -- a map whose new rows begin as the old ones do
    under_map : (f : Row → Row) (g : Row → Row → Row) (h : Row → Row) → ((a r : Row) → length a ≡ d → f (a ++ r) ≡ a ++ g a r) → ((r : Row) → g k r ≡ h r)
        → part d k (map f xs) ≡ map h (part d k xs)
    under_map f g h p q =
        ap (part d k) (map_each f xs)
        ∙ under_each d w k Any (λ r. f r ∷ []) (λ a r. g a r ∷ []) (λ r. h r ∷ []) (λ a r la lr. rw (p a r la)) (λ r lr t. rw (q r)) wx (every_of (λ x. tt) xs)
        ∙ sym (map_each h (part d k xs))

    pub under_select : (cs : List Conjunct) → Agrees D o k (each conjunct_reads cs)
        → part d k (keep (passes [] (map (move_conjunct D (shift d)) cs)) xs) ≡ keep (passes o cs) (part d k xs)
    under_select cs h =
        ap (part d k) (keep_each _ xs)
        ∙ under_each d w k Any (λ r. cond (passes [] (map (move_conjunct D (shift d)) cs) r) (r ∷ []) []) (λ a r. cond (passes [] (map (move_conjunct D (shift d)) cs) (a ++ r)) (r ∷ []) []) (λ r. cond (passes o cs r) (r ∷ []) []) (λ a r la lr. rw map_cond) (λ r lr t. rw (moved cs h r)) wx (every_of (λ x. tt) xs)
        ∙ sym (keep_each _ (part d k xs))

    pub under_compute : (c : Computation) → Agrees D o k (computation_reads c)
        → part d k (map (λ r. r ++ (computed [] (move_computation D (shift d) c) r ∷ [])) xs) ≡ map (λ r. r ++ (computed o c r ∷ [])) (part d k xs)
    under_compute c h =
        under_map _ (λ a r. r ++ (computed [] (move_computation D (shift d) c) (a ++ r) ∷ [])) _ (λ a r la. rw append_assoc)
        (λ r. rw (computed_moves D (shift d) o (k ++ r) r (local_shift d k r lk) c (agrees_outside D o k r lk h)))

    pub under_project : (ps : List ℕ) → part d k (map (picked (upto d ++ map (shift d) ps)) xs) ≡ map (picked ps) (part d k xs)
    under_project ps = under_map _ (λ a r. picked ps r) _ (λ a r la. picked_under d ps a r la) (λ r. refl)

    pub under_join_closed : (kind : Kind) (wr : ℕ) (cs : List Conjunct) (ys : List Row) → Agrees D o k (each conjunct_reads cs)
        → part d k (join_rows kind wr [] (map (move_conjunct D (shift d)) cs) xs (λ x. ys)) ≡ join_rows kind wr o cs (part d k xs) (λ x. ys)
    under_join_closed kind wr cs ys h =
        under_each d w k Any _ (λ a l. joined kind wr (partners [] (map (move_conjunct D (shift d)) cs) ys (a ++ l)) l) _
        (λ a l la ll. joined_front kind wr _ a l)
        (λ l ll t. rw (moved_partners cs ys h l))
        wx (every_of (λ x. tt) xs)

    pub under_groupjoin_closed : (cs : List Conjunct) (gs : List Aggregate) (ys : List Row) → Agrees D o k (each conjunct_reads cs)
        → part d k (groupjoin_rows [] (map (move_conjunct D (shift d)) cs) gs xs ys) ≡ groupjoin_rows o cs gs (part d k xs) ys
    under_groupjoin_closed cs gs ys h =
        under_map _ (λ a l. l ++ aggregates gs (partners [] (map (move_conjunct D (shift d)) cs) ys (a ++ l))) _ (λ a r la. rw append_assoc)
        (λ l. rw (moved_partners cs ys h l))

    -- an open right side, under the same columns: its rows for k are what the right side gives
    module _ (wr : ℕ) (ys : List Row) (wy : Wide (D.width + wr) ys) (right : Row → List Row) (hr : (l : Row) → part D.width k ys ≡ right l) where
      abbrev conjuncts : List Conjunct → List Conjunct
      conjuncts cs = match (λ q. q) (λ q. d + w + q) (upto d) ++ map (move_conjunct D (shift_both w d d)) cs

      matches : (cs : List Conjunct) (x y : Row) → length x ≡ d + w → length y ≡ d + wr
          → passes [] (conjuncts cs) (x ++ y) ≡ ((same_row (take d x) (take d y)) && (passes [] (map (move_conjunct D (shift_both w d d)) cs) (x ++ y)))
      matches cs x y lx ly =
          passes_append [] (match (λ q. q) (λ q. d + w + q) (upto d)) (map (move_conjunct D (shift_both w d d)) cs) (x ++ y)
          ∙ rw (passes_pairs [] d (d + w) x y lx (omega arith) (omega arith))

      key_length : (x : Row) → length x ≡ d + w → length (take d x) ≡ d
      key_length x h = length-take-le d x (omega arith)

      rows_of_lem : (l : Row) → length l ≡ w → Any (k ++ l) → part d (take d (k ++ l)) ys ≡ right l
      rows_of_lem l ll t = rw (take_at k l d lk) (hr l)

      test_of : (cs : List Conjunct) → Agrees D o k (each conjunct_reads cs) → (l r : Row) → length l ≡ w → length r ≡ wr
          → passes [] (map (move_conjunct D (shift_both w d d)) cs) (k ++ l ++ (take d (k ++ l) ++ r)) ≡ passes o cs (l ++ r)
      test_of cs h l r ll lr = rw (take_at k l d lk) (moved_both w d cs h l k r ll lk)

      pub under_join_open : (kind : Kind) (cs : List Conjunct) → Agrees D o k (each conjunct_reads cs)
          → part d k (dropped kind (span 0 (d + w) ++ span (d + w + d) wr) (join_rows kind (d + wr) [] (conjuncts cs) xs (λ x. ys))) ≡ join_rows kind wr o cs (part d k xs) right
      under_join_open kind cs h =
          under_join d w d wr k (take d) (λ x y. passes [] (conjuncts cs) (x ++ y)) (λ x y. passes [] (map (move_conjunct D (shift_both w d d)) cs) (x ++ y)) Any right (λ l r. passes o cs (l ++ r)) xs ys
          key_length (matches cs) rows_of_lem (test_of cs h) wx wy (every_of (λ x. tt) xs) kind

      pub under_groupjoin_open : (cs : List Conjunct) (gs : List Aggregate) → Agrees D o k (each conjunct_reads cs)
          → part d k (groupjoin_rows [] (conjuncts cs) (map (move_aggregate (shift d)) gs) xs ys) ≡ map (λ l. l ++ aggregates gs (partners o cs (right l) l)) (part d k xs)
      under_groupjoin_open cs gs h =
          under_groupjoin d w d wr k (take d) (λ x y. passes [] (conjuncts cs) (x ++ y)) (λ x y. passes [] (map (move_conjunct D (shift_both w d d)) cs) (x ++ y)) Any right (λ l r. passes o cs (l ++ r)) xs ys
          key_length (matches cs) rows_of_lem (test_of cs h) wx wy (every_of (λ x. tt) xs) gs
