-- Joins under a domain.
use mathlib.Core.Path.{◌∙◌, ◌≡◌, ap, refl, sym}
use mathlib.Core.Bool.{Bool, ◌&&◌, true}
use mathlib.Core.List.{List, [], ◌++◌, ◌∷◌, append_assoc, map}
use Prim.Native.Nat.{◌+◌, ℕ}
use native.Mathlib.Omega.{arith}
use lib.ListN.{drop, length, length-append, length-drop, length-replicate, replicate, replicate-append-replicate, take, take-append-drop}
use lib.Seq.{drop_at}
use Rattle.algebra.specs.Lists.{Every, done, each, is_empty, keep, more}
use Rattle.algebra.specs.Value.{Row, null, same_row}
use Rattle.algebra.specs.Plan.{Aggregate, Kind, anti, inner, left_outer, semi}
use Rattle.algebra.specs.Operators.{aggregates, joined, picked}
use Rattle.algebra.specs.Domains.{move_aggregate, shift, span}
use Rattle.algebra.specs.Statements.{Wide}
use Rattle.algebra.proofs.Lists.Every.{every_keep, every_kept, every_map, every_mapped, every_of}
use Rattle.algebra.proofs.Lists.Keep.{keep_cong, keep_keep, map_cond, map_cong, map_each, map_id, map_map, map_of_each}
use Rattle.algebra.proofs.Lists.Same.{same_eq}
use Rattle.algebra.proofs.Columns.Picked.{picked_around}
use Rattle.algebra.proofs.Columns.Moved.{aggregates_under}
use Rattle.algebra.proofs.Domains.Part.{part, under_each}

-- columns in front of a left row stay in front of what it is joined to
pub joined_front : (kind : Kind) (w : ℕ) (ps : List Row) (a l : Row) → joined kind w ps (a ++ l) ≡ map (λ s. a ++ s) (joined kind w ps l)
joined_front inner w ps a l = simp (map_map, append_assoc)
joined_front semi w ps a l = rw map_cond
joined_front anti w ps a l = rw map_cond
joined_front left_outer w ps a l = simp (map_map, append_assoc)

-- the second set of domain columns is dropped again
abbrev pub dropped : Kind → List ℕ → List Row → List Row
dropped inner ps rs = map (picked ps) rs
dropped semi ps rs = rs
dropped anti ps rs = rs
dropped left_outer ps rs = map (picked ps) rs

pub dropped_each : (kind : Kind) (ps : List ℕ) (f : Row → List Row) (xs : List Row) → dropped kind ps (each f xs) ≡ each (λ x. dropped kind ps (f x)) xs
dropped_each inner ps f xs = map_of_each _ f xs
dropped_each semi ps f xs = refl
dropped_each anti ps f xs = refl
dropped_each left_outer ps f xs = map_of_each _ f xs

is_empty_map : (f : Row → Row) (rs : List Row) → is_empty (map f rs) ≡ is_empty rs
is_empty_map f [] = refl
is_empty_map f (r ∷ rs) = refl

module _ (n m w : ℕ) (x e : Row) (lx : length x ≡ n) (le : length e ≡ m) where
  abbrev kept : List ℕ
  kept = span 0 n ++ span (n + m) w

  around : (rs : List Row) → Wide w rs → map (picked kept) (map (λ r. x ++ r) (map (λ r. e ++ r) rs)) ≡ map (λ r. x ++ r) rs
  around rs ws = simp map_map (map_cong _ _ (every_map (λ r h. picked_around n m w x e r lx le h) ws))

  pub joined_dropped : (kind : Kind) (rs : List Row) → Wide w rs → dropped kind kept (joined kind (m + w) (map (λ r. e ++ r) rs) x) ≡ joined kind w rs x
  joined_dropped inner rs ws = around rs ws
  joined_dropped semi rs ws = rw is_empty_map
  joined_dropped anti rs ws = rw is_empty_map
  joined_dropped left_outer [] ws =
      rw (← replicate-append-replicate m w null, picked_around n m w x (replicate m null) (replicate w null) lx (length-replicate m null) (length-replicate w null))
  joined_dropped left_outer (r ∷ rs) ws = around (r ∷ rs) ws

-- rows that all begin with e
rejoin : (m : ℕ) (e : Row) (t : Row → Bool) {zs : List Row} → Every (λ z. same_row e (take m z) ≡ true) zs
    → keep t zs ≡ map (λ r. e ++ r) (keep (λ r. t (e ++ r)) (map (drop m) zs))
rejoin m e t done = refl
rejoin m e t (more {x = z} h hs) =
    let s : e ++ drop m z ≡ z = rw (same_eq e (take m z) h) (take-append-drop m z) in
    rw (map_cond, s, rejoin m e t hs)

drop_front : (m : ℕ) (e : Row) (rs : List Row) → length e ≡ m → map (drop m) (map (λ r. e ++ r) rs) ≡ rs
drop_front m e rs le = map_map _ _ rs ∙ map_id _ (every_of (λ r. drop_at e r m le) rs)

-- the partners of a row that are under a domain: those of its key
partners_part : (m : ℕ) (e : Row) (q t : Row → Bool) (ys : List Row) → Every (λ y. q y ≡ ((same_row e (take m y)) && (t y))) ys
    → keep q ys ≡ map (λ r. e ++ r) (keep (λ r. t (e ++ r)) (part m e ys))
partners_part m e q t ys h = keep_cong q _ h ∙ sym (keep_keep t _ ys) ∙ rejoin m e t (every_kept _ ys)

wide_part : (m w : ℕ) (e : Row) {ys : List Row} → Wide (m + w) ys → Wide w (part m e ys)
wide_part m w e ws = every_mapped (drop m) (every_keep _ (every_map (λ y (h : length y ≡ m + w). rw length-drop (omega arith)) ws))

module _ (d wl m wr : ℕ) (k : Row) (key : Row → Row) (q t : Row → Row → Bool) (P : Row → Type 0) (right : Row → List Row) (test : Row → Row → Bool) (xs ys : List Row)
    (lk : (x : Row) → length x ≡ d + wl → length (key x) ≡ m)
    (hq : (x y : Row) → length x ≡ d + wl → length y ≡ m + wr → q x y ≡ ((same_row (key x) (take m y)) && (t x y)))
    (hp : (l : Row) → length l ≡ wl → P (k ++ l) → part m (key (k ++ l)) ys ≡ right l)
    (ht : (l r : Row) → length l ≡ wl → length r ≡ wr → t (k ++ l) (key (k ++ l) ++ r) ≡ test l r)
    (wx : Wide (d + wl) xs) (wy : Wide (m + wr) ys) (px : Every P xs) where
  abbrev those : Row → List Row
  those x = keep (λ r. t x (key x ++ r)) (part m (key x) ys)

  found : (x : Row) → length x ≡ d + wl → keep (q x) ys ≡ map (λ r. key x ++ r) (those x)
  found x lx = partners_part m (key x) (q x) (t x) ys (every_map (λ y h. hq x y lx h) wy)

  same_partners : (l : Row) → length l ≡ wl → P (k ++ l) → those (k ++ l) ≡ keep (test l) (right l)
  same_partners l ll pl = keep_cong _ (test l) (every_map (λ r h. ht l r ll h) (wide_part m wr (key (k ++ l)) wy)) ∙ rw (hp l ll pl)

  pub under_join : (kind : Kind)
      → part d k (dropped kind (span 0 (d + wl) ++ span (d + wl + m) wr) (each (λ x. joined kind (m + wr) (keep (q x) ys) x) xs)) ≡ each (λ l. joined kind wr (keep (test l) (right l)) l) (part d k xs)
  under_join kind =
      ap (part d k) (dropped_each kind _ _ xs)
      ∙ under_each d wl k P _ (λ a l. joined kind wr (those (a ++ l)) l) _ front (λ l ll pl. rw (same_partners l ll pl)) wx px
    where
      front : (a l : Row) → length a ≡ d → length l ≡ wl
          → dropped kind (span 0 (d + wl) ++ span (d + wl + m) wr) (joined kind (m + wr) (keep (q (a ++ l)) ys) (a ++ l)) ≡ map (λ s. a ++ s) (joined kind wr (those (a ++ l)) l)
      front a l la ll =
          let lx : length (a ++ l) ≡ d + wl = simp length-append (omega arith) in
          rw (found (a ++ l) lx)
          (joined_dropped (d + wl) m wr (a ++ l) (key (a ++ l)) lx (lk (a ++ l) lx) kind (those (a ++ l)) (every_keep _ (wide_part m wr (key (a ++ l)) wy))
          ∙ joined_front kind wr (those (a ++ l)) a l)

  pub under_groupjoin : (gs : List Aggregate)
      → part d k (map (λ x. x ++ aggregates (map (move_aggregate (shift m)) gs) (keep (q x) ys)) xs) ≡ map (λ l. l ++ aggregates gs (keep (test l) (right l))) (part d k xs)
  under_groupjoin gs =
      ap (part d k) (map_each _ xs)
      ∙ under_each d wl k P (λ x. (x ++ aggregates (map (move_aggregate (shift m)) gs) (keep (q x) ys)) ∷ []) (λ a l. (l ++ aggregates gs (those (a ++ l))) ∷ []) (λ l. (l ++ aggregates gs (keep (test l) (right l))) ∷ []) front (λ l ll pl. rw (same_partners l ll pl)) wx px
      ∙ sym (map_each _ (part d k xs))
    where
      front : (a l : Row) → length a ≡ d → length l ≡ wl
          → ◌≡◌ {A = List Row} ((a ++ l ++ aggregates (map (move_aggregate (shift m)) gs) (keep (q (a ++ l)) ys)) ∷ []) (map (λ s. a ++ s) ((l ++ aggregates gs (those (a ++ l))) ∷ []))
      front a l la ll =
          let lx : length (a ++ l) ≡ d + wl = simp length-append (omega arith) in
          rw (found (a ++ l) lx, aggregates_under m gs (map (λ r. key (a ++ l) ++ r) (those (a ++ l))), drop_front m (key (a ++ l)) (those (a ++ l)) (lk (a ++ l) lx), append_assoc)
