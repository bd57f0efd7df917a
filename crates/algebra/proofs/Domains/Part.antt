-- Rows under a domain: those whose first d columns are k, without those columns.
use mathlib.Core.Path.{◌∙◌, ◌≡◌, refl, sym}
use mathlib.Core.Bool.{Bool, cond, false, true}
use mathlib.Core.List.{List, [], ◌++◌, ◌∷◌, map}
use Prim.Native.Nat.{◌+◌, ℕ}
use native.Mathlib.Omega.{arith}
use lib.ListN.{drop, length, length-drop, length-take, take, take-append-drop}
use lib.Seq.{drop_at, take_at}
use Rattle.algebra.specs.Lists.{Every, done, each, keep, more}
use Rattle.algebra.specs.Value.{Row, same_row}
use Rattle.algebra.specs.Statements.{Wide}
use Rattle.algebra.proofs.Lists.Every.{every_both, every_map, every_of}
use Rattle.algebra.proofs.Lists.Keep.{keep_all, keep_append, keep_map, keep_none, map_append, map_id, map_map}
use Rattle.algebra.proofs.Lists.Same.{same_eq}

abbrev pub part : ℕ → Row → List Row → List Row
part d k rs = map (drop d) (keep (λ r. same_row k (take d r)) rs)

pub part_append : (d : ℕ) (k : Row) (xs ys : List Row) → part d k (xs ++ ys) ≡ part d k xs ++ part d k ys
part_append d k xs ys = rw (keep_append, map_append)

pub keep_const : {A : Type 0} (b : Bool) (xs : List A) → keep (λ x. b) xs ≡ cond b xs []
keep_const true xs = keep_all _ (every_of (λ x. refl) xs)
keep_const false xs = keep_none _ (every_of (λ x. refl) xs)

-- rows that all begin with a
pub part_front : (d : ℕ) (k a : Row) (rs : List Row) → length a ≡ d → part d k (map (λ r. a ++ r) rs) ≡ cond (same_row k a) rs []
part_front d k a rs e =
    simp (keep_map, map_map, take_at, drop_at) (map_id _ (every_of (λ r. refl) _) ∙ keep_const (same_row k a) rs)

-- under no columns at all
pub part_none : (xs : List Row) → part 0 [] xs ≡ xs
part_none xs = map_id _ (every_of (λ x. refl) _) ∙ keep_all _ (every_of (λ x. refl) xs)

-- ---- operators that go row by row

part_step : (d : ℕ) (k : Row) (e : Row → List Row) (x : Row) (xs zs : List Row) (b : Bool)
    → zs ≡ each e (part d k xs) → cond b (e (drop d x)) [] ++ zs ≡ each e (map (drop d) (cond b (x ∷ keep (λ r. same_row k (take d r)) xs) (keep (λ r. same_row k (take d r)) xs)))
part_step d k e x xs zs true h = rw h
part_step d k e x xs zs false h = h

part_each : (d : ℕ) (k : Row) (E e : Row → List Row) {xs : List Row}
    → Every (λ x. part d k (E x) ≡ cond (same_row k (take d x)) (e (drop d x)) []) xs → part d k (each E xs) ≡ each e (part d k xs)
part_each d k E e done = refl
part_each d k E e (more {x} {xs} h t) =
    part_append d k (E x) (each E xs) ∙ rw h (part_step d k e x xs _ (same_row k (take d x)) (part_each d k E e t))

-- what is the same row by row for the rows that begin with k is the same for all of them
pub under_each : (d w : ℕ) (k : Row) (P : Row → Type 0) (E : Row → List Row) (F : Row → Row → List Row) (e : Row → List Row) {xs : List Row}
    → ((a r : Row) → length a ≡ d → length r ≡ w → E (a ++ r) ≡ map (λ s. a ++ s) (F a r))
    → ((r : Row) → length r ≡ w → P (k ++ r) → F k r ≡ e r)
    → Wide (d + w) xs → Every P xs → part d k (each E xs) ≡ each e (part d k xs)
under_each d w k P E F e f g ws ps = part_each d k E e (every_map row (every_both ws ps))
  where
    begins : (a r : Row) → length a ≡ d → length r ≡ w → P (a ++ r) → (b : Bool) → same_row k a ≡ b → cond b (F a r) [] ≡ cond b (e r) []
    begins a r la lr p true s = let t = same_eq k a s in rw (sym t) (g r lr (rw (sym t) at p))
    begins a r la lr p false s = refl

    split : (a r : Row) → length a ≡ d → length r ≡ w → P (a ++ r) → part d k (E (a ++ r)) ≡ cond (same_row k (take d (a ++ r))) (e (drop d (a ++ r))) []
    split a r la lr p = rw (take_at a r d la, drop_at a r d la, f a r la lr) (part_front d k a (F a r) la ∙ begins a r la lr p (same_row k a) refl)

    row : (x : Row) → (length x ≡ d + w) × P x → part d k (E x) ≡ cond (same_row k (take d x)) (e (drop d x)) []
    row x h =
        rw (take-append-drop d x) at (split (take d x) (drop d x) (simp length-take (omega (arith, h.0))) (simp length-drop (omega (arith, h.0))) (rw (take-append-drop d x) h.1))
