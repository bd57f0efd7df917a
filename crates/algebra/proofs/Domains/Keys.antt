-- The columns of a domain: where a read column stands in it, and that each row of its left side has one row in it.
use mathlib.Core.Path.{◌∙◌, ◌≡◌, ap, refl, sym}
use mathlib.Core.Bool.{Bool, cond, false, true}
use mathlib.Core.List.{List, [], ◌++◌, ◌∷◌, append-nil, map}
use Prim.Native.Nat.{◌+◌, ◌<◌, ◌≤◌, suc, zero, ℕ}
use native.Mathlib.Omega.{arith}
use native.Mathlib.Numerals.{add-one}
use lib.Dec.{ltb}
use lib.ListN.{get_or, length, length-append, length-map, take}
use lib.Seq.{take_all}
use borrow.Author.Tests.{ltb-true, ltb-false, lt-ltb, le-ltb}
use Rattle.algebra.specs.Lists.{Every, done, keep, more, upto}
use Rattle.algebra.specs.Value.{Row, null}
use Rattle.algebra.specs.Operators.{distinct, grouped, picked}
use Rattle.algebra.specs.Domains.{below}
use Rattle.algebra.proofs.Lists.Every.{every_append, every_back, every_front, every_head, every_keep, every_map, every_of, every_unmapped, map_agree}
use Rattle.algebra.proofs.Lists.Keep.{keep_all, keep_append, map_append, map_cong, map_id, map_map}
use Rattle.algebra.proofs.Lists.Distinct.{Once, once_distinct}
use Rattle.algebra.proofs.Columns.Picked.{get_d_past, picked_upto}

pub upto_below : (n : ℕ) → Every (λ q. q < n) (upto n)
upto_below zero = done
upto_below (suc n) = every_append (every_map (λ q h. omega arith) (upto_below n)) (more (omega arith) done)

pub upto_all : {P : ℕ → Type 0} (n : ℕ) → Every P (upto n) → (q : ℕ) → q < n → P q
upto_all zero t q h = absurd (omega arith)
upto_all {P} (suc n) t q h = go (ltb q n) refl (λ g. upto_all n (every_front (upto n) _ t) q g)
  where
    go : (b : Bool) → ltb q n ≡ b → (q < n → P q) → P q
    go true e f = f (ltb-true q n e)
    go false e f =
        let l = ltb-false q n e in
        let s : q ≡ n = omega arith in rw s (every_head (every_back (upto n) (n ∷ []) t))

-- one more column above all others
below_snoc : (ks : List ℕ) (n q : ℕ) → q ≤ n → below (ks ++ (n ∷ [])) q ≡ below ks q
below_snoc ks n q h = rw (keep_append (λ j. ltb j q) ks (n ∷ []), le-ltb n q h, append-nil)

below_last : (ks : List ℕ) (n : ℕ) → Every (λ q. q < n) ks → below ks n ≡ length ks
below_last ks n t = rw (keep_all (λ j. ltb j n) (every_map (λ q h. lt-ltb q n h) t))

ranks_snoc : (ks : List ℕ) (n : ℕ) → Every (λ q. q < n) ks → map (below ks) ks ≡ upto (length ks)
    → map (below (ks ++ (n ∷ []))) (ks ++ (n ∷ [])) ≡ upto (length (ks ++ (n ∷ [])))
ranks_snoc ks n t e =
    map_append _ ks (n ∷ [])
    ∙ rw (map_cong (below (ks ++ (n ∷ []))) (below ks) (every_map (λ q (h : q < n). below_snoc ks n q (omega arith)) t), e, below_snoc ks n n (omega arith), below_last ks n t, length-append ks (n ∷ []), add-one)

-- the places of the kept columns are 0, 1, ..
pub ranks : (p : ℕ → Bool) (n : ℕ) → map (below (keep p (upto n))) (keep p (upto n)) ≡ upto (length (keep p (upto n)))
ranks p zero = refl
ranks p (suc n) = rw (keep_append p (upto n) (n ∷ [])) (go (p n) (ranks p n))
  where
    go : (b : Bool) → map (below (keep p (upto n))) (keep p (upto n)) ≡ upto (length (keep p (upto n)))
        → map (below (keep p (upto n) ++ cond b (n ∷ []) [])) (keep p (upto n) ++ cond b (n ∷ []) []) ≡ upto (length (keep p (upto n) ++ cond b (n ∷ []) []))
    go true e = ranks_snoc (keep p (upto n)) n (every_keep p (upto_below n)) e
    go false e = rw append-nil e

-- what a list of columns with such places picks
module _ (ks : List ℕ) (e : map (below ks) ks ≡ upto (length ks)) where
  pub picked_ranks : (w : ℕ) (x y : Row) → length x ≡ w → length ks ≤ length y → picked (map (λ q. w + below ks q) ks) (x ++ y) ≡ take (length ks) y
  picked_ranks w x y lx h =
      map_map _ _ ks
      ∙ map_cong _ (λ q. get_or y (below ks q) null) (every_of (λ q. get_d_past x y _ _ (rw lx)) ks)
      ∙ sym (map_map (λ i. get_or y i null) (below ks) ks)
      ∙ ap (λ (l : List ℕ). picked l y) e
      ∙ picked_upto (length ks) y h

  pub at_rank : (x : Row) → Every (λ q. get_or (picked ks x) (below ks q) null ≡ get_or x q null) ks
  at_rank x =
      map_agree _ _ ks
      (sym (map_map (λ i. get_or (picked ks x) i null) (below ks) ks)
      ∙ ap (λ (l : List ℕ). picked l (picked ks x)) e
      ∙ picked_upto (length ks) (picked ks x) (rw length-map (omega arith))
      ∙ take_all (length ks) (picked ks x) (rw length-map (omega arith)))

  pub rank_below : Every (λ q. below ks q < length ks) ks
  rank_below = every_unmapped {P = λ i. i < length ks} (below ks) ks (rw e (upto_below (length ks)))

-- ---- the rows of a domain

pub grouped_once : (ks : List ℕ) (xs : List Row) → Every (λ x. Once (grouped ks [] xs) (picked ks x)) xs
grouped_once [] xs = every_of (λ x. refl) xs
grouped_once (k ∷ ks) xs =
    rw (map_id (λ K. K ++ []) (every_of append-nil (distinct (map (picked (k ∷ ks)) xs))))
    (every_unmapped (picked (k ∷ ks)) xs (once_distinct (map (picked (k ∷ ks)) xs)))
