-- Where the picked columns of a row stand.
use mathlib.Core.Path.{◌∙◌, ◌≡◌, refl}
use mathlib.Core.List.{List, ◌++◌, append_assoc, map}
use Prim.Native.Nat.{◌+◌, ◌≤◌, suc, zero, ℕ}
use native.Mathlib.Omega.{arith}
use lib.ListN.{drop, get_or, length, length-append, length-drop, take}
use lib.Seq.{drop_at, get_or-append-add, get_or-drop, take_all, take_at, take-suc}
use Rattle.algebra.specs.Lists.{upto}
use Rattle.algebra.specs.Value.{Row, null}
use Rattle.algebra.specs.Operators.{picked}
use Rattle.algebra.specs.Domains.{shift, span}
use Rattle.algebra.proofs.Lists.Keep.{map_append, map_map}

-- ---- positions

-- past the first list
pub get_d_past : (xs ys : Row) (n i : ℕ) → n ≡ length xs + i → get_or (xs ++ ys) n null ≡ get_or ys i null
get_d_past xs ys n i e = rw e (get_or-append-add xs ys i null)

pub length_upto : (n : ℕ) → length (upto n) ≡ n
length_upto zero = refl
length_upto (suc n) = simp (length-append, length_upto n) (omega arith)

pub picked_upto : (n : ℕ) (x : Row) → n ≤ length x → picked (upto n) x ≡ take n x
picked_upto zero x h = refl
picked_upto (suc n) x h = map_append _ (upto n) _ ∙ rw (picked_upto n x (omega arith), take-suc x n null)

pub picked_span : (n w : ℕ) (x : Row) → n + w ≤ length x → picked (span n w) x ≡ take w (drop n x)
picked_span n w x h = simp (map_map, ← get_or-drop) (picked_upto w (drop n x) (simp length-drop (omega arith)))

pub picked_shift : (d : ℕ) (ps : List ℕ) (x : Row) → picked (map (shift d) ps) x ≡ picked ps (drop d x)
picked_shift d ps x = simp (map_map, get_or-drop)

-- the columns of a domain, then others
pub picked_split : (d : ℕ) (ps : List ℕ) (x : Row) → d ≤ length x → picked (upto d ++ map (shift d) ps) x ≡ take d x ++ picked ps (drop d x)
picked_split d ps x h = map_append _ (upto d) _ ∙ rw (picked_upto d x h, picked_shift d ps x)

pub picked_under : (d : ℕ) (ps : List ℕ) (a r : Row) → length a ≡ d → picked (upto d ++ map (shift d) ps) (a ++ r) ≡ a ++ picked ps r
picked_under d ps a r e = picked_split d ps (a ++ r) (simp length-append (omega arith)) ∙ rw (take_at a r d e, drop_at a r d e)

-- a row without the columns between
pub picked_around : (n m w : ℕ) (x b r : Row) → length x ≡ n → length b ≡ m → length r ≡ w → picked (span 0 n ++ span (n + m) w) (x ++ (b ++ r)) ≡ x ++ r
picked_around n m w x b r ex eb er =
    let y = x ++ (b ++ r) in
    let len : length y ≡ n + m + w = simp length-append (omega arith) in
    map_append _ (span 0 n) _
    ∙ rw (picked_span 0 n y (omega arith), picked_span (n + m) w y (omega arith), take_at x (b ++ r) n ex, ← append_assoc x b r, drop_at (x ++ b) r (n + m) (simp length-append (omega arith)), take_all w r (omega arith))
