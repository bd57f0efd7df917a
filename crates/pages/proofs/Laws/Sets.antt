-- Sets of positions: shifts of one, the count of what is below a position, and the list of a set's members.
use mathlib.Core.Path.{◌≡◌, refl, ap, sym, ◌∙◌}
use mathlib.Core.Bool.{Bool, true, false, cond, ◌||◌}
use mathlib.Core.List.{List, [], ◌∷◌, ◌++◌}
use Prim.Native.Nat.{ℕ, zero, suc, ◌+◌, ◌-◌, ◌*◌, ◌/◌, ◌%◌, ◌^◌, ◌<◌, ◌≤◌, max, min}
use native.Mathlib.Omega.{arith}
use native.Mathlib.Nat.{one-mul, mod-lt, div-eq_of_lt, zero-div}
use native.Mathlib.Numerals.{one-add}
use lib.Dec.{eqb, ltb}
use lib.ListN.{length, length-append}
use lib.Pow.{pow_pos, pow_mono, pow-lt, pow-add, shl_exact, shl-shr, mod-pow-add, ones_split, high, ones_lt}
use lib.Bits.{bit_or, or_shr, or_step}
use lib.Count.{ones, ones_in, ones_cat}
use borrow.Author.Tests.{lt-ltb, le-ltb, ltb-true, ltb-false, eqb-true, eqb-false}
use Rattle.algebra.specs.Lists.{keep, upto}
use Rattle.algebra.specs.Domains.{below}
use Rattle.algebra.proofs.Lists.Keep.{keep_append}
use Rattle.pages.specs.declared.sets.ColumnSet.{ColumnSet}
use Rattle.pages.specs.declared.sets.TheConstants.ColumnSet.{EMPTY, ALL}
use Rattle.pages.specs.Sets.{bit_of, in_set, rank, members}

-- 1 << p at 64 bits
pub shifted : (p : ℕ) → p < 64 → (1 * 2 ^ p) % 2 ^ 64 ≡ 2 ^ p
shifted p h = shl_exact 1 p 64 (omega arith) (omega arith) ∙ one-mul (2 ^ p)

-- ---- bits

bit_lt : (s : ColumnSet) (p : ℕ) → bit_of s p < 2
bit_lt s p = omega arith

-- nothing stands past 64
bit_past : (s : ColumnSet) (p : ℕ) → s.bits < 2 ^ 64 → 64 ≤ p → bit_of s p ≡ 0
bit_past s p f h =
    let g : 2 ^ 64 ≤ 2 ^ p = pow_mono h in
    let e : s.bits / 2 ^ p ≡ 0 = div-eq_of_lt (omega arith) in rw e

pub out_past : (s : ColumnSet) (p : ℕ) → s.bits < 2 ^ 64 → 64 ≤ p → false ≡ in_set s p
out_past s p f h = rw (bit_past s p f h)

ones_bit : (b : ℕ) → b < 2 → ones b ≡ b
unfolding ones ones_in
ones_bit zero h = refl
ones_bit (suc zero) h = refl
ones_bit (suc (suc b)) h = absurd (omega arith)

-- ---- the count

-- the ones of what stands below p are the positions below p
pub ones_rank : (s : ColumnSet) (p : ℕ) → ones (s.bits % 2 ^ p) ≡ rank s p
unfolding rank ones ones_in
ones_rank s zero = let e : s.bits % 1 ≡ 0 = omega arith in rw e
ones_rank s (suc p) =
    let e : s.bits % 2 ^ (1 + p) ≡ (s.bits / 2 ^ p % 2 ^ 1) * 2 ^ p + s.bits % 2 ^ p = mod-pow-add s.bits 1 p in
    let f : s.bits % 2 ^ suc p ≡ bit_of s p * 2 ^ p + s.bits % 2 ^ p = rw one-add at e in
    let g : ones (bit_of s p * 2 ^ p + s.bits % 2 ^ p) ≡ ones (bit_of s p) + ones (s.bits % 2 ^ p) = ones_cat p (bit_of s p) (s.bits % 2 ^ p) (mod-lt s.bits (pow_pos p)) in
    rw f (g ∙ omega (arith, ones_bit (bit_of s p) (bit_lt s p), ones_rank s p))

pub rank_le : (s : ColumnSet) (p : ℕ) → rank s p ≤ p
unfolding rank
rank_le s zero = omega arith
rank_le s (suc p) = omega (arith, rank_le s p, bit_lt s p)

pub rank_step : (s : ColumnSet) (q : ℕ) → rank s (suc q) ≡ rank s q + bit_of s q
unfolding rank
rank_step s q = refl

-- past 64 the count is that of all
pub rank_past : (s : ColumnSet) (q : ℕ) → s.bits < 2 ^ 64 → 64 ≤ q → rank s q ≡ rank s 64
rank_past s zero f h = absurd (omega arith)
rank_past s (suc q) f h = go (ltb q 64) refl (rank_past s q f)
  where
    go : (b : Bool) → ltb q 64 ≡ b → (64 ≤ q → rank s q ≡ rank s 64) → rank s (suc q) ≡ rank s 64
    go true t before = let e : suc q ≡ 64 = omega (arith, ltb-true q 64 t) in ap (rank s) e
    go false t before = let g = ltb-false q 64 t in omega (arith, rank_step s q, before g, bit_past s q f g)

pub rank_few : (s : ColumnSet) (q : ℕ) → s.bits < 2 ^ 64 → rank s q ≤ 64
rank_few s q f = go (ltb q 64) refl
  where
    go : (b : Bool) → ltb q 64 ≡ b → rank s q ≤ 64
    go true t = omega (arith, rank_le s q, ltb-true q 64 t)
    go false t = omega (arith, rank_le s 64, rank_past s q f (ltb-false q 64 t))

-- what the code counts: all ones
pub ones_all : (s : ColumnSet) (q : ℕ) → s.bits < 2 ^ 64 → 64 ≤ q → ones s.bits ≡ rank s q
ones_all s q f h = let e : s.bits % 2 ^ 64 ≡ s.bits = omega arith in ap ones (sym e) ∙ ones_rank s 64 ∙ sym (rank_past s q f h)

-- nothing stands in the empty set
pub rank_none : (q : ℕ) → rank EMPTY q ≡ 0
unfolding rank
rank_none zero = refl
rank_none (suc q) = rw (rank_none q, zero-div (2 ^ q))

-- every position stands in the full set
full_bit : (p : ℕ) → p < 64 → bit_of ALL p ≡ 1
full_bit p h = go (63 - p) (omega arith)
  where
    go : (k : ℕ) → k + p ≡ 63 → bit_of ALL p ≡ 1
    go k e =
        let f : suc k + p ≡ 64 = omega arith in
        let g : 18446744073709551615 ≡ (2 ^ suc k - 1) * 2 ^ p + (2 ^ p - 1) = ap (λ (n : ℕ). 2 ^ n - 1) (sym f) ∙ ones_split (suc k) p in
        let i : 18446744073709551615 / 2 ^ p ≡ 2 ^ suc k - 1 = ap (λ (n : ℕ). n / 2 ^ p) g ∙ high (2 ^ suc k - 1) p (ones_lt p) in
        rw i (omega (arith, pow_pos k))

pub rank_full : (q : ℕ) → q ≤ 64 → rank ALL q ≡ q
unfolding rank
rank_full zero h = refl
rank_full (suc q) h = omega (arith, rank_full q (omega arith), full_bit q h)

-- ---- the list of a set's members

count_step : (s : ColumnSet) (n : ℕ) (b : Bool) → in_set s n ≡ b → length (cond b (n ∷ []) []) ≡ bit_of s n
count_step s n true e = sym (eqb-true (bit_of s n) 1 e)
count_step s n false e = let f = eqb-false (bit_of s n) 1 e in omega (arith, bit_lt s n)

count : (s : ColumnSet) (n : ℕ) → length (keep (in_set s) (upto n)) ≡ rank s n
unfolding rank
count s zero = refl
count s (suc n) = rw (keep_append (in_set s) (upto n) (n ∷ []), length-append) (omega (arith, count s n, count_step s n (in_set s n) refl))

pub length_members : (s : ColumnSet) → length (members s) ≡ rank s 64
length_members s = count s 64

below_append : (xs ys : List ℕ) (q : ℕ) → below (xs ++ ys) q ≡ below xs q + below ys q
below_append xs ys q = rw (keep_append (λ k. ltb k q) xs ys, length-append)

-- one position more is below q, or not
below_step : (q n : ℕ) (b : Bool) → n < q → below (cond b (n ∷ []) []) q ≡ length (cond b (n ∷ []) [])
below_step q n true h = rw (lt-ltb n q h)
below_step q n false h = refl

below_none : (q n : ℕ) (b : Bool) → q ≤ n → below (cond b (n ∷ []) []) q ≡ 0
below_none q n true h = rw (le-ltb n q h)
below_none q n false h = refl

count_below : (s : ColumnSet) (q n : ℕ) → below (keep (in_set s) (upto n)) q ≡ rank s (min q n)
unfolding rank
count_below s q zero = let e : min q 0 ≡ 0 = omega arith in rw e
count_below s q (suc n) =
    rw (keep_append (in_set s) (upto n) (n ∷ []))
    (below_append (keep (in_set s) (upto n)) (cond (in_set s n) (n ∷ []) []) q ∙ go (ltb n q) refl (count_below s q n))
  where
    go : (b : Bool) → ltb n q ≡ b → below (keep (in_set s) (upto n)) q ≡ rank s (min q n)
        → below (keep (in_set s) (upto n)) q + below (cond (in_set s n) (n ∷ []) []) q ≡ rank s (min q (suc n))
    go true t e =
        let h = ltb-true n q t in
        let f : min q (suc n) ≡ suc n = omega arith in
        let g : min q n ≡ n = omega arith in
        rw (e, f, g) (omega (arith, below_step q n (in_set s n) h, count_step s n (in_set s n) refl))
    go false t e =
        let h = ltb-false n q t in
        let f : min q (suc n) ≡ q = omega arith in
        let g : min q n ≡ q = omega arith in
        rw (e, f, g, below_none q n (in_set s n) h) (omega arith)

-- a member's place in the list is the count of what is below it
pub below_members : (s : ColumnSet) (q : ℕ) → s.bits < 2 ^ 64 → below (members s) q ≡ rank s q
below_members s q f = count_below s q 64 ∙ go (ltb q 64) refl
  where
    go : (b : Bool) → ltb q 64 ≡ b → rank s (min q 64) ≡ rank s q
    go true t = let e : min q 64 ≡ q = omega (arith, ltb-true q 64 t) in rw e
    go false t =
        let h = ltb-false q 64 t in
        let e : min q 64 ≡ 64 = omega arith in rw e (sym (rank_past s q f h))

-- ---- one position more

abbrev bit : ℕ → ℕ → ℕ
bit a q = (a / 2 ^ q) % 2

bit_or_lem : (a b q : ℕ) → bit (bit_or a b) q ≡ max (bit a q) (bit b q)
bit_or_lem a b q =
    let e : bit_or a b / 2 ^ q ≡ bit_or (a / 2 ^ q) (b / 2 ^ q) = or_shr a b q in
    rw e (omega (arith, or_step (a / 2 ^ q) (b / 2 ^ q)))

bit_one : (p q : ℕ) (b : Bool) → eqb p q ≡ b → bit (2 ^ p) q ≡ cond b 1 0
bit_one p q true e =
    let f : 2 ^ q / 2 ^ q ≡ 1 = rw one-mul at (shl-shr 1 q) in
    rw (eqb-true p q e, f)
bit_one p q false e = go (ltb p q) refl
  where
    go : (b : Bool) → ltb p q ≡ b → bit (2 ^ p) q ≡ 0
    go true t = let f : 2 ^ p / 2 ^ q ≡ 0 = div-eq_of_lt (pow-lt (ltb-true p q t)) in rw f
    go false t =
        let h = ltb-false p q t in
        let n = eqb-false p q e in
        let f : suc (p - suc q) + q ≡ p = omega arith in
        let g : 2 ^ p / 2 ^ q ≡ 2 ^ suc (p - suc q) =
        ap (λ (m : ℕ). 2 ^ m / 2 ^ q) (sym f) ∙ rw (pow-add 2 (suc (p - suc q)) q) (shl-shr (2 ^ suc (p - suc q)) q) in
        rw g (omega arith)

or_bits : (a b q : ℕ) → eqb (bit (bit_or a b) q) 1 ≡ (eqb (bit a q) 1 || eqb (bit b q) 1)
or_bits a b q = rw (bit_or_lem a b q) (go (bit a q) (omega arith) (bit b q) (omega arith))
  where
    go : (x : ℕ) → x < 2 → (y : ℕ) → y < 2 → eqb (max x y) 1 ≡ (eqb x 1 || eqb y 1)
    go zero h zero g = refl
    go zero h (suc zero) g = refl
    go zero h (suc (suc y)) g = absurd (omega arith)
    go (suc zero) h zero g = refl
    go (suc zero) h (suc zero) g = refl
    go (suc zero) h (suc (suc y)) g = absurd (omega arith)
    go (suc (suc x)) h y g = absurd (omega arith)

-- a position is in a union where it is in either
pub in_or : (a b c : ColumnSet) → c.bits ≡ bit_or a.bits b.bits → (q : ℕ) → in_set c q ≡ (in_set a q || in_set b q)
in_or a b c e q = rw e (or_bits a.bits b.bits q)

pub in_with : (s t : ColumnSet) (p : ℕ) → t.bits ≡ bit_or s.bits (2 ^ p) → (q : ℕ) → in_set t q ≡ (in_set s q || eqb p q)
in_with s t p e q = rw e (or_bits s.bits (2 ^ p) q ∙ rw (bit_one p q (eqb p q) refl) (go (eqb p q)))
  where
    go : (b : Bool) → (in_set s q || eqb (cond b 1 0) 1) ≡ (in_set s q || b)
    go true = refl
    go false = refl
