-- A word as a signed number, and a term by its code.
use mathlib.Core.Path.{◌≡◌, refl, sym, ◌∙◌}
use mathlib.Core.Bool.{Bool, true, false}
use Prim.Native.Nat.{ℕ, suc, ◌-◌, ◌^◌, ◌<◌, ◌≤◌}
use native.Mathlib.Omega.{arith}
use lib.Dec.{ltb}
use lib.IntN.{ℤ, pos, negsuc}
use mir.Syntax.{w32}
use mir.Val.{to_z}
use mir.ValLaws.{to_z_pos, to_z-neg}
use borrow.Author.Tests.{ltb-true, ltb-false, lt-ltb, le-ltb, ne_eqb}
use Rattle.algebra.specs.Plan.{column, outer, constant, nothing}
use Rattle.plan.specs.Words.{Three}
use Rattle.plan.specs.Items.{signed, term_of}

-- below 2^31 a word is itself, from there on it is 2^32 less
pub signed_low : (x : ℕ) → x < 2 ^ 31 → signed x ≡ pos x
unfolding signed
signed_low x h = rw (lt-ltb x (2 ^ 31) h)

pub signed_high : (x : ℕ) → 2 ^ 31 ≤ x → signed x ≡ negsuc (2 ^ 32 - 1 - x)
unfolding signed
signed_high x h = rw (le-ltb x (2 ^ 31) h)

-- the 32 bits read as a signed number
pub read_signed : (w : ℕ) → w < 4294967296 → to_z w32 w ≡ signed w
read_signed w h = go (ltb w 2147483648) refl
  where
    go : (b : Bool) → ltb w 2147483648 ≡ b → to_z w32 w ≡ signed w
    go true e = let h : w < 2147483648 = ltb-true w 2147483648 e in to_z_pos w32 w h ∙ sym (signed_low w h)
    go false e =
        let g : 2147483648 ≤ w = ltb-false w 2147483648 e in
        let back : 4294967296 - suc (4294967295 - w) ≡ w = omega arith in
        (rw back at (to_z-neg w32 (4294967295 - w) (omega arith))) ∙ sym (signed_high w g)

-- a term from its three words, by their code
module _ (t : Three) where
  pub term_local : (p : ℕ) → t.code ≡ 0 → p ≡ t.value → column p ≡ term_of t
  unfolding term_of
  term_local p e q = rw (e, q)

  pub term_outer : (l p : ℕ) → t.code ≡ 1 → l ≡ t.level → p ≡ t.value → outer l p ≡ term_of t
  unfolding term_of
  term_outer l p e f q = rw (e, f, q)

  pub term_constant : (z : ℤ) (x : ℕ) → t.code ≡ 2 → z ≡ signed x → x ≡ t.value → constant z ≡ term_of t
  unfolding term_of
  term_constant z x e f q = rw (e, f, q)

  pub term_null : (t.code ≡ 0 → ⊥) → (t.code ≡ 1 → ⊥) → (t.code ≡ 2 → ⊥) → nothing ≡ term_of t
  unfolding term_of
  term_null f g h = rw (ne_eqb t.code 0 f, ne_eqb t.code 1 g, ne_eqb t.code 2 h)
