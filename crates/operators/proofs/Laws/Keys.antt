-- Rows of the same key, and numbers of rows parted by a test.
use mathlib.Core.Path.{◌∙◌, ◌≡◌, ap, refl, sym}
use mathlib.Core.Bool.{Bool, ◌&&◌, false, not, true}
use mathlib.Core.List.{List, [], ◌++◌, ◌∷◌, append-nil, map}
use mathlib.Core.Logic.{◌⊎◌, inl, inr}
use Prim.Native.Nat.{ℕ, ◌*◌, ◌+◌, ◌-◌, ◌^◌, ◌<◌, ◌≤◌}
use native.Mathlib.Numerals.{add-one}
use native.Mathlib.Omega.{arith}
use lib.IntN.{ℤ}
use lib.ListN.{drop, drop_of_length-le, get_or, length, length-set, set, take}
use lib.Seq.{drop-cons, drop-set-lt, take-suc-set}
use lib.Signed.{mag}
use mir.Syntax.{w64}
use mir.Val.{of_z}
use Rattle.algebra.specs.Lists.{Every, keep}
use Rattle.algebra.specs.Value.{Row, holds, null, same, same_row}
use Rattle.algebra.specs.Operators.{picked}
use Rattle.algebra.proofs.Lists.Same.{same_value_eq, same_value_refl}
use Rattle.store.specs.Cells.{cell, value}
use Rattle.operators.specs.Choice.{same_key}
use Rattle.store.proofs.Laws.Cells.{cell_value}
use Rattle.store.proofs.Laws.Bits.{bits_same}
use Rattle.operators.proofs.Laws.Choices.{next_one, rest_at, rest_next, keep_next}

-- ---- rows of the same key

value_same : (x y : ℤ) → value x ≡ value y → x ≡ y
value_same x y e = sym (cell_value x) ∙ ap cell e ∙ cell_value y

-- two rows agree from key column i on
abbrev pub left_same : List ℕ → Row → Row → ℕ → Bool
left_same ps a b i = same_row (picked (drop i ps) a) (picked (drop i ps) b)

-- rows as parts of a slice
pub part_width : (ps : List ℕ) (rows : List ℤ) (k i w : ℕ) (t : Bool)
    → t ≡ left_same ps (map value (take (k * w + w - k * w) (drop (k * w) rows))) (map value (take (i * w + w - i * w) (drop (i * w) rows))) 0
    → t ≡ same_key rows w ps k i
part_width ps rows k i w t e =
    let x : k * w + w - k * w ≡ w = omega arith in
    let y : i * w + w - i * w ≡ w = omega arith in
    rw (x, y) at e

-- the columns before at agree: what is left decides
module _ (ps : List ℕ) (a b : Row) (at : ℕ) where
  column : at < length ps → drop at ps ≡ get_or ps at 0 ∷ drop (at + 1) ps
  column h = rw (drop-cons ps at 0 h, add-one at)

  agree : at < length ps → get_or a (get_or ps at 0) null ≡ get_or b (get_or ps at 0) null → left_same ps a b at ≡ left_same ps a b (at + 1)
  agree h e = rw (column h, e, same_value_refl (get_or b (get_or ps at 0) null))

  apart : at < length ps → (get_or a (get_or ps at 0) null ≡ get_or b (get_or ps at 0) null → ⊥) → false ≡ left_same ps a b at
  apart h f = rw (column h) (go (holds same (get_or a (get_or ps at 0) null) (get_or b (get_or ps at 0) null)) refl)
    where
      go : (t : Bool) → holds same (get_or a (get_or ps at 0) null) (get_or b (get_or ps at 0) null) ≡ t
          → false ≡ (holds same (get_or a (get_or ps at 0) null) (get_or b (get_or ps at 0) null) && left_same ps a b (at + 1))
      go true e = absurd (f (same_value_eq _ _ e))
      go false e = rw e

  module _ (x y : ℤ) {p : ℕ} (is : p ≡ get_or ps at 0) (first : value x ≡ get_or a p null) (second : value y ≡ get_or b p null) where
    pub key_next : mag x < 2 ^ 63 → mag y < 2 ^ 63 → of_z w64 x ≡ of_z w64 y → at < length ps → left_same ps a b at ≡ left_same ps a b (at + 1)
    key_next h g e l = agree l (rw (← is) (sym first ∙ ap value (bits_same (record { sfits = h }) (record { sfits = g }) e) ∙ second))

    pub key_stop : (of_z w64 x ≡ of_z w64 y → ⊥) → at < length ps → false ≡ left_same ps a b at
    key_stop f l = apart l (λ e. f (ap (of_z w64) (value_same x y (first ∙ (rw is e) ∙ sym second))))

  pub key_end : length ps ≤ at → true ≡ left_same ps a b at
  key_end h = rw (drop_of_length-le ps {i = at} h)

-- ---- numbers parted by a test

-- of the first i of n numbers those that pass stand in f, the others in front of r
pub record Parted (p : ℕ → Bool) (r₀ f₀ : List ℕ) (n : ℕ) (r f : List ℕ) (members others i : ℕ) : Type 0 where
  pub within : i ≤ n
  pub passing : take members f ≡ keep p (take i r₀)
  pub failing : take others r ≡ keep (λ j. not (p j)) (take i r₀)
  pub still : drop i r ≡ drop i r₀
  pub few : members ≤ i
  pub rather : others ≤ i
  pub rest_long : length r ≡ length r₀
  pub found_long : length f ≡ length f₀

module _ (p : ℕ → Bool) (r₀ f₀ : List ℕ) (n : ℕ) where
  pub parted_none : Parted p r₀ f₀ n r₀ f₀ 0 0 0
  parted_none =
      record
      { within = omega arith; passing = refl; failing = refl; still = refl; few = omega arith; rather = omega arith; rest_long = refl; found_long = refl }

  module _ (q : ℕ → Bool) {x i : ℕ} (is : x ≡ get_or r₀ i 0) (h : i < length r₀) where
    keep_in : q x ≡ true → keep q (take (i + 1) r₀) ≡ keep q (take i r₀) ++ (x ∷ [])
    keep_in e = rw (keep_next q r₀ i h, ← is, e)

    keep_out : q x ≡ false → keep q (take (i + 1) r₀) ≡ keep q (take i r₀)
    keep_out e = rw (keep_next q r₀ i h, ← is, e) (append-nil (keep q (take i r₀)))

  module _ {r f : List ℕ} {members others i : ℕ} (inv : Parted p r₀ f₀ n r f members others i) (l : i < n) (g : n ≤ length r₀) where
    -- number i still stands where it was
    pub number_same : get_or r i 0 ≡ get_or r₀ i 0
    number_same = rest_at r r₀ i inv.still

    pub number_has : {P : ℕ → Type 0} → Every P (take n r₀) → {x : ℕ} → x ≡ get_or r i 0 → P x
    number_has t e = rw (e ∙ number_same) (next_one r₀ n t i l g)

    -- it passes
    pub parted_member : {x : ℕ} → x ≡ get_or r i 0 → p x ≡ true → n ≤ length f₀ → Parted p r₀ f₀ n r (set f members x) (members + 1) others (i + 1)
    parted_member {x} is e k =
        let is₀ : x ≡ get_or r₀ i 0 = is ∙ number_same in
        let m : members < length f = omega (arith, inv.found_long, inv.few) in
        let h : i < length r₀ = omega arith in
        record {
          within = omega arith;
          passing = rw (add-one members, take-suc-set f members x m, inv.passing) (sym (keep_in p is₀ h e));
          failing = inv.failing ∙ sym (keep_out (λ j. not (p j)) is₀ h (ap not e));
          still = rest_next r r₀ i inv.still;
          few = omega arith;
          rather = omega arith;
          rest_long = inv.rest_long;
          found_long = rw (length-set f members x) inv.found_long;
        }

    -- it fails
    pub parted_other : {x : ℕ} → x ≡ get_or r i 0 → p x ≡ false → Parted p r₀ f₀ n (set r others x) f members (others + 1) (i + 1)
    parted_other {x} is e =
        let is₀ : x ≡ get_or r₀ i 0 = is ∙ number_same in
        let o : others < length r = omega (arith, inv.rest_long, inv.rather) in
        let h : i < length r₀ = omega arith in
        record {
          within = omega arith;
          passing = inv.passing ∙ sym (keep_out p is₀ h e);
          failing = rw (add-one others, take-suc-set r others x o, inv.failing) (sym (keep_in (λ j. not (p j)) is₀ h (ap not e)));
          still = drop-set-lt (i + 1) r others x (omega arith) ∙ rest_next r r₀ i inv.still;
          few = omega arith;
          rather = omega arith;
          rest_long = rw (length-set r others x) inv.rest_long;
          found_long = inv.found_long;
        }

    -- the number goes one way or the other
    pub parted_next : {r' f' : List ℕ} {members' others' x : ℕ} {t : Bool} → n ≤ length f₀ → x ≡ get_or r i 0 → t ≡ p x
        → ((t ≡ true) × (r' ≡ r) × (f' ≡ set f members (get_or r i 0)) × (members' ≡ members + 1) × (others' ≡ others)) ⊎
        ((t ≡ false) × (r' ≡ set r others (get_or r i 0)) × (f' ≡ f) × (members' ≡ members) × (others' ≡ others + 1))
        → Parted p r₀ f₀ n r' f' members' others' (i + 1)
    parted_next k is says (inl w) = rw (w.1, w.2, w.3, w.4) (parted_member refl (rw (← is, ← says) w.0) k)
    parted_next k is says (inr w) = rw (w.1, w.2, w.3, w.4) (parted_other refl (rw (← is, ← says) w.0))

-- all are parted
pub parted_end : (p : ℕ → Bool) (r₀ f₀ : List ℕ) (n : ℕ) {r f : List ℕ} {members others i : ℕ} → Parted p r₀ f₀ n r f members others i → n ≤ i
    → (take members f ≡ keep p (take n r₀)) × (take others r ≡ keep (λ j. not (p j)) (take n r₀)) × (members ≤ n) × (others ≤ n)
parted_end p r₀ f₀ n {i = i} inv h =
    let q : i ≡ n = omega (arith, inv.within) in
    (rw q at inv.passing, rw q at inv.failing, omega (arith, inv.few), omega (arith, inv.rather))
