-- Digits read one by one from a place of a text.
use mathlib.Core.Path.{◌≡◌, refl, sym, ap, ◌∙◌}
use mathlib.Core.Bool.{Bool, true, false, cond, ◌&&◌, true≢false}
use mathlib.Core.List.{List, [], ◌∷◌}
use Prim.Native.Nat.{ℕ, ◌+◌, ◌-◌, ◌*◌, ◌^◌, ◌<◌, ◌≤◌}
use native.Mathlib.Omega.{arith}
use borrow.Author.Tests.{eq-eqb, ne_eqb}
use lib.ListN.{length, get_or, drop, drop_of_length-le}
use lib.Seq.{get_or-drop, drop-length}
use Rattle.plan.specs.Items.{between}
use Rattle.plan.proofs.Laws.Header.{between_holds, between_says, between_fails}
use Rattle.text.specs.Reading.{Front, found, bad, and_then, digits_on, number_in, ended_by, word_in, constant_in}
use Rattle.text.proofs.Laws.Places.{inside, behind_place}

-- ---- a number that is not in range, or not ended

module _ (low high e v : ℕ) (bs : List ℕ) where
  pub over_high : high < v → ended_by low high e (found v bs) ≡ bad
  unfolding ended_by
  over_high h = go bs
    where
      go : (l : List ℕ) → ended_by low high e (found v l) ≡ bad
      go [] = refl
      go (x ∷ xs) = rw (between_fails low high v (λ g. omega (arith, g.1)))

  pub under_low : v < low → ended_by low high e (found v bs) ≡ bad
  unfolding ended_by
  under_low h = go bs
    where
      go : (l : List ℕ) → ended_by low high e (found v l) ≡ bad
      go [] = refl
      go (x ∷ xs) = rw (between_fails low high v (λ g. omega (arith, g.0)))

pub over_digits : (low high e : ℕ) (bs : List ℕ) (v : ℕ) → high < v → ended_by low high e (digits_on v bs) ≡ bad
unfolding ended_by digits_on
over_digits low high e [] v h = refl
over_digits low high e (b ∷ bs) v h = go (between 48 57 b) (over_digits low high e bs (10 * v + (b - 48)) (omega arith))
  where
    go : (t : Bool) → ended_by low high e (digits_on (10 * v + (b - 48)) bs) ≡ bad
        → ended_by low high e (cond t (digits_on (10 * v + (b - 48)) bs) (found v (b ∷ bs))) ≡ bad
    go true ih = ih
    go false ih = over_high low high e v (b ∷ bs) h

-- past the end there are no digits
pub digits_out : (text : List ℕ) (i v : ℕ) → length text ≤ i → digits_on v (drop i text) ≡ found v (drop (length text) text)
unfolding digits_on
digits_out text i v h = rw (drop_of_length-le text h, drop-length text)

-- a word is no more than its number
pub no_word : (low high e : ℕ) (bs : List ℕ) → number_in bs ≡ bad → word_in low high e bs ≡ bad
unfolding ended_by
no_word low high e bs h = rw h

module _ (text : List ℕ) (i b : ℕ) (is : b ≡ get_or text i 0) where
  -- what is behind a place is nothing, or b and more
  at_front : (P : List ℕ → Type 0) → P [] → ((bs : List ℕ) → P (b ∷ bs)) → P (drop i text)
  at_front P none some = go (drop i text) (is ∙ sym (get_or-drop i text 0 0 ∙ ap (λ (k : ℕ). get_or text k 0) {y = i} (omega arith)))
    where
      go : (l : List ℕ) → b ≡ get_or l 0 0 → P l
      go [] e = none
      go (x ∷ xs) e = rw (sym e) (some xs)

  -- ---- digits

  pub digits_end : (v : ℕ) → between 48 57 b ≡ false → digits_on v (drop i text) ≡ found v (drop i text)
  unfolding digits_on
  digits_end v h = at_front (λ l. digits_on v l ≡ found v l) refl (λ bs. rw h)

  pub digits_more : (v : ℕ) → between 48 57 b ≡ true → digits_on v (drop i text) ≡ digits_on (10 * v + (b - 48)) (drop (i + 1) text)
  unfolding digits_on
  digits_more v h =
      let n = between_says 48 57 b h in
      rw (behind_place text i b is (inside text i b is (omega (arith, n.0))), h)

  -- ---- a number

  pub no_number : between 48 57 b ≡ false → number_in (drop i text) ≡ bad
  unfolding number_in
  no_number h =
      at_front (λ l. number_in l ≡ bad) refl
      (λ bs.
      rw (ne_eqb b 48 (λ e. clash e), between_fails 49 57 b (λ g. wider g)))
    where
      clash : b ≡ 48 → ⊥
      clash e = true≢false (sym (between_holds 48 57 b (omega (arith, e)) (omega (arith, e))) ∙ h)

      wider : (49 ≤ b) × (b ≤ 57) → ⊥
      wider g = true≢false (sym (between_holds 48 57 b (omega (arith, g.0)) g.1) ∙ h)

  pub zero_number : b ≡ 48 → number_in (drop i text) ≡ found 0 (drop (i + 1) text)
  unfolding number_in
  zero_number h = rw (behind_place text i b is (inside text i b is (omega (arith, h))), eq-eqb b 48 h)

  pub some_number : between 48 57 b ≡ true → (b ≡ 48 → ⊥) → number_in (drop i text) ≡ digits_on (b - 48) (drop (i + 1) text)
  unfolding number_in
  some_number h n =
      let g = between_says 48 57 b h in
      rw (behind_place text i b is (inside text i b is (omega (arith, g.0))), ne_eqb b 48 n, between_holds 49 57 b (omega (arith, g.0, n)) g.1)

  -- ---- a constant

  pub plain_constant : (e : ℕ) → (b ≡ 45 → ⊥) → word_in 0 (2 ^ 31 - 1) e (drop i text) ≡ constant_in e (drop i text)
  unfolding constant_in number_in ended_by
  plain_constant e h = at_front (λ l. word_in 0 (2 ^ 31 - 1) e l ≡ constant_in e l) refl (λ bs. rw (ne_eqb b 45 h))

  pub minus_constant : (e : ℕ) → b ≡ 45
      → constant_in e (drop i text) ≡ and_then (word_in 1 (2 ^ 31) e (drop (i + 1) text)) (λ v rest. found (2 ^ 32 - v) rest)
  unfolding constant_in
  minus_constant e h = rw (behind_place text i b is (inside text i b is (omega (arith, h))), eq-eqb b 45 h)

-- ---- the byte behind a number

module _ (text : List ℕ) (low high e v next : ℕ) where
  pub ends_early : length text ≤ next → ended_by low high e (found v (drop next text)) ≡ bad
  unfolding ended_by
  ends_early h = rw (drop_of_length-le text h)

  module _ (b : ℕ) (is : b ≡ get_or text next 0) (h : next < length text) where
    pub other_end : (b ≡ e → ⊥) → ended_by low high e (found v (drop next text)) ≡ bad
    unfolding ended_by
    other_end n = rw (behind_place text next b is h, ne_eqb b e n) (go (between low high v))
      where
        go : (t : Bool) → cond (t && false) (found v (drop (next + 1) text)) bad ≡ bad
        go true = refl
        go false = refl

    pub right_end : b ≡ e → low ≤ v → v ≤ high → ended_by low high e (found v (drop next text)) ≡ found v (drop (next + 1) text)
    unfolding ended_by
    right_end q l u = rw (behind_place text next b is h, eq-eqb b e q, between_holds low high v l u)

-- ---- what the code knows of a number so far

-- two fronts that are equal say the same
pub said : (high : ℕ) {front other : Front ℕ} → front ≡ other → (low e : ℕ) → ended_by low high e other ≡ ended_by low high e front
said high q low e = sym (ap (λ (f : Front ℕ). ended_by low high e f) q)

-- digits whose value is past high say too much already
pub said_over : (high v : ℕ) (bs : List ℕ) {front : Front ℕ} → front ≡ digits_on v bs → high < v → (low e : ℕ) → ended_by low high e (found v bs) ≡ ended_by low high e front
said_over high v bs q h low e = over_high low high e v bs h ∙ sym (ap (λ (f : Front ℕ). ended_by low high e f) q ∙ over_digits low high e bs v h)
