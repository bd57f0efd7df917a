-- A line and the lines behind the first, read step by step.
use mathlib.Core.Path.{◌≡◌, refl, sym, ap, ◌∙◌}
use mathlib.Core.Bool.{Bool, true, false, cond, ◌&&◌, ◌||◌}
use mathlib.Core.List.{List, [], ◌∷◌, ◌++◌, append_assoc, append-nil}
use Prim.Native.Nat.{ℕ, suc, ◌+◌, ◌-◌, ◌%◌, ◌^◌, ◌<◌, ◌≤◌}
use native.Mathlib.Omega.{arith}
use native.Mathlib.Numerals.{add-one}
use borrow.Author.Tests.{eq-eqb, ne_eqb, eqb-true, eqb-false}
use lib.Dec.{eqb}
use lib.ListN.{length, get_or, drop, set, length-append, get_or-append, drop_of_length-le}
use lib.Seq.{sets, get_or_at}
use Rattle.text.specs.declared.form.Form.{Form}
use Rattle.text.specs.Reading.{Counts, Front, found, bad, and_then, word_in, constant_in, field_in, words_in, line_in, node_form, forms, Lines, right, wrong, behind, lines_in}
use Rattle.std.specs.Prelude.{Some, Ok}
use Rattle.text.specs.Steps.{LineRead, BodyRead}
use Rattle.text.proofs.Laws.Places.{sets_append}
use Rattle.text.proofs.Laws.Fields.{word_is}
use Rattle.text.proofs.Laws.Forms.{forms_count, form_next, constant_here}
use Rattle.text.proofs.Laws.Digits.{minus_constant}

-- ---- a constant with a minus

module _ (text : List ℕ) (at b : ℕ) (is : b ≡ get_or text at 0) (minus : b ≡ 45) (e : ℕ) where
  pub minus_found : (v next : ℕ) → word_in 1 (2 ^ 31) e (drop (at + 1) text) ≡ found v (drop next text) → {w : ℕ} → (w + v) % 2 ^ 32 ≡ 0 → w < 2 ^ 32
      → constant_in e (drop at text) ≡ found w (drop next text)
  minus_found v next said {w} h u =
      let r = word_is 1 (2 ^ 31) e (drop (at + 1) text) v (drop next text) said in
      let q : w ≡ 2 ^ 32 - v = omega (arith, r.0, r.1) in
      rw q (minus_constant text at b is e minus ∙ rw said)

  pub minus_bad : word_in 1 (2 ^ 31) e (drop (at + 1) text) ≡ bad → constant_in e (drop at text) ≡ bad
  minus_bad said = minus_constant text at b is e minus ∙ rw said

-- ---- a line

-- the first j words of a line are read and stored
pub record LineSoFar (text : List ℕ) (at : ℕ) (form : Form) (entry : List ℕ) (to : ℕ) (words : List ℕ) (j next last before : ℕ) : Type 0 where
  pub xs : List ℕ
  pub many : length xs ≡ j
  pub stored : words ≡ sets entry to xs
  pub goes_on : line_in form (drop at text) ≡ words_in form (form.count - j) xs (drop next text)
  pub last_is : 1 ≤ j → last ≡ get_or xs (j - 1) 0
  pub before_is : 2 ≤ j → before ≡ get_or xs (j - 2) 0

last_byte : (j count : ℕ) → j < count → cond (eqb (count - suc j) 0) 10 32 ≡ cond {A = ℕ} (eqb (j + 1) count) 10 32
last_byte j count h = by_test (eqb (j + 1) count) refl
  where
    by_test : (b : Bool) → eqb (j + 1) count ≡ b → cond (eqb (count - suc j) 0) 10 32 ≡ cond {A = ℕ} b 10 32
    by_test true q = rw (eq-eqb (count - suc j) 0 (omega (arith, eqb-true (j + 1) count q)))
    by_test false q = rw (ne_eqb (count - suc j) 0 (λ z. eqb-false (j + 1) count q (omega arith)))

module _ (text : List ℕ) (at : ℕ) (form : Form) (entry : List ℕ) (to : ℕ) (words : List ℕ) (j next last before : ℕ) (s : LineSoFar text at form entry to words j next last before) (more : j < form.count) where
  -- the field that is read next
  abbrev Here : Bool → ℕ → Front ℕ
  Here constant e = cond constant (constant_in e (drop next text)) (word_in form.low form.high e (drop next text))

  next_field : (constant : Bool) (e : ℕ) → constant ≡ (form.item && ((eqb j 3 || eqb j 6) && eqb before 2)) → e ≡ cond (eqb (j + 1) form.count) 10 32
      → line_in form (drop at text) ≡ and_then (Here constant e) (λ w rest. words_in form (form.count - suc j) (s.xs ++ (w ∷ [])) rest)
  unfolding field_in words_in
  next_field constant e c b =
      let left : form.count - j ≡ suc (form.count - suc j) = omega arith in
      s.goes_on ∙ rw (left, last_byte j form.count more, c, b, constant_here s.xs j before s.many s.before_is)

  module _ {constant : Bool} {e : ℕ} (c : constant ≡ (form.item && ((eqb j 3 || eqb j 6) && eqb before 2))) (b : e ≡ cond (eqb (j + 1) form.count) 10 32) where
    pub line_bad : Here constant e ≡ bad → line_in form (drop at text) ≡ bad
    line_bad said = next_field constant e c b ∙ rw said

    pub line_more : {w place : ℕ} → Here constant e ≡ found w (drop place text) → {exit : List ℕ} → exit ≡ set words (to + j) w → LineSoFar text at form entry to exit (j + 1) place w last
    line_more {w} {place} said {exit} x = record {
      xs = s.xs ++ (w ∷ []);
      many = length-append s.xs (w ∷ []) ∙ omega (arith, s.many);
      stored = x ∙ rw s.stored (sym (sets_append entry to s.xs (w ∷ []) ∙ rw s.many));
      goes_on = next_field constant e c b ∙ rw (said, add-one j);
      last_is = λ h. sym (get_or_at s.xs w [] 0 (j + 1 - 1) (omega (arith, s.many)));
      before_is = λ h. rw (s.last_is (omega arith)) (sym (get_or-append s.xs (w ∷ []) 0 (j + 1 - 2) (omega (arith, s.many)) ∙ ap (λ (k : ℕ). get_or s.xs k 0) {x = j + 1 - 2} {y = j - 1} (omega arith)));
    }

pub line_end : (text : List ℕ) (at : ℕ) (form : Form) (entry : List ℕ) (to : ℕ) (words : List ℕ) (j next last before : ℕ)
    → LineSoFar text at form entry to words j next last before → form.count ≤ j → j ≤ form.count → next ≤ length text → LineRead text at form entry to words (Some next)
unfolding words_in
line_end text at form entry to words j next last before s h l n =
    let none : form.count - j ≡ 0 = omega arith in
    (n, (s.xs, s.many ∙ omega arith, s.goes_on ∙ rw none, s.stored))

-- ---- the lines behind the first

behind_behind : (xs ys : List ℕ) (l : Lines) → behind xs (behind ys l) ≡ behind (xs ++ ys) l
behind_behind xs ys (right ws rest) = ap (λ (zs : List ℕ). right zs rest) (sym (append_assoc xs ys ws))
behind_behind xs ys (wrong k) = refl

-- the first k of them are read and stored
pub record BodySoFar (text : List ℕ) (at : ℕ) (s : Counts) (entry words : List ℕ) (k next to : ℕ) : Type 0 where
  pub ws : List ℕ
  pub long : to ≡ 8 + length ws
  pub stored : words ≡ sets entry 8 ws
  pub goes_on : lines_in (forms s) 2 (drop at text) ≡ behind ws (lines_in (drop k (forms s)) (2 + k) (drop next text))

module _ (text : List ℕ) (at : ℕ) (s : Counts) (entry words : List ℕ) (k next to : ℕ) (b : BodySoFar text at s entry words k next to) (more : k < 1 + s.nodes + s.items) (form : Form) (is : form ≡ get_or (forms s) k node_form) where
  pub body_bad : line_in form (drop next text) ≡ bad → lines_in (forms s) 2 (drop at text) ≡ wrong (2 + k)
  unfolding lines_in
  body_bad h = b.goes_on ∙ rw (form_next s k form is more, h)

  pub body_more : {exit : List ℕ} {place : ℕ} → LineRead text next form words to exit (Some place) → BodySoFar text at s entry exit (k + 1) place (to + form.count)
  unfolding lines_in
  body_more {exit} {place} l =
      let xs = l.1.0 in
      let many = l.1.1 in
      record {
        ws = b.ws ++ xs;
        long = omega (arith, b.long, length-append b.ws xs, many);
        stored = l.1.3 ∙ rw (b.stored, b.long) (sym (sets_append entry 8 b.ws xs));
        goes_on =
            b.goes_on ∙ rw (form_next s k form is more, l.1.2)
            (behind_behind b.ws xs (lines_in (drop (k + 1) (forms s)) (suc (2 + k)) (drop place text)) ∙ ap (λ (i : ℕ). behind (b.ws ++ xs) (lines_in (drop (k + 1) (forms s)) i (drop place text))) {x = suc (2 + k)} {y = 2 + (k + 1)} (omega arith));
      }

pub body_end : (text : List ℕ) (at : ℕ) (s : Counts) (entry words : List ℕ) (k next to : ℕ) → BodySoFar text at s entry words k next to → 1 + s.nodes + s.items ≤ k → next ≤ length text → to < 65536
    → BodyRead text at s entry words (Ok (next, to))
unfolding lines_in
body_end text at s entry words k next to b h n t =
    let none : drop k (forms s) ≡ [] = drop_of_length-le (forms s) {i = k} (omega (arith, forms_count s)) in
    (n, t, (b.ws, omega (arith, b.long), b.goes_on ∙ rw none (ap (λ (zs : List ℕ). right zs (drop next text)) (append-nil b.ws)), b.stored))
