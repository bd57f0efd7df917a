-- A number that is written is read again, and what is read was written.
use mathlib.Core.Path.{◌≡◌, refl, sym, ◌∙◌}
use mathlib.Core.Bool.{Bool, true, false, cond, ◌&&◌}
use mathlib.Core.List.{List, [], ◌∷◌, ◌++◌, append_assoc}
use Prim.Native.Nat.{ℕ, zero, suc, ◌+◌, ◌-◌, ◌*◌, ◌/◌, ◌%◌, ◌^◌, ◌<◌, ◌≤◌}
use native.Mathlib.Omega.{arith}
use lib.Dec.{ltb, eqb}
use lib.ListN.{length}
use borrow.Author.Tests.{lt-ltb, le-ltb, ltb-true, ltb-false, eq-eqb, eqb-true, ne_eqb}
use Rattle.algebra.specs.Lists.{Every, more}
use Rattle.algebra.proofs.Lists.Every.{every_head, every_map, every_cond}
use Rattle.plan.specs.Items.{between}
use Rattle.plan.proofs.Laws.Header.{both, between_holds, between_says}
use Rattle.text.specs.declared.form.Form.{Form}
use Rattle.text.specs.Numbers.{decimal, signed}
use Rattle.text.specs.Reading.{Front, found, bad, and_then, digits_on, number_in, ended_by, word_in, constant_in, constant_next, field_in}
use Rattle.text.specs.Steps.{number}
use Rattle.text.proofs.Laws.Fits.{Allowed}
use Rattle.text.proofs.Laws.Decimal.{decimal_digit, decimal_step, decimal_more, decimal_digits, decimal_some, by_digits, digits_on_lem}

-- ---- numbers

-- the first digit of a number from 1 on is not 0
record First (n : ℕ) : Type 0 where
  digit : ℕ
  others : List ℕ
  some : 49 ≤ digit
  most : digit ≤ 57
  begins : decimal n ≡ digit ∷ others

first : (n : ℕ) → 1 ≤ n → First n
first = by_digits (λ n. 1 ≤ n → First n) one step
  where
    one : (n : ℕ) → n < 10 → 1 ≤ n → First n
    one n h g = record { digit = 48 + n; others = []; some = omega arith; most = omega arith; begins = decimal_digit n h }

    step : (n : ℕ) → 10 ≤ n → (1 ≤ n / 10 → First (n / 10)) → 1 ≤ n → First n
    step n h t g =
        let f = t (omega arith) in
        record {
          digit = f.digit;
          others = f.others ++ ((48 + n % 10) ∷ []);
          some = f.some;
          most = f.most;
          begins = decimal_step n h ∙ rw f.begins;
        }

-- a digit in front of others is read as they are
first_on : (b : ℕ) (bs : List ℕ) → 49 ≤ b → b ≤ 57 → number_in (b ∷ bs) ≡ digits_on 0 (b ∷ bs)
unfolding number_in digits_on
first_on b bs g h =
    let p : 10 * 0 + (b - 48) ≡ b - 48 = omega arith in
    rw (ne_eqb b 48 (omega arith), between_holds 49 57 b g h, between_holds 48 57 b (omega arith) h, p)

number_on : (n : ℕ) (bs : List ℕ) → 1 ≤ n → number_in (decimal n ++ bs) ≡ digits_on n bs
number_on n bs h =
    let f = first n h in
    rw f.begins (first_on f.digit (f.others ++ bs) f.some f.most) ∙ rw f.begins at (digits_on_lem n bs)

-- no digit follows
digits_end : (n e : ℕ) (rest : List ℕ) → between 48 57 e ≡ false → digits_on n (e ∷ rest) ≡ found n (e ∷ rest)
unfolding digits_on
digits_end n e rest h = rw h

pub number_read : (n e : ℕ) (rest : List ℕ) → between 48 57 e ≡ false → number_in (decimal n ++ (e ∷ rest)) ≡ found n (e ∷ rest)
unfolding number_in
number_read zero e rest h = rw (decimal_digit 0 (omega arith))
number_read (suc n) e rest h = number_on (suc n) (e ∷ rest) (omega arith) ∙ digits_end (suc n) e rest h

-- what is found is one thing, and is not bad
found_value : {v w : ℕ} {bs rest : List ℕ} → found v bs ≡ found w rest → v ≡ w
found_value e = cc

found_rest : {v w : ℕ} {bs rest : List ℕ} → found v bs ≡ found w rest → bs ≡ rest
found_rest e = cc

not_bad : {w : ℕ} {rest : List ℕ} → bad ≡ found w rest → ⊥
not_bad e = let z : ◌≡◌ {A = ℕ} 0 1 = cc in omega arith

-- digits that are read behind a number are written behind it
digits_is : (v : ℕ) (bs : List ℕ) (w : ℕ) (rest : List ℕ) → 1 ≤ v → digits_on v bs ≡ found w rest → decimal v ++ bs ≡ decimal w ++ rest
unfolding digits_on
digits_is v [] w rest h e = rw (found_value e, found_rest e)
digits_is v (b ∷ bs) w rest h e = go (between 48 57 b) refl e (digits_is (10 * v + (b - 48)) bs w rest (omega arith))
  where
    go : (t : Bool) → between 48 57 b ≡ t → cond t (digits_on (10 * v + (b - 48)) bs) (found v (b ∷ bs)) ≡ found w rest
        → (digits_on (10 * v + (b - 48)) bs ≡ found w rest → decimal (10 * v + (b - 48)) ++ bs ≡ decimal w ++ rest) → decimal v ++ (b ∷ bs) ≡ decimal w ++ rest
    go true t e ih =
        let k = between_says 48 57 b t in
        let p : 48 + (b - 48) ≡ b = omega (arith, k.0) in
        let m : decimal (10 * v + (b - 48)) ≡ decimal v ++ (b ∷ []) = decimal_more v (b - 48) h (omega (arith, k.1)) ∙ rw p in
        sym (append_assoc (decimal v) (b ∷ []) bs) ∙ rw m at (ih e)
    go false t e ih = rw (found_value e, found_rest e)

pub number_is : (bs : List ℕ) (v : ℕ) (rest : List ℕ) → number_in bs ≡ found v rest → bs ≡ decimal v ++ rest
unfolding number_in
number_is [] v rest e = absurd (not_bad e)
number_is (b ∷ bs) v rest e = go (eqb b 48) refl e
  where
    others : (t : Bool) → between 49 57 b ≡ t → cond t (digits_on (b - 48) bs) bad ≡ found v rest → b ∷ bs ≡ decimal v ++ rest
    others true t e =
        let k = between_says 49 57 b t in
        let p : 48 + (b - 48) ≡ b = omega (arith, k.0) in
        let m : decimal (b - 48) ≡ b ∷ [] = decimal_digit (b - 48) (omega (arith, k.1)) ∙ rw p in
        rw m at (digits_is (b - 48) bs v rest (omega (arith, k.0)) e)
    others false t e = absurd (not_bad e)

    go : (t : Bool) → eqb b 48 ≡ t → cond t (found 0 bs) (cond (between 49 57 b) (digits_on (b - 48) bs) bad) ≡ found v rest → b ∷ bs ≡ decimal v ++ rest
    go true t e = rw (eqb-true b 48 t, ← found_value e, decimal_digit 0 (omega arith), found_rest e)
    go false t e = others (between 49 57 b) refl e

-- ---- words

pub word_read : (low high e w : ℕ) (rest : List ℕ) → between 48 57 e ≡ false → low ≤ w → w ≤ high → word_in low high e (decimal w ++ (e ∷ rest)) ≡ found w rest
unfolding ended_by
word_read low high e w rest h f g = rw (number_read w e rest h, between_holds low high w f g, eq-eqb e e refl)

ended_is : (low high e : ℕ) (f : Front ℕ) (w : ℕ) (rest : List ℕ) → ended_by low high e f ≡ found w rest → (low ≤ w) × (w ≤ high) × (f ≡ found w (e ∷ rest))
unfolding ended_by
ended_is low high e bad w rest h = absurd (not_bad h)
ended_is low high e (found v []) w rest h = absurd (not_bad h)
ended_is low high e (found v (b ∷ bs)) w rest h = go (between low high v && eqb b e) refl h
  where
    go : (t : Bool) → (between low high v && eqb b e) ≡ t → cond t (found v bs) bad ≡ found w rest → (low ≤ w) × (w ≤ high) × (found v (b ∷ bs) ≡ found w (e ∷ rest))
    go true t h =
        let k = both (between low high v) (eqb b e) t in
        let l = between_says low high v k.0 in
        let q : v ≡ w = found_value h in
        (omega (arith, l.0), omega (arith, l.1), rw (q, eqb-true b e k.1, found_rest h))
    go false t h = absurd (not_bad h)

pub word_is : (low high e : ℕ) (bs : List ℕ) (w : ℕ) (rest : List ℕ) → word_in low high e bs ≡ found w rest → (low ≤ w) × (w ≤ high) × (bs ≡ decimal w ++ (e ∷ rest))
word_is low high e bs w rest h = let k = ended_is low high e (number_in bs) w rest h in (k.0, k.1, number_is bs w (e ∷ rest) k.2)

-- ---- constants

-- which are written with a minus
signed_low : (w : ℕ) → w < 2 ^ 31 → signed w ≡ decimal w
unfolding signed
signed_low w h = rw (lt-ltb w (2 ^ 31) h)

signed_high : (w : ℕ) → 2 ^ 31 ≤ w → signed w ≡ 45 ∷ decimal (2 ^ 32 - w)
unfolding signed
signed_high w h = rw (le-ltb w (2 ^ 31) h)

-- what begins with a digit has no minus
constant_plain : (e : ℕ) (ds bs : List ℕ) → Every (λ b. (48 ≤ b) × (b ≤ 57)) ds → 1 ≤ length ds → constant_in e (ds ++ bs) ≡ word_in 0 (2 ^ 31 - 1) e (ds ++ bs)
unfolding constant_in
constant_plain e [] bs t h = absurd (omega arith)
constant_plain e (d ∷ ds) bs t h = let k = every_head t in rw (ne_eqb d 45 (omega (arith, k.0)))

constant_minus : (e v : ℕ) (bs rest : List ℕ) → word_in 1 (2 ^ 31) e bs ≡ found v rest → constant_in e (45 ∷ bs) ≡ found (2 ^ 32 - v) rest
unfolding constant_in
constant_minus e v bs rest h = rw h

pub constant_read : (e w : ℕ) (rest : List ℕ) → between 48 57 e ≡ false → w < 2 ^ 32 → constant_in e (signed w ++ (e ∷ rest)) ≡ found w rest
constant_read e w rest h l = go (ltb w (2 ^ 31)) refl
  where
    go : (t : Bool) → ltb w (2 ^ 31) ≡ t → constant_in e (signed w ++ (e ∷ rest)) ≡ found w rest
    go true t =
        let k = ltb-true w (2 ^ 31) t in
        rw (signed_low w k)
        (constant_plain e (decimal w) (e ∷ rest) (decimal_digits w) (decimal_some w) ∙ word_read 0 (2 ^ 31 - 1) e w rest h (omega arith) (omega arith))
    go false t =
        let k = ltb-false w (2 ^ 31) t in
        let p : 2 ^ 32 - (2 ^ 32 - w) ≡ w = omega arith in
        rw (signed_high w k)
        (constant_minus e (2 ^ 32 - w) (decimal (2 ^ 32 - w) ++ (e ∷ rest)) rest (word_read 1 (2 ^ 31) e (2 ^ 32 - w) rest h (omega arith) (omega arith)) ∙ rw p)

pub constant_is : (e : ℕ) (bs : List ℕ) (w : ℕ) (rest : List ℕ) → constant_in e bs ≡ found w rest → (w < 2 ^ 32) × (bs ≡ signed w ++ (e ∷ rest))
unfolding constant_in
constant_is e [] w rest h = absurd (not_bad h)
constant_is e (b ∷ bs) w rest h = go (eqb b 45) refl h
  where
    minus : b ≡ 45 → (f : Front ℕ) → word_in 1 (2 ^ 31) e bs ≡ f → and_then f (λ v r. found (2 ^ 32 - v) r) ≡ found w rest → (w < 2 ^ 32) × (b ∷ bs ≡ signed w ++ (e ∷ rest))
    minus q bad g h = absurd (not_bad h)
    minus q (found v r) g h =
        let k = word_is 1 (2 ^ 31) e bs v r g in
        let p : 2 ^ 32 - v ≡ w = found_value h in
        let l : 2 ^ 32 - w ≡ v = omega (arith, k.0, k.1) in
        (omega (arith, k.0), rw (signed_high w (omega (arith, k.1)), l, q, k.2, found_rest h))

    go : (t : Bool) → eqb b 45 ≡ t → cond t (and_then (word_in 1 (2 ^ 31) e bs) (λ v r. found (2 ^ 32 - v) r)) (word_in 0 (2 ^ 31 - 1) e (b ∷ bs)) ≡ found w rest
        → (w < 2 ^ 32) × (b ∷ bs ≡ signed w ++ (e ∷ rest))
    go true t h = minus (eqb-true b 45 t) (word_in 1 (2 ^ 31) e bs) refl h
    go false t h =
        let k = word_is 0 (2 ^ 31 - 1) e (b ∷ bs) w rest h in
        (omega (arith, k.1), rw (signed_low w (omega (arith, k.1))) k.2)

-- ---- fields

pub field_read : (form : Form) (xs : List ℕ) (e w : ℕ) (rest : List ℕ) → between 48 57 e ≡ false → Allowed (form.item && constant_next xs) form w
    → field_in form xs e (number (form.item && constant_next xs) w ++ (e ∷ rest)) ≡ found w rest
unfolding field_in
field_read form xs e w rest h a = go (form.item && constant_next xs) a
  where
    go : (c : Bool) → Allowed c form w → cond c (constant_in e (number c w ++ (e ∷ rest))) (word_in form.low form.high e (number c w ++ (e ∷ rest))) ≡ found w rest
    go true a = constant_read e w rest h a
    go false a = word_read form.low form.high e w rest h a.0 a.1

pub field_is : (form : Form) (xs : List ℕ) (e : ℕ) (bs : List ℕ) (w : ℕ) (rest : List ℕ) → field_in form xs e bs ≡ found w rest
    → Allowed (form.item && constant_next xs) form w × (bs ≡ number (form.item && constant_next xs) w ++ (e ∷ rest))
unfolding field_in
field_is form xs e bs w rest h = go (form.item && constant_next xs) h
  where
    go : (c : Bool) → cond c (constant_in e bs) (word_in form.low form.high e bs) ≡ found w rest → Allowed c form w × (bs ≡ number c w ++ (e ∷ rest))
    go true h = constant_is e bs w rest h
    go false h = let k = word_is form.low form.high e bs w rest h in ((k.0, k.1), k.2)

-- a number stands on one line
decimal_line : (w : ℕ) → Every (λ b. b ≡ 10 → ⊥) (decimal w)
decimal_line w = every_map (λ b k e. omega (arith, k.0)) (decimal_digits w)

signed_line : (w : ℕ) → Every (λ b. b ≡ 10 → ⊥) (signed w)
unfolding signed
signed_line w = every_cond (ltb w (2 ^ 31)) (decimal_line w) (more {x = 45} (λ e. omega arith) (decimal_line (2 ^ 32 - w)))

pub no_newline : (constant : Bool) (w : ℕ) → Every (λ b. b ≡ 10 → ⊥) (number constant w)
no_newline true w = signed_line w
no_newline false w = decimal_line w
