-- The decimal digits of a number, one by one.
use mathlib.Core.Path.{◌≡◌, refl, sym, ap, ◌∙◌}
use mathlib.Core.Bool.{Bool, true, false}
use mathlib.Core.List.{List, [], ◌∷◌, ◌++◌, append_assoc}
use Prim.Native.Nat.{ℕ, zero, suc, ◌+◌, ◌-◌, ◌*◌, ◌/◌, ◌%◌, ◌^◌, ◌<◌, ◌≤◌}
use native.Mathlib.Nat.{pow-suc}
use native.Mathlib.Omega.{arith}
use lib.Dec.{ltb}
use lib.ListN.{length, length-append}
use borrow.Author.Tests.{lt-ltb, le-ltb, ltb-true, ltb-false}
use Rattle.algebra.specs.Lists.{Every, done, more}
use Rattle.algebra.proofs.Lists.Every.{every_append}
use Rattle.plan.proofs.Laws.Header.{between_holds}
use Rattle.text.specs.Numbers.{digits, decimal}
use Rattle.text.specs.Reading.{digits_on}

-- ---- the last digit

-- one digit, and a digit more
digits_one : (k n : ℕ) → n < 10 → digits (suc k) n ≡ (48 + n) ∷ []
unfolding digits
digits_one k n h = rw (lt-ltb n 10 h)

digits_more : (k n : ℕ) → 10 ≤ n → digits (suc k) n ≡ digits k (n / 10) ++ ((48 + n % 10) ∷ [])
unfolding digits
digits_more k n h = rw (le-ltb n 10 h)

-- as many digits as count, where there may be more than the number
digits_same : (k j n : ℕ) → n < k → n < j → digits k n ≡ digits j n
digits_same zero j n g h = absurd (omega arith)
digits_same (suc k) zero n g h = absurd (omega arith)
digits_same (suc k) (suc j) n g h = go (ltb n 10) refl (λ l. digits_same k j (n / 10) (omega arith) (omega arith))
  where
    go : (b : Bool) → ltb n 10 ≡ b → (10 ≤ n → digits k (n / 10) ≡ digits j (n / 10)) → digits (suc k) n ≡ digits (suc j) n
    go true e ih = let l = ltb-true n 10 e in digits_one k n l ∙ sym (digits_one j n l)
    go false e ih = let l = ltb-false n 10 e in digits_more k n l ∙ ap (λ (ds : List ℕ). ds ++ ((48 + n % 10) ∷ [])) (ih l) ∙ sym (digits_more j n l)

-- a number below 10 is its digit
pub decimal_digit : (n : ℕ) → n < 10 → decimal n ≡ (48 + n) ∷ []
unfolding decimal
decimal_digit n h = digits_one n n h

-- another is a tenth of it and its last digit
pub decimal_step : (n : ℕ) → 10 ≤ n → decimal n ≡ decimal (n / 10) ++ ((48 + n % 10) ∷ [])
unfolding decimal
decimal_step n h = digits_more n n h ∙ ap (λ (ds : List ℕ). ds ++ ((48 + n % 10) ∷ [])) (digits_same n (suc (n / 10)) (n / 10) (omega arith) (omega arith))

-- a digit behind a number that is not 0
pub decimal_more : (v d : ℕ) → 1 ≤ v → d < 10 → decimal (10 * v + d) ≡ decimal v ++ ((48 + d) ∷ [])
decimal_more v d g h =
    let p : (10 * v + d) / 10 ≡ v = omega arith in
    let q : (10 * v + d) % 10 ≡ d = omega arith in
    rw (decimal_step (10 * v + d) (omega arith), p, q)

-- ---- induction on the digits

pub by_digits : (P : ℕ → Type 0) → ((n : ℕ) → n < 10 → P n) → ((n : ℕ) → 10 ≤ n → P (n / 10) → P n) → (n : ℕ) → P n
by_digits P one step n = up (suc n) n (omega arith)
  where
    up : (k m : ℕ) → m < k → P m
    up zero m h = absurd (omega arith)
    up (suc k) m h = go (ltb m 10) refl (λ l. up k (m / 10) (omega arith))
      where
        go : (b : Bool) → ltb m 10 ≡ b → (10 ≤ m → P (m / 10)) → P m
        go true e ih = one m (ltb-true m 10 e)
        go false e ih = let l = ltb-false m 10 e in step m l (ih l)

-- ---- each is a digit

abbrev pub IsDigit : ℕ → Type 0
IsDigit b = (48 ≤ b) × (b ≤ 57)

pub decimal_digits : (n : ℕ) → Every (λ b. (48 ≤ b) × (b ≤ 57)) (decimal n)
decimal_digits = by_digits (λ n. Every IsDigit (decimal n)) one step
  where
    one : (n : ℕ) → n < 10 → Every IsDigit (decimal n)
    one n h = rw (decimal_digit n h) (more {x = 48 + n} (omega arith, omega arith) done)

    step : (n : ℕ) → 10 ≤ n → Every IsDigit (decimal (n / 10)) → Every IsDigit (decimal n)
    step n h t = rw (decimal_step n h) (every_append t (more {x = 48 + n % 10} (omega arith, omega arith) done))

-- ---- how many there are

pub decimal_length : (n : ℕ) → 10 ≤ n → length (decimal n) ≡ suc (length (decimal (n / 10)))
decimal_length n h = rw (decimal_step n h) (omega (arith, length-append (decimal (n / 10)) ((48 + n % 10) ∷ [])))

pub decimal_some : (n : ℕ) → 1 ≤ length (decimal n)
decimal_some = by_digits (λ n. 1 ≤ length (decimal n)) (λ n h. rw (decimal_digit n h) (omega arith)) (λ n h t. omega (arith, decimal_length n h))

-- a number below 10 ^ (k + 1) has at most k + 1 digits
pub decimal_within : (k n : ℕ) → n < 10 ^ suc k → length (decimal n) ≤ suc k
decimal_within zero n h = rw (decimal_digit n (omega arith)) (omega arith)
decimal_within (suc k) n h = go (ltb n 10) refl (λ l. decimal_within k (n / 10) (omega (arith, pow-suc 10 (suc k))))
  where
    go : (b : Bool) → ltb n 10 ≡ b → (10 ≤ n → length (decimal (n / 10)) ≤ suc k) → length (decimal n) ≤ suc (suc k)
    go true e ih = rw (decimal_digit n (ltb-true n 10 e)) (omega arith)
    go false e ih = let l = ltb-false n 10 e in omega (arith, ih l, decimal_length n l)

pub decimal_short : (n : ℕ) → n < 2 ^ 32 → length (decimal n) ≤ 10
decimal_short n h = decimal_within 9 n (omega arith)

pub decimal_two : (n : ℕ) → n ≤ 99 → length (decimal n) ≤ 2
decimal_two n h = decimal_within 1 n (omega arith)

pub decimal_three : (n : ℕ) → n ≤ 999 → length (decimal n) ≤ 3
decimal_three n h = decimal_within 2 n (omega arith)

pub decimal_four : (n : ℕ) → n ≤ 9999 → length (decimal n) ≤ 4
decimal_four n h = decimal_within 3 n (omega arith)

-- ---- reading them

-- a digit in front
pub digit_on : (v d : ℕ) (bs : List ℕ) → d < 10 → digits_on v ((48 + d) ∷ bs) ≡ digits_on (10 * v + d) bs
unfolding digits_on
digit_on v d bs h =
    let p : (48 + d) - 48 ≡ d = omega arith in
    rw (between_holds 48 57 (48 + d) (omega arith) (omega arith), p)

-- the digits of a number say the number
pub digits_on_lem : (n : ℕ) (bs : List ℕ) → digits_on 0 (decimal n ++ bs) ≡ digits_on n bs
digits_on_lem = by_digits (λ n. (bs : List ℕ) → digits_on 0 (decimal n ++ bs) ≡ digits_on n bs) one step
  where
    one : (n : ℕ) → n < 10 → (bs : List ℕ) → digits_on 0 (decimal n ++ bs) ≡ digits_on n bs
    one n h bs = let p : 10 * 0 + n ≡ n = omega arith in rw (decimal_digit n h) (digit_on 0 n bs h ∙ rw p)

    step : (n : ℕ) → 10 ≤ n → ((bs : List ℕ) → digits_on 0 (decimal (n / 10) ++ bs) ≡ digits_on (n / 10) bs) → (bs : List ℕ) → digits_on 0 (decimal n ++ bs) ≡ digits_on n bs
    step n h t bs =
        let p : 10 * (n / 10) + n % 10 ≡ n = omega arith in
        rw (decimal_step n h, append_assoc) (t ((48 + n % 10) ∷ bs) ∙ digit_on (n / 10) (n % 10) bs (omega arith) ∙ rw p)
