-- A slice filled from the front with words, one a turn.
use mathlib.Core.Path.{◌≡◌, refl, ap, sym, ◌∙◌}
use mathlib.Core.List.{List, ◌++◌, append_assoc}
use Prim.Native.Nat.{ℕ, zero, suc, ◌+◌, ◌/◌, ◌≤◌, ◌<◌, min}
use native.Mathlib.Omega.{arith}
use native.Mathlib.Numerals.{add-one}
use native.Mathlib.Nat.{le_antisymm, min-le_right}
use lib.ListN.{length, get_or, drop, set, length-append}
use lib.Seq.{drop-cons, set_at, length-take-le}
use Rattle.input.specs.Bytes.{word_at, words_in, Filled}

words_length : (bytes : List ℕ) (n : ℕ) → length (words_in bytes n) ≡ n
unfolding words_in
words_length bytes zero = refl
words_length bytes (suc n) = length-append (words_in bytes n) _ ∙ omega (arith, words_length bytes n)

pub none_filled : (bytes out : List ℕ) → out ≡ words_in bytes 0 ++ drop 0 out
unfolding words_in
none_filled bytes out = refl

one_filled : (bytes out : List ℕ) (n : ℕ) → n < length out → set (words_in bytes n ++ drop n out) n (word_at bytes n) ≡ words_in bytes (suc n) ++ drop (suc n) out
unfolding words_in
one_filled bytes out n h =
    rw (drop-cons out n 0 h, set_at (words_in bytes n) (get_or out n 0) (drop (suc n) out) (word_at bytes n) n (words_length bytes n), append_assoc)

-- the turn that stores word n
pub more_filled : (bytes before now : List ℕ) (n v : ℕ) → n < length before → now ≡ words_in bytes n ++ drop n before → v ≡ word_at bytes n
    → set now n v ≡ words_in bytes (n + 1) ++ drop (n + 1) before
more_filled bytes before now n v h e w = rw (e, w, add-one n) (one_filled bytes before n h)

-- the end: every word is stored
module _ (bytes before now : List ℕ) (n k : ℕ) (low : k ≤ n) (high : n ≤ k) (many : n ≡ min (length bytes / 4) (length before)) (same : length now ≡ length before) where
  pub all_filled : now ≡ words_in bytes k ++ drop k before → Filled bytes before now n
  all_filled e =
      let within : n ≤ length now = omega (arith, min-le_right (length bytes / 4) (length before)) in
      record {
        many = many;
        content = e ∙ ap (λ (j : ℕ). words_in bytes j ++ drop j before) (le_antisymm low high);
        within = within;
        whole = sym (length-take-le n now within);
      }

-- two answers that the statement allows are equal
pub one_answer : {bytes before now now' : List ℕ} {n n' : ℕ} → Filled bytes before now n → Filled bytes before now' n' → (n ≡ n') × (now ≡ now')
one_answer {bytes} {before} f g =
    let e = f.many ∙ sym g.many in
    (e, f.content ∙ ap (λ (j : ℕ). words_in bytes j ++ drop j before) e ∙ sym g.content)
