-- Numbers and lines written to a slice, byte by byte.
use mathlib.Core.Path.{◌≡◌, refl, sym, ap, ◌∙◌}
use mathlib.Core.Bool.{Bool, true, false}
use mathlib.Core.List.{List, [], ◌∷◌, ◌++◌, append_assoc, append-nil}
use Prim.Native.Nat.{ℕ, zero, suc, ◌+◌, ◌-◌, ◌*◌, ◌/◌, ◌%◌, ◌^◌, ◌<◌, ◌≤◌}
use native.Mathlib.Nat.{pow-suc}
use native.Mathlib.Omega.{arith}
use borrow.Author.Tests.{lt-ltb, le-ltb, ltb-true, ltb-false}
use lib.Dec.{ltb}
use lib.ListN.{length, get_or, take, drop, set, length-append}
use lib.Seq.{sets, length-take-le, drop-cons, take-take, take_at, get_or-take, get_or_at}
use Rattle.text.specs.Numbers.{decimal, signed}
use Rattle.text.specs.Steps.{number, WrittenTo}
use Rattle.text.proofs.Laws.Places.{sets_append, store_in_front}
use Rattle.text.proofs.Laws.Decimal.{decimal_length, decimal_digit, decimal_step}

-- ---- how many digits

pub one_digit : (n : ℕ) → n < 10 → 1 ≡ length (decimal n)
one_digit n h = sym (ap length (decimal_digit n h))

-- as many as its place among the powers of 10
pub digits_counted : (k n : ℕ) → 10 ^ k ≤ n → n < 10 * 10 ^ k → k + 1 ≡ length (decimal n)
digits_counted zero n g h = one_digit n (omega arith)
digits_counted (suc k) n g h =
    let p = pow-suc 10 k in
    omega (arith, decimal_length n (omega arith), digits_counted k (n / 10) (omega arith) (omega arith))

-- ---- a number, the last digit first

-- the last digit, and those in front of it
last_digit : (n k : ℕ) → length (decimal n) ≡ suc k → (get_or (decimal n) k 0 ≡ 48 + n % 10) × (1 ≤ k → decimal (n / 10) ≡ take k (decimal n))
last_digit n k e = go (ltb n 10) refl
  where
    go : (b : Bool) → ltb n 10 ≡ b → (get_or (decimal n) k 0 ≡ 48 + n % 10) × (1 ≤ k → decimal (n / 10) ≡ take k (decimal n))
    go true q =
        let h = ltb-true n 10 q in
        let one = sym (one_digit n h) in
        let p : k ≡ 0 = omega arith in
        let m : n % 10 ≡ n = omega arith in
        (rw (p, m, decimal_digit n h), λ l. absurd (omega arith))
    go false q =
        let h = ltb-false n 10 q in
        let p : length (decimal (n / 10)) ≡ k = omega (arith, decimal_length n h) in
        (rw (decimal_step n h) (get_or_at (decimal (n / 10)) (48 + n % 10) [] 0 k p), λ l. rw (decimal_step n h) (sym (take_at (decimal (n / 10)) ((48 + n % 10) ∷ []) k p)))

-- from digit k on n is stored, and rest is what stands in front
pub record Spelled (n at k rest : ℕ) (entry now : List ℕ) : Type 0 where
  pub stored : now ≡ sets entry (at + k) (drop k (decimal n))
  pub left : 1 ≤ k → decimal rest ≡ take k (decimal n)

pub spelled_more : (n at k rest b : ℕ) (entry now next : List ℕ) → k ≤ length (decimal n) → 1 ≤ k → Spelled n at k rest entry now
    → next ≡ set now (at + (k - 1)) b → b ≡ 48 + rest % 10 → Spelled n at (k - 1) (rest / 10) entry next
spelled_more n at zero rest b entry now next l h s e d = absurd (omega arith)
spelled_more n at (suc k) rest b entry now next l h s e d =
    let D : List ℕ = decimal n in
    let p : suc k - 1 ≡ k = omega arith in
    let q : at + suc k ≡ suc (at + k) = omega arith in
    let g = last_digit rest k (ap length (s.left h) ∙ length-take-le (suc k) D l) in
    let x : get_or D k 0 ≡ b = sym (get_or-take (suc k) D k 0 (omega arith)) ∙ ap (λ (m : List ℕ). get_or m k 0) (sym (s.left h)) ∙ g.0 ∙ sym d in
    let t : drop k D ≡ b ∷ drop (suc k) D = drop-cons D k 0 (omega arith) ∙ ap (λ (y : ℕ). y ∷ drop (suc k) D) x in
    rw p (record {
      stored =
          e
          ∙ ap (λ (i : ℕ). set now (at + i) b) p
          ∙ ap (λ (m : List ℕ). set m (at + k) b) s.stored
          ∙ store_in_front entry (at + suc k) (at + k) b (drop (suc k) D) (omega arith)
          ∙ ap (λ (i : ℕ). sets (set entry (at + k) b) i (drop (suc k) D)) q
          ∙ ap (λ (m : List ℕ). sets entry (at + k) m) (sym t);
      left = λ j. g.1 j ∙ ap (take k) (s.left h) ∙ take-take k (suc k) D (omega arith);
    })

-- ---- a word

-- one text behind another
pub written_both : (entry : List ℕ) (at : ℕ) (a middle : List ℕ) (n : ℕ) (b exit : List ℕ) (r : ℕ)
    → WrittenTo entry at a middle n → WrittenTo middle n b exit r → WrittenTo entry at (a ++ b) exit r
written_both entry at a middle n b exit r f g =
    (g.0 ∙ (λ i. sets (f.0 i) (f.1 i) b) ∙ sym (sets_append entry at a b), omega (arith, f.1, g.1, length-append a b))

-- a byte
pub written_byte : (entry : List ℕ) (at b : ℕ) (exit : List ℕ) → exit ≡ set entry at b → WrittenTo entry at (b ∷ []) exit (at + 1)
written_byte entry at b exit e = (e, omega arith)

-- no constant
pub plain_written : (constant : Bool) (entry : List ℕ) (at w : ℕ) (exit : List ℕ) (r : ℕ) → constant ≡ false
    → WrittenTo entry at (decimal w) exit r → WrittenTo entry at (number constant w) exit r
plain_written constant entry at w exit r e f = rw e f

-- a constant from 0 on
pub positive_written : (constant : Bool) (entry : List ℕ) (at w : ℕ) (exit : List ℕ) (r : ℕ) → constant ≡ true → w < 2 ^ 31
    → WrittenTo entry at (decimal w) exit r → WrittenTo entry at (number constant w) exit r
unfolding signed
positive_written constant entry at w exit r e h f = rw (e, lt-ltb w (2 ^ 31) h) f

-- a constant below 0, behind its minus
pub negative_written : (constant : Bool) (entry : List ℕ) (at w n : ℕ) (middle exit : List ℕ) (r : ℕ) → constant ≡ true → 2 ^ 31 ≤ w → n ≡ 2 ^ 32 - w
    → middle ≡ set entry at 45 → WrittenTo middle (at + 1) (decimal n) exit r → WrittenTo entry at (number constant w) exit r
unfolding signed
negative_written constant entry at w n middle exit r e h d s f =
    rw (e, le-ltb w (2 ^ 31) h) (written_both entry at (45 ∷ []) middle (at + 1) (decimal (2 ^ 32 - w)) exit r (written_byte entry at 45 middle s) (rw d at f))

-- ---- what is written of a whole, and what is left

pub record Part (whole left entry : List ℕ) (at : ℕ) (now : List ℕ) (next : ℕ) : Type 0 where
  pub done : List ℕ
  pub split : whole ≡ done ++ left
  pub written : WrittenTo entry at done now next

pub part_none : (whole entry : List ℕ) (at : ℕ) → Part whole whole entry at entry at
part_none whole entry at = record { done = []; split = refl; written = (refl, omega arith) }

pub part_more : {whole left entry : List ℕ} {at : ℕ} {now : List ℕ} {next : ℕ} (new later exit : List ℕ) (r : ℕ)
    → Part whole left entry at now next → left ≡ new ++ later → WrittenTo now next new exit r → Part whole later entry at exit r
part_more {whole} {left} {entry} {at} {now} {next} new later exit r p e f =
    record {
      done = p.done ++ new;
      split = p.split ∙ ap (λ (l : List ℕ). p.done ++ l) e ∙ sym (append_assoc p.done new later);
      written = written_both entry at p.done now next new exit r p.written f;
    }

pub part_all : {whole left entry : List ℕ} {at : ℕ} {now : List ℕ} {next : ℕ} → Part whole left entry at now next → left ≡ [] → WrittenTo entry at whole now next
part_all p e = rw (p.split ∙ ap (λ (l : List ℕ). p.done ++ l) e ∙ append-nil p.done) p.written
