use native.Mathlib.Omega.{arith}
use mathlib.Core.Path.{◌≡◌, refl, sym, ◌∙◌}
use mathlib.Core.Bool.{true, false, true≢false}
use Prim.Native.Nat.{ℕ}
use Rattle.std.specs.Prelude.{Result, Ok, Err, MatchResult, is_ok}
use Rattle.std.proofs.lemmas.Result.{err_from_is_err_and}
use Rattle.text.specs.declared.ReadRefusal.{ReadRefusal}
use Rattle.text.specs.declared.ReadRefusal.TheVariants.{BadLine}
use Rattle.text.proofs.Laws.Judged.{too_long_answer, read_is, words_stored, line_answer, short_answer, words_answer, words_content}
use Rattle.text.proofs.read_text.Goals as goal

-- what the first reading gave, by what is made of it
counted : (r : Result ℕ ℕ) (n : ℕ) (P : ℕ → Type 0) → true ≡ is_ok r → MatchResult r (λ x. ◌≡◌ {A = Result ℕ ReadRefusal} (Ok n) (Ok x)) P → r ≡ Ok n
counted (Ok m) n P v h = cc
counted (Err l) n P v h = absurd (true≢false v)

lined : (r : Result ℕ ℕ) (y : ReadRefusal) (P : ℕ → Type 0) → false ≡ is_ok r → MatchResult r P (λ l. y ≡ BadLine l) → (l : ℕ) × (r ≡ Err l) × (y ≡ BadLine l)
lined (Ok m) y P v h = absurd (true≢false (sym v))
lined (Err l) y P v h = (l, refl, h)

pub returns-then-text-gt-LIMIT : goal.returns-then-text-gt-LIMIT
returns-then-text-gt-LIMIT c = let said = too_long_answer c.args.text.now c.args.words.now (omega arith) in
    record { answer = said.0; words_after = said.1 }

pub returns-then-words-count : goal.returns-then-words-count
returns-then-words-count c = let e = c.in_ok-count.ensures in
    let r = rw (counted c.read_table.result c.in_ok-count.count _ e.variant e.cases) at c.read_table.ensures in
    let t = c.args.text.now in
    let said = short_answer t (read_is t (omega arith) r.1.2) c.args.words.now (omega (arith, r.1.1)) in
    record { answer = said.0; words_after = said.1 }

pub returns-in_err-count : goal.returns-in_err-count
returns-in_err-count c = let e = c.in_err-count.ensures in
    let p = err_from_is_err_and c.from_residual.result c.from_residual.ensures.1 in
    let k = lined c.read_table.result c.in_err-count.field-0.0 _ e.variant e.cases in
    let t = c.args.text.now in
    let said = line_answer t (read_is t (omega arith) (rw k.1 at c.read_table.ensures)) c.args.words.now in
    rw (p.1, p.2 ∙ k.2) (record { answer = said.0; words_after = said.1 })

pub returns : goal.returns
returns c = let e = c.in_ok-count.ensures in
    let r = rw (counted c.read_table.result c.in_ok-count.count _ e.variant e.cases) at c.read_table.ensures in
    let t = c.args.text.now in
    let w = c.args.words.now in
    let s = c.read_table-2 in
    let q = read_is t (omega arith) r.1.2 in
    let n = r.1.1 in
    let v = words_stored t (omega arith) w s.new.words r.1.0 s.result s.ensures q in
    record { answer = words_answer t q w (omega (arith, n)) n; words_after = words_content t q w (omega (arith, n)) v }
