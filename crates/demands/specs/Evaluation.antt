-- Demand 2, over words and cells.
use Rattle.std.specs.Prelude.{◌≡◌, true, false, List, ◌++◌, ℕ, ℤ, pos, length, drop, replicate}
use Rattle.algebra.specs.Lists.{Every}
use Rattle.algebra.specs.Value.{Row}
use Rattle.algebra.specs.Meaning.{answer}
use Rattle.plan.specs.Plan.{widths_of, nodes_of}
use Rattle.store.specs.Cells.{cells_of}
use Rattle.store.specs.Database.{database_of}
use Rattle.evaluate.specs.Answer.{Evaluation, refusal, is_run, evaluation, output_after, scratch_after}
use Rattle.working.specs.Statements.{NeverBoth, Kept}
use Rattle.demands.specs.Visits.{Visit, visits, Seen, First}

-- the rows that the operator rules give the plan over the database
abbrev pub rows_of : List ℕ → List ℕ → List ℤ → List Row
rows_of ws counts cells = answer (widths_of ws) (database_of ws counts cells) (nodes_of ws)

-- all rows that are held against 14 and 15, in the order in which they are met
abbrev pub seen : List ℕ → List ℕ → List ℤ → List Visit
seen ws counts cells = visits (widths_of ws) (database_of ws counts cells) (nodes_of ws)

module _ (ws counts : List ℕ) (cells : List ℤ) (R : ℕ) (scratch out : List ℤ) where
  -- the evaluator's answer, and the output after it
  abbrev pub answered : Evaluation
  answered = evaluation ws counts cells R (length scratch) (length out)

  abbrev pub written : List ℤ
  written = output_after ws counts cells R (length scratch) out

  -- accepted: exactly those rows, in order, at the front of the output, the rest left, and their number
  pub record Gives : Type 0 where
    pub count : answered.count ≡ length (rows_of ws counts cells)
    pub output : written ≡ cells_of (rows_of ws counts cells) ++ drop (length (cells_of (rows_of ws counts cells))) out

  -- refused: 14 or 15 of the first visit that has too many rows or a number out of range, and the output is left
  pub record Stops : Type 0 where
    pub first : First R (seen ws counts cells) answered.number answered.node
    pub count : answered.count ≡ 0
    pub output : written ≡ out

  -- a call that gets past refusal 13: 14 and 15 exactly when a visit is refused, and accepted exactly when none is; a visit is one of a node
  -- that the order reaches, under outer rows that the operator rules give
  pub record Runs : Type 0 where
    pub gives : answered.number ≡ 0 → Gives
    pub stops : (answered.number ≡ 0 → ⊥) → Stops
    pub accepted_when : Every (λ v. Kept R v.rows) (seen ws counts cells) → answered.number ≡ 0
    pub accepted_only_when : answered.number ≡ 0 → Every (λ v. Kept R v.rows) (seen ws counts cells)
    pub refused_when : (k n : ℕ) → First R (seen ws counts cells) k n → answered ≡ record { number = k; node = n; count = 0 }
    pub from_the_rules : Every (Seen (widths_of ws) (database_of ws counts cells) (nodes_of ws)) (seen ws counts cells)
    pub never_both : NeverBoth (database_of ws counts cells) R
    pub cleared : scratch_after ws counts cells R scratch (length out) ≡ replicate (length scratch) (pos 0)

  -- any other call
  pub record Refuses : Type 0 where
    pub number : answered.number ≡ (refusal ws counts cells R (length scratch) (length out)).number
    pub node : answered.node ≡ (refusal ws counts cells R (length scratch) (length out)).node
    pub count : answered.count ≡ 0
    pub output : written ≡ out
    pub unchanged : scratch_after ws counts cells R scratch (length out) ≡ scratch

  -- for every input: what is answered, and what stands in the output and in scratch then
  pub record Demand : Type 0 where
    pub runs : is_run ws counts cells R (length scratch) (length out) ≡ true → Runs
    pub refuses : is_run ws counts cells R (length scratch) (length out) ≡ false → Refuses
