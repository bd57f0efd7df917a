-- Demand 3, over words.
use Rattle.std.specs.Prelude.{◌≡◌, true, false, List, ◌++◌, ℕ, ◌*◌, ◌^◌, ◌<◌, ◌≤◌, length, take, drop}
use Rattle.algebra.specs.Lists.{Every}
use Rattle.algebra.specs.Value.{Row}
use Rattle.algebra.specs.Meaning.{Database, answer}
use Rattle.algebra.specs.Statements.{Fitting, times}
use Rattle.plan.specs.Words.{nodes, operator}
use Rattle.plan.specs.Plan.{widths_of, nodes_of}
use Rattle.plan.specs.Verdict.{CountedAnswer, accepted, verdict}
use Rattle.rewrite.specs.Answer.{within_limits, new_plan, new_words, rewriting, output_after}

-- a slice of u32 words
abbrev pub Words : List ℕ → Type 0
Words ws = Every (λ w. w < 2 ^ 32) ws

-- "for EVERY database (any size, nulls, repeats) the operator rules give both plans the same rows, each equally often"
abbrev pub SameRows : List ℕ → List ℕ → Type 0
SameRows ws vs =
    (db : Database) → Fitting (widths_of ws) db → (r : Row)
    → times r (answer (widths_of vs) db (nodes_of vs)) ≡ times r (answer (widths_of ws) db (nodes_of ws))

-- what the rewriting vs of the plan ws owes it
pub record Owed (ws vs : List ℕ) : Type 0 where
  pub passes_the_check : verdict vs ≡ accepted
  pub no_dependent_join : (n : ℕ) → n < nodes vs → operator vs n ≡ 8 → ⊥
  pub at_most_four_each : nodes vs ≤ 4 * nodes ws
  pub same_rows : SameRows ws vs

module _ (ws out : List ℕ) where
  -- the rewriter's answer, the output after it, and the words that were written
  abbrev pub answered : CountedAnswer
  answered = rewriting ws (length out)

  abbrev pub after : List ℕ
  after = output_after ws out

  abbrev pub written : List ℕ
  written = take answered.count after

  -- the rules' plan is within the limits
  abbrev pub Within : Type 0
  Within = within_limits (widths_of ws) (new_plan ws) ≡ true

  abbrev pub Over : Type 0
  Over = within_limits (widths_of ws) (new_plan ws) ≡ false

  -- "The rewriter refuses an accepted plan exactly when the rules' plan exceeds a limit or the lent output"
  pub record Refusals : Type 0 where
    pub over_limit : Over → answered ≡ record { number = 8; node = 0; count = 0 }
    pub no_room : Within → length out < length (new_words ws) → answered ≡ record { number = 9; node = 0; count = 0 }
    pub otherwise_none : Within → length (new_words ws) ≤ length out → answered ≡ record { number = 0; node = 0; count = length (new_words ws) }

  -- accepted: the words of the rules' plan stand at the front of the output, the rest is left, and they are what is owed
  pub record Gives : Type 0 where
    pub words : written ≡ new_words ws
    pub output : after ≡ written ++ drop answered.count out
    pub owed : Owed ws written

  -- for every accepted plan and every output: what is answered, and what stands in the output then
  pub record Demand : Type 0 where
    pub refusals : Refusals
    pub gives : answered.number ≡ 0 → Gives
    pub leaves : (answered.number ≡ 0 → ⊥) → after ≡ out
