-- Which line is the first that is bad, missing or surplus.
use Rattle.std.specs.Prelude.{◌≡◌, true, cond, List, [], ◌∷◌, ℕ, suc, ◌^◌, ◌<◌, eqb, take}
use Rattle.algebra.specs.Lists.{Every}
use Rattle.plan.specs.Verdict.{header_right, limits_right}
use Rattle.text.specs.Text.{text_of}

-- a byte in front of the first line
abbrev pub on_first : ℕ → List (List ℕ) → List (List ℕ)
on_first b [] = (b ∷ []) ∷ []
on_first b (l ∷ ls) = (b ∷ l) ∷ ls

-- the lines of a text, each with its newline; what stands behind the last newline is a line too
unfoldable pub lines : List ℕ → List (List ℕ)
lines [] = []
lines (b ∷ bs) = cond (eqb b 10) ((10 ∷ []) ∷ lines bs) (on_first b (lines bs))

-- u32 words that pass refusals 1 and 2, a plan or not
pub record Table (ws : List ℕ) : Type 0 where
  pub small : Every (λ w. w < 2 ^ 32) ws
  pub header : header_right ws ≡ true
  pub limits : limits_right ws ≡ true

-- the first k lines of the text are those of a table's text
pub record Agrees (text : List ℕ) (k : ℕ) : Type 0 where
  pub table : List ℕ
  pub passes : Table table
  pub same : take k (lines text) ≡ take k (lines (text_of table))

-- line k, from 1, is the first at which the text is no table's: "the first bad, missing or surplus line"
pub record FirstBad (text : List ℕ) (k : ℕ) : Type 0 where
  pub before : ℕ
  pub next : k ≡ suc before
  pub right_before : Agrees text before
  pub wrong_here : Agrees text k → ⊥
