-- Plan S of document 01 as words, and what it says.
use Rattle.std.specs.Prelude.{◌≡◌, List, [], ◌∷◌, ℕ, length}
use Prim.Native.String.{String}
use Rattle.algebra.specs.Cases.{S}
use Rattle.plan.specs.Plan.{widths_of, nodes_of}
use Rattle.plan.specs.Verdict.{accepted, verdict}
use Rattle.text.specs.Text.{text_of}
use Rattle.text.specs.Examples.{bytes}

-- "67 words": header, widths, the six nodes, the three items
abbrev pub words : List ℕ
words =
    67 ∷ 2 ∷ 8 ∷ 6 ∷ 10 ∷ 3 ∷ 46 ∷ 0
    ∷ 1 ∷ 1
    ∷ 1 ∷ 0 ∷ 0 ∷ 0 ∷ 0 ∷ 0
    ∷ 1 ∷ 1 ∷ 0 ∷ 0 ∷ 0 ∷ 0
    ∷ 2 ∷ 1 ∷ 0 ∷ 0 ∷ 0 ∷ 1
    ∷ 6 ∷ 2 ∷ 0 ∷ 0 ∷ 1 ∷ 1
    ∷ 8 ∷ 0 ∷ 3 ∷ 1 ∷ 2 ∷ 0
    ∷ 2 ∷ 4 ∷ 0 ∷ 0 ∷ 2 ∷ 1
    ∷ 1 ∷ 0 ∷ 0 ∷ 0 ∷ 1 ∷ 0 ∷ 0
    ∷ 13 ∷ 0 ∷ 0 ∷ 0 ∷ 0 ∷ 0 ∷ 0
    ∷ 3 ∷ 0 ∷ 0 ∷ 1 ∷ 2 ∷ 0 ∷ 2
    ∷ []

-- they are the S of the proved cases, and pass the check
pub record Decoded : Type 0 where
  pub long : length words ≡ 67
  pub widths : widths_of words ≡ 1 ∷ 1 ∷ []
  pub nodes : nodes_of words ≡ S
  pub passes : verdict words ≡ accepted

-- S as text, byte for byte
abbrev pub text : String
text = "2 6 3\n1 1\n1 0 0 0 0 0\n1 1 0 0 0 0\n2 1 0 0 0 1\n6 2 0 0 1 1\n8 0 3 1 2 0\n2 4 0 0 2 1\n1 0 0 0 1 0 0\n13 0 0 0 0 0 0\n3 0 0 1 2 0 2\n"

abbrev pub Written : Type 0
Written = text_of words ≡ bytes text
