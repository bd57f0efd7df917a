-- Texts, and what they give.
use Rattle.std.specs.Prelude.{List, [], ◌∷◌, ℕ, ◌-◌, ◌^◌}
use Prim.Native.Char.{code}
use Prim.Native.String.{String, [] as nothing, ◌∷◌ as ◌then◌, ◌++◌}
use Rattle.text.specs.Reading.{Given, words, bad_line}

unfoldable pub bytes : String → List ℕ
bytes nothing = []
bytes (c then s) = code c ∷ bytes s

pub record Example : Type 0 where
  pub text : String
  pub gives : Given

abbrev pub gives : String → Given → Example
gives text given = record { text = text; gives = given }

-- one table of one column, and a scan of it
abbrev pub scanned : List ℕ
scanned = 15 ∷ 1 ∷ 8 ∷ 1 ∷ 9 ∷ 0 ∷ 15 ∷ 0 ∷ 1 ∷ 1 ∷ 0 ∷ 0 ∷ 0 ∷ 0 ∷ 0 ∷ []

-- a node with an item whose second term is a constant
abbrev pub compared : ℕ → List ℕ
compared w = 22 ∷ 1 ∷ 8 ∷ 1 ∷ 9 ∷ 1 ∷ 15 ∷ 0 ∷ 1 ∷ 2 ∷ 0 ∷ 0 ∷ 0 ∷ 0 ∷ 1 ∷ 3 ∷ 0 ∷ 0 ∷ 1 ∷ 2 ∷ 0 ∷ w ∷ []

-- the same as text
abbrev pub comparing : String → String
comparing n = "1 1 1\n1\n2 0 0 0 0 1\n3 0 0 1 2 0 " ++ n ++ "\n"

abbrev pub examples : List Example
examples =
    gives "1 1 0\n1\n1 0 0 0 0 0\n" (words scanned)
    ∷ gives "" (bad_line 1)
    ∷ gives "1 1 0\n1\n" (bad_line 3)
    ∷ gives "1 1 0\n1\n1 0 0 0 0 0" (bad_line 3)
    ∷ gives "1 1 0\n1\n1 0 0 0 0 0\n\n" (bad_line 4)
    ∷ gives "1 1 0\n1\n1 0 0 0 0 0 \n" (bad_line 3)
    ∷ gives "1 1 0\n1\n1 0 0 0 0  0\n" (bad_line 3)
    ∷ gives "1 1 0\n1\n1 0 0 0 0\t0\n" (bad_line 3)
    ∷ gives "1 1 0\n1\n1 0 0 0 0 00\n" (bad_line 3)
    ∷ gives "1 1 0\n1\n1 0 0 0 0 -1\n" (bad_line 3)
    ∷ gives "1 1 0\n1\n1 0 0 0 0 4294967296\n" (bad_line 3)
    ∷ gives "1 1 0\r\n1\n1 0 0 0 0 0\n" (bad_line 1)
    ∷ gives "17 1 0\n1\n1 0 0 0 0 0\n" (bad_line 1)
    ∷ gives "1 257 0\n1\n1 0 0 0 0 0\n" (bad_line 1)
    ∷ gives "1 1 2001\n1\n1 0 0 0 0 0\n" (bad_line 1)
    ∷ gives "1 1 0\n65\n1 0 0 0 0 0\n" (bad_line 2)
    ∷ gives (comparing "-5") (words (compared (2 ^ 32 - 5)))
    ∷ gives (comparing "-2147483648") (words (compared (2 ^ 31)))
    ∷ gives (comparing "2147483647") (words (compared (2 ^ 31 - 1)))
    ∷ gives (comparing "-2147483649") (bad_line 4)
    ∷ gives (comparing "2147483648") (bad_line 4)
    ∷ gives (comparing "-0") (bad_line 4)
    ∷ gives (comparing "+5") (bad_line 4)
    ∷ []
