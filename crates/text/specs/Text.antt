-- The text of a plan table: "the first line has T, N, I in decimal, then one line for the widths, one for each node's six numbers, one for each item's seven".
use Rattle.std.specs.Prelude.{cond, List, [], ◌∷◌, ◌++◌, map, ℕ, eqb}
use Rattle.algebra.specs.Lists.{each, upto}
use Rattle.plan.specs.Words.{Three, Item, tables, nodes, items, table_width, node_word, item_at}
use Rattle.text.specs.Numbers.{decimal, signed}

-- "single spaces, each line ended by a newline"
unfoldable pub line : List (List ℕ) → List ℕ
line [] = 10 ∷ []
line (x ∷ []) = x ++ (10 ∷ [])
line (x ∷ y ∷ ys) = x ++ (32 ∷ line (y ∷ ys))

-- "A constant is a third word whose term starts with 2; all other words are unsigned."
abbrev pub term_numbers : Three → List (List ℕ)
term_numbers t = decimal t.code ∷ decimal t.level ∷ cond (eqb t.code 2) (signed t.value) (decimal t.value) ∷ []

abbrev pub item_line : Item → List ℕ
item_line x = line (decimal x.tag ∷ (term_numbers x.first ++ term_numbers x.second))

module _ (ws : List ℕ) where
  abbrev pub head_line : List ℕ
  head_line = line (map decimal (tables ws ∷ nodes ws ∷ items ws ∷ []))

  abbrev pub widths_line : List ℕ
  widths_line = line (map (λ t. decimal (table_width ws t)) (upto (tables ws)))

  abbrev pub node_line : ℕ → List ℕ
  node_line n = line (map (λ k. decimal (node_word ws n k)) (upto 6))

  unfoldable pub text_of : List ℕ
  text_of = head_line ++ (widths_line ++ (each node_line (upto (nodes ws)) ++ each (λ j. item_line (item_at ws j)) (upto (items ws))))
