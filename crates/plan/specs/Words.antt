-- "A slice of u32 words: header, table widths, nodes, items, nothing between or behind."
use Rattle.std.specs.Prelude.{List, [], ◌∷◌, map, ℕ, ◌+◌, ◌*◌, get_or}
use Rattle.algebra.specs.Lists.{upto}

-- "Total is 8+T+6N+7I"
abbrev pub total : ℕ → ℕ → ℕ → ℕ
total T N I = 8 + T + 6 * N + 7 * I

-- "Header, 8 words: total words; tables T; offset of widths; nodes N; offset of nodes; items I; offset of items; zero."
abbrev pub header_of : ℕ → ℕ → ℕ → List ℕ
header_of T N I = total T N I ∷ T ∷ 8 ∷ N ∷ (8 + T) ∷ I ∷ (8 + T + 6 * N) ∷ 0 ∷ []

module _ (ws : List ℕ) where
  -- word i, 0 past the end
  unfoldable pub word : ℕ → ℕ
  word i = get_or ws i 0

  abbrev pub tables : ℕ
  tables = word 1

  abbrev pub nodes : ℕ
  nodes = word 3

  abbrev pub items : ℕ
  items = word 5

  abbrev pub table_width : ℕ → ℕ
  table_width t = word (8 + t)

  -- word k of node n
  abbrev pub node_word : ℕ → ℕ → ℕ
  node_word n k = word (8 + tables + 6 * n + k)

  -- "A node is 6 words: operator, left, right, kind, first item, item count."
  abbrev pub operator : ℕ → ℕ
  operator n = node_word n 0

  abbrev pub left : ℕ → ℕ
  left n = node_word n 1

  abbrev pub right : ℕ → ℕ
  right n = node_word n 2

  abbrev pub kind : ℕ → ℕ
  kind n = node_word n 3

  abbrev pub first_item : ℕ → ℕ
  first_item n = node_word n 4

  abbrev pub item_count : ℕ → ℕ
  item_count n = node_word n 5

  -- word k of item j: "An item is 7 words: tag and two terms."
  abbrev pub item_word : ℕ → ℕ → ℕ
  item_word j k = word (8 + tables + 6 * nodes + 7 * j + k)

-- the three words of a term
pub record Three : Type 0 where
  pub code : ℕ
  pub level : ℕ
  pub value : ℕ

pub record Item : Type 0 where
  pub tag : ℕ
  pub first : Three
  pub second : Three

module _ (ws : List ℕ) where
  -- the term whose three words begin at word k of item j
  abbrev pub three_at : ℕ → ℕ → Three
  three_at j k = record { code = item_word ws j k; level = item_word ws j (k + 1); value = item_word ws j (k + 2) }

  abbrev pub item_at : ℕ → Item
  item_at j = record { tag = item_word ws j 0; first = three_at j 1; second = three_at j 4 }

  -- count items from item a on
  abbrev pub items_from : ℕ → ℕ → List Item
  items_from a count = map (λ i. item_at (a + i)) (upto count)

  abbrev pub items_of : ℕ → List Item
  items_of n = items_from (first_item ws n) (item_count ws n)
