-- The words of an encoded plan, by their names.
use mathlib.Core.Path.{◌≡◌, refl, sym, ap, ◌∙◌}
use mathlib.Core.Bool.{true}
use mathlib.Core.List.{List, [], ◌++◌, map}
use Prim.Native.Nat.{ℕ, ◌+◌, ◌*◌, ◌<◌}
use native.Mathlib.Nat.{zero-add}
use native.Mathlib.Omega.{arith}
use lib.ListN.{length, get_or, take, length-append, get_or-append, get_or-map}
use lib.Seq.{get_or-append-add}
use Rattle.algebra.specs.Lists.{each, upto}
use Rattle.algebra.specs.Plan.{Node}
use Rattle.algebra.proofs.Lists.Every.{every_of}
use Rattle.algebra.proofs.Lists.Keep.{map_map, map_id}
use Rattle.plan.specs.Words.{Item, word, tables, nodes, items, table_width, node_word, operator}
use Rattle.plan.specs.Words.{left, right, kind, first_item, item_count, item_word, item_at, items_of}
use Rattle.plan.specs.Verdict.{header_right}
use Rattle.plan.specs.Encoding.{parts, node_words, all_items, words_of}
use Rattle.plan.proofs.Laws.Header.{header_last}
use Rattle.plan.proofs.Laws.Numbered.{numbered, each_at, each_length}
use Rattle.plan.proofs.Laws.Written.{item_words, item_of, node_items, node_items_lem, node_items_length, all_seven, item_among, six, word_among, words_length}

-- ---- the header

module _ (widths : List ℕ) (ns : List Node) where
  -- the numbers of tables, nodes, items and words
  pub tables_of : tables (words_of widths ns) ≡ length widths
  unfolding word words_of
  tables_of = refl

  pub nodes_of_lem : nodes (words_of widths ns) ≡ length ns
  unfolding word words_of
  nodes_of_lem = refl

  pub items_of_lem : items (words_of widths ns) ≡ length (all_items ns)
  unfolding word words_of
  items_of_lem = refl

  pub length_of : length (words_of widths ns) ≡ 8 + length widths + 6 * length ns + 7 * length (all_items ns)
  unfolding words_of
  length_of =
      omega (
        arith,
        length-append widths (node_words 0 ns ++ each (λ w. w) (all_items ns)),
        length-append (node_words 0 ns) (each (λ w. w) (all_items ns)),
        words_length 0 ns,
        each_length 7 (all_seven ns),
      )

  -- "total, an offset or the last header word" are right
  pub header_right_lem : header_right (words_of widths ns) ≡ true
  unfolding word words_of
  header_right_lem = sym (header_last (words_of widths ns) (omega arith) (sym length_of) refl refl refl refl 0 refl)

-- ---- the words behind it

module _ (widths : List ℕ) (ns : List Node) where
  -- a word behind the header
  behind : (i : ℕ) → word (words_of widths ns) (8 + i) ≡ get_or (widths ++ (node_words 0 ns ++ each (λ w. w) (all_items ns))) i 0
  unfolding word words_of
  behind i = get_or-append-add (take 8 (words_of widths ns)) (widths ++ (node_words 0 ns ++ each (λ w. w) (all_items ns))) i 0

  -- width t
  pub width_of_lem : (t : ℕ) → t < length widths → table_width (words_of widths ns) t ≡ get_or widths t 0
  width_of_lem t h = behind t ∙ get_or-append widths (node_words 0 ns ++ each (λ w. w) (all_items ns)) 0 t h

  -- word k of item j
  pub item_word_of : (j k : ℕ) → k < 7 → item_word (words_of widths ns) j k ≡ get_or (get_or (all_items ns) j []) k 0
  item_word_of j k h =
      let rest : List ℕ = each (λ w. w) (all_items ns) in
      let i : ℕ = length (node_words 0 ns) + (7 * j + k) in
      let p : 8 + tables (words_of widths ns) + 6 * nodes (words_of widths ns) + 7 * j + k ≡ 8 + (length widths + i) =
      omega (arith, tables_of widths ns, nodes_of_lem widths ns, words_length 0 ns) in
      ap (word (words_of widths ns)) p
      ∙ behind (length widths + i)
      ∙ get_or-append-add widths (node_words 0 ns ++ rest) i 0
      ∙ get_or-append-add (node_words 0 ns) rest (7 * j + k) 0
      ∙ each_at 7 (all_seven ns) j k h

  -- item j
  pub item_at_of : (j : ℕ) → item_at (words_of widths ns) j ≡ item_of (get_or (all_items ns) j [])
  item_at_of j = λ i. record {
    tag = item_word_of j 0 (omega arith) i;
    first = record { code = item_word_of j 1 (omega arith) i; level = item_word_of j 2 (omega arith) i; value = item_word_of j 3 (omega arith) i };
    second = record { code = item_word_of j 4 (omega arith) i; level = item_word_of j 5 (omega arith) i; value = item_word_of j 6 (omega arith) i };
  }

  -- ---- node n; d stands for a node past the end

  module _ (d : Node) (n : ℕ) (h : n < length ns) where
    -- word k of node n
    pub node_word_of : (k : ℕ) → k < 6 → node_word (words_of widths ns) n k ≡ get_or (six (length (all_items (take n ns))) (get_or ns n d)) k 0
    node_word_of k l =
        let rest : List ℕ = each (λ w. w) (all_items ns) in
        let p : 8 + tables (words_of widths ns) + 6 * n + k ≡ 8 + (length widths + (6 * n + k)) = omega (arith, tables_of widths ns) in
        ap (word (words_of widths ns)) p
        ∙ behind (length widths + (6 * n + k))
        ∙ get_or-append-add widths (node_words 0 ns ++ rest) (6 * n + k) 0
        ∙ word_among d 0 ns rest n k h l
        ∙ ap (λ (a : ℕ). get_or (six a (get_or ns n d)) k 0) (zero-add (length (all_items (take n ns))))

    pub operator_of : operator (words_of widths ns) n ≡ (parts (get_or ns n d)).operator
    operator_of = node_word_of 0 (omega arith)

    pub left_of : left (words_of widths ns) n ≡ (parts (get_or ns n d)).left
    left_of = node_word_of 1 (omega arith)

    pub right_of_lem : right (words_of widths ns) n ≡ (parts (get_or ns n d)).right
    right_of_lem = node_word_of 2 (omega arith)

    pub kind_of_lem : kind (words_of widths ns) n ≡ (parts (get_or ns n d)).kind
    kind_of_lem = node_word_of 3 (omega arith)

    -- "First item is the sum of the counts of earlier nodes"
    pub first_of : first_item (words_of widths ns) n ≡ length (all_items (take n ns))
    first_of = node_word_of 4 (omega arith)

    pub count_of : item_count (words_of widths ns) n ≡ length (parts (get_or ns n d)).items
    count_of = node_word_of 5 (omega arith)

    -- the items of a node are those that it is written as
    pub node_items_of : items_of (words_of widths ns) n ≡ node_items (get_or ns n d)
    node_items_of =
        ap (λ (c : ℕ). map (λ i. item_at ws (first_item ws n + i)) (upto c)) (count_of ∙ node_items_length x)
        ∙ numbered (λ i. item_at ws (first_item ws n + i)) (node_items x) (item_of []) at
      where
        ws : List ℕ
        ws = words_of widths ns

        x : Node
        x = get_or ns n d

        back : map item_of (map item_words (node_items x)) ≡ node_items x
        back = map_map item_of item_words (node_items x) ∙ map_id (λ y. item_of (item_words y)) (every_of (λ y. refl) (node_items x))

        at : (i : ℕ) → i < length (node_items x) → item_at ws (first_item ws n + i) ≡ get_or (node_items x) i (item_of [])
        at i l =
            item_at_of (first_item ws n + i)
            ∙ ap (λ (a : ℕ). item_of (get_or (all_items ns) (a + i) [])) first_of
            ∙ ap item_of (item_among d ns n h i (rw (node_items_length x) l) ∙ ap (λ (l : List (List ℕ)). get_or l i []) (node_items_lem x))
            ∙ sym (get_or-map item_of (map item_words (node_items x)) i [])
            ∙ ap (λ (l : List Item). get_or l i (item_of [])) back
