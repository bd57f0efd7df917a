-- The words of a well-formed slice are those that its plan is written as.
use mathlib.Core.Path.{◌≡◌, refl, sym, ap, subst, ◌∙◌}
use mathlib.Core.Bool.{Bool, true, false, cond}
use mathlib.Core.List.{List, [], ◌∷◌, ◌++◌, map}
use Prim.Native.Nat.{ℕ, zero, suc, ◌+◌, ◌-◌, ◌*◌, ◌/◌, ◌%◌, ◌^◌, ◌<◌, ◌≤◌}
use native.Mathlib.Omega.{arith}
use lib.Dec.{leb, ltb, eqb}
use lib.ListN.{length, get_or, take}
use lib.Seq.{ext_get_or}
use borrow.Author.Tests.{ltb-true, ltb-false, eqb-true, eq-eqb}
use Rattle.algebra.specs.Lists.{each, upto, Every, done, more}
use Rattle.algebra.specs.Plan.{Node}
use Rattle.algebra.proofs.Lists.Keep.{map_map}
use Rattle.algebra.proofs.Domains.Keys.{upto_all}
use Rattle.plan.specs.Words.{Item, word, tables, nodes, items, table_width, node_word, operator}
use Rattle.plan.specs.Words.{left, right, kind, first_item, item_count, item_word, item_at, items_of}
use Rattle.plan.specs.Items.{between}
use Rattle.plan.specs.Plan.{node_at, kind_of, widths_of, nodes_of}
use Rattle.plan.specs.Verdict.{has_right, has_kind, items_before, inputs_right, kind_right, count_right, node_right}
use Rattle.plan.specs.Promise.{Formed}
use Rattle.plan.specs.Encoding.{parts, all_items, words_of}
use Rattle.plan.proofs.Laws.Header.{both, header_says}
use Rattle.plan.proofs.Laws.Formed.{node_tests, facts_at, limited, nodes_length}
use Rattle.plan.proofs.Laws.Items.{items_length}
use Rattle.plan.proofs.Laws.Numbered.{numbered_at, numbered_length, numbered_add, numbered_take, each_more}
use Rattle.plan.proofs.Laws.Written.{item_words, node_items, node_items_length, all_items_lem, all_length, six}
use Rattle.plan.proofs.Laws.Encoded as encoded
use Rattle.plan.proofs.Laws.Fitting.{narrow}
use Rattle.plan.proofs.Laws.Rebuilt.{items_again, operator_again, left_again, right_again, kind_again}

-- the words that the plan of a slice is written as
abbrev again : List ℕ → List ℕ
again ws = words_of (widths_of ws) (nodes_of ws)

-- ---- "Unused words are 0."

module _ (ws : List ℕ) (n : ℕ) (e : node_right ws n ≡ true) where
  -- the right word of a node without right input
  right_zero : has_right (operator ws n) ≡ false → right ws n ≡ 0
  unfolding inputs_right
  right_zero q =
      let h : cond (has_right (operator ws n)) (ltb (right ws n) n) (eqb (right ws n) 0) ≡ true =
      (both (cond (eqb (operator ws n) 1) _ _) _ (node_tests ws n e).1).1 in
      eqb-true _ _ (rw q at h)

  -- the kind word of a node without kind
  kind_zero : has_kind (operator ws n) ≡ false → kind ws n ≡ 0
  unfolding kind_right
  kind_zero q =
      let h : cond (has_kind (operator ws n)) (between 1 4 (kind ws n)) (eqb (kind ws n) 0) ≡ true = (node_tests ws n e).2 in
      eqb-true _ _ (rw q at h)

  -- the items of the last node end where all do
  count_last : n + 1 ≡ nodes ws → items_before ws n + item_count ws n ≡ items ws
  unfolding count_right
  count_last q =
      let a : ℕ = items_before ws n + item_count ws n in
      let h : cond (eqb (n + 1) (nodes ws)) (eqb a (items ws)) (leb a (items ws)) ≡ true =
      (both (eqb (first_item ws n) (items_before ws n)) _ (node_tests ws n e).3).1 in
      eqb-true _ _ (rw (eq-eqb (n + 1) (nodes ws) q) at h)

-- ---- the nodes and their items

module _ (ws : List ℕ) (f : Formed ws) (small : Every (λ w. w < 2 ^ 32) ws) where
  -- the items of a node
  node_items_again : (n : ℕ) → n < nodes ws → node_items (node_at ws n) ≡ items_of ws n
  node_items_again n h =
      let g = facts_at ws f n h in
      items_again (left ws n) (right ws n) (kind_of (kind ws n)) (items_of ws n) (narrow ws small n) (operator ws n) g.low g.high g.sorts

  -- the items of the first nodes
  items_first : (n : ℕ) → n ≤ nodes ws → each node_items (map (node_at ws) (upto n)) ≡ map (item_at ws) (upto (items_before ws n))
  unfolding items_before
  items_first zero h = refl
  items_first (suc n) h =
      each_more node_items (node_at ws) n
      ∙ (λ i. items_first n (omega arith) i ++ last i)
      ∙ sym (numbered_add (item_at ws) (items_before ws n) (item_count ws n))
    where
      last : node_items (node_at ws n) ≡ map (λ i. item_at ws (items_before ws n + i)) (upto (item_count ws n))
      last =
          node_items_again n h
          ∙ ap (λ (a : ℕ). map (λ i. item_at ws (a + i)) (upto (item_count ws n))) (facts_at ws f n h).first

  -- the counts of all nodes sum to the number of items
  items_whole : items_before ws (nodes ws) ≡ items ws
  unfolding items_before
  items_whole =
      let g = limited ws f.sized in
      let n : ℕ = nodes ws - 1 in
      let p : nodes ws ≡ suc n = omega arith in
      ap (items_before ws) p ∙ count_last ws n (f.formed n (omega arith)) (omega arith)

  -- the items of all nodes
  all_again : all_items (nodes_of ws) ≡ map item_words (map (item_at ws) (upto (items ws)))
  all_again = all_items_lem (nodes_of ws) ∙ ap (map item_words) (items_first (nodes ws) (omega arith) ∙ ap (λ (n : ℕ). map (item_at ws) (upto n)) items_whole)

  -- how many items the first nodes have
  first_again : (n : ℕ) → n ≤ nodes ws → length (all_items (map (node_at ws) (upto n))) ≡ items_before ws n
  first_again n h = all_length (map (node_at ws) (upto n)) ∙ ap length (items_first n h) ∙ numbered_length (item_at ws) (items_before ws n)

  -- ---- word by word

  tables_same : tables (again ws) ≡ tables ws
  tables_same = encoded.tables_of (widths_of ws) (nodes_of ws) ∙ numbered_length (table_width ws) (tables ws)

  nodes_same : nodes (again ws) ≡ nodes ws
  nodes_same = encoded.nodes_of_lem (widths_of ws) (nodes_of ws) ∙ nodes_length ws

  items_same : items (again ws) ≡ items ws
  items_same = encoded.items_of_lem (widths_of ws) (nodes_of ws) ∙ first_again (nodes ws) (omega arith) ∙ items_whole

  header_same : (i : ℕ) → i < 8 → word (again ws) i ≡ word ws i
  header_same =
      let g = header_says ws f.sized.header in
      let h = header_says (again ws) (encoded.header_right_lem (widths_of ws) (nodes_of ws)) in
      upto_all
      {P = λ i. word (again ws) i ≡ word ws i}
      8
      (more
      (omega (arith, tables_same, nodes_same, items_same))
      (more
      tables_same
      (more
      (omega arith)
      (more
      nodes_same
      (more
      (omega (arith, tables_same))
      (more
      items_same
      (more
      (omega (arith, tables_same, nodes_same))
      (more
      (omega arith)
      done))))))))

  width_same : (t : ℕ) → t < tables ws → word (again ws) (8 + t) ≡ word ws (8 + t)
  width_same t h =
      encoded.width_of_lem (widths_of ws) (nodes_of ws) t (rw (numbered_length (table_width ws) (tables ws)) h)
      ∙ numbered_at (table_width ws) (tables ws) t 0 h

  -- the six words of a node
  six_words : ℕ → List ℕ
  six_words n = operator ws n ∷ left ws n ∷ right ws n ∷ kind ws n ∷ first_item ws n ∷ item_count ws n ∷ []

  six_same : (n : ℕ) → n < nodes ws → six (length (all_items (take n (nodes_of ws)))) (node_at ws n) ≡ six_words n
  unfolding six_words
  six_same n h =
      let g = facts_at ws f n h in
      let o : ℕ = operator ws n in
      let xs : List Item = items_of ws n in
      let first : length (all_items (take n (nodes_of ws))) ≡ first_item ws n =
      ap (λ (l : List Node). length (all_items l)) (numbered_take (node_at ws) (nodes ws) n (omega arith)) ∙ first_again n (omega arith) ∙ sym g.first in
      let count : length (parts (node_at ws n)).items ≡ item_count ws n =
      node_items_length (node_at ws n) ∙ ap length (node_items_again n h) ∙ items_length ws (first_item ws n) (item_count ws n) in
      λ i.
      operator_again (left ws n) (right ws n) (kind ws n) xs o g.low g.high i
      ∷ left_again (left ws n) (right ws n) (kind ws n) xs o g.low g.high i
      ∷ right_again (left ws n) (right ws n) (kind ws n) xs o g.low g.high (right_zero ws n (f.formed n h)) i
      ∷ kind_again (left ws n) (right ws n) (kind ws n) xs o g.low g.high g.kind_low g.kind_high (kind_zero ws n (f.formed n h)) i
      ∷ first i
      ∷ count i
      ∷ []

  node_same : (n k : ℕ) → n < nodes ws → k < 6 → node_word (again ws) n k ≡ node_word ws n k
  unfolding six_words
  node_same n k h l =
      encoded.node_word_of (widths_of ws) (nodes_of ws) (node_at ws 0) n (rw (nodes_length ws) h) k l
      ∙ ap (λ (x : Node). get_or (six (length (all_items (take n (nodes_of ws)))) x) k 0) (numbered_at (node_at ws) (nodes ws) n (node_at ws 0) h)
      ∙ ap (λ (x : List ℕ). get_or x k 0) (six_same n h)
      ∙ upto_all {P = λ i. get_or (six_words n) i 0 ≡ node_word ws n i} 6 (more refl (more refl (more refl (more refl (more refl (more refl done)))))) k l

  item_same : (j k : ℕ) → j < items ws → k < 7 → item_word (again ws) j k ≡ item_word ws j k
  item_same j k h l =
      encoded.item_word_of (widths_of ws) (nodes_of ws) j k l
      ∙ ap (λ (x : List (List ℕ)). get_or (get_or x j []) k 0) (all_again ∙ map_map item_words (item_at ws) (upto (items ws)))
      ∙ ap (λ (x : List ℕ). get_or x k 0) (numbered_at (λ i. item_words (item_at ws i)) (items ws) j [] h)
      ∙ upto_all {P = λ i. get_or (item_words (item_at ws j)) i 0 ≡ item_word ws j i} 7
      (more refl (more refl (more refl (more refl (more refl (more refl (more refl done))))))) k l

  length_same : length (again ws) ≡ length ws
  length_same =
      let g = header_says ws f.sized.header in
      let h = header_says (again ws) (encoded.header_right_lem (widths_of ws) (nodes_of ws)) in
      omega (arith, tables_same, nodes_same, items_same)

  -- a word of the nodes or of the items, by its number among them
  word_node : (i : ℕ) → i < 6 * nodes ws → word (again ws) (8 + tables ws + i) ≡ word ws (8 + tables ws + i)
  word_node i h =
      let n : ℕ = i / 6 in
      let k : ℕ = i % 6 in
      let p : 8 + tables ws + i ≡ 8 + tables (again ws) + 6 * n + k = omega (arith, tables_same) in
      let q : 8 + tables ws + 6 * n + k ≡ 8 + tables ws + i = omega arith in
      ap (word (again ws)) p ∙ node_same n k (omega arith) (omega arith) ∙ ap (word ws) q

  word_item : (i : ℕ) → i < 7 * items ws → word (again ws) (8 + tables ws + 6 * nodes ws + i) ≡ word ws (8 + tables ws + 6 * nodes ws + i)
  word_item i h =
      let j : ℕ = i / 7 in
      let k : ℕ = i % 7 in
      let p : 8 + tables ws + 6 * nodes ws + i ≡ 8 + tables (again ws) + 6 * nodes (again ws) + 7 * j + k = omega (arith, tables_same, nodes_same) in
      let q : 8 + tables ws + 6 * nodes ws + 7 * j + k ≡ 8 + tables ws + 6 * nodes ws + i = omega arith in
      ap (word (again ws)) p ∙ item_same j k (omega arith) (omega arith) ∙ ap (word ws) q

  word_same : (i : ℕ) → i < length ws → word (again ws) i ≡ word ws i
  word_same i h = first (ltb i 8) refl
    where
      Same : ℕ → Type 0
      Same j = word (again ws) j ≡ word ws j

      third : (b : Bool) → ltb i (8 + tables ws + 6 * nodes ws) ≡ b → 8 + tables ws ≤ i → Same i
      third true e l =
          let p : 8 + tables ws + (i - (8 + tables ws)) ≡ i = omega arith in
          subst Same p (word_node (i - (8 + tables ws)) (omega (arith, ltb-true i (8 + tables ws + 6 * nodes ws) e)))
      third false e l =
          let g = ltb-false i (8 + tables ws + 6 * nodes ws) e in
          let d = header_says ws f.sized.header in
          let a : ℕ = 8 + tables ws + 6 * nodes ws in
          let p : a + (i - a) ≡ i = omega arith in
          subst Same p (word_item (i - a) (omega arith))

      second : (b : Bool) → ltb i (8 + tables ws) ≡ b → 8 ≤ i → Same i
      second true e l =
          let p : 8 + (i - 8) ≡ i = omega arith in
          subst Same p (width_same (i - 8) (omega (arith, ltb-true i (8 + tables ws) e)))
      second false e l = third (ltb i (8 + tables ws + 6 * nodes ws)) refl (ltb-false i (8 + tables ws) e)

      first : (b : Bool) → ltb i 8 ≡ b → Same i
      first true e = header_same i (ltb-true i 8 e)
      first false e = second (ltb i (8 + tables ws)) refl (ltb-false i 8 e)

  -- all words
  pub words_same : words_of (widths_of ws) (nodes_of ws) ≡ ws
  unfolding word
  words_same = ext_get_or 0 (again ws) ws length_same (λ i h. word_same i (omega (arith, length_same)))
