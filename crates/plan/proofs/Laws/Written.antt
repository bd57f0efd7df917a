-- The items that a node is written as, and their words.
use mathlib.Core.Path.{◌≡◌, refl, sym, ap, ◌∙◌}
use mathlib.Core.List.{List, [], ◌∷◌, ◌++◌, map}
use Prim.Native.Nat.{ℕ, zero, suc, ◌+◌, ◌*◌, ◌<◌}
use native.Mathlib.Nat.{add-zero}
use native.Mathlib.Omega.{arith}
use lib.ListN.{length, get_or, take, length-append, length-map, get_or-append}
use lib.Seq.{get_or-append-add}
use Rattle.algebra.specs.Lists.{each, Every}
use Rattle.algebra.specs.Plan.{Term, column, outer, constant, nothing, Conjunct, Computation, copy, add, subtract, Aggregate, count}
use Rattle.algebra.specs.Plan.{sum, minimum, maximum, Node, scan, select, compute, project, join, group, groupjoin, dependent}
use Rattle.algebra.proofs.Lists.Every.{every_of, every_mapped}
use Rattle.algebra.proofs.Lists.Keep.{map_append, map_map, map_cong}
use Rattle.plan.specs.Words.{Three, Item}
use Rattle.plan.specs.Encoding.{unsigned, term_words, test_tag, conjunct_words, computation_words, position_words, aggregate_words, parts, node_words, all_items}

-- ---- an item and its seven words

-- the three words of a term
abbrev pub three_words : Three → List ℕ
three_words t = t.code ∷ t.level ∷ t.value ∷ []

-- the seven words of an item
abbrev pub item_words : Item → List ℕ
item_words x = x.tag ∷ (three_words x.first ++ three_words x.second)

-- the item of seven words
abbrev pub item_of : List ℕ → Item
item_of w = record {
  tag = get_or w 0 0;
  first = record { code = get_or w 1 0; level = get_or w 2 0; value = get_or w 3 0 };
  second = record { code = get_or w 4 0; level = get_or w 5 0; value = get_or w 6 0 };
}

-- ---- the items that a node is written as

abbrev pub three : ℕ → ℕ → ℕ → Three
three a b c = record { code = a; level = b; value = c }

abbrev pub three_of : Term → Three
three_of (column p) = three 0 0 p
three_of (outer l p) = three 1 l p
three_of (constant z) = three 2 0 (unsigned z)
three_of nothing = three 3 0 0

abbrev pub conjunct_item : Conjunct → Item
conjunct_item c = record { tag = test_tag c.test; first = three_of c.first; second = three_of c.second }

abbrev pub computation_item : Computation → Item
computation_item (copy a) = record { tag = 8; first = three_of a; second = three 0 0 0 }
computation_item (add a b) = record { tag = 9; first = three_of a; second = three_of b }
computation_item (subtract a b) = record { tag = 10; first = three_of a; second = three_of b }

abbrev pub position_item : ℕ → ℕ → Item
position_item tag p = record { tag = tag; first = three 0 0 p; second = three 0 0 0 }

abbrev pub aggregate_item : Aggregate → Item
aggregate_item count = position_item 13 0
aggregate_item (sum p) = position_item 14 p
aggregate_item (minimum p) = position_item 15 p
aggregate_item (maximum p) = position_item 16 p

abbrev pub node_items : Node → List Item
node_items (scan t) = []
node_items (select cs i) = map conjunct_item cs
node_items (compute c i) = computation_item c ∷ []
node_items (project ps i) = map (position_item 12) ps
node_items (join k cs l r) = map conjunct_item cs
node_items (group ks gs i) = map (position_item 11) ks ++ map aggregate_item gs
node_items (groupjoin cs gs l r) = map conjunct_item cs ++ map aggregate_item gs
node_items (dependent k cs l r) = map conjunct_item cs

-- ---- their words are those of the encoding

-- a term, a conjunct, a computation and an aggregate
term_words_lem : (t : Term) → term_words t ≡ three_words (three_of t)
term_words_lem (column p) = refl
term_words_lem (outer l p) = refl
term_words_lem (constant z) = refl
term_words_lem nothing = refl

conjunct_words_lem : (c : Conjunct) → conjunct_words c ≡ item_words (conjunct_item c)
conjunct_words_lem c = rw (term_words_lem c.first, term_words_lem c.second)

computation_words_lem : (c : Computation) → computation_words c ≡ item_words (computation_item c)
computation_words_lem (copy a) = rw (term_words_lem a)
computation_words_lem (add a b) = rw (term_words_lem a, term_words_lem b)
computation_words_lem (subtract a b) = rw (term_words_lem a, term_words_lem b)

aggregate_words_lem : (g : Aggregate) → aggregate_words g ≡ item_words (aggregate_item g)
aggregate_words_lem count = refl
aggregate_words_lem (sum p) = refl
aggregate_words_lem (minimum p) = refl
aggregate_words_lem (maximum p) = refl

-- a list of items of one sort
module _ {A : Type 0} (words : A → List ℕ) (item : A → Item) (same : (a : A) → words a ≡ item_words (item a)) where
  list_words : (xs : List A) → map words xs ≡ map item_words (map item xs)
  list_words xs = map_cong words (λ a. item_words (item a)) (every_of same xs) ∙ sym (map_map item_words item xs)

conjuncts_words : (cs : List Conjunct) → map conjunct_words cs ≡ map item_words (map conjunct_item cs)
conjuncts_words = list_words conjunct_words conjunct_item conjunct_words_lem

positions_words : (tag : ℕ) (ps : List ℕ) → map (position_words tag) ps ≡ map item_words (map (position_item tag) ps)
positions_words tag = list_words (position_words tag) (position_item tag) (λ p. refl)

aggregates_words : (gs : List Aggregate) → map aggregate_words gs ≡ map item_words (map aggregate_item gs)
aggregates_words = list_words aggregate_words aggregate_item aggregate_words_lem

-- the words of a node's items
pub node_items_lem : (n : Node) → (parts n).items ≡ map item_words (node_items n)
node_items_lem (scan t) = refl
node_items_lem (select cs i) = conjuncts_words cs
node_items_lem (compute c i) = ap (λ (w : List ℕ). w ∷ []) (computation_words_lem c)
node_items_lem (project ps i) = positions_words 12 ps
node_items_lem (join k cs l r) = conjuncts_words cs
node_items_lem (group ks gs i) = rw (positions_words 11 ks, aggregates_words gs) (sym (map_append item_words (map (position_item 11) ks) (map aggregate_item gs)))
node_items_lem (groupjoin cs gs l r) = rw (conjuncts_words cs, aggregates_words gs) (sym (map_append item_words (map conjunct_item cs) (map aggregate_item gs)))
node_items_lem (dependent k cs l r) = conjuncts_words cs

-- as many items as the node has
pub node_items_length : (n : Node) → length (parts n).items ≡ length (node_items n)
node_items_length n = ap length (node_items_lem n) ∙ length-map (node_items n) item_words

-- all items of a plan
pub all_items_lem : (ns : List Node) → all_items ns ≡ map item_words (each node_items ns)
all_items_lem [] = refl
all_items_lem (n ∷ ns) = rw (node_items_lem n, all_items_lem ns) (sym (map_append item_words (node_items n) (each node_items ns)))

-- how many items a plan has
pub all_length : (ns : List Node) → length (all_items ns) ≡ length (each node_items ns)
all_length ns = ap length (all_items_lem ns) ∙ length-map (each node_items ns) item_words

-- "An item is 7 words"
pub all_seven : (ns : List Node) → Every (λ w. length w ≡ 7) (all_items ns)
all_seven ns = rw (all_items_lem ns) (every_mapped item_words (every_of (λ x. refl) (each node_items ns)))

-- ---- item i of node n among the items of all, and its words among the words of all

-- "operator, left, right, kind, first item, item count" of a node whose items begin at from
abbrev pub six : ℕ → Node → List ℕ
six from n = (parts n).operator ∷ (parts n).left ∷ (parts n).right ∷ (parts n).kind ∷ from ∷ length (parts n).items ∷ []

module _ (d : Node) where
  pub item_among : (ns : List Node) (n : ℕ) → n < length ns → (i : ℕ) → i < length (parts (get_or ns n d)).items
      → get_or (all_items ns) (length (all_items (take n ns)) + i) [] ≡ get_or (parts (get_or ns n d)).items i []
  item_among [] n h i l = absurd (omega arith)
  item_among (x ∷ ns) zero h i l = let p : 0 + i ≡ i = omega arith in rw p (get_or-append (parts x).items (all_items ns) [] i l)
  item_among (x ∷ ns) (suc n) h i l =
      let m : ℕ = length (all_items (take n ns)) in
      let p : length ((parts x).items ++ all_items (take n ns)) + i ≡ length (parts x).items + (m + i) =
      omega (arith, length-append (parts x).items (all_items (take n ns))) in
      rw p (get_or-append-add (parts x).items (all_items ns) (m + i) []) ∙ item_among ns n (omega arith) i l

  -- word k of node n among the words of all
  pub word_among : (from : ℕ) (ns : List Node) (rest : List ℕ) (n k : ℕ) → n < length ns → k < 6
      → get_or (node_words from ns ++ rest) (6 * n + k) 0 ≡ get_or (six (from + length (all_items (take n ns))) (get_or ns n d)) k 0
  word_among from [] rest n k h l = absurd (omega arith)
  word_among from (x ∷ ns) rest zero k h l =
      let p : 6 * 0 + k ≡ k = omega arith in
      rw p (get_or-append (six from x) (node_words (from + length (parts x).items) ns ++ rest) 0 k l)
      ∙ ap (λ (a : ℕ). get_or (six a x) k 0) (sym (add-zero from))
  word_among from (x ∷ ns) rest (suc n) k h l =
      let m : ℕ = length (parts x).items in
      let p : 6 * suc n + k ≡ 6 + (6 * n + k) = omega arith in
      let q : from + length ((parts x).items ++ all_items (take n ns)) ≡ from + m + length (all_items (take n ns)) =
      omega (arith, length-append (parts x).items (all_items (take n ns))) in
      rw p (get_or-append-add (six from x) (node_words (from + m) ns ++ rest) (6 * n + k) 0)
      ∙ word_among (from + m) ns rest n k (omega arith) l
      ∙ ap (λ (a : ℕ). get_or (six a (get_or ns n d)) k 0) (sym q)

-- "A node is 6 words"
pub words_length : (from : ℕ) (ns : List Node) → length (node_words from ns) ≡ 6 * length ns
words_length from [] = refl
words_length from (x ∷ ns) = rw (words_length (from + length (parts x).items) ns) (omega arith)
