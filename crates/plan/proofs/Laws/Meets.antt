-- An encoded plan passes the check of its header and of its nodes.
use mathlib.Core.Path.{◌≡◌, refl, sym, ap, ◌∙◌}
use mathlib.Core.Bool.{Bool, true, false, cond, not, ◌&&◌}
use mathlib.Core.List.{List, [], ◌∷◌, ◌++◌, map, append-nil}
use Prim.Native.Nat.{ℕ, zero, suc, ◌+◌, ◌<◌, ◌≤◌}
use native.Mathlib.Omega.{arith}
use lib.Dec.{leb, ltb, eqb}
use lib.ListN.{length, get_or, take, drop, take-append-drop, length-append, length-map}
use lib.Seq.{take-suc, take-length}
use borrow.Author.Tests.{lt-ltb, le-leb, eq-eqb, ne_eqb, eqb-true}
use Rattle.algebra.specs.Lists.{keep, all, is_empty, each, upto, Every, done, more}
use Rattle.algebra.specs.Plan.{Term, column, outer, constant, nothing, Conjunct, Computation, copy, add, subtract, Aggregate, Kind, inner}
use Rattle.algebra.specs.Plan.{semi, anti, left_outer, Node, scan, select, compute, project, join, group, groupjoin, dependent}
use Rattle.algebra.proofs.Lists.Every.{every_of, every_map, every_mapped, every_uneach, every_at}
use Rattle.algebra.proofs.Lists.Keep.{each_append}
use Rattle.algebra.proofs.Lists.Same.{and_both}
use Rattle.plan.specs.Words.{Item, tables, nodes, items, table_width, item_count}
use Rattle.plan.specs.Items.{between, is_conjunct, is_key, term_right, conjunct_right, computation_right, key_right, output_right, aggregate_right}
use Rattle.plan.specs.Verdict.{in_front, items_right, has_right, has_kind, items_before, inputs_right, kind_right, count_right, node_right}
use Rattle.plan.specs.Promise.{Formed}
use Rattle.plan.specs.Encoding.{kind_word, parts, all_items, words_of, conjunct_terms, computation_terms, terms_of}
use Rattle.plan.proofs.Laws.Loops.{all_of, empty_length}
use Rattle.plan.proofs.Laws.Header.{between_holds, widths_right, widths_mapped, limits_last}
use Rattle.plan.proofs.Laws.Items.{front_append}
use Rattle.plan.proofs.Laws.Numbered.{numbered}
use Rattle.plan.proofs.Laws.Encoded as encoded
use Rattle.plan.proofs.Laws.Written.{three_of, conjunct_item, computation_item, position_item, aggregate_item, node_items}
use Rattle.plan.proofs.Laws.Decoded.{keep_front, tag_low, aggregate_meets, aggregate_not_key, aggregate_not_conjunct}

-- ---- what the check asks of a plan's nodes

-- "level 0..7"
abbrev pub Levelled : Term → Type 0
Levelled (column p) = Unit {0}
Levelled (outer l p) = l ≤ 7
Levelled (constant z) = Unit {0}
Levelled nothing = Unit {0}

-- a node behind n others, over T tables: its table or inputs exist, and it has the items that it must have
abbrev pub Placed : ℕ → ℕ → Node → Type 0
Placed T n (scan t) = t < T
Placed T n (select cs i) = i < n
Placed T n (compute c i) = i < n
Placed T n (project ps i) = (i < n) × (0 < length ps)
Placed T n (join k cs l r) = (l < n) × (r < n)
Placed T n (group ks gs i) = (i < n) × (0 < length ks + length gs)
Placed T n (groupjoin cs gs l r) = (l < n) × (r < n) × (0 < length gs)
Placed T n (dependent k cs l r) = (l < n) × (r < n)

-- ---- its first four words

-- the operator of a node
operator_meets : (x : Node) → between 1 8 (parts x).operator ≡ true
operator_meets (scan t) = refl
operator_meets (select cs i) = refl
operator_meets (compute c i) = refl
operator_meets (project ps i) = refl
operator_meets (join k cs l r) = refl
operator_meets (group ks gs i) = refl
operator_meets (groupjoin cs gs l r) = refl
operator_meets (dependent k cs l r) = refl

-- the test of the inputs, over a node's words
abbrev inputs_test : ℕ → ℕ → ℕ → ℕ → ℕ → Bool
inputs_test T n o l r = cond (eqb o 1) (ltb l T) (ltb l n) && cond (has_right o) (ltb r n) (eqb r 0)

-- its inputs
inputs_meet : (T n : ℕ) (x : Node) → Placed T n x → inputs_test T n (parts x).operator (parts x).left (parts x).right ≡ true
inputs_meet T n (scan t) h = rw (lt-ltb t T h)
inputs_meet T n (select cs i) h = rw (lt-ltb i n h)
inputs_meet T n (compute c i) h = rw (lt-ltb i n h)
inputs_meet T n (project ps i) h = rw (lt-ltb i n h.0)
inputs_meet T n (join k cs l r) h = rw (lt-ltb l n h.0, lt-ltb r n h.1)
inputs_meet T n (group ks gs i) h = rw (lt-ltb i n h.0)
inputs_meet T n (groupjoin cs gs l r) h = rw (lt-ltb l n h.0, lt-ltb r n h.1)
inputs_meet T n (dependent k cs l r) h = rw (lt-ltb l n h.0, lt-ltb r n h.1)

kind_word_meets : (k : Kind) → between 1 4 (kind_word k) ≡ true
kind_word_meets inner = refl
kind_word_meets semi = refl
kind_word_meets anti = refl
kind_word_meets left_outer = refl

-- its kind
kind_meets : (x : Node) → cond (has_kind (parts x).operator) (between 1 4 (parts x).kind) (eqb (parts x).kind 0) ≡ true
kind_meets (scan t) = refl
kind_meets (select cs i) = refl
kind_meets (compute c i) = refl
kind_meets (project ps i) = refl
kind_meets (join k cs l r) = kind_word_meets k
kind_meets (group ks gs i) = refl
kind_meets (groupjoin cs gs l r) = refl
kind_meets (dependent k cs l r) = kind_word_meets k

-- ---- its items

-- a term with a level up to 7, and the items made of such terms
term_meets : (t : Term) → Levelled t → term_right (three_of t) ≡ true
unfolding term_right
term_meets (column p) h = refl
term_meets (outer l p) h = le-leb l 7 h
term_meets (constant z) h = refl
term_meets nothing h = refl

conjunct_meets : (c : Conjunct) → Every Levelled (conjunct_terms c) → conjunct_right (conjunct_item c) ≡ true
conjunct_meets c (more a (more b done)) = rw (tag_low c.test, term_meets c.first a, term_meets c.second b)

computation_meets : (c : Computation) → Every Levelled (computation_terms c) → computation_right (computation_item c) ≡ true
computation_meets (copy a) (more h done) = rw (term_meets a h)
computation_meets (add a b) (more h (more g done)) = rw (term_meets a h, term_meets b g)
computation_meets (subtract a b) (more h (more g done)) = rw (term_meets a h, term_meets b g)

conjuncts_meet : (cs : List Conjunct) → Every Levelled (each conjunct_terms cs) → all conjunct_right (map conjunct_item cs) ≡ true
conjuncts_meet cs h = all_of conjunct_right (every_mapped conjunct_item (every_map conjunct_meets (every_uneach conjunct_terms cs h)))

aggregates_meet : (gs : List Aggregate) → all aggregate_right (map aggregate_item gs) ≡ true
aggregates_meet gs = all_of aggregate_right (every_mapped aggregate_item (every_of aggregate_meets gs))

-- items of one sort in front, of another behind
in_front_lem : (p q : Item → Bool) (m : ℕ) (xs ys : List Item) → length xs ≡ m → all p xs ≡ true → all q ys ≡ true → in_front p q m (xs ++ ys) ≡ true
in_front_lem p q m xs ys e f g = front_append p q m xs ys e ∙ and_both _ _ f g

-- a list with an element is not empty
not_empty : {A : Type 0} (xs : List A) → 0 < length xs → not (is_empty xs) ≡ true
not_empty xs h = rw (empty_length xs, ne_eqb (length xs) 0 (λ q. omega arith))

-- its items
items_meet : (T n : ℕ) (x : Node) → Placed T n x → Every Levelled (terms_of x) → items_right (parts x).operator (node_items x) ≡ true
unfolding items_right
items_meet T n (scan t) h e = refl
items_meet T n (select cs i) h e = conjuncts_meet cs e
items_meet T n (compute c i) h e = rw (computation_meets c e)
items_meet T n (project ps i) h e =
    and_both _ _
    (not_empty (map (position_item 12) ps) (omega (arith, length-map ps (position_item 12))))
    (all_of output_right (every_mapped (position_item 12) (every_of (λ p. refl) ps)))
items_meet T n (join k cs l r) h e = conjuncts_meet cs e
items_meet T n (group ks gs i) h e =
    let xs : List Item = map (position_item 11) ks in
    let ys : List Item = map aggregate_item gs in
    let m : length (keep is_key (xs ++ ys)) ≡ length xs = ap length (keep_front (position_item 11) aggregate_item is_key ks gs (λ p. refl) aggregate_not_key) in
    and_both _ _
    (not_empty (xs ++ ys) (omega (arith, length-append xs ys, length-map ks (position_item 11), length-map gs aggregate_item)))
    (in_front_lem key_right aggregate_right (length (keep is_key (xs ++ ys))) xs ys (sym m)
    (all_of key_right (every_mapped (position_item 11) (every_of (λ p. refl) ks))) (aggregates_meet gs))
items_meet T n (groupjoin cs gs l r) h e =
    let xs : List Item = map conjunct_item cs in
    let ys : List Item = map aggregate_item gs in
    let m : length (keep is_conjunct (xs ++ ys)) ≡ length xs =
    ap length (keep_front conjunct_item aggregate_item is_conjunct cs gs (λ c. tag_low c.test) aggregate_not_conjunct) in
    and_both _ _
    (lt-ltb (length (keep is_conjunct (xs ++ ys))) (length (xs ++ ys)) (omega (arith, length-append xs ys, length-map gs aggregate_item)))
    (in_front_lem conjunct_right aggregate_right (length (keep is_conjunct (xs ++ ys))) xs ys (sym m) (conjuncts_meet cs e) (aggregates_meet gs))
items_meet T n (dependent k cs l r) h e = conjuncts_meet cs e

-- ---- a node of an encoded plan

module _ (widths : List ℕ) (ns : List Node) (d : Node) where
  -- "First item is the sum of the counts of earlier nodes"
  before_of : (n : ℕ) → n ≤ length ns → items_before (words_of widths ns) n ≡ length (all_items (take n ns))
  unfolding items_before
  before_of zero h = refl
  before_of (suc n) h =
      (λ i. before_of n (omega arith) i + encoded.count_of widths ns d n h i)
      ∙ sym (ap (λ (l : List Node). length (all_items l)) (take-suc ns n d h)
      ∙ ap length (each_append (λ x. (parts x).items) (take n ns) (get_or ns n d ∷ []))
      ∙ length-append (all_items (take n ns)) ((parts (get_or ns n d)).items ++ [])
      ∙ ap (λ (l : List (List ℕ)). length (all_items (take n ns)) + length l) (append-nil (parts (get_or ns n d)).items))

  -- the items of a node end within those of all, and those of the last node where all do
  count_right_lem : (n : ℕ) → n < length ns → count_right (words_of widths ns) n ≡ true
  unfolding count_right items_before
  count_right_lem n h =
      and_both _ _
      (eq-eqb _ _ (encoded.first_of widths ns d n h ∙ sym (before_of n (omega arith))))
      (go (eqb (n + 1) (nodes ws)) refl)
    where
      ws : List ℕ
      ws = words_of widths ns

      total : ℕ
      total = items_before ws n + item_count ws n

      ends : (m : ℕ) → m ≤ length ns → length (all_items (take m ns)) + length (all_items (drop m ns)) ≡ length (all_items ns)
      ends m l =
          sym (length-append (all_items (take m ns)) (all_items (drop m ns)))
          ∙ ap length (sym (each_append (λ x. (parts x).items) (take m ns) (drop m ns)) ∙ ap all_items (take-append-drop m ns))

      go : (b : Bool) → eqb (n + 1) (nodes ws) ≡ b → cond b (eqb total (items ws)) (leb total (items ws)) ≡ true
      go true e =
          let m : suc n ≡ length ns = omega (arith, eqb-true (n + 1) (nodes ws) e, encoded.nodes_of_lem widths ns) in
          eq-eqb total (items ws)
          (before_of (suc n) h ∙ ap (λ (l : List Node). length (all_items l)) (ap (λ (k : ℕ). take k ns) m ∙ take-length ns) ∙ sym (encoded.items_of_lem widths ns))
      go false e = le-leb total (items ws) (omega (arith, before_of (suc n) h, ends (suc n) h, encoded.items_of_lem widths ns))

  -- a node that stands where it may, with levels up to 7, passes
  pub node_right_lem : (n : ℕ) → n < length ns → Placed (length widths) n (get_or ns n d) → Every Levelled (terms_of (get_or ns n d))
      → node_right (words_of widths ns) n ≡ true
  unfolding node_right inputs_right kind_right
  node_right_lem n h p e =
      let x : Node = get_or ns n d in
      let o = encoded.operator_of widths ns d n h in
      let l = encoded.left_of widths ns d n h in
      let r = encoded.right_of_lem widths ns d n h in
      let k = encoded.kind_of_lem widths ns d n h in
      and_both _ _
      (ap (between 1 8) o ∙ operator_meets x)
      (and_both _ _
      ((λ i. inputs_test (encoded.tables_of widths ns i) n (o i) (l i) (r i)) ∙ inputs_meet (length widths) n x p)
      (and_both _ _
      ((λ i. cond (has_kind (o i)) (between 1 4 (k i)) (eqb (k i) 0)) ∙ kind_meets x)
      (and_both _ _
      (count_right_lem n h)
      ((λ i. items_right (o i) (encoded.node_items_of widths ns d n h i)) ∙ items_meet (length widths) n x p e))))

-- ---- the whole plan

-- what the check of header, limits and nodes asks of a plan
pub record Writable (widths : List ℕ) (ns : List Node) : Type 0 where
  pub tables_some : 1 ≤ length widths
  pub tables_few : length widths ≤ 16
  pub nodes_some : 1 ≤ length ns
  pub nodes_few : length ns ≤ 256
  pub items_few : length (all_items ns) ≤ 2000
  pub widths_within : Every (λ w. (1 ≤ w) × (w ≤ 64)) widths
  pub placed : (n : ℕ) → n < length ns → Placed (length widths) n (get_or ns n (scan 0))
  pub levelled : Every (λ x. Every Levelled (terms_of x)) ns

module _ (widths : List ℕ) (ns : List Node) (w : Writable widths ns) where
  -- the widths of its tables
  widths_right_lem : true ≡ widths_right (words_of widths ns) (tables (words_of widths ns))
  widths_right_lem =
      sym (sym (widths_mapped ws (tables ws))
      ∙ ap (λ (n : ℕ). all (between 1 64) (map (table_width ws) (upto n))) (encoded.tables_of widths ns)
      ∙ ap (all (between 1 64)) (numbered (table_width ws) widths 0 (encoded.width_of_lem widths ns))
      ∙ all_of (between 1 64) (every_map (λ x h. between_holds 1 64 x h.0 h.1) w.widths_within))
    where
      ws : List ℕ
      ws = words_of widths ns

  -- an encoded plan passes refusals 1, 2 and 3
  pub formed_of : Formed (words_of widths ns)
  formed_of =
      let ws : List ℕ = words_of widths ns in
      let t = encoded.tables_of widths ns in
      let m = encoded.nodes_of_lem widths ns in
      let i = encoded.items_of_lem widths ns in
      record {
        sized = record {
          header = encoded.header_right_lem widths ns;
          limits = sym (limits_last ws (rw t w.tables_some) (rw t w.tables_few) (rw m w.nodes_some) (rw m w.nodes_few)
              (rw i w.items_few) (tables ws) refl true widths_right_lem);
        };
        formed = λ n h. let l : n < length ns = rw m at h in node_right_lem widths ns (scan 0) n l (w.placed n l) (every_at (scan 0) done w.levelled n);
      }
