-- The columns that the terms and items of a node name.
use mathlib.Core.Path.{◌≡◌, refl, sym, ap, ◌∙◌}
use mathlib.Core.Bool.{Bool, true, false, not, cond, ◌&&◌, and-true, and-false, and_assoc}
use mathlib.Core.Logic.{◌⊎◌, inl, inr}
use mathlib.Core.List.{List, map}
use Prim.Native.Nat.{ℕ, ◌+◌, ◌≤◌, ◌<◌}
use native.Mathlib.Omega.{arith}
use lib.Dec.{ltb, eqb}
use lib.ListN.{length, get_or}
use borrow.Author.Tests.{eqb-true, eqb-false, le-leb, lt-leb, ne_eqb}
use Rattle.algebra.specs.Plan.{Kind, copy, add, subtract, count, sum, minimum, maximum}
use Rattle.algebra.specs.Lists.{keep, all, is_empty, Every, done, more}
use Rattle.algebra.proofs.Lists.Keep.{keep_all}
use Rattle.algebra.proofs.Lists.Every.{every_map}
use Rattle.algebra.proofs.Lists.Same.{and_left, and_right}
use Rattle.plan.specs.Words.{Item, nodes, operator, left, right, kind, items_of}
use Rattle.plan.specs.Items.{between, is_conjunct, is_computation, is_key, is_output, is_aggregate, position_of, term_of, conjunct_of, computation_of}
use Rattle.plan.specs.Items.{aggregate_of, conjuncts_in, keys_in, aggregates_in, conjunct_right, computation_right, key_right, output_right, aggregate_right}
use Rattle.plan.specs.Plan.{node_for, kind_of, computation_in}
use Rattle.plan.specs.Verdict.{term_there, conjunct_there, computation_there, aggregate_there, columns_there, columns_right}
use Rattle.plan.specs.Verdict.{in_front, items_right, has_right, width_at, scope_of}
use Rattle.plan.specs.declared.operator.Operator.{Operator}
use Rattle.plan.specs.declared.operator.Operator.TheVariants.{Scan}
use Rattle.plan.specs.declared.sorts.Operation.{Operation}
use Rattle.plan.specs.declared.sorts.Operation.TheVariants.{Copy, Add, Subtract}
use Rattle.plan.specs.declared.sorts.Aggregate.{Aggregate}
use Rattle.plan.specs.declared.sorts.Aggregate.TheVariants.{Count, Sum, Minimum, Maximum}
use Rattle.plan.specs.Codes.{operator_of, operation_of, meant_aggregate}
use Rattle.plan.specs.Promise.{Formed}
use Rattle.plan.specs.Passes.{Widths, item_there}
use Rattle.plan.proofs.Laws.Loops.{all_map, by_one}
use Rattle.plan.proofs.Laws.Numbered.{every_all}
use Rattle.plan.proofs.Laws.Formed.{between_low, between_high, by_operator, facts_at, is_named, named_one, named_two}
use Rattle.plan.proofs.Laws.Codes.{OneInput, TwoInputs, copy_tag, not_copy_tag}
use Rattle.plan.proofs.Laws.Reach.{front_every}
use Rattle.plan.proofs.Laws.Restored.{conjunct_not_aggregate, key_not_aggregate, aggregate_not_conjunct, aggregate_not_key}

-- ---- an item

-- a tag below 11 names no position
outside_low : (t : ℕ) → t < 11 → between 11 16 t ≡ false
outside_low t h = rw (lt-leb 11 t h)

-- ---- items by their sorts

-- an item of the first of two sorts, or of the second
data OfTwo (is js there first second : Item → Bool) (x : Item) : Type 0 where
  of_first : is x ≡ true → js x ≡ false → first x ≡ there x → OfTwo is js there first second x
  of_second : is x ≡ false → js x ≡ true → second x ≡ there x → OfTwo is js there first second x

-- the first two of three tests in the other order
and_swap : (a b c : Bool) → (a && (b && c)) ≡ (b && (a && c))
and_swap true b c = refl
and_swap false b c = sym (and-false b)

-- items of two sorts pass as the items do
sorts_all : {B C : Type 0} (is js : Item → Bool) (f : Item → B) (g : Item → C) (passes : B → Bool) (takes : C → Bool) (there : Item → Bool)
    {xs : List Item} → Every (OfTwo is js there (λ x. passes (f x)) (λ x. takes (g x))) xs
    → (all passes (map f (keep is xs)) && all takes (map g (keep js xs))) ≡ all there xs
sorts_all is js f g passes takes there done = refl
sorts_all is js f g passes takes there (more {x} {xs} (of_first a b e) t) =
    rw (a, b, e) (and_assoc (there x) (all passes (map f (keep is xs))) (all takes (map g (keep js xs))) ∙ rw (sorts_all is js f g passes takes there t))
sorts_all is js f g passes takes there (more {x} {xs} (of_second a b e) t) =
    rw (a, b, e) (and_swap (all passes (map f (keep is xs))) (there x) (all takes (map g (keep js xs))) ∙ rw (sorts_all is js f g passes takes there t))

-- what an item of each sort asks
module _ (scope : List ℕ) (w v : ℕ) (x : Item) where
  conjunct_there_lem : is_conjunct x ≡ true → conjunct_there scope w (conjunct_of x) ≡ item_there scope w v x
  conjunct_there_lem h =
      let g : x.tag ≤ 7 = between_high 1 7 x.tag h in
      rw (outside_low x.tag (omega arith), ne_eqb x.tag 8 (λ e. omega arith))

  computation_there_lem : is_computation x ≡ true → computation_there scope w (computation_of x) ≡ item_there scope w v x
  unfolding computation_there computation_of
  computation_there_lem h =
      let g : x.tag ≤ 10 = between_high 8 10 x.tag h in
      rw (outside_low x.tag (omega arith)) (go (eqb x.tag 8) (eqb x.tag 9))
    where
      first : Bool
      first = term_there scope w (term_of x.first)

      second : Bool
      second = term_there scope w (term_of x.second)

      go : (a b : Bool)
          → (let p = term_of x.first in let q = term_of x.second in computation_there scope w (cond a (copy p) (cond b (add p q) (subtract p q))))
          ≡ (first && cond a true second)
      go true b = sym (and-true first)
      go false true = refl
      go false false = refl

  position_there : 11 ≤ x.tag → x.tag ≤ 12 → ltb (position_of x) v ≡ item_there scope w v x
  position_there g h = rw (le-leb 11 x.tag g, le-leb x.tag 16 (omega arith), ne_eqb x.tag 13 (λ e. omega arith))

  aggregate_there_lem : is_aggregate x ≡ true → aggregate_there v (aggregate_of x) ≡ item_there scope w v x
  unfolding aggregate_there aggregate_of
  aggregate_there_lem h =
      let g : 13 ≤ x.tag = between_low 13 16 x.tag h in
      rw (le-leb 11 x.tag (omega arith), le-leb x.tag 16 (between_high 13 16 x.tag h)) (go (eqb x.tag 13) (eqb x.tag 14) (eqb x.tag 15))
    where
      p : ℕ
      p = position_of x

      go : (a b c : Bool) → aggregate_there v (cond a count (cond b (sum p) (cond c (minimum p) (maximum p)))) ≡ cond a true (ltb p v)
      go true b c = refl
      go false true c = refl
      go false false true = refl
      go false false false = refl

  -- the same as the code reads it
  module _ (h : is_aggregate x ≡ true) {a : Aggregate} (e : meant_aggregate a ≡ aggregate_of x) where
    pub count_there : a ≡ Count → true ≡ item_there scope w v x
    unfolding aggregate_there
    count_there q = ap (aggregate_there v) (sym (ap meant_aggregate q) ∙ e) ∙ aggregate_there_lem h

    pub column_there : {p : ℕ} → (a ≡ Sum p) ⊎ ((a ≡ Minimum p) ⊎ (a ≡ Maximum p)) → ltb p v ≡ item_there scope w v x
    unfolding aggregate_there
    column_there (inl q) = ap (aggregate_there v) (sym (ap meant_aggregate q) ∙ e) ∙ aggregate_there_lem h
    column_there (inr (inl q)) = ap (aggregate_there v) (sym (ap meant_aggregate q) ∙ e) ∙ aggregate_there_lem h
    column_there (inr (inr q)) = ap (aggregate_there v) (sym (ap meant_aggregate q) ∙ e) ∙ aggregate_there_lem h

  module _ (h : is_computation x ≡ true) {o : Operation} (e : o ≡ operation_of x.tag) where
    low : between 11 16 x.tag ≡ false
    low = let g : x.tag ≤ 10 = between_high 8 10 x.tag h in outside_low x.tag (omega arith)

    pub copy_there : o ≡ Copy → {b : Bool} → b ≡ term_there scope w (term_of x.first) → b ≡ item_there scope w v x
    copy_there q d = d ∙ rw (low, copy_tag x.tag (sym q ∙ e)) (sym (and-true (term_there scope w (term_of x.first))))

    pub both_there : (o ≡ Add) ⊎ (o ≡ Subtract) → {b : Bool} → b ≡ conjunct_there scope w (conjunct_of x) → b ≡ item_there scope w v x
    both_there q d = d ∙ rw (low, not_copy_tag x.tag e q)

-- ---- the columns of a node

module _ (scope : List ℕ) (w v : ℕ) (xs : List Item) where
  -- conjuncts, or output columns, alone
  conjuncts_there : all conjunct_right xs ≡ true → all (conjunct_there scope w) (conjuncts_in xs) ≡ all (item_there scope w v) xs
  conjuncts_there e =
      let t : Every (λ x. is_conjunct x ≡ true) xs =
      every_map (λ x (h : conjunct_right x ≡ true). and_left (is_conjunct x) _ h) (every_all conjunct_right xs e) in
      rw (keep_all is_conjunct t)
      (all_map conjunct_of (conjunct_there scope w) (item_there scope w v) (every_map (λ x (c : is_conjunct x ≡ true). conjunct_there_lem scope w v x c) t))

  outputs_there : all output_right xs ≡ true → all (λ p. ltb p v) (map position_of xs) ≡ all (item_there scope w v) xs
  outputs_there e = all_map position_of (λ p. ltb p v) (item_there scope w v) (every_map output (every_all output_right xs e))
    where
      output : (x : Item) → output_right x ≡ true → ltb (position_of x) v ≡ item_there scope w v x
      output x h =
          let g : x.tag ≡ 12 = eqb-true x.tag 12 (and_left (is_output x) _ h) in
          position_there scope w v x (omega arith) (omega arith)

  -- the one computation of a node
  computation_alone : (eqb (length xs) 1 && all computation_right xs) ≡ true
      → computation_there scope w (computation_in xs) ≡ all (item_there scope w v) xs
  computation_alone e =
      by_one (λ ys. all computation_right ys ≡ true → computation_there scope w (computation_in ys) ≡ all (item_there scope w v) ys)
      (λ x h. computation_there_lem scope w v x (and_left (is_computation x) _ (and_left (computation_right x) _ h)) ∙ sym (and-true (item_there scope w v x)))
      xs (eqb-true (length xs) 1 (and_left (eqb (length xs) 1) _ e)) (and_right (eqb (length xs) 1) _ e)

  -- an item of one sort, or an aggregate
  abbrev OrAggregate : (is first : Item → Bool) → Item → Type 0
  OrAggregate is first x = OfTwo is is_aggregate (item_there scope w v) first (λ y. aggregate_there v (aggregate_of y)) x

  aggregate_second : (is first : Item → Bool) (x : Item) → is x ≡ false → aggregate_right x ≡ true → OrAggregate is first x
  aggregate_second is first x n h =
      let c : is_aggregate x ≡ true = and_left (is_aggregate x) _ h in
      of_second n c (aggregate_there_lem scope w v x c)

  -- keys, then aggregates
  group_there : (m : ℕ) → in_front key_right aggregate_right m xs ≡ true
      → (all (λ p. ltb p v) (keys_in xs) && all (aggregate_there v) (aggregates_in xs)) ≡ all (item_there scope w v) xs
  group_there m e =
      sorts_all is_key is_aggregate position_of aggregate_of (λ p. ltb p v) (aggregate_there v) (item_there scope w v)
      (front_every key_right aggregate_right key aggregate m xs e)
    where
      aggregate : (x : Item) → aggregate_right x ≡ true → OrAggregate is_key (λ y. ltb (position_of y) v) x
      aggregate x h = aggregate_second is_key (λ y. ltb (position_of y) v) x (aggregate_not_key x h) h

      key : (x : Item) → key_right x ≡ true → OrAggregate is_key (λ y. ltb (position_of y) v) x
      key x h =
          let k : is_key x ≡ true = and_left (is_key x) _ h in
          let g : x.tag ≡ 11 = eqb-true x.tag 11 k in
          of_first k (key_not_aggregate x h) (position_there scope w v x (omega arith) (omega arith))

  -- conjuncts, then aggregates
  groupjoin_there : (m : ℕ) → in_front conjunct_right aggregate_right m xs ≡ true
      → (all (conjunct_there scope w) (conjuncts_in xs) && all (aggregate_there v) (aggregates_in xs)) ≡ all (item_there scope w v) xs
  groupjoin_there m e =
      sorts_all is_conjunct is_aggregate conjunct_of aggregate_of (conjunct_there scope w) (aggregate_there v) (item_there scope w v)
      (front_every conjunct_right aggregate_right conjunct aggregate m xs e)
    where
      aggregate : (x : Item) → aggregate_right x ≡ true → OrAggregate is_conjunct (λ y. conjunct_there scope w (conjunct_of y)) x
      aggregate x h = aggregate_second is_conjunct (λ y. conjunct_there scope w (conjunct_of y)) x (aggregate_not_conjunct x h) h

      conjunct : (x : Item) → conjunct_right x ≡ true → OrAggregate is_conjunct (λ y. conjunct_there scope w (conjunct_of y)) x
      conjunct x h =
          let k : is_conjunct x ≡ true = and_left (is_conjunct x) _ h in
          of_first k (conjunct_not_aggregate x h) (conjunct_there_lem scope w v x k)

-- by operator: conjuncts and computations over left then right, the other columns over the last input
columns_for : (width : ℕ → ℕ) (scope : List ℕ) (l r : ℕ) (k : Kind) (xs : List Item) (o : ℕ) → 1 ≤ o → o ≤ 8 → items_right o xs ≡ true
    → columns_there width scope (node_for o l r k xs)
    ≡ cond (eqb o 1) true (cond (has_right o) (all (item_there scope (width l + width r) (width r)) xs) (all (item_there scope (width l) (width l)) xs))
unfolding columns_there node_for items_right
columns_for width scope l r k xs =
    by_operator
    (λ o. items_right o xs ≡ true → columns_there width scope (node_for o l r k xs)
    ≡ cond (eqb o 1) true (cond (has_right o) (all (item_there scope (width l + width r) (width r)) xs) (all (item_there scope (width l) (width l)) xs)))
    (λ e. refl)
    (conjuncts_there scope (width l) (width l) xs)
    (computation_alone scope (width l) (width l) xs)
    (λ e. outputs_there scope (width l) (width l) xs (and_right (not (is_empty xs)) _ e))
    (conjuncts_there scope (width l + width r) (width r) xs)
    (λ e. group_there scope (width l) (width l) xs (length (keep is_key xs)) (and_right (not (is_empty xs)) _ e))
    (λ e. groupjoin_there scope (width l + width r) (width r) xs (length (keep is_conjunct xs))
    (and_right (ltb (length (keep is_conjunct xs)) (length xs)) _ e))
    (conjuncts_there scope (width l + width r) (width r) xs)

module _ (ws : List ℕ) (f : Formed ws) (n : ℕ) (h : n < nodes ws) {x : Operator} (e : x ≡ operator_of (operator ws n)) where
  -- the items of node n, over rows of width w and a last input of width v
  abbrev all_there : ℕ → ℕ → Bool
  all_there w v = all (item_there (scope_of ws n) w v) (items_of ws n)

  -- the columns of node n by its words
  columns_at : columns_right ws n
      ≡ cond (eqb (operator ws n) 1) true
      (cond (has_right (operator ws n)) (all_there (width_at ws (left ws n) + width_at ws (right ws n)) (width_at ws (right ws n)))
      (all_there (width_at ws (left ws n)) (width_at ws (left ws n))))
  unfolding columns_right
  columns_at =
      let t = facts_at ws f n h in
      columns_for (width_at ws) (scope_of ws n) (left ws n) (right ws n) (kind_of (kind ws n)) (items_of ws n) (operator ws n) t.low t.high t.sorts

  -- a scan names no column
  pub columns_scan : x ≡ Scan → true ≡ columns_right ws n
  columns_scan q = sym (columns_at ∙ rw (is_named ws f n h e q))

  module _ (rows : List ℕ) (k : Widths ws rows) {i : ℕ} (d : i ≡ left ws n) where
    -- the table has the width of the left input
    left_width : eqb (operator ws n) 1 ≡ false → get_or rows i 0 ≡ width_at ws (left ws n)
    left_width q = rw d (k (left ws n) (omega (arith, (facts_at ws f n h).left_node (eqb-false _ _ q))))

    -- a node with one input
    pub columns_one : OneInput x → {r : Bool} → r ≡ all_there (get_or rows i 0) (get_or rows i 0) → r ≡ columns_right ws n
    columns_one t a =
        let q = named_one ws f n h e t in
        a ∙ rw (left_width q.0) (sym (columns_at ∙ rw (q.0, q.1)))

    -- a node with two inputs
    pub columns_two : {j : ℕ} → j ≡ right ws n → TwoInputs x
        → {r : Bool} → r ≡ all_there (get_or rows i 0 + get_or rows j 0) (get_or rows j 0) → r ≡ columns_right ws n
    columns_two {j} c t a =
        let q = named_two ws f n h e t in
        let y : get_or rows j 0 ≡ width_at ws (right ws n) = rw c (k (right ws n) (omega (arith, (facts_at ws f n h).right_node q.1))) in
        a ∙ rw (left_width q.0, y) (sym (columns_at ∙ rw (q.0, q.1)))
