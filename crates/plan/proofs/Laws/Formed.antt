-- What well-formed words say of each node.
use mathlib.Core.Path.{◌≡◌, refl, sym, ap, ◌∙◌}
use mathlib.Core.Bool.{Bool, true, false, cond}
use mathlib.Core.List.{List, [], ◌∷◌, map}
use Prim.Native.Nat.{ℕ, zero, suc, ◌+◌, ◌≤◌, ◌<◌}
use native.Mathlib.Omega.{arith}
use lib.Dec.{leb, ltb, eqb}
use lib.ListN.{length, get_or}
use borrow.Author.Tests.{ltb-true, leb-true, eqb-true, eqb-false, eq-eqb, ne_eqb}
use denote.Enum.Bare.{sameb, same_true, same_false}
use Rattle.plan.specs.contracts.operator.Operator.{the_type}
use Rattle.algebra.specs.Lists.{upto, Every, done, more}
use Rattle.algebra.specs.Plan.{Kind, inputs}
use Rattle.algebra.specs.Columns.{shape_of, shape_at}
use Rattle.algebra.proofs.Lists.Every.{every_of}
use Rattle.algebra.proofs.Lists.Keep.{map_id}
use Rattle.algebra.proofs.Tables.Shapes.{shape_at_lem}
use Rattle.plan.specs.Words.{Item, tables, nodes, items, operator, left, right, kind, first_item, item_count, items_of}
use Rattle.plan.specs.Items.{between}
use Rattle.plan.specs.Plan.{node_for, node_at, kind_of, widths_of, nodes_of}
use Rattle.plan.specs.Verdict.{has_right, has_kind, items_right, items_before, inputs_right, kind_right, count_right, node_right}
use Rattle.plan.specs.declared.operator.Operator.{Operator}
use Rattle.plan.specs.Codes.{operator_of, number_of, has_left}
use Rattle.plan.specs.Promise.{Sized, Formed}
use Rattle.plan.proofs.Laws.Header.{both, between_says, Limits, limits_say}
use Rattle.plan.proofs.Laws.Numbered.{numbered_at, numbered_length}
use Rattle.plan.proofs.Laws.Codes.{number_back, operator_back, OneInput, TwoInputs, one_input, two_inputs}

-- ---- numbers

-- a number between two others
pub between_low : (a b x : ℕ) → between a b x ≡ true → a ≤ x
between_low a b x e = (between_says a b x e).0

pub between_high : (a b x : ℕ) → between a b x ≡ true → x ≤ b
between_high a b x e = (between_says a b x e).1

-- 0, 1, .. has i at i
pub upto_at : (n i d : ℕ) → i < n → get_or (upto n) i d ≡ i
upto_at n i d h = rw (map_id (λ k. k) (every_of (λ k. refl) (upto n))) at (numbered_at (λ k. k) n i d h)

-- what a list worked out at 0, 1, .. has at i
pub mapped_at : {A : Type 0} (f : ℕ → A) (n i j : ℕ) → i < n → get_or (map f (upto n)) i (f j) ≡ f i
mapped_at f n i j h = numbered_at f n i (f j) h

-- ---- the limits

-- what the limits of a sized slice say
pub limited : (ws : List ℕ) → Sized ws → Limits ws
limited ws s = limits_say ws s.limits

-- ---- a node

-- a property of the operators 1 to 8
pub by_operator : (P : ℕ → Type 0) → P 1 → P 2 → P 3 → P 4 → P 5 → P 6 → P 7 → P 8 → (o : ℕ) → 1 ≤ o → o ≤ 8 → P o
by_operator P p1 p2 p3 p4 p5 p6 p7 p8 zero l h = absurd (omega arith)
by_operator P p1 p2 p3 p4 p5 p6 p7 p8 (suc zero) l h = p1
by_operator P p1 p2 p3 p4 p5 p6 p7 p8 (suc (suc zero)) l h = p2
by_operator P p1 p2 p3 p4 p5 p6 p7 p8 (suc (suc (suc zero))) l h = p3
by_operator P p1 p2 p3 p4 p5 p6 p7 p8 (suc (suc (suc (suc zero)))) l h = p4
by_operator P p1 p2 p3 p4 p5 p6 p7 p8 (suc (suc (suc (suc (suc zero))))) l h = p5
by_operator P p1 p2 p3 p4 p5 p6 p7 p8 (suc (suc (suc (suc (suc (suc zero)))))) l h = p6
by_operator P p1 p2 p3 p4 p5 p6 p7 p8 (suc (suc (suc (suc (suc (suc (suc zero))))))) l h = p7
by_operator P p1 p2 p3 p4 p5 p6 p7 p8 (suc (suc (suc (suc (suc (suc (suc (suc zero)))))))) l h = p8
by_operator P p1 p2 p3 p4 p5 p6 p7 p8 (suc (suc (suc (suc (suc (suc (suc (suc (suc o))))))))) l h = absurd (omega arith)

-- the tests of a right node
pub node_tests : (ws : List ℕ) (n : ℕ) → node_right ws n ≡ true
    → (between 1 8 (operator ws n) ≡ true) × (inputs_right ws n ≡ true) × (kind_right ws n ≡ true) × (count_right ws n ≡ true)
    × (items_right (operator ws n) (items_of ws n) ≡ true)
unfolding node_right
node_tests ws n e =
    let a = both (between 1 8 (operator ws n)) _ e in
    let b = both (inputs_right ws n) _ a.1 in
    let c = both (kind_right ws n) _ b.1 in
    let d = both (count_right ws n) _ c.1 in
    (a.0, b.0, c.0, d.0, d.1)

-- what a right count says
pub count_says : (ws : List ℕ) (n : ℕ) → count_right ws n ≡ true → (first_item ws n ≡ items_before ws n) × (first_item ws n + item_count ws n ≤ items ws)
unfolding count_right
count_says ws n e =
    let h = both (eqb (first_item ws n) (items_before ws n)) _ e in
    let f : first_item ws n ≡ items_before ws n = eqb-true _ _ h.0 in
    (f, rw f (ends (eqb (n + 1) (nodes ws)) h.1))
  where
    ends : (b : Bool) → cond b (eqb (items_before ws n + item_count ws n) (items ws)) (leb (items_before ws n + item_count ws n) (items ws)) ≡ true
        → items_before ws n + item_count ws n ≤ items ws
    ends true h = omega (arith, eqb-true (items_before ws n + item_count ws n) (items ws) h)
    ends false h = leb-true _ _ h

-- what a right node says
pub record NodeFacts (ws : List ℕ) (n : ℕ) : Type 0 where
  pub low : 1 ≤ operator ws n
  pub high : operator ws n ≤ 8
  pub left_table : operator ws n ≡ 1 → left ws n < tables ws
  pub left_node : (operator ws n ≡ 1 → ⊥) → left ws n < n
  pub right_node : has_right (operator ws n) ≡ true → right ws n < n
  pub right_none : has_right (operator ws n) ≡ false → right ws n ≡ 0
  pub kind_low : has_kind (operator ws n) ≡ true → 1 ≤ kind ws n
  pub kind_high : has_kind (operator ws n) ≡ true → kind ws n ≤ 4
  pub first : first_item ws n ≡ items_before ws n
  pub within : first_item ws n + item_count ws n ≤ items ws
  pub sorts : items_right (operator ws n) (items_of ws n) ≡ true

pub node_facts : (ws : List ℕ) (n : ℕ) → node_right ws n ≡ true → NodeFacts ws n
unfolding inputs_right kind_right
node_facts ws n e =
    let t = node_tests ws n e in
    let i = both (cond (eqb (operator ws n) 1) (ltb (left ws n) (tables ws)) (ltb (left ws n) n)) _ t.1 in
    let lefts : cond (eqb (operator ws n) 1) (ltb (left ws n) (tables ws)) (ltb (left ws n) n) ≡ true = i.0 in
    let rights : cond (has_right (operator ws n)) (ltb (right ws n) n) (eqb (right ws n) 0) ≡ true = i.1 in
    let kinds : cond (has_kind (operator ws n)) (between 1 4 (kind ws n)) (eqb (kind ws n) 0) ≡ true = t.2 in
    let counts = count_says ws n t.3 in
    record {
      low = between_low 1 8 (operator ws n) t.0;
      high = between_high 1 8 (operator ws n) t.0;
      left_table = λ q. ltb-true _ _ (rw (eq-eqb (operator ws n) 1 q) at lefts);
      left_node = λ q. ltb-true _ _ (rw (ne_eqb (operator ws n) 1 q) at lefts);
      right_node = λ q. ltb-true _ _ (rw q at rights);
      right_none = λ q. eqb-true _ _ (rw q at rights);
      kind_low = λ q. between_low 1 4 (kind ws n) (rw q at kinds);
      kind_high = λ q. between_high 1 4 (kind ws n) (rw q at kinds);
      first = counts.0;
      within = counts.1;
      sorts = t.4;
    }

-- whether a node has a right input, as the code reads it
pub right_read : (ws : List ℕ) (n : ℕ) {o : ℕ} {b t : Bool} → o ≡ operator ws n → b ≡ has_right o → b ≡ t → has_right (operator ws n) ≡ t
right_read ws n e says q = rw (sym e) (sym says ∙ q)

-- the inputs of the node that the words say
inputs_for : (l r : ℕ) (k : Kind) (xs : List Item) (o : ℕ) → 1 ≤ o → o ≤ 8
    → inputs (node_for o l r k xs) ≡ cond (eqb o 1) [] (cond (has_right o) (l ∷ r ∷ []) (l ∷ []))
unfolding node_for
inputs_for l r k xs =
    by_operator (λ o. inputs (node_for o l r k xs) ≡ cond (eqb o 1) [] (cond (has_right o) (l ∷ r ∷ []) (l ∷ []))) refl refl refl refl refl refl refl refl

module _ (ws : List ℕ) (f : Formed ws) (n : ℕ) (h : n < nodes ws) where
  -- a table of all nodes has its number
  pub numbers_few : n < 256
  numbers_few = omega (arith, (limited ws f.sized).nodes_few)

  -- the facts of node n
  pub facts_at : NodeFacts ws n
  facts_at = node_facts ws n (f.formed n h)

  -- what its operator's number says, as the code reads the operator
  module _ {x : Operator} (e : x ≡ operator_of (operator ws n)) where
    pub named : number_of x ≡ operator ws n
    named = ap number_of e ∙ number_back (operator ws n) facts_at.low facts_at.high

    -- it is that of an operator where they are the same
    pub is_named : {y : Operator} → x ≡ y → operator ws n ≡ number_of y
    is_named q = sym named ∙ ap number_of q

    pub not_named : (y : Operator) → (x ≡ y → ⊥) → operator ws n ≡ number_of y → ⊥
    not_named y q g = q (e ∙ ap operator_of g ∙ operator_back y)

    -- as a test of the operator says
    pub named_is : (y : Operator) → sameb the_type x y ≡ eqb (operator ws n) (number_of y)
    named_is y = go (sameb the_type x y) refl
      where
        go : (b : Bool) → sameb the_type x y ≡ b → b ≡ eqb (operator ws n) (number_of y)
        go true t = sym (eq-eqb _ _ (is_named (same_true the_type tt x y t)))
        go false t = sym (ne_eqb _ _ (not_named y (same_false the_type x y t)))

    -- one input
    pub named_one : OneInput x → (eqb (operator ws n) 1 ≡ false) × (has_right (operator ws n) ≡ false)
    named_one t = rw named at (one_input t)

    -- two
    pub named_two : TwoInputs x → (eqb (operator ws n) 1 ≡ false) × (has_right (operator ws n) ≡ true)
    named_two t = rw named at (two_inputs t)

    pub named_left : {b : Bool} → b ≡ has_left (number_of x) → b ≡ has_left (operator ws n)
    named_left says = says ∙ ap has_left named

    pub named_right : {b : Bool} → b ≡ has_right (number_of x) → b ≡ has_right (operator ws n)
    named_right says = says ∙ ap has_right named

  -- the inputs of a dependent join are nodes
  pub dependent_left : operator ws n ≡ 8 → left ws n < nodes ws
  dependent_left e = omega (arith, facts_at.left_node (λ q. omega arith))

  pub dependent_right : operator ws n ≡ 8 → right ws n < nodes ws
  dependent_right e = omega (arith, facts_at.right_node (rw e))

  -- what a node names as its inputs is a node, or a table, of which there are fewer
  pub left_in : {i : ℕ} → i ≡ left ws n → i < 256
  left_in {i} e = go (eqb (operator ws n) 1) refl
    where
      go : (b : Bool) → eqb (operator ws n) 1 ≡ b → i < 256
      go true q = omega (arith, e, facts_at.left_table (eqb-true _ _ q), (limited ws f.sized).tables_few)
      go false q = omega (arith, e, facts_at.left_node (eqb-false _ _ q), (limited ws f.sized).nodes_few)

  pub right_in : {i : ℕ} → i ≡ right ws n → i < 256
  right_in {i} e = go (has_right (operator ws n)) refl
    where
      go : (b : Bool) → has_right (operator ws n) ≡ b → i < 256
      go true q = omega (arith, e, facts_at.right_node q, (limited ws f.sized).nodes_few)
      go false q = omega (arith, e, facts_at.right_none q)

  -- the inputs of node n by its words
  pub inputs_at : inputs (node_at ws n) ≡ cond (eqb (operator ws n) 1) [] (cond (has_right (operator ws n)) (left ws n ∷ right ws n ∷ []) (left ws n ∷ []))
  inputs_at = inputs_for (left ws n) (right ws n) (kind_of (kind ws n)) (items_of ws n) (operator ws n) facts_at.low facts_at.high

  -- "Inputs are node numbers below the node's own"
  pub inputs_below : Every (λ j. j < n) (inputs (node_at ws n))
  inputs_below = rw inputs_at (scanned (eqb (operator ws n) 1) refl)
    where
      paired : (eqb (operator ws n) 1 ≡ false) → (b : Bool) → has_right (operator ws n) ≡ b
          → Every (λ j. j < n) (cond b (left ws n ∷ right ws n ∷ []) (left ws n ∷ []))
      paired e true t = more (facts_at.left_node (eqb-false _ _ e)) (more (facts_at.right_node t) done)
      paired e false t = more (facts_at.left_node (eqb-false _ _ e)) done

      scanned : (b : Bool) → eqb (operator ws n) 1 ≡ b
          → Every (λ j. j < n) (cond b [] (cond (has_right (operator ws n)) (left ws n ∷ right ws n ∷ []) (left ws n ∷ [])))
      scanned true e = done
      scanned false e = paired e (has_right (operator ws n)) refl

  -- the same as the code reads them
  module _ {o : ℕ} (e : o ≡ operator ws n) where
    pub left_below : (o ≡ 1 → ⊥) → {i : ℕ} → i ≡ left ws n → i < n
    left_below q d = omega (arith, facts_at.left_node (λ s. q (e ∙ s)))

    pub right_below : has_right o ≡ true → {i : ℕ} → i ≡ right ws n → i < n
    right_below q d = omega (arith, facts_at.right_node (rw (sym e) q))

  -- both inputs are nodes before it
  module _ {x : Operator} (e : x ≡ operator_of (operator ws n)) (t : TwoInputs x) where
    pub inputs_there : {l r : ℕ} → l ≡ left ws n → r ≡ right ws n → (l < n) × (r < n)
    inputs_there el er =
        let q = named_two e t in
        (omega (arith, el, facts_at.left_node (eqb-false _ _ q.0)), omega (arith, er, facts_at.right_node q.1))

pub nodes_length : (ws : List ℕ) → length (nodes_of ws) ≡ nodes ws
nodes_length ws = numbered_length (node_at ws) (nodes ws)

-- the shape of a node from those of its inputs
pub shape_of_lem : (ws : List ℕ) → Formed ws → (n : ℕ) → n < nodes ws
    → shape_at (widths_of ws) (nodes_of ws) n ≡ shape_of (widths_of ws) (shape_at (widths_of ws) (nodes_of ws)) (node_at ws n)
shape_of_lem ws f n h =
    let at : get_or (nodes_of ws) n (node_at ws 0) ≡ node_at ws n = mapped_at (node_at ws) (nodes ws) n 0 h in
    rw at at (shape_at_lem (widths_of ws) (nodes_of ws) n (node_at ws 0) (rw (nodes_length ws) h) (rw at (inputs_below ws f n h)))
