-- How often each node is an input.
use mathlib.Core.Path.{◌≡◌, refl, sym, ap, ◌∙◌}
use mathlib.Core.Bool.{Bool, true, false, cond}
use mathlib.Core.List.{List, [], ◌∷◌, ◌++◌, map, append-nil, append_assoc}
use Prim.Native.Nat.{ℕ, zero, suc, ◌+◌, ◌-◌, ◌*◌, ◌≤◌, ◌<◌}
use native.Mathlib.Omega.{arith}
use native.Mathlib.Numerals.{add-one}
use lib.Dec.{eqb}
use lib.ListN.{length, get_or, set, replicate, length-append, length-set, length-replicate, get_or-replicate}
use lib.Seq.{get_or-set_same, get_or-set_other}
use borrow.Author.Tests.{eqb-true, eqb-false, lt-ltb, le-ltb}
use Rattle.algebra.specs.Lists.{keep, each, upto}
use Rattle.algebra.specs.Plan.{Node, scan, select, compute, project, join, group, groupjoin, dependent, inputs}
use Rattle.algebra.proofs.Lists.Keep.{keep_append}
use Rattle.plan.specs.Words.{nodes, operator, left, right}
use Rattle.plan.specs.Plan.{node_at}
use Rattle.plan.specs.Verdict.{has_right, is_unused_node}
use Rattle.plan.specs.declared.operator.Operator.{Operator}
use Rattle.plan.specs.Codes.{operator_of, number_of, has_left}
use Rattle.plan.specs.Promise.{Sized, Formed}
use Rattle.plan.specs.Passes.{Counted}
use Rattle.plan.proofs.Laws.Loops.{keep_few}
use Rattle.plan.proofs.Laws.Numbered.{each_more}
use Rattle.plan.proofs.Laws.Formed.{limited, by_operator, facts_at, inputs_at, named_left, named_right, left_in, right_in}

-- ---- counting

-- the table has how often each number stands in a list
pub record Tally (table xs : List ℕ) : Type 0 where
  pub size : length table ≡ 256
  pub each : (m : ℕ) → m < 256 → get_or table m 0 ≡ length (keep (eqb m) xs)

-- the inputs of the first n nodes
unfoldable pub seen : List ℕ → ℕ → List ℕ
seen ws n = each inputs (map (node_at ws) (upto n))

-- a table of zeros before the first node
pub tally_none : (ws : List ℕ) → Tally (replicate 256 0) (seen ws 0)
unfolding seen
tally_none ws = record { size = length-replicate {A = ℕ} 256 0; each = λ m h. get_or-replicate 256 m 0 0 h }

module _ {table xs : List ℕ} (tally : Tally table xs) where
  -- no count is above the length of the list
  tally_few : (m : ℕ) → m < 256 → get_or table m 0 ≤ length xs
  tally_few m h = rw (tally.each m h) (keep_few (eqb m) xs)

  -- an entry once i is counted
  added_at : (i : ℕ) → i < 256 → (m : ℕ) → m < 256 → get_or (set table i (get_or table i 0 + 1)) m 0 ≡ length (keep (eqb m) (xs ++ (i ∷ [])))
  added_at i h m g = rw (keep_append (eqb m) xs (i ∷ []), length-append) (go (eqb m i) refl)
    where
      go : (b : Bool) → eqb m i ≡ b → get_or (set table i (get_or table i 0 + 1)) m 0 ≡ length (keep (eqb m) xs) + length (cond b (i ∷ []) [])
      go true e =
          let q = eqb-true m i e in
          rw q (get_or-set_same table i (get_or table i 0 + 1) 0 (rw tally.size h) ∙ ap (λ (k : ℕ). k + 1) (tally.each i h))
      go false e = get_or-set_other table i m (get_or table i 0 + 1) 0 (eqb-false m i e) ∙ omega (arith, tally.each m g)

  -- one use more, or none
  tally_add : {after : List ℕ} (b : Bool) (i : ℕ) → b ≡ true → i < 256 → after ≡ set table i (get_or table i 0 + 1) → Tally after (xs ++ cond b (i ∷ []) [])
  tally_add b i t h e = rw (t, e) (record { size = length-set table i (get_or table i 0 + 1) ∙ tally.size; each = added_at i h })

  -- no use more
  tally_keep : {after : List ℕ} (b : Bool) (i : ℕ) → b ≡ false → after ≡ table → Tally after (xs ++ cond b (i ∷ []) [])
  tally_keep b i t e = rw (t, e, append-nil xs) tally

-- a node has at most two inputs
inputs_few : (x : Node) → length (inputs x) ≤ 2
inputs_few (scan t) = omega arith
inputs_few (select cs i) = omega arith
inputs_few (compute c i) = omega arith
inputs_few (project ps i) = omega arith
inputs_few (join k cs l r) = omega arith
inputs_few (group ks gs i) = omega arith
inputs_few (groupjoin cs gs l r) = omega arith
inputs_few (dependent k cs l r) = omega arith

-- the inputs of one node more
seen_suc : (ws : List ℕ) (n : ℕ) → seen ws (suc n) ≡ seen ws n ++ inputs (node_at ws n)
unfolding seen
seen_suc ws n = each_more inputs (node_at ws) n

-- n nodes have at most 2n inputs
seen_few : (ws : List ℕ) (n : ℕ) → length (seen ws n) ≤ 2 * n
unfolding seen
seen_few ws zero = omega arith
seen_few ws (suc n) = omega (arith, ap length (seen_suc ws n), length-append (seen ws n) (inputs (node_at ws n)), seen_few ws n, inputs_few (node_at ws n))

-- the inputs of the first n nodes, and the left one of node n
unfoldable pub seen_left : List ℕ → ℕ → List ℕ
seen_left ws n = seen ws n ++ cond (has_left (operator ws n)) (left ws n ∷ []) []

-- one more with the left input
seen_left_few : (ws : List ℕ) (n : ℕ) → length (seen_left ws n) ≤ 2 * n + 1
unfolding seen_left
seen_left_few ws n = rw length-append (go (has_left (operator ws n)))
  where
    go : (b : Bool) → length (seen ws n) + length (cond b (left ws n ∷ []) []) ≤ 2 * n + 1
    go true = omega (arith, seen_few ws n)
    go false = omega (arith, seen_few ws n)

module _ {ws : List ℕ} {n : ℕ} (formed : Formed ws) (h : n < nodes ws) where
  -- the table has room for every node
  few : nodes ws ≤ 256
  few = (limited ws formed.sized).nodes_few

  module _ {x : Operator} {b : Bool} (is_operator : x ≡ operator_of (operator ws n)) (says : b ≡ has_left (number_of x)) {table : List ℕ}
      (tally : Tally table (seen ws n)) where
    -- the left input's count is far from full
    pub left_room : {l : ℕ} → l ≡ left ws n → get_or table l 0 < 1000
    left_room {l} is_left = omega (arith, few, tally_few tally l (left_in ws formed n h is_left), seen_few ws n)

    -- the left input is counted
    pub left_added : {l : ℕ} {after : List ℕ} → l ≡ left ws n → b ≡ true → after ≡ set table l (get_or table l 0 + 1) → Tally after (seen_left ws n)
    unfolding seen_left
    left_added is_left e q =
        tally_add tally (has_left (operator ws n)) (left ws n) (sym (named_left ws formed n h is_operator says) ∙ e) (left_in ws formed n h refl) (rw is_left at q)

    -- a scan has none
    pub left_kept : {after : List ℕ} → b ≡ false → after ≡ table → Tally after (seen_left ws n)
    unfolding seen_left
    left_kept e q = tally_keep tally (has_left (operator ws n)) (left ws n) (sym (named_left ws formed n h is_operator says) ∙ e) q

  -- left, then right
  parted : (o : ℕ) → 1 ≤ o → o ≤ 8 → (l r : ℕ)
      → cond (has_left o) (l ∷ []) [] ++ cond (has_right o) (r ∷ []) [] ≡ cond (eqb o 1) [] (cond (has_right o) (l ∷ r ∷ []) (l ∷ []))
  parted =
      by_operator
      (λ o. (l r : ℕ) → cond (has_left o) (l ∷ []) [] ++ cond (has_right o) (r ∷ []) [] ≡ cond (eqb o 1) [] (cond (has_right o) (l ∷ r ∷ []) (l ∷ [])))
      (λ l r. refl) (λ l r. refl) (λ l r. refl) (λ l r. refl) (λ l r. refl) (λ l r. refl) (λ l r. refl) (λ l r. refl)

  -- the right input makes up the inputs of one node more
  parts : seen_left ws n ++ cond (has_right (operator ws n)) (right ws n ∷ []) [] ≡ seen ws (n + 1)
  unfolding seen_left
  parts =
      let f = facts_at ws formed n h in
      rw (add-one n, seen_suc ws n, inputs_at ws formed n h, append_assoc)
      (ap (λ (xs : List ℕ). seen ws n ++ xs) (parted (operator ws n) f.low f.high (left ws n) (right ws n)))

  module _ {x : Operator} {b : Bool} (is_operator : x ≡ operator_of (operator ws n)) (says : b ≡ has_right (number_of x)) {table : List ℕ}
      (tally : Tally table (seen_left ws n)) where
    -- the right input's count is far from full
    pub right_room : {r : ℕ} → r ≡ right ws n → get_or table r 0 < 1000
    right_room {r} is_right = omega (arith, few, tally_few tally r (right_in ws formed n h is_right), seen_left_few ws n)

    -- the right input is counted
    pub right_added : {r : ℕ} {after : List ℕ} → r ≡ right ws n → b ≡ true → after ≡ set table r (get_or table r 0 + 1) → Tally after (seen ws (n + 1))
    right_added is_right e q =
        rw (← parts)
        (tally_add tally (has_right (operator ws n)) (right ws n) (sym (named_right ws formed n h is_operator says) ∙ e) (right_in ws formed n h refl) (rw is_right at q))

    -- there is no right input
    pub right_kept : {after : List ℕ} → b ≡ false → after ≡ table → Tally after (seen ws (n + 1))
    right_kept e q = rw (← parts) (tally_keep tally (has_right (operator ws n)) (right ws n) (sym (named_right ws formed n h is_operator says) ∙ e) q)

-- after the last node
pub tally_end : (ws : List ℕ) {table : List ℕ} (n : ℕ) {m : ℕ} → m ≡ nodes ws → Tally table (seen ws n) → m ≤ n → n ≤ m → Counted ws table
unfolding seen
tally_end ws n e tally g l m h = let q : nodes ws ≡ n = omega arith in rw q (tally.each m h)

-- ---- the unused nodes

module _ {ws : List ℕ} (uses : List ℕ) (sized : Sized ws) (counted : Counted ws uses) (n : ℕ) where
  -- a node other than the root
  pub unused_test : n < nodes ws - 1 → is_unused_node ws n ≡ eqb (get_or uses n 0) 0
  unused_test h = rw (counted n (omega (arith, (limited ws sized).nodes_few)), lt-ltb (n + 1) (nodes ws) (omega arith))

  -- the root need not be used
  pub root_passed : nodes ws - 1 ≤ n → is_unused_node ws n ≡ false
  root_passed h = rw (le-ltb (n + 1) (nodes ws) (omega (arith, (limited ws sized).nodes_some)))
