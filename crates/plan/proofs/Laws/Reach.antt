-- How far a node's terms reach beyond it.
use mathlib.Core.Path.{◌≡◌, refl, sym, ap, ap₂, ◌∙◌}
use mathlib.Core.Bool.{Bool, true, false, not, cond, ◌&&◌, true≢false}
use mathlib.Core.Logic.{◌⊎◌, inl, inr}
use mathlib.Core.List.{List, [], ◌∷◌, ◌++◌, map}
use Prim.Native.Nat.{ℕ, zero, suc, ◌+◌, ◌≤◌, ◌<◌, max, pred}
use native.Mathlib.Omega.{arith}
use native.Mathlib.Numerals.{add-one}
use lib.Dec.{leb, ltb, eqb}
use lib.ListN.{length, get_or, take, drop, take-append-drop}
use borrow.Author.Tests.{leb-true, eqb-true, eqb-false, lt-ltb}
use Rattle.algebra.specs.Lists.{keep, all, each, is_empty, upto, Every, done, more}
use Rattle.algebra.specs.Plan.{Term, copy, add, subtract, Kind}
use Rattle.algebra.specs.Columns.{Column, term_reads, conjunct_reads, computation_reads, past_one, past, reads_of, Shape, shape_at}
use Rattle.algebra.proofs.Lists.Keep.{map_append}
use Rattle.algebra.proofs.Lists.Same.{and_left, and_right}
use Rattle.algebra.proofs.Lists.Every.{every_map, every_append, every_unmapped}
use Rattle.algebra.proofs.Domains.Keys.{upto_all}
use Rattle.plan.specs.Words.{Three, Item, nodes, operator, left, right, kind, first_item, item_count, item_word, item_at, items_from, items_of}
use Rattle.plan.specs.Items.{term_of, conjunct_of, computation_of, is_conjunct, is_computation, is_key, is_output, is_aggregate}
use Rattle.plan.specs.Items.{conjuncts_in, term_right, is_local, is_unused, conjunct_right, computation_right, key_right, output_right, aggregate_right}
use Rattle.plan.specs.Plan.{computation_in, node_for, kind_of, widths_of, nodes_of}
use Rattle.plan.specs.Verdict.{is_open_twice, has_right, in_front, items_right}
use Rattle.plan.specs.declared.operator.Operator.{Operator}
use Rattle.plan.specs.declared.operator.Operator.TheVariants.{Scan, Join, Groupjoin, Dependent}
use Rattle.plan.specs.Codes.{operator_of, number_of}
use Rattle.plan.specs.Promise.{Sized, Formed}
use Rattle.plan.specs.Passes.{Counted, Reaches, reach, term_reach, items_reach, node_reach}
use Rattle.plan.proofs.Laws.Loops.{empty_nil, by_one}
use Rattle.plan.proofs.Laws.Numbered.{every_all}
use Rattle.plan.proofs.Laws.Codes.{OneInput}
use Rattle.plan.proofs.Laws.Formed.{by_operator, facts_at, limited, named, shape_of_lem}

-- ---- terms and items as the code reads them

-- the reach of one item
abbrev pub item_reach : Item → ℕ
item_reach x = max (term_reach x.first) (term_reach x.second)

-- the reach of one item more
items_snoc : (xs : List Item) (x : Item) → items_reach (xs ++ (x ∷ [])) ≡ max (items_reach xs) (item_reach x)
items_snoc [] x = omega arith
items_snoc (y ∷ xs) x = omega (arith, items_snoc xs x)

-- one item more
pub reach_more : (f : ℕ → Item) (i : ℕ) → items_reach (map f (upto (i + 1))) ≡ max (items_reach (map f (upto i))) (item_reach (f i))
reach_more f i = rw (add-one i, map_append f (upto i) (i ∷ [])) (items_snoc (map f (upto i)) (f i))

-- ---- items by their sorts

module _ {A : Type 0} {P : A → Type 0} where
  -- a property of what passes is one of every element, where all pass
  pub all_every : (p : A → Bool) → ((x : A) → p x ≡ true → P x) → (xs : List A) → all p xs ≡ true → Every P xs
  all_every p f xs e = every_map f (every_all p xs e)

-- items of one sort, then of another
pub front_every : {P : Item → Type 0} (p q : Item → Bool) → ((x : Item) → p x ≡ true → P x) → ((x : Item) → q x ≡ true → P x) → (m : ℕ) (xs : List Item)
    → in_front p q m xs ≡ true → Every P xs
front_every p q f g m xs e =
    let first = all_every p f (take m xs) (and_left (all p (take m xs)) (all q (drop m xs)) e) in
    let others = all_every q g (drop m xs) (and_right (all p (take m xs)) (all q (drop m xs)) e) in
    rw take-append-drop at (every_append first others)

-- a property of each sort is one of the items of every operator
pub items_every : {P : Item → Type 0} → ((x : Item) → conjunct_right x ≡ true → P x) → ((x : Item) → computation_right x ≡ true → P x)
    → ((x : Item) → key_right x ≡ true → P x) → ((x : Item) → output_right x ≡ true → P x) → ((x : Item) → aggregate_right x ≡ true → P x)
    → (xs : List Item) (o : ℕ) → 1 ≤ o → o ≤ 8 → items_right o xs ≡ true → Every P xs
unfolding items_right
items_every {P} conjunct computation key output aggregate xs =
    by_operator (λ o. items_right o xs ≡ true → Every P xs)
    (λ e. rw (empty_nil xs e) done)
    (all_every conjunct_right conjunct xs)
    (λ e. all_every computation_right computation xs (and_right (eqb (length xs) 1) _ e))
    (λ e. all_every output_right output xs (and_right (not (is_empty xs)) _ e))
    (all_every conjunct_right conjunct xs)
    (λ e. front_every key_right aggregate_right key aggregate (length (keep is_key xs)) xs (and_right (not (is_empty xs)) _ e))
    (λ e. front_every conjunct_right aggregate_right conjunct aggregate (length (keep is_conjunct xs)) xs
    (and_right (ltb (length (keep is_conjunct xs)) (length xs)) _ e))
    (all_every conjunct_right conjunct xs)

-- ---- the terms of well-formed items

-- a local term has code and level 0
local_code : (t : Three) → is_local t ≡ true → t.code ≡ 0
local_code t e = eqb-true t.code 0 (and_left (eqb t.code 0) (eqb t.level 0) e)

local_level : (t : Three) → is_local t ≡ true → t.level ≡ 0
local_level t e = eqb-true t.level 0 (and_right (eqb t.code 0) (eqb t.level 0) e)

unused_local : (t : Three) → is_unused t ≡ true → is_local t ≡ true
unused_local t e = and_left (is_local t) (eqb t.value 0) e

local_reach : (t : Three) → is_local t ≡ true → term_reach t ≡ 0
local_reach t e = rw (local_code t e)

-- the level of a local, of an unused and of a used term
local_low : (t : Three) → is_local t ≡ true → t.level ≤ 7
local_low t e = omega (arith, local_level t e)

unused_low : (t : Three) → is_unused t ≡ true → t.level ≤ 7
unused_low t e = local_low t (unused_local t e)

-- a used term
used_low : (t : Three) → term_right t ≡ true → t.level ≤ 7
unfolding term_right
used_low t = go (eqb t.code 1) _
  where
    go : (b c : Bool) → cond b (leb t.level 7) (eqb t.level 0 && c) ≡ true → t.level ≤ 7
    go true c e = leb-true t.level 7 e
    go false c e = omega (arith, eqb-true t.level 0 (and_left (eqb t.level 0) c e))

-- the reach of a term
three_reach : (t : Three) → reach (term_reads (term_of t)) ≡ term_reach t
unfolding term_of
three_reach t = go (eqb t.code 1) refl
  where
    plain : (a b : Bool) (u v w : Term) → reach (term_reads u) ≡ 0 → reach (term_reads v) ≡ 0 → reach (term_reads w) ≡ 0
        → reach (term_reads (cond a u (cond b v w))) ≡ 0
    plain true b u v w e g h = e
    plain false true u v w e g h = g
    plain false false u v w e g h = h

    go : (b : Bool) → eqb t.code 1 ≡ b → reach (term_reads (term_of t)) ≡ cond b (suc t.level) 0
    go true e = rw (eqb-true t.code 1 e) (omega arith)
    go false e = rw e (plain (eqb t.code 0) (eqb t.code 2) _ _ _ refl refl refl)

-- ---- reads

-- two lists of columns
reach_append : (cs ds : List Column) → reach (cs ++ ds) ≡ max (reach cs) (reach ds)
reach_append [] ds = omega arith
reach_append (c ∷ cs) ds = omega (arith, reach_append cs ds)

-- past a dependent join one less
reach_past : (cs : List Column) → reach (past cs) ≡ pred (reach cs)
reach_past [] = refl
reach_past (c ∷ cs) = reach_append (past_one c.level c.position) (past cs) ∙ go c.level c.position (reach_past cs)
  where
    go : (l p : ℕ) → reach (past cs) ≡ pred (reach cs) → max (reach (past_one l p)) (reach (past cs)) ≡ pred (max (suc l) (reach cs))
    go zero p e = omega arith
    go (suc l) p e = omega arith

-- two terms
both_reach : (s t : Three) → reach (term_reads (term_of s) ++ term_reads (term_of t)) ≡ max (term_reach s) (term_reach t)
both_reach s t = reach_append (term_reads (term_of s)) (term_reads (term_of t)) ∙ ap₂ max (three_reach s) (three_reach t)

-- what is no conjunct reads nothing
abbrev Quiet : Item → Type 0
Quiet x = is_conjunct x ≡ false → item_reach x ≡ 0

-- the conjuncts among items that are quiet otherwise
conjuncts_reach : {xs : List Item} → Every Quiet xs → reach (each conjunct_reads (conjuncts_in xs)) ≡ items_reach xs
conjuncts_reach done = refl
conjuncts_reach (more {x} {xs} q t) = go (is_conjunct x) refl (conjuncts_reach t)
  where
    go : (b : Bool) → is_conjunct x ≡ b → reach (each conjunct_reads (conjuncts_in xs)) ≡ items_reach xs
        → reach (each conjunct_reads (map conjunct_of (cond b (x ∷ keep is_conjunct xs) (keep is_conjunct xs)))) ≡ items_reach (x ∷ xs)
    go true e h = reach_append (conjunct_reads (conjunct_of x)) (each conjunct_reads (conjuncts_in xs)) ∙ ap₂ max (both_reach x.first x.second) h
    go false e h = omega (arith, h, q e)

-- items that reach nothing
silent_reach : {xs : List Item} → Every (λ x. item_reach x ≡ 0) xs → items_reach xs ≡ 0
silent_reach done = refl
silent_reach (more e t) = omega (arith, e, silent_reach t)

-- ---- the items of an operator

-- of a conjunct nothing is asked
conjunct_quiet : (x : Item) → conjunct_right x ≡ true → Quiet x
conjunct_quiet x e q = absurd (true≢false (sym (and_left (is_conjunct x) _ e) ∙ q))

-- an item of a local and an unused term reaches nothing
silent : (x : Item) → is_local x.first ≡ true → is_unused x.second ≡ true → item_reach x ≡ 0
silent x e g = ap₂ max (local_reach x.first e) (local_reach x.second (unused_local x.second g))

-- so does a key, and an output column
position_silent : (tag : ℕ) (x : Item) → (eqb x.tag tag && (is_local x.first && is_unused x.second)) ≡ true → item_reach x ≡ 0
position_silent tag x e =
    let r = and_right (eqb x.tag tag) _ e in
    silent x (and_left (is_local x.first) _ r) (and_right (is_local x.first) _ r)

-- an aggregate's first term is local, and its second unused
aggregate_local : (x : Item) → aggregate_right x ≡ true → is_local x.first ≡ true
aggregate_local x e = go (eqb x.tag 13) (and_left _ (is_unused x.second) (and_right (is_aggregate x) _ e))
  where
    go : (b : Bool) → cond b (is_unused x.first) (is_local x.first) ≡ true → is_local x.first ≡ true
    go true h = unused_local x.first h
    go false h = h

aggregate_unused : (x : Item) → aggregate_right x ≡ true → is_unused x.second ≡ true
aggregate_unused x e = and_right (cond (eqb x.tag 13) (is_unused x.first) (is_local x.first)) _ (and_right (is_aggregate x) _ e)

aggregate_silent : (x : Item) → aggregate_right x ≡ true → item_reach x ≡ 0
aggregate_silent x e = silent x (aggregate_local x e) (aggregate_unused x e)

-- a computation
computation_reach : (x : Item) → computation_right x ≡ true → reach (computation_reads (computation_of x)) ≡ item_reach x
unfolding computation_of
computation_reach x e = go (eqb x.tag 8) (eqb x.tag 9) (and_right (term_right x.first) _ (and_right (is_computation x) _ e))
  where
    go : (a b : Bool) → cond a (is_unused x.second) (term_right x.second) ≡ true
        → (let p = term_of x.first in let q = term_of x.second in reach (computation_reads (cond a (copy p) (cond b (add p q) (subtract p q)))))
        ≡ item_reach x
    go true b h = omega (arith, three_reach x.first, local_reach x.second (unused_local x.second h))
    go false true h = both_reach x.first x.second
    go false false h = both_reach x.first x.second

-- the one computation of a node
compute_reach : (xs : List Item) → length xs ≡ 1 → all computation_right xs ≡ true → reach (computation_reads (computation_in xs)) ≡ items_reach xs
compute_reach =
    by_one (λ xs. all computation_right xs ≡ true → reach (computation_reads (computation_in xs)) ≡ items_reach xs)
    (λ x e. omega (arith, computation_reach x (and_left (computation_right x) true e)))

-- the reach of a node with operator o whose items reach own, from those of its inputs
abbrev pub reach_by : ℕ → ℕ → ℕ → ℕ → ℕ
reach_by o own l r = cond (eqb o 1) own (cond (has_right o) (max (max own l) (cond (eqb o 8) (pred r) r)) (max own l))

module _ (at : ℕ → List Column) (l r : ℕ) (k : Kind) (xs : List Item) where
  -- what a node reads, by operator
  node_reads : (o : ℕ) → 1 ≤ o → o ≤ 8 → items_right o xs ≡ true
      → reach (reads_of at (node_for o l r k xs)) ≡ reach_by o (items_reach xs) (reach (at l)) (reach (at r))
  unfolding node_for items_right
  node_reads =
      by_operator (λ o. items_right o xs ≡ true → reach (reads_of at (node_for o l r k xs)) ≡ reach_by o (items_reach xs) (reach (at l)) (reach (at r)))
      (λ e. sym (ap items_reach (empty_nil xs e)))
      (λ e. one (conjuncts e))
      (λ e. reach_append (computation_reads (computation_in xs)) (at l) ∙ ap (λ (q : ℕ). max q (reach (at l)))
      (compute_reach xs (eqb-true _ _ (and_left (eqb (length xs) 1) _ e)) (and_right (eqb (length xs) 1) _ e)))
      (λ e. omega (arith, silent_reach (all_every output_right (position_silent 12) xs (and_right (not (is_empty xs)) _ e))))
      (λ e. two (conjuncts e))
      (λ e. omega (
        arith,
        silent_reach (front_every key_right aggregate_right (position_silent 11) aggregate_silent (length (keep is_key xs)) xs
            (and_right (not (is_empty xs)) _ e)),
      ))
      (λ e. two (front_every conjunct_right aggregate_right conjunct_quiet (λ x h q. aggregate_silent x h) (length (keep is_conjunct xs)) xs
      (and_right (ltb (length (keep is_conjunct xs)) (length xs)) _ e)))
      (λ e. over (conjuncts e))
    where
      conjuncts : all conjunct_right xs ≡ true → Every Quiet xs
      conjuncts = all_every conjunct_right conjunct_quiet xs

      one : Every Quiet xs → reach (each conjunct_reads (conjuncts_in xs) ++ at l) ≡ max (items_reach xs) (reach (at l))
      one q = omega (arith, reach_append (each conjunct_reads (conjuncts_in xs)) (at l), conjuncts_reach q)

      two : Every Quiet xs → reach (each conjunct_reads (conjuncts_in xs) ++ (at l ++ at r)) ≡ max (max (items_reach xs) (reach (at l))) (reach (at r))
      two q = omega (arith, reach_append (each conjunct_reads (conjuncts_in xs)) (at l ++ at r), reach_append (at l) (at r), conjuncts_reach q)

      over : Every Quiet xs
          → reach (each conjunct_reads (conjuncts_in xs) ++ (at l ++ past (at r))) ≡ max (max (items_reach xs) (reach (at l))) (pred (reach (at r)))
      over q =
          let whole = reach_append (each conjunct_reads (conjuncts_in xs)) (at l ++ past (at r)) in
          omega (arith, whole, reach_append (at l) (past (at r)), reach_past (at r), conjuncts_reach q)

-- ---- levels

-- both levels of an item are at most 7
abbrev Low : Item → Type 0
Low x = (x.first.level ≤ 7) × (x.second.level ≤ 7)

-- the items of a right node have such levels
items_low : (xs : List Item) (o : ℕ) → 1 ≤ o → o ≤ 8 → items_right o xs ≡ true → Every Low xs
items_low =
    items_every conjunct computation (λ x e. column x (and_right (is_key x) _ e)) (λ x e. column x (and_right (is_output x) _ e))
    (λ x e. (local_low x.first (aggregate_local x e), unused_low x.second (aggregate_unused x e)))
  where
    conjunct : (x : Item) → conjunct_right x ≡ true → Low x
    conjunct x e =
        let r = and_right (is_conjunct x) _ e in
        (used_low x.first (and_left (term_right x.first) _ r), used_low x.second (and_right (term_right x.first) _ r))

    second : (x : Item) (b : Bool) → cond b (is_unused x.second) (term_right x.second) ≡ true → x.second.level ≤ 7
    second x true e = unused_low x.second e
    second x false e = used_low x.second e

    computation : (x : Item) → computation_right x ≡ true → Low x
    computation x e =
        let r = and_right (is_computation x) _ e in
        (used_low x.first (and_left (term_right x.first) _ r), second x (eqb x.tag 8) (and_right (term_right x.first) _ r))

    column : (x : Item) → (is_local x.first && is_unused x.second) ≡ true → Low x
    column x r = (local_low x.first (and_left (is_local x.first) _ r), unused_low x.second (and_right (is_local x.first) _ r))

module _ (ws : List ℕ) (f : Formed ws) (n : ℕ) (h : n < nodes ws) where
  -- what items_reach asks of the items of a node
  pub items_asked : {a m : ℕ} → a ≡ first_item ws n → m ≡ item_count ws n
      → (a + m ≤ 2000) × ((i : ℕ) → i < m → (item_word ws (a + i) 2 ≤ 7) × (item_word ws (a + i) 5 ≤ 7))
  items_asked e g =
      let facts = facts_at ws f n h in
      let low = items_low (items_of ws n) (operator ws n) facts.low facts.high facts.sorts in
      rw (e, g) (
        omega (arith, facts.within, (limited ws f.sized).items_few),
        upto_all (item_count ws n) (every_unmapped (λ i. item_at ws (first_item ws n + i)) (upto (item_count ws n)) low),
      )

-- ---- the reach of a node, as the code reads it

-- by its operator
one_by : {x : Operator} (own l r : ℕ) → OneInput x → reach_by (number_of x) own l r ≡ max own l
one_by own l r (inl e) = rw e
one_by own l r (inr (inl e)) = rw e
one_by own l r (inr (inr (inl e))) = rw e
one_by own l r (inr (inr (inr e))) = rw e

two_by : {x : Operator} (own l r : ℕ) → (x ≡ Join) ⊎ (x ≡ Groupjoin) → reach_by (number_of x) own l r ≡ max (max own l) r
two_by own l r (inl e) = rw e
two_by own l r (inr e) = rw e

module _ (ws : List ℕ) (f : Formed ws) (n : ℕ) (h : n < nodes ws) {x : Operator} (is : x ≡ operator_of (operator ws n)) (at : ℕ → ℕ)
    {a m own : ℕ} (ea : a ≡ first_item ws n) (em : m ≡ item_count ws n) (eo : own ≡ items_reach (items_from ws a m)) where
  read_reach : {w : ℕ} → w ≡ reach_by (number_of x) own (at (left ws n)) (at (right ws n)) → w ≡ node_reach ws at n
  read_reach e = e ∙ rw (eo, ea, em, named ws f n h is)

  pub scan_reach : x ≡ Scan → own ≡ node_reach ws at n
  scan_reach e = read_reach (rw e)

  module _ {l : ℕ} (el : l ≡ left ws n) where
    pub one_reach : OneInput x → {w : ℕ} → w ≡ max own (at l) → w ≡ node_reach ws at n
    one_reach t e = read_reach (e ∙ rw el (sym (one_by own (at (left ws n)) (at (right ws n)) t)))

    module _ {r : ℕ} (er : r ≡ right ws n) where
      pub two_reach : (x ≡ Join) ⊎ (x ≡ Groupjoin) → {w : ℕ} → w ≡ max (max own (at l)) (at r) → w ≡ node_reach ws at n
      two_reach t e = read_reach (e ∙ rw (el, er) (sym (two_by own (at (left ws n)) (at (right ws n)) t)))

      pub dependent_reach : x ≡ Dependent → {w : ℕ} → w ≡ max (max own (at l)) (pred (at r)) → w ≡ node_reach ws at n
      dependent_reach t e = read_reach (e ∙ rw (el, er, t))

-- ---- all nodes

-- only a node's inputs count
reach_same : (o own l r a b : ℕ) → ((o ≡ 1 → ⊥) → l ≡ a) → (has_right o ≡ true → r ≡ b) → reach_by o own l r ≡ reach_by o own a b
reach_same o own l r a b e g = go (eqb o 1) refl (has_right o) refl
  where
    go : (c : Bool) → eqb o 1 ≡ c → (d : Bool) → has_right o ≡ d
        → cond c own (cond d (max (max own l) (cond (eqb o 8) (pred r) r)) (max own l))
        ≡ cond c own (cond d (max (max own a) (cond (eqb o 8) (pred b) b)) (max own a))
    go true p d q = refl
    go false p true q = rw (e (eqb-false o 1 p), g q)
    go false p false q = rw (e (eqb-false o 1 p))

-- the reach of a node from those of its inputs
pub reach_of : (ws : List ℕ) → Formed ws → (n : ℕ) → n < nodes ws → (at : ℕ → ℕ)
    → ((m : ℕ) → m < n → at m ≡ reach (shape_at (widths_of ws) (nodes_of ws) m).reads)
    → node_reach ws at n ≡ reach (shape_at (widths_of ws) (nodes_of ws) n).reads
reach_of ws f n h at before =
    let facts = facts_at ws f n h in
    let shape = shape_at (widths_of ws) (nodes_of ws) in
    reach_same (operator ws n) (items_reach (items_of ws n)) (at (left ws n)) (at (right ws n)) _ _ (λ q. before _ (facts.left_node q))
    (λ q. before _ (facts.right_node q))
    ∙ sym (node_reads (λ i. (shape i).reads) (left ws n) (right ws n) (kind_of (kind ws n)) (items_of ws n) (operator ws n) facts.low
    facts.high facts.sorts)
    ∙ sym (ap (λ (s : Shape). reach s.reads) (shape_of_lem ws f n h))

-- ---- open nodes

-- a node is open where its reach is not 0
pub reach_open : (cs : List Column) → ltb 0 (reach cs) ≡ not (is_empty cs)
reach_open [] = refl
reach_open (c ∷ cs) = lt-ltb 0 (reach (c ∷ cs)) (omega arith)

-- by node n's reach and uses
pub open_twice_test : {ws : List ℕ} (uses reaches : List ℕ) → Sized ws → Counted ws uses → Reaches ws reaches → (n : ℕ) → n < nodes ws
    → is_open_twice ws n ≡ (ltb 0 (get_or reaches n 0) && ltb 1 (get_or uses n 0))
open_twice_test {ws} uses reaches sized counted reached n h =
    rw (counted n (omega (arith, (limited ws sized).nodes_few)), reached n h, reach_open (shape_at (widths_of ws) (nodes_of ws) n).reads)
