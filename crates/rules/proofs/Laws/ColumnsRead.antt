-- The columns that a node reads: those of its items, then those of its inputs, all of levels below 8.
use mathlib.Core.Path.{◌≡◌, refl, sym, ap, ◌∙◌}
use mathlib.Core.Bool.{Bool, true, false, not, cond, ◌&&◌, ◌||◌, or-false, true≢false}
use mathlib.Core.List.{List, [], ◌∷◌, ◌++◌, map, append-nil}
use Prim.Native.Nat.{ℕ, zero, suc, ◌<◌, ◌≤◌}
use native.Mathlib.Omega.{arith}
use lib.Dec.{eqb, ltb, leb, eqb-zero-suc, eqb-suc-suc}
use lib.ListN.{length}
use borrow.Author.Tests.{eqb-true, eqb-false, ne_eqb, leb-true}
use Rattle.algebra.specs.Lists.{keep, any, all, each, is_empty, Every, done, more}
use Rattle.algebra.specs.Plan.{Term, copy, add, subtract, Kind}
use Rattle.algebra.specs.Columns.{Column, term_reads, conjunct_reads, computation_reads, past_one, past, reads_of, Shape}
use Rattle.algebra.proofs.Lists.Same.{and_left, and_right}
use Rattle.algebra.proofs.Lists.Every.{every_append, every_map, every_each}
use Rattle.plan.specs.Words.{Three, Item, nodes, operator, left, right, kind, items_of}
use Rattle.plan.specs.Items.{term_of, conjunct_of, computation_of, is_conjunct, is_computation, is_key, is_output, is_aggregate}
use Rattle.plan.specs.Items.{conjuncts_in, term_right, is_local, is_unused, conjunct_right, computation_right, key_right, output_right, aggregate_right}
use Rattle.plan.specs.Plan.{computation_in, node_for, kind_of}
use Rattle.plan.specs.Verdict.{has_right, items_right}
use Rattle.plan.specs.Promise.{Formed}
use Rattle.plan.proofs.Laws.Formed.{by_operator, facts_at, shape_of_lem}
use Rattle.plan.proofs.Laws.Reach.{all_every, front_every, items_every}
use Rattle.rules.specs.Reads.{reads_at, reads, input_reads}

-- ---- lists of columns

module _ {A : Type 0} (q : A → Bool) where
  pub any_append : (xs ys : List A) → any q (xs ++ ys) ≡ (any q xs || any q ys)
  any_append [] ys = refl
  any_append (x ∷ xs) ys = go (q x) (any_append xs ys)
    where
      go : (b : Bool) → any q (xs ++ ys) ≡ (any q xs || any q ys) → cond b true (any q (xs ++ ys)) ≡ (cond b true (any q xs) || any q ys)
      go true e = refl
      go false e = e

pub cond_or : (b c : Bool) → cond b true c ≡ (b || c)
cond_or true c = refl
cond_or false c = refl

pub reads_append : (cs ds : List Column) (l p : ℕ) → reads (cs ++ ds) l p ≡ (reads cs l p || reads ds l p)
reads_append cs ds l p = any_append (λ c. eqb c.level l && eqb c.position p) cs ds

-- past a dependent join level l is level l + 1
pub reads_past : (cs : List Column) (l p : ℕ) → reads (past cs) l p ≡ reads cs (suc l) p
reads_past [] l p = refl
reads_past (c ∷ cs) l p = reads_append (past_one c.level c.position) (past cs) l p ∙ go c.level c.position (reads_past cs l p)
  where
    go : (k r : ℕ) → reads (past cs) l p ≡ reads cs (suc l) p
        → (reads (past_one k r) l p || reads (past cs) l p) ≡ cond (eqb k (suc l) && eqb r p) true (reads cs (suc l) p)
    go zero r e = rw (eqb-zero-suc l) e
    go (suc k) r e = rw (eqb-suc-suc k l, cond_or (eqb k l && eqb r p) false, or-false, cond_or (eqb k l && eqb r p) (reads cs (suc l) p), e)

-- every column has a level that the table has
abbrev pub Low : List Column → Type 0
Low cs = Every (λ c. c.level < 8) cs

past_low : {cs : List Column} → Low cs → Low (past cs)
past_low t = every_each _ (every_map (λ c h. go c.level c.position h) t)
  where
    go : (l p : ℕ) → l < 8 → Low (past_one l p)
    go zero p h = done
    go (suc l) p h = let g : l < 8 = omega arith in more g done

pub low_none : {cs : List Column} → Low cs → (l p : ℕ) → 8 ≤ l → reads cs l p ≡ false
low_none done l p h = refl
low_none (more {x} g t) l p h = rw (ne_eqb x.level l (λ q. omega arith)) (low_none t l p h)

-- ---- the columns of items

abbrev pub item_reads : Item → List Column
item_reads x = term_reads (term_of x.first) ++ term_reads (term_of x.second)

-- no outer column
inner_none : (t : Three) → eqb t.code 1 ≡ false → term_reads (term_of t) ≡ []
unfolding term_of
inner_none t e = rw e (go (eqb t.code 0) (eqb t.code 2) _ _ _ refl refl refl)
  where
    go : (a b : Bool) (u v w : Term) → term_reads u ≡ [] → term_reads v ≡ [] → term_reads w ≡ [] → term_reads (cond a u (cond b v w)) ≡ []
    go true b u v w e g h = e
    go false true u v w e g h = g
    go false false u v w e g h = h

local_none : (t : Three) → is_local t ≡ true → term_reads (term_of t) ≡ []
local_none t e = inner_none t (rw (eqb-true t.code 0 (and_left (eqb t.code 0) (eqb t.level 0) e)))

unused_none : (t : Three) → is_unused t ≡ true → term_reads (term_of t) ≡ []
unused_none t e = local_none t (and_left (is_local t) (eqb t.value 0) e)

-- keys, output columns and aggregates read nothing
silent : (x : Item) → (is_local x.first && is_unused x.second) ≡ true → item_reads x ≡ []
silent x e = rw (local_none x.first (and_left (is_local x.first) _ e), unused_none x.second (and_right (is_local x.first) _ e))

key_silent : (x : Item) → key_right x ≡ true → item_reads x ≡ []
key_silent x e = silent x (and_right (is_key x) _ e)

output_silent : (x : Item) → output_right x ≡ true → item_reads x ≡ []
output_silent x e = silent x (and_right (is_output x) _ e)

aggregate_silent : (x : Item) → aggregate_right x ≡ true → item_reads x ≡ []
aggregate_silent x e = go (eqb x.tag 13) (and_right (is_aggregate x) _ e)
  where
    go : (b : Bool) → (cond b (is_unused x.first) (is_local x.first) && is_unused x.second) ≡ true → item_reads x ≡ []
    go true h = rw (unused_none x.first (and_left (is_unused x.first) _ h), unused_none x.second (and_right (is_unused x.first) _ h))
    go false h = silent x h

silent_all : {xs : List Item} → Every (λ x. item_reads x ≡ []) xs → each item_reads xs ≡ []
silent_all done = refl
silent_all (more e t) = rw e (silent_all t)

-- what is no conjunct reads nothing
abbrev Quiet : Item → Type 0
Quiet x = is_conjunct x ≡ false → item_reads x ≡ []

conjunct_quiet : (x : Item) → conjunct_right x ≡ true → Quiet x
conjunct_quiet x e q = absurd (true≢false (sym (and_left (is_conjunct x) _ e) ∙ q))

conjuncts_reads : {xs : List Item} → Every Quiet xs → each conjunct_reads (conjuncts_in xs) ≡ each item_reads xs
conjuncts_reads done = refl
conjuncts_reads (more {x} {xs} q t) = go (is_conjunct x) refl (conjuncts_reads t)
  where
    go : (b : Bool) → is_conjunct x ≡ b → each conjunct_reads (conjuncts_in xs) ≡ each item_reads xs
        → each conjunct_reads (map conjunct_of (cond b (x ∷ keep is_conjunct xs) (keep is_conjunct xs))) ≡ item_reads x ++ each item_reads xs
    go true e h = ap (λ (cs : List Column). item_reads x ++ cs) h
    go false e h = rw (q e) h

computation_reads_lem : (x : Item) → computation_right x ≡ true → computation_reads (computation_of x) ≡ item_reads x
unfolding computation_of
computation_reads_lem x e = go (eqb x.tag 8) (eqb x.tag 9) (and_right (term_right x.first) _ (and_right (is_computation x) _ e))
  where
    go : (a b : Bool) → cond a (is_unused x.second) (term_right x.second) ≡ true
        → computation_reads (cond a (copy (term_of x.first))
        (cond b (add (term_of x.first) (term_of x.second)) (subtract (term_of x.first) (term_of x.second)))) ≡ item_reads x
    go true b h = rw (unused_none x.second h) (sym (append-nil _))
    go false true h = refl
    go false false h = refl

compute_reads : (xs : List Item) → length xs ≡ 1 → all computation_right xs ≡ true → computation_reads (computation_in xs) ≡ each item_reads xs
compute_reads [] l e = absurd (omega arith)
compute_reads (x ∷ []) l e = computation_reads_lem x (and_left (computation_right x) true e) ∙ sym (append-nil _)
compute_reads (x ∷ y ∷ xs) l e = absurd (omega arith)

-- ---- the columns of a node: those of its items, then those of its inputs

-- what the inputs l and r of a node with operator o read
abbrev reads_by : ℕ → List Column → List Column → List Column
reads_by o l r = cond (eqb o 1) [] (cond (has_right o) (l ++ cond (eqb o 8) (past r) r) l)

module _ (at : ℕ → List Column) (l r : ℕ) (k : Kind) (xs : List Item) where
  node_reads : (o : ℕ) → 1 ≤ o → o ≤ 8 → items_right o xs ≡ true → reads_of at (node_for o l r k xs) ≡ each item_reads xs ++ reads_by o (at l) (at r)
  unfolding node_for items_right
  node_reads =
      by_operator (λ o. items_right o xs ≡ true → reads_of at (node_for o l r k xs) ≡ each item_reads xs ++ reads_by o (at l) (at r))
      (nothing xs)
      (λ e. front _ (conjuncts e))
      (λ e. front _ (compute_reads xs (eqb-true _ _ (and_left (eqb (length xs) 1) _ e)) (and_right (eqb (length xs) 1) _ e)))
      (λ e. front _ (sym (silent_all (all_every output_right output_silent xs (and_right (not (is_empty xs)) _ e)))))
      (λ e. front _ (conjuncts e))
      (λ e. front _ (sym (silent_all (front_every key_right aggregate_right key_silent aggregate_silent (length (keep is_key xs)) xs
      (and_right (not (is_empty xs)) _ e)))))
      (λ e. front _ (conjuncts_reads (front_every conjunct_right aggregate_right conjunct_quiet (λ x h q. aggregate_silent x h)
      (length (keep is_conjunct xs)) xs (and_right (ltb (length (keep is_conjunct xs)) (length xs)) _ e))))
      (λ e. front _ (conjuncts e))
    where
      nothing : (ys : List Item) → is_empty ys ≡ true → [] ≡ each item_reads ys ++ []
      nothing [] e = refl
      nothing (y ∷ ys) e = absurd (true≢false (sym e))

      conjuncts : all conjunct_right xs ≡ true → each conjunct_reads (conjuncts_in xs) ≡ each item_reads xs
      conjuncts e = conjuncts_reads (all_every conjunct_right conjunct_quiet xs e)

      front : (ds : List Column) {cs : List Column} → cs ≡ each item_reads xs → cs ++ ds ≡ each item_reads xs ++ ds
      front ds e = ap (λ (bs : List Column). bs ++ ds) e

pub reads_at_lem : (ws : List ℕ) → Formed ws → (n : ℕ) → n < nodes ws → reads_at ws n ≡ each item_reads (items_of ws n) ++ input_reads ws n
reads_at_lem ws f n h =
    let facts = facts_at ws f n h in
    ap (λ (s : Shape). s.reads) (shape_of_lem ws f n h)
    ∙ node_reads (reads_at ws) (left ws n) (right ws n) (kind_of (kind ws n)) (items_of ws n) (operator ws n) facts.low facts.high facts.sorts

-- ---- levels

term_low : (t : Three) → term_right t ≡ true → Low (term_reads (term_of t))
unfolding term_of term_right
term_low t = go (eqb t.code 1) refl _
  where
    go : (b : Bool) → eqb t.code 1 ≡ b → (c : Bool) → cond b (leb t.level 7) c ≡ true → Low (term_reads (term_of t))
    go true e c h = let g : t.level < 8 = omega (arith, leb-true t.level 7 h) in rw (eqb-true t.code 1 e) (more g done)
    go false e c h = rw (inner_none t e) done

none_low : {cs : List Column} → cs ≡ [] → Low cs
none_low e = rw e done

items_low : (xs : List Item) (o : ℕ) → 1 ≤ o → o ≤ 8 → items_right o xs ≡ true → Every (λ x. Low (item_reads x)) xs
items_low = items_every conjunct computation (λ x e. none_low (key_silent x e)) (λ x e. none_low (output_silent x e)) (λ x e. none_low (aggregate_silent x e))
  where
    conjunct : (x : Item) → conjunct_right x ≡ true → Low (item_reads x)
    conjunct x e =
        let r = and_right (is_conjunct x) _ e in
        every_append (term_low x.first (and_left (term_right x.first) _ r)) (term_low x.second (and_right (term_right x.first) _ r))

    second : (x : Item) (b : Bool) → cond b (is_unused x.second) (term_right x.second) ≡ true → Low (term_reads (term_of x.second))
    second x true e = none_low (unused_none x.second e)
    second x false e = term_low x.second e

    computation : (x : Item) → computation_right x ≡ true → Low (item_reads x)
    computation x e =
        let r = and_right (is_computation x) _ e in
        every_append (term_low x.first (and_left (term_right x.first) _ r)) (second x (eqb x.tag 8) (and_right (term_right x.first) _ r))

-- the inputs of a well-formed node read low levels, if the nodes below do
by_low : (o : ℕ) (l r : List Column) → ((o ≡ 1 → ⊥) → Low l) → (has_right o ≡ true → Low r) → Low (reads_by o l r)
by_low o l r f g = go (eqb o 1) refl (has_right o) refl (eqb o 8)
  where
    go : (x : Bool) → eqb o 1 ≡ x → (y : Bool) → has_right o ≡ y → (z : Bool) → Low (cond x [] (cond y (l ++ cond z (past r) r) l))
    go true e y h z = done
    go false e true h true = every_append (f (eqb-false o 1 e)) (past_low (g h))
    go false e true h false = every_append (f (eqb-false o 1 e)) (g h)
    go false e false h z = f (eqb-false o 1 e)

module _ (ws : List ℕ) (f : Formed ws) where
  low_within : (bound n : ℕ) → n < bound → n < nodes ws → Low (reads_at ws n)
  low_within zero n l h = absurd (omega arith)
  low_within (suc bound) n l h =
      let facts = facts_at ws f n h in
      rw (reads_at_lem ws f n h)
      (every_append (every_each item_reads (items_low (items_of ws n) (operator ws n) facts.low facts.high facts.sorts))
      (by_low (operator ws n) (reads_at ws (left ws n)) (reads_at ws (right ws n))
      (λ q. let b = facts.left_node q in low_within bound (left ws n) (omega arith) (omega arith))
      (λ q. let b = facts.right_node q in low_within bound (right ws n) (omega arith) (omega arith))))

  pub reads_low : (n : ℕ) → n < nodes ws → Every (λ c. c.level < 8) (reads_at ws n)
  reads_low n h = low_within (suc n) n (omega arith) h
