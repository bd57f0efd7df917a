-- The users of a node, and what stands around it: an open node has one user.
use mathlib.Core.Path.{◌≡◌, refl, ◌∙◌}
use mathlib.Core.Bool.{Bool, true, false, cond, ◌&&◌, and-false, false≢true}
use mathlib.Core.List.{List, [], ◌∷◌, map}
use Prim.Native.Nat.{ℕ, zero, suc, ◌+◌, ◌≤◌, ◌<◌}
use native.Mathlib.Omega.{arith}
use native.Mathlib.Numerals.{add-one}
use lib.Dec.{ltb, eqb}
use lib.ListN.{length, length-append}
use borrow.Author.Tests.{ltb-true, ltb-false, lt-ltb, eqb-true}
use Rattle.algebra.specs.Lists.{keep, any, each, upto, Every, done, more}
use Rattle.algebra.specs.Plan.{Kind, Node, scan, select, compute, project, join, group, groupjoin, dependent, inputs}
use Rattle.algebra.specs.Statements.{uses}
use Rattle.algebra.proofs.Lists.Keep.{keep_append}
use Rattle.plan.specs.Words.{Item, nodes, operator, left, right, kind, items_of}
use Rattle.plan.specs.Plan.{node_for, node_at, kind_of}
use Rattle.plan.specs.Verdict.{lowest, uses_of, width_at, is_open, user_of, is_right_side, scope, scope_of}
use Rattle.plan.specs.Promise.{Formed}
use Rattle.plan.proofs.Laws.Loops.{none_more, lowest_found, lowest_passes}
use Rattle.plan.proofs.Laws.Numbered.{each_more}
use Rattle.plan.proofs.Laws.Formed.{by_operator, facts_at, inputs_below}

-- ---- elements that pass

module _ {A : Type 0} (p : A → Bool) where
  -- one that passes is kept
  pub any_kept : (xs : List A) → any p xs ≡ true → 0 < length (keep p xs)
  any_kept [] e = absurd (false≢true e)
  any_kept (x ∷ xs) e = go (p x) (any_kept xs) e
    where
      go : (b : Bool) → (any p xs ≡ true → 0 < length (keep p xs)) → cond b true (any p xs) ≡ true → 0 < length (cond b (x ∷ keep p xs) (keep p xs))
      go true rest h = omega arith
      go false rest h = rest h

  -- where none is kept none passes
  pub none_kept : (xs : List A) → length (keep p xs) ≡ 0 → any p xs ≡ false
  none_kept xs e = go (any p xs) refl
    where
      go : (b : Bool) → any p xs ≡ b → any p xs ≡ false
      go true h = absurd (omega (arith, any_kept xs h))
      go false h = h

-- what every number of a list has, one that is in it has
pub every_found : {P : ℕ → Type 0} (m : ℕ) {xs : List ℕ} → Every P xs → any (eqb m) xs ≡ true → P m
every_found m done e = absurd (false≢true e)
every_found {P} m (more {x} {xs} h t) e = go (eqb m x) refl (every_found m t) e
  where
    go : (b : Bool) → eqb m x ≡ b → (any (eqb m) xs ≡ true → P m) → cond b true (any (eqb m) xs) ≡ true → P m
    go true q rest g = rw (eqb-true m x q) h
    go false q rest g = rest g

-- ---- how often m is an input

module _ (f : ℕ → Node) (m : ℕ) where
  -- of node k
  abbrev pub here : ℕ → ℕ
  here k = length (keep (eqb m) (inputs (f k)))

  -- of the nodes below k
  abbrev pub before : ℕ → ℕ
  before k = uses (map f (upto k)) m

  -- node k has m as an input
  abbrev pub takes : ℕ → Bool
  takes k = any (eqb m) (inputs (f k))

  -- of one node more
  pub uses_more : (k : ℕ) → before (suc k) ≡ before k + here k
  uses_more k = rw (each_more inputs f k, keep_append (eqb m) (each inputs (map f (upto k))) (inputs (f k)), length-append)

  -- of a node and those below it among all
  before_all : (k n : ℕ) → k < n → before k + here k ≤ before n
  before_all k zero h = absurd (omega arith)
  before_all k (suc n) h = go (ltb k n) refl (before_all k n)
    where
      go : (b : Bool) → ltb k n ≡ b → (k < n → before k + here k ≤ before n) → before k + here k ≤ before (suc n)
      go true t rest = omega (arith, uses_more n, rest (ltb-true k n t))
      go false t rest = let q : n ≡ k = omega (arith, ltb-false k n t) in rw q (omega (arith, uses_more k))

  -- where no node below k has m as an input
  untaken : (k : ℕ) → before k ≡ 0 → keep takes (upto k) ≡ []
  untaken zero e = refl
  untaken (suc k) e =
      rw (add-one k) at (none_more takes k (untaken k (omega (arith, uses_more k))) (none_kept (eqb m) (inputs (f k)) (omega (arith, uses_more k))))

  -- the inputs of one node are among those of all
  pub here_few : (k n : ℕ) → k < n → here k ≤ before n
  here_few k n h = omega (arith, before_all k n h)

  -- the user of a node that is used once
  pub only_user : (k n : ℕ) → k < n → before n ≤ 1 → takes k ≡ true → k ≡ lowest takes n
  only_user k n h once t = lowest_found takes k n (untaken k (omega (arith, before_all k n h, any_kept (eqb m) (inputs (f k)) t))) t h

-- ---- what stands around a node

-- what stands around input i of a node, over the widths of the nodes and what stands around that node
abbrev pub under : (ℕ → ℕ) → List ℕ → Node → ℕ → List ℕ
under width around (scan t) i = around
under width around (select cs j) i = around
under width around (compute c j) i = around
under width around (project ps j) i = around
under width around (join k cs l r) i = around
under width around (group ks gs j) i = around
under width around (groupjoin cs gs l r) i = around
under width around (dependent k cs l r) i = cond (eqb r i) (width l ∷ around) around

-- the same by the node's words
pub under_for : (width : ℕ → ℕ) (around : List ℕ) (i l r : ℕ) (k : Kind) (xs : List Item) (o : ℕ) → 1 ≤ o → o ≤ 8
    → cond (eqb o 8 && eqb r i) (width l ∷ around) around ≡ under width around (node_for o l r k xs) i
unfolding node_for
under_for width around i l r k xs =
    by_operator (λ o. cond (eqb o 8 && eqb r i) (width l ∷ around) around ≡ under width around (node_for o l r k xs) i) refl refl refl refl refl refl refl refl

-- what user u gives node m, beyond being what stands around u
abbrev pub given : List ℕ → ℕ → ℕ → List ℕ → List ℕ
given ws m u beyond = cond (is_right_side ws u m) (width_at ws (left ws u) ∷ beyond) beyond

module _ (ws : List ℕ) (f : Formed ws) where
  -- a user stands above
  pub user_above : (m : ℕ) → user_of ws m < nodes ws → m < user_of ws m
  user_above m h = every_found m (inputs_below ws f (user_of ws m) h) (lowest_passes (takes (node_at ws) m) (nodes ws) h)

  -- fuel for all the users above is enough
  pub fuel_enough : (a b m : ℕ) → m < nodes ws → nodes ws ≤ a + m → nodes ws ≤ b + m → scope ws a m ≡ scope ws b m
  unfolding scope
  fuel_enough zero b m h p q = absurd (omega arith)
  fuel_enough (suc a) zero m h p q = absurd (omega arith)
  fuel_enough (suc a) (suc b) m h p q = go (ltb u (nodes ws)) refl (fuel_enough a b u)
    where
      u : ℕ
      u = user_of ws m

      go : (t : Bool) → ltb u (nodes ws) ≡ t → (u < nodes ws → nodes ws ≤ a + u → nodes ws ≤ b + u → scope ws a u ≡ scope ws b u)
          → cond (is_open ws m && t) (given ws m u (scope ws a u)) [] ≡ cond (is_open ws m && t) (given ws m u (scope ws b u)) []
      go true e rest =
          let l : u < nodes ws = ltb-true u (nodes ws) e in
          let g = user_above m l in
          rw (rest l (omega arith) (omega arith))
      go false e rest = rw (and-false (is_open ws m))

  -- what stands around a node, from what stands around its user
  pub scope_once : (m : ℕ) → m < nodes ws
      → scope_of ws m ≡ cond (is_open ws m && ltb (user_of ws m) (nodes ws)) (given ws m (user_of ws m) (scope_of ws (user_of ws m))) []
  unfolding scope
  scope_once m h = fuel_enough (nodes ws) (suc (nodes ws)) m h (omega arith) (omega arith)

  -- an open node that is used once stands where its user puts it
  pub scope_of_input : (n m : ℕ) → n < nodes ws → m < n → is_open ws m ≡ true → uses_of ws m ≤ 1 → any (eqb m) (inputs (node_at ws n)) ≡ true
      → scope_of ws m ≡ under (width_at ws) (scope_of ws n) (node_at ws n) m
  scope_of_input n m h l o once t =
      let q : n ≡ user_of ws m = only_user (node_at ws) m n (nodes ws) h once t in
      let facts = facts_at ws f n h in
      scope_once m (omega arith)
      ∙ rw (o, ← q, lt-ltb n (nodes ws) h)
      (under_for (width_at ws) (scope_of ws n) m (left ws n) (right ws n) (kind_of (kind ws n)) (items_of ws n) (operator ws n) facts.low facts.high)

  -- the root has no user
  pub scope_of_root : (m : ℕ) → suc m ≡ nodes ws → scope_of ws m ≡ []
  scope_of_root m e = scope_once m (omega arith) ∙ go (ltb (user_of ws m) (nodes ws)) refl
    where
      u : ℕ
      u = user_of ws m

      go : (t : Bool) → ltb u (nodes ws) ≡ t → cond (is_open ws m && t) (given ws m u (scope_of ws u)) [] ≡ []
      go true t = absurd (omega (arith, user_above m (ltb-true u (nodes ws) t), ltb-true u (nodes ws) t))
      go false t = rw (and-false (is_open ws m))
