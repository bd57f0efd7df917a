-- The join around each node, and the rows that stand there.
use mathlib.Core.Path.{◌≡◌, refl, sym, ap, ◌∙◌}
use mathlib.Core.Bool.{Bool, true, false, not, cond, ◌&&◌, true≢false, and-false}
use mathlib.Core.List.{List, [], ◌∷◌}
use Prim.Native.Nat.{ℕ, zero, suc, ◌+◌, ◌-◌, ◌≤◌, ◌<◌}
use native.Mathlib.Omega.{arith}
use lib.Dec.{leb, ltb, eqb, leb-zero}
use lib.ListN.{length, get_or, set, replicate, length-set, get_or-replicate}
use lib.Seq.{get_or-set_same, get_or-set_other}
use borrow.Author.Tests.{ltb-true, leb-true, leb-false, lt-ltb, le-ltb, le-leb, lt-leb, eqb-true, eqb-false, ne_eqb}
use Rattle.std.proofs.Common.{Option, Some, None}
use Rattle.algebra.specs.Lists.{keep, any, upto, Every, done, more}
use Rattle.algebra.specs.Plan.{inputs}
use Rattle.algebra.specs.Columns.{shape_at}
use Rattle.algebra.proofs.Lists.Every.{every_map}
use Rattle.algebra.proofs.Lists.Keep.{keep_none}
use Rattle.algebra.proofs.Lists.Same.{and_left, and_right}
use Rattle.algebra.proofs.Domains.Keys.{upto_below}
use Rattle.plan.specs.Words.{nodes, operator, left, right}
use Rattle.plan.specs.Plan.{node_at, widths_of, nodes_of}
use Rattle.plan.specs.Verdict.{lowest, has_right, width_at, is_open, user_of, is_right_side, scope_of}
use Rattle.plan.specs.Codes.{has_left}
use Rattle.plan.specs.Promise.{Formed}
use Rattle.plan.specs.Passes.{Reaches, rows_from, Joins, InPlan, entered}
use Rattle.plan.proofs.Laws.Loops.{lowest_found, lowest_none, lowest_passes, lowest_same}
use Rattle.plan.proofs.Laws.Header.{refuted}
use Rattle.plan.proofs.Laws.Formed.{limited, inputs_at, inputs_below}
use Rattle.plan.proofs.Laws.Reach.{reach_open}
use Rattle.plan.proofs.Laws.Users.{every_found, takes, user_above, scope_once}

-- ---- the users of a node

module _ (ws : List ℕ) where
  -- the first node from p on that has m as an input
  unfoldable pub user_from : ℕ → ℕ → ℕ
  user_from p m = lowest (λ q. leb p q && takes (node_at ws) m q) (nodes ws)

module _ (ws : List ℕ) (m : ℕ) where
  -- a user from p on
  user_from_lem : (p : ℕ) → user_from ws p m < nodes ws → p ≤ user_from ws p m
  unfolding user_from
  user_from_lem p h = leb-true p _ (and_left (leb p (user_from ws p m)) _ (lowest_passes (λ q. leb p q && takes (node_at ws) m q) (nodes ws) h))

  -- no user below p is counted
  none_below : (p : ℕ) → keep (λ q. leb p q && takes (node_at ws) m q) (upto p) ≡ []
  none_below p = keep_none (λ q. leb p q && takes (node_at ws) m q) (every_map (λ q (h : q < p). rw (lt-leb p q h)) (upto_below p))

  -- p itself
  user_here : (p : ℕ) → p < nodes ws → takes (node_at ws) m p ≡ true → user_from ws p m ≡ p
  unfolding user_from
  user_here p h e = sym (lowest_found (λ q. leb p q && takes (node_at ws) m q) p (nodes ws) (none_below p) (rw (le-leb p p (omega arith)) e) h)

  -- not p
  user_next : (p : ℕ) → takes (node_at ws) m p ≡ false → user_from ws p m ≡ user_from ws (p + 1) m
  unfolding user_from
  user_next p e = lowest_same (λ q. leb p q && takes (node_at ws) m q) (λ q. leb (p + 1) q && takes (node_at ws) m q) (nodes ws) (λ q. go q (eqb p q) refl)
    where
      go : (q : ℕ) (b : Bool) → eqb p q ≡ b → (leb p q && takes (node_at ws) m q) ≡ (leb (p + 1) q && takes (node_at ws) m q)
      go q true t = let s : p ≡ q = eqb-true p q t in rw (sym s, e, and-false (leb p p), and-false (leb (p + 1) p))
      go q false t = ap (λ (b : Bool). b && takes (node_at ws) m q) (same (leb p q) refl)
        where
          same : (b : Bool) → leb p q ≡ b → leb p q ≡ leb (p + 1) q
          same true h = h ∙ sym (le-leb (p + 1) q (omega (arith, leb-true p q h, eqb-false p q t)))
          same false h = h ∙ sym (lt-leb (p + 1) q (omega (arith, leb-false p q h)))

  -- no node from the last on
  user_none : user_from ws (nodes ws) m ≡ nodes ws
  unfolding user_from
  user_none = sym (lowest_none (λ q. leb (nodes ws) q && takes (node_at ws) m q) (nodes ws) (none_below (nodes ws)))

  -- from the first on
  user_first : user_from ws 0 m ≡ user_of ws m
  unfolding user_from
  user_first = lowest_same (λ q. leb 0 q && takes (node_at ws) m q) (takes (node_at ws) m) (nodes ws) (λ q. rw (leb-zero q))

-- ---- the table of joins

-- a number above a list's is not in the list
none_from : (p u : ℕ) → p ≤ u → {is : List ℕ} → Every (λ j. j < p) is → any (eqb u) is ≡ false
none_from p u h {is} t = sym (refuted (any (eqb u) is) (λ e. omega (arith, every_found {P = λ j. j < p} u t e)))

-- what the table has for m, whose user is u
unfoldable pub around : List ℕ → List ℕ → List (Option ℕ) → ℕ → ℕ → Option ℕ
around ws reaches joins u m = cond (ltb 0 (get_or reaches m 0) && ltb u (nodes ws)) (cond (is_right_side ws u m) (Some u) (get_or joins u None)) None

-- the table, with the nodes from p on entered
pub record Entered (ws reaches : List ℕ) (joins : List (Option ℕ)) (p : ℕ) : Type 0 where
  pub long : length joins ≡ 256
  pub at : (m : ℕ) → m < nodes ws → get_or joins m None ≡ around ws reaches joins (user_from ws p m) m

module _ (ws reaches : List ℕ) (p : ℕ) where
  -- the table once all of some inputs of node p are entered
  unfoldable pub entered_all : List ℕ → List (Option ℕ) → List (Option ℕ)
  entered_all [] joins = joins
  entered_all (i ∷ is) joins = entered_all is (entered ws reaches p i joins)

module _ (ws reaches : List ℕ) (p : ℕ) where
  -- the table keeps its length
  entered_long : (i : ℕ) (joins : List (Option ℕ)) → length (entered ws reaches p i joins) ≡ length joins
  entered_long i joins = go (ltb 0 (get_or reaches i 0))
    where
      go : (b : Bool) → length (cond b (set joins i (cond (is_right_side ws p i) (Some p) (get_or joins p None))) joins) ≡ length joins
      go true = length-set joins i _
      go false = refl

  -- an entry once input i is entered
  entered_at : (i m : ℕ) (joins : List (Option ℕ)) → i < length joins
      → get_or (entered ws reaches p i joins) m None ≡ cond (eqb m i && ltb 0 (get_or reaches m 0)) (cond (is_right_side ws p m) (Some p) (get_or joins p None)) (get_or joins m None)
  entered_at i m joins h = same (eqb m i) refl
    where
      value : Option ℕ
      value = cond (is_right_side ws p i) (Some p) (get_or joins p None)

      here : (b : Bool) → get_or (cond b (set joins i value) joins) i None ≡ cond b value (get_or joins i None)
      here true = get_or-set_same joins i value None h
      here false = refl

      away : (b : Bool) → (m ≡ i → ⊥) → get_or (cond b (set joins i value) joins) m None ≡ get_or joins m None
      away true n = get_or-set_other joins i m value None n
      away false n = refl

      same : (b : Bool) → eqb m i ≡ b
          → get_or (cond (ltb 0 (get_or reaches i 0)) (set joins i value) joins) m None
          ≡ cond (b && ltb 0 (get_or reaches m 0)) (cond (is_right_side ws p m) (Some p) (get_or joins p None)) (get_or joins m None)
      same true e = let q : m ≡ i = eqb-true m i e in rw q (here (ltb 0 (get_or reaches i 0)))
      same false e = away (ltb 0 (get_or reaches i 0)) (eqb-false m i e)

  -- the table keeps its length
  all_long : (is : List ℕ) (joins : List (Option ℕ)) → length (entered_all ws reaches p is joins) ≡ length joins
  unfolding entered_all
  all_long [] joins = refl
  all_long (i ∷ is) joins = all_long is (entered ws reaches p i joins) ∙ entered_long i joins

  -- an input that is entered twice
  glue : (a b read : Bool) (v x : Option ℕ) → cond (b && read) v (cond (a && read) v x) ≡ cond (cond a true b && read) v x
  glue true true true v x = refl
  glue true true false v x = refl
  glue true false true v x = refl
  glue true false false v x = refl
  glue false b read v x = refl

  -- an entry once all inputs are entered
  all_at : {is : List ℕ} → Every (λ j. j < p) is → (m : ℕ) (joins : List (Option ℕ)) → p < length joins
      → get_or (entered_all ws reaches p is joins) m None
      ≡ cond (any (eqb m) is && ltb 0 (get_or reaches m 0)) (cond (is_right_side ws p m) (Some p) (get_or joins p None)) (get_or joins m None)
  unfolding entered_all
  all_at done m joins h = refl
  all_at (more {x} {xs} g t) m joins h =
      let kept : get_or (entered ws reaches p x joins) p None ≡ get_or joins p None = entered_at x p joins (omega arith) ∙ rw (ne_eqb p x (λ e. omega arith)) in
      all_at t m (entered ws reaches p x joins) (rw (entered_long x joins) h)
      ∙ rw (kept, entered_at x m joins (omega arith))
      (glue (eqb m x) (any (eqb m) xs) (ltb 0 (get_or reaches m 0)) (cond (is_right_side ws p m) (Some p) (get_or joins p None)) (get_or joins m None))

module _ (ws reaches : List ℕ) (f : Formed ws) (p : ℕ) (h : p < nodes ws) where
  -- the table once node p is entered
  entered_node : (joins : List (Option ℕ)) → Entered ws reaches joins (p + 1) → Entered ws reaches (entered_all ws reaches p (inputs (node_at ws p)) joins) p
  unfolding around
  entered_node joins e = record { long = all_long ws reaches p _ joins ∙ e.long; at = at }
    where
      after : List (Option ℕ)
      after = entered_all ws reaches p (inputs (node_at ws p)) joins

      few : nodes ws ≤ 256
      few = (limited ws f.sized).nodes_few

      below : Every (λ j. j < p) (inputs (node_at ws p))
      below = inputs_below ws f p h

      inside : p < length joins
      inside = omega (arith, few, e.long)

      -- what an entry is, and that those from p on are kept
      is : (m : ℕ) → get_or after m None ≡ cond (takes (node_at ws) m p && ltb 0 (get_or reaches m 0)) (cond (is_right_side ws p m) (Some p) (get_or joins p None)) (get_or joins m None)
      is m = all_at ws reaches p below m joins inside

      kept : (u : ℕ) → p ≤ u → get_or after u None ≡ get_or joins u None
      kept u g = is u ∙ rw (none_from p u g below)

      mine : (m : ℕ) (read : Bool) → ltb 0 (get_or reaches m 0) ≡ read → m < nodes ws
          → cond (true && read) (cond (is_right_side ws p m) (Some p) (get_or joins p None)) (get_or joins m None)
          ≡ cond (read && ltb p (nodes ws)) (cond (is_right_side ws p m) (Some p) (get_or after p None)) None
      mine m true o l = rw (lt-ltb p (nodes ws) h, kept p (omega arith))
      mine m false o l = e.at m l ∙ rw o

      others : (m u : ℕ) → (u < nodes ws → p + 1 ≤ u) → around ws reaches joins u m ≡ around ws reaches after u m
      others m u above = go (ltb u (nodes ws)) refl
        where
          go : (b : Bool) → ltb u (nodes ws) ≡ b
              → cond (ltb 0 (get_or reaches m 0) && b) (cond (is_right_side ws u m) (Some u) (get_or joins u None)) None
              ≡ cond (ltb 0 (get_or reaches m 0) && b) (cond (is_right_side ws u m) (Some u) (get_or after u None)) None
          go true t = rw (kept u (omega (arith, above (ltb-true u (nodes ws) t))))
          go false t = rw (and-false (ltb 0 (get_or reaches m 0)))

      at : (m : ℕ) → m < nodes ws → get_or after m None ≡ around ws reaches after (user_from ws p m) m
      at m l = go (takes (node_at ws) m p) refl
        where
          go : (b : Bool) → takes (node_at ws) m p ≡ b → get_or after m None ≡ around ws reaches after (user_from ws p m) m
          go true t = is m ∙ rw (t, user_here ws m p h t) (mine m (ltb 0 (get_or reaches m 0)) refl l)
          go false t =
              is m ∙ rw (t, user_next ws m p t) (e.at m l ∙ others m (user_from ws (p + 1) m) (user_from_lem ws m (p + 1)))

-- no node is entered yet
pub joins_start : {ws : List ℕ} (reaches : List ℕ) {p : ℕ} → Formed ws → p ≡ nodes ws → Entered ws reaches (replicate 256 None) p
unfolding around
joins_start {ws} reaches {p} f e = record { long = refl; at = at }
  where
    at : (m : ℕ) → m < nodes ws → get_or (replicate 256 None) m None ≡ around ws reaches (replicate 256 None) (user_from ws p m) m
    at m l =
        get_or-replicate 256 m None None (omega (arith, (limited ws f.sized).nodes_few))
        ∙ rw (e, user_none ws m, le-ltb (nodes ws) (nodes ws) (omega arith), and-false (ltb 0 (get_or reaches m 0)))

-- node p - 1 is entered with its left input and its right
module _ {ws reaches : List ℕ} {joins before after : List (Option ℕ)} (f : Formed ws) {p : ℕ} (some : 0 < p) (h : p ≤ nodes ws)
    (e : Entered ws reaches joins p) {u v : Bool} (lefts : u ≡ has_left (operator ws (p - 1))) (rights : v ≡ has_right (operator ws (p - 1)))
    (b : before ≡ cond u (entered ws reaches (p - 1) (left ws (p - 1)) joins) joins) where
  pub entered_step : after ≡ cond v (entered ws reaches (p - 1) (right ws (p - 1)) before) before → Entered ws reaches after (p - 1)
  unfolding entered_all
  entered_step a =
      let s : p ≡ p - 1 + 1 = omega arith in
      rw same (entered_node ws reaches f (p - 1) (omega arith) joins (rw (sym s) e))
    where
      l : List (Option ℕ)
      l = entered ws reaches (p - 1) (left ws (p - 1)) joins

      go : (x y : Bool) → eqb (operator ws (p - 1)) 1 ≡ x → has_right (operator ws (p - 1)) ≡ y
          → cond y (entered ws reaches (p - 1) (right ws (p - 1)) (cond (not x) l joins)) (cond (not x) l joins)
          ≡ entered_all ws reaches (p - 1) (cond x [] (cond y (left ws (p - 1) ∷ right ws (p - 1) ∷ []) (left ws (p - 1) ∷ []))) joins
      go true true s t = absurd (true≢false (sym t ∙ rw (eqb-true (operator ws (p - 1)) 1 s)))
      go true false s t = refl
      go false true s t = refl
      go false false s t = refl

      same : after ≡ entered_all ws reaches (p - 1) (inputs (node_at ws (p - 1))) joins
      same = a ∙ rw (b, lefts, rights, inputs_at ws f (p - 1) (omega arith)) (go (eqb (operator ws (p - 1)) 1) (has_right (operator ws (p - 1))) refl refl)

-- ---- the rows around a node

module _ {ws reaches : List ℕ} {joins : List (Option ℕ)} (f : Formed ws) (r : Reaches ws reaches) (e : Entered ws reaches joins 0) where
  -- what the table has, by what the plan says
  rule : (m : ℕ) → m < nodes ws
      → get_or joins m None
      ≡ cond (is_open ws m && ltb (user_of ws m) (nodes ws)) (cond (is_right_side ws (user_of ws m) m) (Some (user_of ws m)) (get_or joins (user_of ws m) None)) None
  unfolding around
  rule m l =
      e.at m l
      ∙ rw (user_first ws m, r m l, reach_open (shape_at (widths_of ws) (nodes_of ws) m).reads)

  -- an entry is a dependent join of the plan, by the number of nodes above
  join_found : (k m p : ℕ) → nodes ws ≤ m + k → m < nodes ws → get_or joins m None ≡ Some p → (p < nodes ws) × (operator ws p ≡ 8)
  join_found zero m p g l = absurd (omega arith)
  join_found (suc k) m p g l = go (is_open ws m && ltb u (nodes ws)) (is_right_side ws u m) refl refl (rule m l) (join_found k u p)
    where
      u : ℕ
      u = user_of ws m

      go : (b c : Bool) → (is_open ws m && ltb u (nodes ws)) ≡ b → is_right_side ws u m ≡ c → get_or joins m None ≡ cond b (cond c (Some u) (get_or joins u None)) None
          → (nodes ws ≤ u + k → u < nodes ws → get_or joins u None ≡ Some p → (p < nodes ws) × (operator ws p ≡ 8))
          → get_or joins m None ≡ Some p → (p < nodes ws) × (operator ws p ≡ 8)
      go true true s t q before found =
          let same : u ≡ p = cc in
          rw (sym same) (ltb-true u (nodes ws) (and_right (is_open ws m) _ s), eqb-true (operator ws u) 8 (and_left (eqb (operator ws u) 8) _ t))
      go true false s t q before found =
          let n : u < nodes ws = ltb-true u (nodes ws) (and_right (is_open ws m) _ s) in
          let d : m < u = user_above ws f m n in
          before (omega arith) n (sym q ∙ found)
      go false c s t q before found = absurd (cc)

  -- what stands around a node is what stands at its join
  stands : (k m : ℕ) → nodes ws ≤ m + k → m < nodes ws → scope_of ws m ≡ rows_from ws (get_or joins m None)
  stands zero m g l = absurd (omega arith)
  stands (suc k) m g l =
      scope_once ws f m l
      ∙ go (is_open ws m && ltb u (nodes ws)) (is_right_side ws u m) refl (rule m l) (stands k u)
    where
      u : ℕ
      u = user_of ws m

      go : (b c : Bool) → (is_open ws m && ltb u (nodes ws)) ≡ b → get_or joins m None ≡ cond b (cond c (Some u) (get_or joins u None)) None
          → (nodes ws ≤ u + k → u < nodes ws → scope_of ws u ≡ rows_from ws (get_or joins u None))
          → cond b (cond c (width_at ws (left ws u) ∷ scope_of ws u) (scope_of ws u)) [] ≡ rows_from ws (get_or joins m None)
      go true true s q before = rw q
      go true false s q before =
          let n : u < nodes ws = ltb-true u (nodes ws) (and_right (is_open ws m) _ s) in
          let d : m < u = user_above ws f m n in
          rw q (before (omega arith) n)
      go false c s q before = rw q

  -- the whole table is the joins
  pub joins_end : Joins ws joins × InPlan ws joins
  joins_end = (λ m l. stands (nodes ws) m (omega arith) l, λ m p l. join_found (nodes ws) m p (omega arith) l)
