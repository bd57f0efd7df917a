-- The items of an accepted node by their sorts, as the code reads them.
use mathlib.Core.Path.{◌≡◌, refl, sym, ap, ◌∙◌}
use mathlib.Core.Bool.{Bool, true, false, cond, not, ◌&&◌, true≢false}
use mathlib.Core.List.{List, [], ◌∷◌, ◌++◌, append-nil}
use Prim.Native.Nat.{ℕ, suc, ◌+◌, ◌-◌, ◌<◌, ◌≤◌}
use native.Mathlib.Omega.{arith}
use lib.Dec.{ltb, eqb}
use lib.ListN.{length, get_or}
use lib.Seq.{take_at, drop_at}
use borrow.Author.Tests.{eqb-true}
use Rattle.algebra.specs.Lists.{keep, all, is_empty, upto, Every, done, more}
use Rattle.algebra.specs.Plan.{Node}
use Rattle.algebra.proofs.Lists.Every.{every_map, every_append, every_unmapped}
use Rattle.algebra.proofs.Lists.Keep.{keep_append, keep_all, keep_none}
use Rattle.algebra.proofs.Domains.Keys.{upto_all}
use Rattle.plan.specs.Words.{Item, nodes, operator, left, right, kind, first_item, item_count, item_word, item_at, items_from}
use Rattle.plan.specs.Items.{is_conjunct, is_key, is_aggregate, conjuncts_in, keys_in}
use Rattle.plan.specs.Items.{position_of, conjunct_right, computation_right, key_right, output_right, aggregate_right}
use Rattle.plan.specs.Plan.{computation_in, node_for, node_at, kind_of}
use Rattle.plan.specs.Verdict.{in_front, items_right, has_right, conjunct_there, computation_there, columns_there, width_at, scope_of, columns_right}
use Rattle.plan.specs.Promise.{Accepted}
use Rattle.plan.proofs.Laws.Header.{both}
use Rattle.plan.proofs.Laws.Formed.{by_operator, facts_at}
use Rattle.plan.proofs.Laws.Items.{items_length, items_split}
use Rattle.plan.proofs.Laws.Loops.{keep_few}
use Rattle.plan.proofs.Laws.Numbered.{every_all}
use Rattle.plan.proofs.Laws.Restored.{conjunct_not_aggregate, key_not_aggregate, aggregate_not_conjunct, aggregate_not_key}
use Rattle.pages.specs.Items.{Movable}
use Rattle.rules.specs.Under.{conjunct_count}
use Rattle.rules.proofs.Laws.RulePages.{count_all}
use Rattle.pages.proofs.Laws.Limits.{items_within}
use Rattle.pages.proofs.Laws.SmallPositions.{row_narrow, outer_narrow, conjuncts_movable, computation_movable, positions_small, aggregates_small}

-- ---- items of a sort, then aggregates

module _ (ws : List ℕ) (a : ℕ) where
  -- what each of count items has, item i of them has
  pub at_each : {P : Item → Type 0} (count : ℕ) → Every P (items_from ws a count) → (i : ℕ) → i < count → P (item_at ws (a + i))
  at_each count t i h = upto_all count (every_unmapped (λ j. item_at ws (a + j)) (upto count) t) i h

  -- m items that are p and that s keeps, then count - m aggregates
  pub record Parted (count : ℕ) (p s : Item → Bool) (m : ℕ) : Type 0 where
    pub few : m ≤ count
    pub front : Every (λ x. p x ≡ true) (items_from ws a m)
    pub behind : Every (λ x. aggregate_right x ≡ true) (items_from ws (a + m) (count - m))
    pub whole : items_from ws a count ≡ items_from ws a m ++ items_from ws (a + m) (count - m)
    pub front_kept : keep s (items_from ws a count) ≡ items_from ws a m
    pub behind_kept : keep is_aggregate (items_from ws a count) ≡ items_from ws (a + m) (count - m)

  part : (count : ℕ) (p s : Item → Bool) → ((x : Item) → p x ≡ true → s x ≡ true) → ((x : Item) → aggregate_right x ≡ true → s x ≡ false)
      → ((x : Item) → p x ≡ true → is_aggregate x ≡ false)
      → in_front p aggregate_right (length (keep s (items_from ws a count))) (items_from ws a count) ≡ true
      → Parted count p s (length (keep s (items_from ws a count)))
  part count p s f g h e = record {
    few = few;
    front = front;
    behind = behind;
    whole = whole;
    front_kept = ap (keep s) whole ∙ keep_append s ys zs ∙ rw (keep_all s (every_map f front), keep_none s (every_map g behind)) (append-nil ys);
    behind_kept =
        ap (keep is_aggregate) whole ∙ keep_append is_aggregate ys zs
        ∙ rw (keep_none is_aggregate (every_map h front), keep_all is_aggregate (every_map (λ x q. (both _ _ q).0) behind));
  }
    where
      m : ℕ
      m = length (keep s (items_from ws a count))

      ys : List Item
      ys = items_from ws a m

      zs : List Item
      zs = items_from ws (a + m) (count - m)

      few : m ≤ count
      few = omega (arith, keep_few s (items_from ws a count), items_length ws a count)

      whole : items_from ws a count ≡ ys ++ zs
      whole = items_split ws a m count few

      split : (all p ys && all aggregate_right zs) ≡ true
      split = rw (take_at ys zs m (items_length ws a m), drop_at ys zs m (items_length ws a m)) at (ap (in_front p aggregate_right m) (sym whole) ∙ e)

      front : Every (λ x. p x ≡ true) ys
      front = every_all p ys (both _ _ split).0

      behind : Every (λ x. aggregate_right x ≡ true) zs
      behind = every_all aggregate_right zs (both (all p ys) _ split).1

-- ---- a node

-- node n of an accepted plan, whose first item and item count the code read as a and count
pub record Read (ws : List ℕ) (n a count : ℕ) : Type 0 where
  pub accepted : Accepted ws
  pub there : n < nodes ws
  pub first : a ≡ first_item ws n
  pub number : count ≡ item_count ws n

pub read_node : {ws : List ℕ} {n a count : ℕ} → Accepted ws → n < nodes ws → a ≡ first_item ws n → count ≡ item_count ws n → Read ws n a count
read_node h l e f = record { accepted = h; there = l; first = e; number = f }

-- a node with one input is no groupjoin, one with two no project and no group
pub one_input : {o : ℕ} → has_right o ≡ false → o ≡ 7 → ⊥
one_input e q = true≢false (sym (ap has_right q) ∙ e)

pub no_project : {o : ℕ} → has_right o ≡ true → o ≡ 4 → ⊥
no_project e q = true≢false (sym e ∙ ap has_right q)

pub no_group : {o : ℕ} → has_right o ≡ true → o ≡ 6 → ⊥
no_group e q = true≢false (sym e ∙ ap has_right q)

-- a dependent join
pub two_inputs : {o : ℕ} → o ≡ 8 → has_right o ≡ true
two_inputs q = ap has_right q

pub no_groupjoin : {o : ℕ} → o ≡ 8 → o ≡ 7 → ⊥
no_groupjoin q e = omega arith

module _ {ws : List ℕ} {n a count : ℕ} (read : Read ws n a count) where
  -- the node over operator o
  abbrev node_over : ℕ → Node
  node_over o = node_for o (left ws n) (right ws n) (kind_of (kind ws n)) (items_from ws a count)

  pub within : a + count ≤ 2000
  within = items_within read.accepted read.there read.first read.number

  module _ (o : ℕ) (e : operator ws n ≡ o) where
    pub node_is : node_at ws n ≡ node_over o
    node_is = rw (e, read.first, read.number)

    pub sorts : items_right o (items_from ws a count) ≡ true
    sorts = rw (← e, read.first, read.number) (facts_at ws read.accepted.formed n read.there).sorts

    columns : columns_there (width_at ws) (scope_of ws n) (node_over o) ≡ true
    unfolding columns_right
    columns = rw (← node_is) (read.accepted.columns n read.there)

  -- the widths of one and of two rows
  one : (i : ℕ) → width_at ws i ≤ 128
  one i = omega (arith, row_narrow ws read.accepted i)

  two : (i j : ℕ) → width_at ws i + width_at ws j ≤ 128
  two i j = omega (arith, row_narrow ws read.accepted i, row_narrow ws read.accepted j)

  deep : (l : ℕ) → get_or (scope_of ws n) l 0 ≤ 64
  deep = outer_narrow ws read.accepted n

  -- keys, then aggregates
  pub group_parted : operator ws n ≡ 6 → Parted ws a count key_right is_key (length (keep is_key (items_from ws a count)))
  unfolding items_right
  group_parted e =
      part ws a count key_right is_key (λ x g. (both _ _ g).0) aggregate_not_key key_not_aggregate
      (both (not (is_empty (items_from ws a count))) _ (sorts 6 e)).1

  -- conjuncts, then aggregates
  groupjoin_part : items_right 7 (items_from ws a count) ≡ true
      → Parted ws a count conjunct_right is_conjunct (length (keep is_conjunct (items_from ws a count)))
  unfolding items_right
  groupjoin_part e =
      part ws a count conjunct_right is_conjunct (λ x g. (both (is_conjunct x) _ g).0) aggregate_not_conjunct conjunct_not_aggregate
      (both (ltb (length (keep is_conjunct (items_from ws a count))) (length (items_from ws a count))) _ e).1

  pub groupjoin_parted : operator ws n ≡ 7 → Parted ws a count conjunct_right is_conjunct (length (keep is_conjunct (items_from ws a count)))
  groupjoin_parted e = groupjoin_part (sorts 7 e)

  pub outputs : operator ws n ≡ 4 → Every (λ x. output_right x ≡ true) (items_from ws a count)
  unfolding items_right
  outputs e = every_all output_right (items_from ws a count) (both (not (is_empty (items_from ws a count))) _ (sorts 4 e)).1

  -- ---- small positions

  pub outputs_small : operator ws n ≡ 4 → (i : ℕ) → i < count → item_word ws (a + i) 3 < 1000
  unfolding columns_there node_for
  outputs_small e =
      at_each ws a count
      (positions_small (scope_of ws n) (width_at ws (left ws n)) deep (one (left ws n)) (items_from ws a count) (columns 4 e))

  pub group_small : operator ws n ≡ 6 → (i : ℕ) → i < count → item_word ws (a + i) 3 < 1000
  unfolding columns_there node_for
  group_small e =
      let p = group_parted e in
      let c = both (all (λ q. ltb q (width_at ws (left ws n))) (keys_in (items_from ws a count))) _ (columns 6 e) in
      let m = length (keep is_key (items_from ws a count)) in
      let w = width_at ws (left ws n) in
      let front = positions_small (scope_of ws n) w deep (one (left ws n)) (items_from ws a m) (rw p.front_kept at c.0) in
      let rest = items_from ws (a + m) (count - m) in
      let behind = aggregates_small (scope_of ws n) w deep (one (left ws n)) rest p.behind (rw p.behind_kept at c.1) in
      at_each ws a {P = λ x. position_of x < 1000} count (rw p.whole (every_append front behind))

  pub groupjoin_small : operator ws n ≡ 7 → {m : ℕ} → m ≡ length (keep is_conjunct (items_from ws a count))
      → (i : ℕ) → i < count - m → item_word ws (a + m + i) 3 < 1000
  unfolding columns_there node_for
  groupjoin_small e {m} q =
      let p : Parted ws a count conjunct_right is_conjunct m = rw q (groupjoin_parted e) in
      let w = width_at ws (right ws n) in
      let c = both (all (conjunct_there (scope_of ws n) (width_at ws (left ws n) + w)) (conjuncts_in (items_from ws a count))) _ (columns 7 e) in
      at_each ws (a + m) (count - m)
      (aggregates_small (scope_of ws n) w deep (one (right ws n)) (items_from ws (a + m) (count - m)) p.behind
      (rw p.behind_kept at c.1))

  -- ---- terms that can be moved

  -- all but outputs, keys and aggregates
  Moves : ℕ → Type 0
  Moves o =
      items_right o (items_from ws a count) ≡ true → columns_there (width_at ws) (scope_of ws n) (node_over o) ≡ true → (o ≡ 4 → ⊥) → (o ≡ 6 → ⊥)
      → Every Movable (items_from ws a (cond (eqb o 7) (length (keep is_conjunct (items_from ws a count))) count))

  conjuncts_move : (w : ℕ) → w ≤ 128 → all conjunct_right (items_from ws a count) ≡ true
      → all (conjunct_there (scope_of ws n) w) (conjuncts_in (items_from ws a count)) ≡ true → Every Movable (items_from ws a count)
  conjuncts_move w h e f =
      let t = every_all conjunct_right (items_from ws a count) e in
      conjuncts_movable (scope_of ws n) w deep h (items_from ws a count) t
      (rw (keep_all is_conjunct (every_map (λ x g. (both (is_conjunct x) _ g).0) t)) at f)

  moves : (o : ℕ) → 1 ≤ o → o ≤ 8 → Moves o
  unfolding items_right columns_there node_for Moves
  moves =
      by_operator Moves
      (λ e f g h. none (items_from ws a count) e)
      (λ e f g h. conjuncts_move _ (one (left ws n)) e f)
      (λ e f g h. single (items_from ws a count) e f)
      (λ e f g h. absurd (g refl))
      (λ e f g h. conjuncts_move _ (two (left ws n) (right ws n)) e f)
      (λ e f g h. absurd (h refl))
      front
      (λ e f g h. conjuncts_move _ (two (left ws n) (right ws n)) e f)
    where
      front : Moves 7
      front e f g h =
          let p = groupjoin_part e in
          let w = width_at ws (left ws n) + width_at ws (right ws n) in
          let c = both (all (conjunct_there (scope_of ws n) w) (conjuncts_in (items_from ws a count))) _ f in
          conjuncts_movable (scope_of ws n) w deep (two (left ws n) (right ws n)) _ p.front (rw p.front_kept at c.0)

      none : (ys : List Item) → is_empty ys ≡ true → Every Movable ys
      none [] e = done
      none (y ∷ ys) e = absurd (true≢false (sym e))

      single : (ys : List Item) → (eqb (length ys) 1 && all computation_right ys) ≡ true
          → computation_there (scope_of ws n) (width_at ws (left ws n)) (computation_in ys) ≡ true → Every Movable ys
      single [] e f = done
      single (y ∷ []) e f = more (computation_movable (scope_of ws n) (width_at ws (left ws n)) deep (one (left ws n)) y (both _ _ e).0 f) done
      single (y ∷ z ∷ ys) e f = absurd (omega (arith, eqb-true (suc (suc (length ys))) 1 (both _ _ e).0))

  pub movable : (operator ws n ≡ 4 → ⊥) → (operator ws n ≡ 6 → ⊥) → {m : ℕ} → m ≡ conjunct_count ws n
      → (i : ℕ) → i < m → Movable (item_at ws (a + i))
  unfolding Moves
  movable f g {m} e =
      let v = facts_at ws read.accepted.formed n read.there in
      at_each ws a {P = Movable} m
      (rw (e, ← read.first, ← read.number)
      (moves (operator ws n) v.low v.high (sorts (operator ws n) refl) (columns (operator ws n) refl) f g))

  -- where there are only conjuncts
  pub all_conjuncts : (operator ws n ≡ 7 → ⊥) → count ≡ conjunct_count ws n
  all_conjuncts = count_all ws n count read.number

  pub groupjoin_conjuncts : operator ws n ≡ 7 → conjunct_count ws n ≡ length (keep is_conjunct (items_from ws a count))
  groupjoin_conjuncts e = rw (e, read.first, read.number)

  conjuncts_few : (m : ℕ) → m ≡ conjunct_count ws n → m ≤ count
  conjuncts_few m e = rw (e, ← read.first, ← read.number) (go (eqb (operator ws n) 7))
    where
      go : (b : Bool) → cond b (length (keep is_conjunct (items_from ws a count))) count ≤ count
      go true = omega (arith, keep_few is_conjunct (items_from ws a count), items_length ws a count)
      go false = omega arith

  -- the conjuncts, and what stands behind them, are within the limits
  pub fronts : {m : ℕ} → m ≡ conjunct_count ws n → (m ≤ count) × (a + m ≤ 2000) × (a + m + (count - m) ≤ 2000)
  fronts {m} e =
      let f = conjuncts_few m e in
      let g = within in
      (f, omega arith, omega arith)
