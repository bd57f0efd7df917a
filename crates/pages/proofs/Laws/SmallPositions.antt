-- The columns that the items of an accepted plan name stand at small positions.
use mathlib.Core.Path.{◌≡◌, refl, ap}
use mathlib.Core.Bool.{Bool, true, false, cond, ◌&&◌}
use mathlib.Core.List.{List, map}
use Prim.Native.Nat.{ℕ, zero, suc, ◌<◌, ◌≤◌}
use native.Mathlib.Omega.{arith}
use lib.Dec.{ltb, eqb}
use lib.ListN.{get_or}
use borrow.Author.Tests.{ltb-true, ltb-false, eqb-true, eqb-false}
use Rattle.algebra.specs.Lists.{all, Every, done, more}
use Rattle.algebra.specs.Columns.{Shape}
use Rattle.algebra.proofs.Lists.Every.{every_map, every_both, every_cond, every_unmapped, every_at}
use Rattle.plan.specs.Words.{Three, Item, nodes, left}
use Rattle.plan.specs.Items.{is_conjunct, term_of, conjunct_of, computation_of, position_of, aggregate_of}
use Rattle.plan.specs.Items.{term_right, is_local, is_unused, conjunct_right, computation_right, aggregate_right}
use Rattle.plan.specs.Plan.{widths_of, nodes_of}
use Rattle.plan.specs.Verdict.{term_there, conjunct_there, computation_there, aggregate_there, width_at, is_open, user_of, is_right_side, scope, scope_of}
use Rattle.plan.specs.Promise.{Accepted}
use Rattle.plan.proofs.Laws.Header.{both, between_says}
use Rattle.plan.proofs.Laws.Formed.{nodes_length}
use Rattle.plan.proofs.Laws.Numbered.{in_range_lem, every_all}
use Rattle.pages.specs.Items.{Small, Movable}
use Rattle.pages.proofs.Laws.Pages.{shape_past}

-- ---- rows

module _ (ws : List ℕ) (h : Accepted ws) where
  -- no row is wider than 64; past the last node there is none
  pub row_narrow : (i : ℕ) → width_at ws i ≤ 64
  row_narrow i = go (ltb i (nodes ws)) refl
    where
      go : (b : Bool) → ltb i (nodes ws) ≡ b → width_at ws i ≤ 64
      go true e = h.narrow i (ltb-true _ _ e)
      go false e = rw (ap (λ (s : Shape). s.width) (shape_past (widths_of ws) (nodes_of ws) i (rw (nodes_length ws) (ltb-false _ _ e)))) (omega arith)

  -- nor is one that stands around a node
  pub around_narrow : (fuel m : ℕ) → Every (λ w. w ≤ 64) (scope ws fuel m)
  unfolding scope
  around_narrow zero m = done
  around_narrow (suc fuel) m =
      let t = around_narrow fuel (user_of ws m) in
      every_cond (is_open ws m && ltb (user_of ws m) (nodes ws))
      (every_cond (is_right_side ws (user_of ws m) m) (more (row_narrow (left ws (user_of ws m))) t) t) done

  pub outer_narrow : (m l : ℕ) → get_or (scope_of ws m) l 0 ≤ 64
  outer_narrow m l = every_at 0 (omega arith) (around_narrow (nodes ws) m) l

-- ---- items whose columns exist in narrow rows

abbrev item : ℕ → Three → Three → Item
item tag a b = record { tag = tag; first = a; second = b }

module _ (around : List ℕ) (w : ℕ) (deep : (l : ℕ) → get_or around l 0 ≤ 64) (narrow : w ≤ 128) where
  small_term : (t : Three) → term_there around w (term_of t) ≡ true → Small t
  unfolding term_there term_of
  small_term t e h = go (eqb t.code 0) refl
    where
      go : (b : Bool) → eqb t.code 0 ≡ b → t.value < 1000
      go true q =
          let p : ltb t.value w ≡ true = rw q at e in
          omega (arith, ltb-true t.value w p)
      go false q =
          let c : t.code ≡ 1 = omega (arith, eqb-false t.code 0 q) in
          let p : ltb t.value (get_or around t.level 0) ≡ true = rw c at e in
          omega (arith, ltb-true t.value (get_or around t.level 0) p, deep t.level)

  conjunct_movable : (x : Item) → conjunct_right x ≡ true → conjunct_there around w (conjunct_of x) ≡ true → Movable x
  conjunct_movable x e f =
      let g = both _ _ (both (is_conjunct x) _ e).1 in
      let h = both _ _ f in
      record { first = (g.0, small_term x.first h.0); second = λ q. (g.1, small_term x.second h.1) }

  pub conjuncts_movable : (xs : List Item) → Every (λ x. conjunct_right x ≡ true) xs → all (conjunct_there around w) (map conjunct_of xs) ≡ true → Every Movable xs
  conjuncts_movable xs t e =
      every_map (λ x f. conjunct_movable x f.0 f.1)
      (every_both t (every_unmapped conjunct_of xs (every_all (conjunct_there around w) (map conjunct_of xs) e)))

  pub computation_movable : (x : Item) → computation_right x ≡ true → computation_there around w (computation_of x) ≡ true → Movable x
  unfolding computation_of computation_there
  computation_movable x e =
      let f = both _ _ e in
      let t = between_says 8 10 x.tag f.0 in
      in_range_lem Moves 8 3 (more copied (more two (more two done))) x.tag t.0 (omega arith) f.1
    where
      a : Three
      a = x.first

      b : Three
      b = x.second

      Moves : ℕ → Type 0
      Moves tag =
          (term_right a && cond (eqb tag 8) (is_unused b) (term_right b)) ≡ true → computation_there around w (computation_of (item tag a b)) ≡ true
          → Movable (item tag a b)

      copied : Moves 8
      copied f g = record { first = ((both _ _ f).0, small_term a g); second = λ q. absurd (q refl) }

      two : {tag : ℕ} → (term_right a && term_right b) ≡ true → (term_there around w (term_of a) && term_there around w (term_of b)) ≡ true → Movable (item tag a b)
      two f g =
          let r = both _ _ f in
          let s = both _ _ g in
          record { first = (r.0, small_term a s.0); second = λ q. (r.1, small_term b s.1) }

  aggregate_small : (x : Item) → aggregate_right x ≡ true → aggregate_there w (aggregate_of x) ≡ true → position_of x < 1000
  unfolding aggregate_of aggregate_there
  aggregate_small x e =
      let f = both _ _ e in
      let t = between_says 13 16 x.tag f.0 in
      in_range_lem Stands 13 4 (more counted (more (λ g. there) (more (λ g. there) (more (λ g. there) done)))) x.tag t.0 (omega arith)
      (both (cond (eqb x.tag 13) (is_unused x.first) (is_local x.first)) _ f.1).0
    where
      a : Three
      a = x.first

      Stands : ℕ → Type 0
      Stands tag = cond (eqb tag 13) (is_unused a) (is_local a) ≡ true → aggregate_there w (aggregate_of (item tag a x.second)) ≡ true → a.value < 1000

      counted : Stands 13
      counted f g = omega (arith, eqb-true a.value 0 (both (is_local a) _ f).1)

      there : ltb a.value w ≡ true → a.value < 1000
      there g = omega (arith, ltb-true a.value w g)

  pub positions_small : (xs : List Item) → all (λ p. ltb p w) (map position_of xs) ≡ true → Every (λ x. position_of x < 1000) xs
  positions_small xs e =
      every_map (λ x f. omega (arith, ltb-true (position_of x) w f)) (every_unmapped position_of xs (every_all (λ p. ltb p w) (map position_of xs) e))

  pub aggregates_small : (xs : List Item) → Every (λ x. aggregate_right x ≡ true) xs → all (aggregate_there w) (map aggregate_of xs) ≡ true
      → Every (λ x. position_of x < 1000) xs
  aggregates_small xs t e =
      every_map (λ x f. aggregate_small x f.0 f.1) (every_both t (every_unmapped aggregate_of xs (every_all (aggregate_there w) (map aggregate_of xs) e)))
