-- The way out from a node, join by join.
use mathlib.Core.Path.{◌≡◌, sym, ap, ◌∙◌}
use mathlib.Core.List.{List, ◌∷◌}
use Prim.Native.Nat.{ℕ, suc, ◌<◌}
use native.Mathlib.Omega.{arith}
use lib.ListN.{get_or}
use Rattle.std.proofs.Common.{Option, Some, None}
use Rattle.plan.specs.Words.{nodes, operator, left}
use Rattle.plan.specs.Verdict.{width_at, scope_of}
use Rattle.plan.specs.Passes.{rows_from, Placed}
use Rattle.plan.proofs.Laws.Formed.{facts_at, limited}

-- what is looked for, from node n at a level, is looked for at level l from a join on
pub record Climbed (ws : List ℕ) (n level : ℕ) (at : Option ℕ) (l : ℕ) : Type 0 where
  pub same : get_or (scope_of ws n) level 0 ≡ get_or (rows_from ws at) l 0
  pub join : (p : ℕ) → at ≡ Some p → (p < nodes ws) × (operator ws p ≡ 8)

-- past the last join there is no row
pub climb_none : {ws : List ℕ} {n level l : ℕ} {at : Option ℕ} → Climbed ws n level at l → at ≡ None → 0 ≡ get_or (scope_of ws n) level 0
climb_none {ws} {n} {level} {l} c e = sym (c.same ∙ ap (λ (a : Option ℕ). get_or (rows_from ws a) l 0) e)

module _ {ws rows : List ℕ} {joins : List (Option ℕ)} (placed : Placed ws rows joins) {n level : ℕ} where
  -- from the node's own join
  pub climb_start : {l : ℕ} → n < nodes ws → l ≡ level → Climbed ws n level (get_or joins n None) l
  climb_start h z = rw z (record { same = ap (λ (k : List ℕ). get_or k level 0) (placed.around n h); join = λ p. placed.in_plan n p h })

  module _ {at : Option ℕ} {l p : ℕ} (c : Climbed ws n level at l) (e : at ≡ Some p) where
    -- a join is a node
    pub climb_inside : p < 256
    climb_inside = omega (arith, (c.join p e).0, (limited ws placed.formed.sized).nodes_few)

    -- to the next join, one level less
    pub climb_next : {k : ℕ} → l ≡ suc k → Climbed ws n level (get_or joins p None) k
    climb_next {k} d =
        let h : p < nodes ws = (c.join p e).0 in record {
          same = c.same ∙ ap (λ (a : Option ℕ). get_or (rows_from ws a) l 0) e
              ∙ ap (λ (m : ℕ). get_or (width_at ws (left ws p) ∷ scope_of ws p) m 0) d ∙ ap (λ (rs : List ℕ). get_or rs k 0) (placed.around p h);
          join = λ q. placed.in_plan p q h;
        }

    module _ {i : ℕ} (d : i ≡ left ws p) where
      -- the left input of a join is below it
      join_left : i < p
      join_left = omega (arith, (facts_at ws placed.formed p (c.join p e).0).left_node (λ q. omega (arith, (c.join p e).1)))

      -- and so a node
      pub climb_left : i < 256
      climb_left = omega (arith, join_left, climb_inside)

      -- at level 0 the row is the left input of the join
      pub climb_end : l ≡ 0 → get_or rows i 0 ≡ get_or (scope_of ws n) level 0
      climb_end z =
          placed.widths i (omega (arith, join_left, (c.join p e).0))
          ∙ rw d (sym (c.same ∙ ap (λ (a : Option ℕ). get_or (rows_from ws a) l 0) e ∙ rw z))
