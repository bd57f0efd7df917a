-- What the header and the limits say where they are right.
use mathlib.Core.Path.{◌≡◌, refl, sym, ◌∙◌}
use mathlib.Core.Bool.{Bool, true, false, ◌&&◌}
use mathlib.Core.List.{List, map}
use Prim.Native.Nat.{ℕ, ◌+◌, ◌*◌, ◌≤◌}
use lib.Dec.{eqb}
use lib.ListN.{length}
use borrow.Author.Tests.{le-leb, leb-true, eq-eqb, eqb-true}
use Rattle.algebra.specs.Lists.{all, upto}
use Rattle.algebra.proofs.Lists.Every.{every_of}
use Rattle.algebra.proofs.Lists.Same.{and_left, and_right}
use Rattle.plan.specs.Words.{word, tables, nodes, items, table_width}
use Rattle.plan.specs.Items.{between}
use Rattle.plan.specs.Verdict.{header_right, limits_right}
use Rattle.plan.proofs.Laws.Loops.{all_map}

-- both sides of a conjunction
pub both : (a b : Bool) → (a && b) ≡ true → (a ≡ true) × (b ≡ true)
both a b e = (and_left a b e, and_right a b e)

-- what cannot hold is false
pub refuted : (b : Bool) → (b ≡ true → ⊥) → false ≡ b
refuted true f = absurd (f refl)
refuted false f = refl

-- ---- the header

module _ (ws : List ℕ) where
  -- what a right header says
  pub record Header : Type 0 where
    pub long : 8 ≤ length ws
    pub total : word ws 0 ≡ length ws
    pub whole : word ws 0 ≡ 8 + tables ws + 6 * nodes ws + 7 * items ws
    pub widths_offset : word ws 2 ≡ 8
    pub nodes_offset : word ws 4 ≡ 8 + tables ws
    pub items_offset : word ws 6 ≡ 8 + tables ws + 6 * nodes ws
    pub last : word ws 7 ≡ 0

  pub header_says : header_right ws ≡ true → Header
  unfolding header_right
  header_says e =
      let a = both _ _ e in
      let b = both _ _ a.1 in
      let c = both _ _ b.1 in
      let d = both _ _ c.1 in
      let f = both _ _ d.1 in
      let g = both _ _ f.1 in
      record {
        long = leb-true 8 _ a.0;
        total = eqb-true _ _ b.0;
        whole = eqb-true _ _ c.0;
        widths_offset = eqb-true _ _ d.0;
        nodes_offset = eqb-true _ _ f.0;
        items_offset = eqb-true _ _ g.0;
        last = eqb-true _ _ g.1;
      }

  -- all but the last word is right
  pub header_last : 8 ≤ length ws → word ws 0 ≡ length ws → word ws 0 ≡ 8 + tables ws + 6 * nodes ws + 7 * items ws → word ws 2 ≡ 8
      → word ws 4 ≡ 8 + tables ws → word ws 6 ≡ 8 + tables ws + 6 * nodes ws → (x : ℕ) → x ≡ word ws 7 → eqb x 0 ≡ header_right ws
  unfolding header_right
  header_last a b c d e f x q =
      sym (rw (le-leb 8 _ a, eq-eqb _ _ b, eq-eqb _ _ c, eq-eqb _ _ d, eq-eqb _ _ e, eq-eqb _ _ f, q))

-- ---- the limits

-- a number is between two others, or not
pub between_holds : (a b x : ℕ) → a ≤ x → x ≤ b → between a b x ≡ true
between_holds a b x g h = rw (le-leb a x g, le-leb x b h)

pub between_says : (a b x : ℕ) → between a b x ≡ true → (a ≤ x) × (x ≤ b)
between_says a b x e = let h = both _ _ e in (leb-true a x h.0, leb-true x b h.1)

pub between_fails : (a b x : ℕ) → ((a ≤ x) × (x ≤ b) → ⊥) → between a b x ≡ false
between_fails a b x f = sym (refuted (between a b x) (λ e. f (between_says a b x e)))

module _ (ws : List ℕ) where
  -- the widths of the first n tables
  abbrev pub widths_right : ℕ → Bool
  widths_right n = all (λ t. between 1 64 (table_width ws t)) (upto n)

  -- the same over the list of widths
  pub widths_mapped : (n : ℕ) → all (between 1 64) (map (table_width ws) (upto n)) ≡ widths_right n
  widths_mapped n = all_map (table_width ws) (between 1 64) (λ t. between 1 64 (table_width ws t)) (every_of (λ t. refl) (upto n))

  -- what right limits say
  pub record Limits : Type 0 where
    pub tables_some : 1 ≤ tables ws
    pub tables_few : tables ws ≤ 16
    pub nodes_some : 1 ≤ nodes ws
    pub nodes_few : nodes ws ≤ 256
    pub items_few : items ws ≤ 2000
    pub widths : widths_right (tables ws) ≡ true

  pub limits_say : limits_right ws ≡ true → Limits
  unfolding limits_right
  limits_say e =
      let a = both _ _ e in
      let b = both _ _ a.1 in
      let c = both _ _ b.1 in
      let t = between_says 1 16 _ a.0 in
      let n = between_says 1 256 _ b.0 in
      record {
        tables_some = t.0;
        tables_few = t.1;
        nodes_some = n.0;
        nodes_few = n.1;
        items_few = leb-true _ _ c.0;
        widths = c.1;
      }

  -- the numbers are right, and the widths are left
  pub limits_last : 1 ≤ tables ws → tables ws ≤ 16 → 1 ≤ nodes ws → nodes ws ≤ 256 → items ws ≤ 2000
      → (t : ℕ) → t ≡ tables ws → (r : Bool) → r ≡ widths_right t → r ≡ limits_right ws
  unfolding limits_right
  limits_last a b c d e t q r s =
      rw q at s ∙ sym (rw (between_holds 1 16 _ a b, between_holds 1 256 _ c d, le-leb _ _ e))
