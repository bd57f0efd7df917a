-- The widths of the nodes' rows.
use mathlib.Core.Path.{◌≡◌, refl, sym, ap, ◌∙◌}
use mathlib.Core.Bool.{Bool, true, false, not, cond}
use mathlib.Core.Logic.{◌⊎◌, inl, inr}
use mathlib.Core.List.{List, [], ◌∷◌}
use Prim.Native.Nat.{ℕ, suc, ◌+◌, ◌≤◌, ◌<◌}
use native.Mathlib.Omega.{arith}
use lib.ListN.{length, get_or, length-map}
use borrow.Author.Tests.{ltb-false, lt-ltb, le-ltb}
use Rattle.algebra.specs.Lists.{keep, upto, is_empty, Every, done, more}
use Rattle.algebra.specs.Plan.{Kind, inner, semi, anti, left_outer, width_of, join_width}
use Rattle.algebra.specs.Columns.{Shape, shape_at}
use Rattle.algebra.proofs.Lists.Same.{and_left, and_right}
use Rattle.algebra.proofs.Lists.Every.{every_map}
use Rattle.algebra.proofs.Tables.Shapes.{shape_same}
use Rattle.plan.specs.Words.{Item, tables, nodes, table_width, operator, left, right, kind, first_item, item_count, items_from, items_of}
use Rattle.plan.specs.Items.{is_key, is_aggregate, position_of, keys_in, aggregates_in, key_right, aggregate_right}
use Rattle.plan.specs.Plan.{node_for, node_at, kind_of, widths_of, nodes_of}
use Rattle.plan.specs.Verdict.{items_right, width_at, is_too_wide}
use Rattle.plan.specs.Promise.{Formed}
use Rattle.plan.specs.Passes.{ZeroFrom, Measured}
use Rattle.plan.proofs.Laws.Loops.{lowest_none, lowest_not, lowest_found, lowest_end, none_more}
use Rattle.plan.proofs.Laws.Numbered.{numbered_at}
use Rattle.plan.proofs.Laws.Items.{items_length}
use Rattle.plan.proofs.Laws.Formed.{facts_at, inputs_below, shape_of_lem}
use Rattle.plan.proofs.Laws.Reach.{front_every}
use Rattle.plan.proofs.Laws.Restored.{key_not_aggregate, aggregate_not_key}

-- ---- a join

pub join_narrow : (k : Kind) (l r : ℕ) → l ≤ 64 → r ≤ 64 → join_width k l r ≤ 128
join_narrow inner l r h g = omega arith
join_narrow semi l r h g = omega arith
join_narrow anti l r h g = omega arith
join_narrow left_outer l r h g = omega arith

-- ---- items

-- what passes one of two tests, of which each element passes one
split_length : {A : Type 0} (p q : A → Bool) {xs : List A} → Every (λ x. q x ≡ not (p x)) xs → length (keep p xs) + length (keep q xs) ≡ length xs
split_length p q done = refl
split_length p q (more {x} {xs} e t) = rw e (go (p x) (split_length p q t))
  where
    go : (b : Bool) → length (keep p xs) + length (keep q xs) ≡ length xs
        → length (cond b (x ∷ keep p xs) (keep p xs)) + length (cond (not b) (x ∷ keep q xs) (keep q xs)) ≡ suc (length xs)
    go true h = omega arith
    go false h = omega arith

-- a key or an aggregate is one of the two
key_only : (x : Item) → key_right x ≡ true → is_aggregate x ≡ not (is_key x)
key_only x e = rw (key_not_aggregate x e, and_left (is_key x) _ e)

aggregate_only : (x : Item) → aggregate_right x ≡ true → is_aggregate x ≡ not (is_key x)
aggregate_only x e = rw (aggregate_not_key x e, and_left (is_aggregate x) _ e)

-- keys and aggregates are all the items of a group
group_items : (xs : List Item) → items_right 6 xs ≡ true → length (keys_in xs) + length (aggregates_in xs) ≡ length xs
unfolding items_right
group_items xs e =
    let either = front_every key_right aggregate_right key_only aggregate_only (length (keep is_key xs)) xs (and_right (not (is_empty xs)) _ e) in
    simp length-map (split_length is_key is_aggregate either)

-- ---- a node as the code reads it

module _ (ws : List ℕ) (f : Formed ws) (n : ℕ) (h : n < nodes ws) {o : ℕ} (eo : o ≡ operator ws n) where
  module _ (at : ℕ → ℕ) {l : ℕ} (el : l ≡ left ws n) where
    pub scan_width : o ≡ 1 → {w : ℕ} → w ≡ table_width ws l → w ≡ width_of (widths_of ws) at (node_at ws n)
    unfolding node_for
    scan_width e g =
        let width = numbered_at (table_width ws) (tables ws) (left ws n) 0 ((facts_at ws f n h).left_table (sym eo ∙ e)) in
        rw (sym eo ∙ e) (g ∙ ap (table_width ws) el ∙ sym width)

    pub select_width : o ≡ 2 → at l ≡ width_of (widths_of ws) at (node_at ws n)
    unfolding node_for
    select_width e = rw (sym eo ∙ e) (ap at el)

    pub compute_width : o ≡ 3 → at l + 1 ≡ width_of (widths_of ws) at (node_at ws n)
    unfolding node_for
    compute_width e = rw (sym eo ∙ e, el)

    pub groupjoin_width : o ≡ 7 → {a m c : ℕ} → a ≡ first_item ws n → m ≡ item_count ws n → c ≡ length (keep is_aggregate (items_from ws a m))
        → at l + c ≡ width_of (widths_of ws) at (node_at ws n)
    unfolding node_for
    groupjoin_width e ea em ec = rw (sym eo ∙ e, el, ec, ea, em) (simp length-map)

    pub join_width_lem : (o ≡ 5) ⊎ (o ≡ 8) → {k : Kind} {r w : ℕ} → k ≡ kind_of (kind ws n) → r ≡ right ws n → w ≡ join_width k (at l) (at r)
        → w ≡ width_of (widths_of ws) at (node_at ws n)
    unfolding node_for
    join_width_lem (inl e) ek er ew = rw (ek, el, er) at ew ∙ rw (sym eo ∙ e)
    join_width_lem (inr e) ek er ew = rw (ek, el, er) at ew ∙ rw (sym eo ∙ e)

  module _ (at : ℕ → ℕ) {m : ℕ} (em : m ≡ item_count ws n) where
    -- a node has as many items as its count says
    items_long : length (items_of ws n) ≡ m
    items_long = items_length ws (first_item ws n) (item_count ws n) ∙ sym em

    -- a projection's row and a group's have a column for each item
    pub listed_width : (o ≡ 4) ⊎ (o ≡ 6) → m ≡ width_of (widths_of ws) at (node_at ws n)
    unfolding node_for
    listed_width (inl e) = rw (sym eo ∙ e) (sym (length-map (items_of ws n) position_of ∙ items_long))
    listed_width (inr e) = rw (sym eo ∙ e) (sym (group_items (items_of ws n) (rw (sym eo ∙ e) at (facts_at ws f n h).sorts) ∙ items_long))

-- ---- all nodes

-- the width of a node from those of its inputs
width_from : (ws : List ℕ) → Formed ws → (n : ℕ) → n < nodes ws → (at : ℕ → ℕ) → ((m : ℕ) → m < n → at m ≡ width_at ws m)
    → width_of (widths_of ws) at (node_at ws n) ≡ width_at ws n
width_from ws f n h at before =
    ap (λ (s : Shape). s.width)
    (shape_same (widths_of ws) given known (node_at ws n) (every_map (λ m q. same m (before m q)) (inputs_below ws f n h)))
    ∙ sym (ap (λ (s : Shape). s.width) (shape_of_lem ws f n h))
  where
    known : ℕ → Shape
    known = shape_at (widths_of ws) (nodes_of ws)

    given : ℕ → Shape
    given m = record { width = at m; reads = (known m).reads }

    same : (m : ℕ) → at m ≡ width_at ws m → given m ≡ known m
    same m e = ap (λ (w : ℕ). record { width = w; reads = (known m).reads }) e

-- the widths of the nodes before n, none too wide
module _ (ws rows : List ℕ) (n : ℕ) (before : (m : ℕ) → m < n → get_or rows m 0 ≡ width_at ws m) (narrow : keep (is_too_wide ws) (upto n) ≡ []) where
  -- no width before n is above 64
  pub rows_low : (m : ℕ) → m < n → get_or rows m 0 ≤ 64
  rows_low m l = omega (arith, before m l, ltb-false 64 (width_at ws m) (lowest_not (is_too_wide ws) n (omega (arith, lowest_none (is_too_wide ws) n narrow)) m l))

  -- all nodes are measured
  pub measured_all : {c : ℕ} → ZeroFrom n rows → c ≡ nodes ws → c ≤ n → n ≤ c → Measured ws rows c
  measured_all rest e g h = record {
    first = e ∙ lowest_end (is_too_wide ws) n (nodes ws) narrow (omega arith) (omega arith);
    each = λ m l. before m (omega arith);
    rest = (rest.0, λ m l. rest.1 m (omega arith));
  }

  module _ (f : Formed ws) (h : n < nodes ws) {w : ℕ} (e : w ≡ width_of (widths_of ws) (λ i. get_or rows i 0) (node_at ws n)) where
    -- the width of node n
    pub width_is : w ≡ width_at ws n
    width_is = e ∙ width_from ws f n h (λ i. get_or rows i 0) before

    -- the first that is too wide
    pub measured_wide : ZeroFrom n rows → 64 < w → Measured ws rows n
    measured_wide rest g = record {
      first = lowest_found (is_too_wide ws) n (nodes ws) narrow (lt-ltb 64 (width_at ws n) (omega (arith, width_is))) h;
      each = before;
      rest = rest;
    }

    -- one more that is not too wide
    pub narrow_more : w ≤ 64 → keep (is_too_wide ws) (upto (n + 1)) ≡ []
    narrow_more g = none_more (is_too_wide ws) n narrow (le-ltb 64 (width_at ws n) (omega (arith, width_is)))
