-- The rewriting of an accepted plan, where it is within the limits, passes the check.
use mathlib.Core.Path.{◌∙◌, ◌≡◌, ap, refl, sym}
use mathlib.Core.Bool.{Bool, ◌&&◌, false, not, true}
use mathlib.Core.List.{List, []}
use Prim.Native.Nat.{◌+◌, ◌<◌, ◌^◌, ◌≤◌, suc, zero, ℕ}
use native.Mathlib.Omega.{arith}
use lib.Dec.{eqb, leb, ltb}
use lib.ListN.{get_or, length}
use borrow.Author.Tests.{le-ltb, leb-true, ltb-true, ne_eqb}
use Rattle.algebra.specs.Lists.{Every, upto}
use Rattle.algebra.specs.Plan.{Node, inputs, scan}
use Rattle.algebra.specs.Columns.{Shape, closed, shape_at}
use Rattle.algebra.specs.Statements.{Plain, uses}
use Rattle.algebra.proofs.Lists.Same.{and_left, and_right}
use Rattle.algebra.proofs.Lists.Every.{every_in, every_map, every_mapped}
use Rattle.algebra.proofs.Lists.Keep.{keep_none}
use Rattle.algebra.proofs.Domains.Keys.{upto_all, upto_below}
use Rattle.algebra.proofs.Statements.{no_dependent_join, rewriting_well_formed}
use Rattle.algebra.proofs.Tables.Tidy.{Ordered, ordered_closed}
use Rattle.algebra.proofs.Tables.Used.{all_used}
use Rattle.plan.specs.Words.{nodes, operator, table_width, tables}
use Rattle.plan.specs.Items.{between}
use Rattle.plan.specs.Plan.{node_at, nodes_of, widths_of}
use Rattle.plan.specs.Verdict.{Answer, accepted, columns_right, columns_there, is_open, is_open_twice, is_too_wide, is_unused_node, node_right, or_else, scope, verdict}
use Rattle.plan.specs.Promise.{Accepted, Formed}
use Rattle.plan.specs.Encoding.{Storable, all_items}
use Rattle.plan.proofs.Promise.{promise}
use Rattle.plan.proofs.Encoding.{decoded_nodes, decoded_widths, formed_words}
use Rattle.plan.proofs.Laws.Encoded.{nodes_of_lem, operator_of}
use Rattle.plan.proofs.Laws.Formed.{between_high, between_low, limited, mapped_at, nodes_length}
use Rattle.plan.proofs.Laws.Header.{Limits}
use Rattle.plan.proofs.Laws.Loops.{lowest_none}
use Rattle.plan.proofs.Laws.Meets.{Writable}
use Rattle.plan.proofs.Laws.Numbered.{every_all, numbered_length}
use Rattle.plan.proofs.Laws.Verdict.{from4, from5, from6, from7, past_limits, refused_later}
use Rattle.rewrite.specs.Answer.{new_plan, new_words, within_limits}
use Rattle.algebra.proofs.Tables.Fine.{inputs_under}
use Rattle.rewrite.proofs.Laws.PlanPieces.{columns_there_lem}
use Rattle.rewrite.proofs.Laws.LocalColumns.{ordered_all, ordered_levelled, sensible_placed, tidy_node}
use Rattle.rewrite.proofs.Laws.Sensible.{Fit, plan_fits}
use Rattle.rewrite.proofs.Laws.SensibleWritten.{rewritten_fits}
use Rattle.rewrite.proofs.Laws.Unchanged.{plain_operator, plan_unchanged}

-- ---- words in which no node is at fault are accepted

-- no node is at fault
none_refused : (k : ℕ) (fault : ℕ → Bool) (bound : ℕ) (rest : Answer) → ((n : ℕ) → n < bound → fault n ≡ false) → rest ≡ or_else k fault bound rest
none_refused k fault bound rest h =
    refused_later k fault bound rest bound (lowest_none fault bound (keep_none fault (every_map h (upto_below bound)))) (omega arith)

-- refusal by refusal
not_refused : (ws : List ℕ) → Formed ws → ((n : ℕ) → n < nodes ws → is_unused_node ws n ≡ false) → ((n : ℕ) → n < nodes ws → is_too_wide ws n ≡ false)
    → ((n : ℕ) → n < nodes ws → is_open_twice ws n ≡ false) → ((n : ℕ) → n < nodes ws → columns_right ws n ≡ true) → verdict ws ≡ accepted
not_refused ws f four five six seven =
    sym
    (none_refused 7 (λ n. not (columns_right ws n)) (nodes ws) accepted (λ n h. ap not (seven n h))
    ∙ none_refused 6 (is_open_twice ws) (nodes ws) (from7 ws) six
    ∙ none_refused 5 (is_too_wide ws) (nodes ws) (from6 ws) five
    ∙ none_refused 4 (is_unused_node ws) (nodes ws) (from5 ws) four
    ∙ none_refused 3 (λ n. not (node_right ws n)) (nodes ws) (from4 ws) (λ n h. ap not (f.formed n h))
    ∙ past_limits ws f.sized)

-- ---- what the limits say

-- few enough nodes and items, and no row too wide
record Within (widths : List ℕ) (ns : List Node) : Type 0 where
  nodes_few : length ns ≤ 256
  items_few : length (all_items ns) ≤ 2000
  narrow : (n : ℕ) → n < length ns → (shape_at widths ns n).width ≤ 64

-- the test says so
within_says : (widths : List ℕ) (ns : List Node) → within_limits widths ns ≡ true → Within widths ns
unfolding within_limits
within_says widths ns e =
    let rest = and_right (leb (length ns) 256) _ e in
    record {
      nodes_few = leb-true _ _ (and_left (leb (length ns) 256) _ e);
      items_few = leb-true _ _ (and_left (leb (length (all_items ns)) 2000) _ rest);
      narrow =
          λ n h. leb-true _ _ (upto_all (length ns) (every_all (λ i. leb (shape_at widths ns i).width 64) (upto (length ns))
          (and_right (leb (length (all_items ns)) 2000) _ rest)) n h);
    }

-- the widths of the tables
tables_within : (ws : List ℕ) → Limits ws → Every (λ w. (1 ≤ w) × (w ≤ 64)) (widths_of ws)
tables_within ws l =
    every_mapped (table_width ws)
    (every_map (λ t h. (between_low 1 64 (table_width ws t) h, between_high 1 64 (table_width ws t) h))
    (every_all (λ t. between 1 64 (table_width ws t)) (upto (tables ws)) l.widths))

-- ---- the rewriting of an accepted plan

module _ (ws : List ℕ) (a : Accepted ws) where
  -- the inputs of a node are before it
  new_inputs : (i : ℕ) → i < length (new_plan ws) → Every (λ j. j < i) (inputs (get_or (new_plan ws) i (scan 0)))
  new_inputs i h = inputs_under (widths_of ws) (scan 0) (new_plan ws) (rewriting_well_formed (widths_of ws) (nodes_of ws) a.plan).nodes i h

  -- its nodes mention local columns only
  new_ordered : Ordered (new_plan ws)
  new_ordered =
      ordered_all (scan 0) (new_plan ws)
      (λ i h.
      tidy_node _ i (get_or (new_plan ws) i (scan 0)) (every_in (scan 0) (no_dependent_join (widths_of ws) (nodes_of ws) a.plan) i h) (new_inputs i h)
      (columns_there_lem ws a i (scan 0) h))

  module _ (small : Every (λ w. w < 2 ^ 32) ws) where
    -- the limits of the plan's words
    limits : Limits ws
    limits = limited ws a.formed.sized

    -- as many widths as tables
    widths_length : length (widths_of ws) ≡ tables ws
    widths_length = numbered_length (table_width ws) (tables ws)

    -- its nodes are sensible
    new_fits : Every (Fit (length (widths_of ws))) (new_plan ws)
    new_fits = rewritten_fits (widths_of ws) (tables_within ws limits) (nodes_of ws) a.plan.nodes (rw widths_length (plan_fits ws a.formed small))

    -- their constants fit a word
    new_storable : Storable (new_plan ws)
    new_storable = every_map (λ n h. h.1) new_fits

    -- so its words are read as it was written
    nodes_back : nodes_of (new_words ws) ≡ new_plan ws
    nodes_back = decoded_nodes (widths_of ws) (new_plan ws) new_storable

    -- with the same shapes
    shapes_back : shape_at (widths_of (new_words ws)) (nodes_of (new_words ws)) ≡ shape_at (widths_of ws) (new_plan ws)
    shapes_back = λ i. shape_at (decoded_widths (widths_of ws) (new_plan ws) i) (nodes_back i)

    -- every node is closed
    new_closed : (n : ℕ) → is_open (new_words ws) n ≡ false
    new_closed n = ap (λ (s : ℕ → Shape). not (closed (s n))) shapes_back ∙ ap not (ordered_closed (widths_of ws) new_ordered n)

    -- nothing stands around it
    new_scope : (fuel n : ℕ) → scope (new_words ws) fuel n ≡ []
    unfolding scope
    new_scope zero n = refl
    new_scope (suc fuel) n = rw (new_closed n)

    -- its columns are there
    new_columns : (n : ℕ) → n < length (new_plan ws) → columns_right (new_words ws) n ≡ true
    unfolding columns_right
    new_columns n h =
        let d : Node = node_at (new_words ws) 0 in
        let at : node_at (new_words ws) n ≡ get_or (new_plan ws) n d =
        sym (mapped_at (node_at (new_words ws)) (nodes (new_words ws)) n 0 (rw (nodes_of_lem (widths_of ws) (new_plan ws)) h))
        ∙ ap (λ (l : List Node). get_or l n d) nodes_back in
        (λ i. columns_there (λ j. (shapes_back i j).width) (new_scope (nodes (new_words ws)) n i) (at i)) ∙ columns_there_lem ws a n d h

    module _ (within : Within (widths_of ws) (new_plan ws)) where
      -- it can be written
      new_writable : Writable (widths_of ws) (new_plan ws)
      new_writable = record {
        tables_some = rw widths_length limits.tables_some;
        tables_few = rw widths_length limits.tables_few;
        nodes_some = (rewriting_well_formed (widths_of ws) (nodes_of ws) a.plan).some;
        nodes_few = within.nodes_few;
        items_few = within.items_few;
        widths_within = tables_within ws limits;
        placed = λ n h. sensible_placed (length (widths_of ws)) n (get_or (new_plan ws) n (scan 0)) (every_in (scan 0) new_fits n h).0 (new_inputs n h);
        levelled = ordered_levelled new_ordered;
      }

      -- and its words pass the check
      new_accepted : verdict (new_words ws) ≡ accepted
      new_accepted =
          not_refused (new_words ws) (formed_words (widths_of ws) (new_plan ws) new_writable)
          (λ n h. unused n (ltb (n + 1) (nodes (new_words ws))) refl)
          (λ n h. ap (λ (s : ℕ → Shape). ltb 64 (s n).width) shapes_back ∙ le-ltb _ _ (within.narrow n (rw count at h)))
          (λ n h. rw (new_closed n))
          (λ n h. new_columns n (rw count at h))
        where
          count : nodes (new_words ws) ≡ length (new_plan ws)
          count = nodes_of_lem (widths_of ws) (new_plan ws)

          unused : (n : ℕ) (b : Bool) → ltb (n + 1) (nodes (new_words ws)) ≡ b → (b && eqb (uses (nodes_of (new_words ws)) n) 0) ≡ false
          unused n true e =
              let used =
              all_used (widths_of ws) (nodes_of ws) a.plan (λ i h. a.used i (rw (nodes_length ws) at h)) n
              (omega (arith, count, ltb-true (n + 1) (nodes (new_words ws)) e)) in
              ap (λ (l : List Node). eqb (uses l n) 0) nodes_back ∙ ne_eqb (uses (new_plan ws) n) 0 (λ q. omega arith)
          unused n false e = refl

-- the rewriting of an accepted plan, within the limits, is accepted
pub accepted_again : (ws : List ℕ) → verdict ws ≡ accepted → Every (λ w. w < 2 ^ 32) ws → within_limits (widths_of ws) (new_plan ws) ≡ true
    → verdict (new_words ws) ≡ accepted
accepted_again ws e small within = new_accepted ws (promise ws e) small (within_says (widths_of ws) (new_plan ws) within)

-- its constants fit a word
pub storable_again : (ws : List ℕ) → verdict ws ≡ accepted → Every (λ w. w < 2 ^ 32) ws → Storable (new_plan ws)
storable_again ws e small = new_storable ws (promise ws e) small

-- it has no dependent join, operator 8
pub plain_words : (ws : List ℕ) → verdict ws ≡ accepted → (n : ℕ) → n < nodes (new_words ws) → operator (new_words ws) n ≡ 8 → ⊥
plain_words ws e n h o =
    let l : n < length (new_plan ws) = rw (nodes_of_lem (widths_of ws) (new_plan ws)) at h in
    plain_operator (get_or (new_plan ws) n (scan 0)) (every_in (scan 0) (no_dependent_join (widths_of ws) (nodes_of ws) (promise ws e).plan) n l)
    (sym (operator_of (widths_of ws) (new_plan ws) (scan 0) n l) ∙ o)

-- a plan without dependent joins is its own rewriting
pub own_rewriting : (ws : List ℕ) → verdict ws ≡ accepted → Every Plain (nodes_of ws) → new_plan ws ≡ nodes_of ws
own_rewriting ws e plain = plan_unchanged ws (promise ws e) plain
