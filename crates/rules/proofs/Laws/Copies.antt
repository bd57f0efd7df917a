-- A copy of a node: its items as they stand, its inputs at their images.
use mathlib.Core.Path.{◌≡◌, refl, sym, ap, ◌∙◌}
use mathlib.Core.Logic.{◌⊎◌, inl, inr}
use mathlib.Core.List.{List, [], ◌∷◌, ◌++◌, map}
use Prim.Native.Nat.{ℕ, suc, ◌^◌, ◌<◌}
use native.Mathlib.Omega.{arith}
use lib.ListN.{length, get_or, length-map}
use Rattle.algebra.specs.Lists.{Every, done, more, keep}
use Rattle.algebra.specs.Plan.{Node, scan, select, compute, project, join, group, groupjoin, dependent}
use Rattle.plan.specs.Words.{Item, nodes, tables, table_width, operator, left, right, kind, first_item, item_count, items_from, items_of}
use Rattle.plan.specs.Items.{is_aggregate, aggregate_of}
use Rattle.plan.specs.Plan.{kind_of, node_for, node_at, widths_of}
use Rattle.plan.specs.Codes.{number_of, meant_kind}
use Rattle.plan.specs.declared.kinds.JoinKind.{JoinKind}
use Rattle.plan.specs.declared.operator.Operator.{Operator}
use Rattle.plan.specs.declared.operator.Operator.TheVariants.{Scan, Join, Groupjoin, Dependent}
use Rattle.plan.specs.Promise.{Accepted}
use Rattle.plan.specs.Encoding.{kind_word, parts}
use Rattle.plan.proofs.Laws.Fitting.{narrow}
use Rattle.plan.proofs.Laws.Codes.{OneInput}
use Rattle.plan.proofs.Laws.Formed.{NodeFacts, facts_at}
use Rattle.plan.proofs.Laws.Numbered.{numbered_at}
use Rattle.plan.proofs.Laws.Rebuilt.{items_again}
use Rattle.plan.proofs.Laws.Written.{node_items_lem}
use Rattle.pages.specs.declared.page.Head.{Head}
use Rattle.pages.specs.declared.page.OverLimits.{OverLimits}
use Rattle.pages.specs.declared.page.Page.{Page}
use Rattle.pages.specs.Items.{item_words}
use Rattle.pages.specs.Pages.{Holds, Wrote, Missed, Pushed, GrowsOver, extra_of, kind_number, copy_of, head_of}
use Rattle.pages.proofs.Laws.Pages.{fits_before, over}
use Rattle.std.specs.Prelude.{Some, None, Result, IsErr}

-- ---- the items of a copy

copied_items : (images : ℕ → ℕ) (n : Node) → (parts (copy_of images n)).items ≡ (parts n).items
copied_items images (scan t) = refl
copied_items images (select cs i) = refl
copied_items images (compute c i) = refl
copied_items images (project ps i) = refl
copied_items images (join k cs l r) = refl
copied_items images (group ks gs i) = refl
copied_items images (groupjoin cs gs l r) = refl
copied_items images (dependent k cs l r) = refl

-- words that all fit
all_small : (ws : List ℕ) → ((i : ℕ) → get_or ws i 0 < 2 ^ 32) → Every (λ w. w < 2 ^ 32) ws
all_small [] h = done
all_small (w ∷ ws) h = more (h 0) (all_small ws (λ i. h (suc i)))

-- ---- the head of a copy

-- what is written of a node but its items
abbrev Written : List ℕ → Head → ℕ → Node → Type 0
Written widths head extra n =
    (number_of head.operator ≡ (parts n).operator) × (head.left ≡ (parts n).left) × (head.right ≡ (parts n).right)
    × (kind_number head.kind ≡ (parts n).kind) × (extra ≡ extra_of widths n)

module _ (widths : List ℕ) (images : ℕ → ℕ) (l r k : ℕ) (xs : List Item) where
  -- the copy of a node with operator o and these inputs, kind and items
  abbrev copy : ℕ → Node
  copy o = copy_of images (node_for o l r (kind_of k) xs)

  scan_head : (extra : ℕ) → extra ≡ get_or widths l 0 → Written widths (head_of Scan l 0 None) extra (copy 1)
  unfolding node_for
  scan_head extra f = (refl, refl, refl, refl, f)

  join_head : (x : Operator) (j : JoinKind) → (x ≡ Join) ⊎ (x ≡ Dependent) → meant_kind j ≡ kind_of k
      → Written widths (head_of Join (images l) (images r) (Some j)) 0 (copy (number_of x))
  unfolding node_for
  join_head x j (inl e) f = rw e (refl, refl, refl, ap kind_word f, refl)
  join_head x j (inr e) f = rw e (refl, refl, refl, ap kind_word f, refl)

  groupjoin_head : (extra : ℕ) → extra ≡ length (keep is_aggregate xs)
      → Written widths (head_of Groupjoin (images l) (images r) None) extra (copy 7)
  unfolding node_for
  groupjoin_head extra f = (refl, refl, refl, refl, f ∙ sym (length-map (keep is_aggregate xs) aggregate_of))

  single_head : (x : Operator) → OneInput x → Written widths (head_of x (images l) 0 None) 0 (copy (number_of x))
  unfolding node_for
  single_head x (inl e) = rw e (refl, refl, refl, refl, refl)
  single_head x (inr (inl e)) = rw e (refl, refl, refl, refl, refl)
  single_head x (inr (inr (inl e))) = rw e (refl, refl, refl, refl, refl)
  single_head x (inr (inr (inr e))) = rw e (refl, refl, refl, refl, refl)

-- ---- node n of an accepted plan

module _ (ws : List ℕ) (a : Accepted ws) (n : ℕ) (h : n < nodes ws) where
  abbrev facts : NodeFacts ws n
  facts = facts_at ws a.formed n h

  module _ (small : (i : ℕ) → get_or ws i 0 < 2 ^ 32) (images : ℕ → ℕ) where
    -- the node that is written
    abbrev written : Node
    written = copy_of images (node_at ws n)

    copy_items : map item_words (items_of ws n) ≡ (parts written).items
    copy_items =
        sym
        (copied_items images (node_at ws n)
        ∙ node_items_lem (node_at ws n)
        ∙ ap (map item_words)
        (items_again (left ws n) (right ws n) (kind_of (kind ws n)) (items_of ws n) (narrow ws (all_small ws small) n) (operator ws n) facts.low
        facts.high facts.sorts))

    module _ {p : Page} (o : Operator) (l x y : ℕ) (eo : number_of o ≡ operator ws n) (el : l ≡ left ws n)
        (ex : x ≡ first_item ws n) (ey : y ≡ item_count ws n) where
      -- the items are too much
      pub copied_missed : {q : Page} → Missed p q (map item_words (items_from ws x y)) → (r : Page) (result : Result ℕ OverLimits) → IsErr result
          → GrowsOver (widths_of ws) p r result (λ out. out ++ (written ∷ []))
      copied_missed missed r result e = record {
        written = λ out h.
            over (widths_of ws) r (out ++ (written ∷ [])) result e
            (λ t. missed.over (widths_of ws) out [] h (rw (ex, ey, copy_items) (fits_before out written t)));
      }

      module _ {q : Page} (wrote : Wrote p q (map item_words (items_from ws x y))) {r : Page} {result : Result ℕ OverLimits} where
        -- they are written, and the node is pushed
        copied : (head : Head) (extra : ℕ) → Written (widths_of ws) head extra written → Pushed q r result p.item_count head extra
            → GrowsOver (widths_of ws) p r result (λ out. out ++ (written ∷ []))
        copied head extra (f, g, u, v, w) pushed = record {
          written = λ out h.
              let more : Holds (widths_of ws) q out (map item_words (items_of ws n)) = rw (ex, ey) at (wrote.holds (widths_of ws) out [] h) in
              pushed.written (widths_of ws) out written (rw copy_items at more) (record {
                operator = f;
                left = g;
                right = u;
                kind = v;
                extra_is = w;
                first_is = omega (arith, h.listed);
              });
        }

        -- by its operator
        pub copied_scan : (extra : ℕ) → o ≡ Scan → extra ≡ table_width ws l → Pushed q r result p.item_count (head_of Scan l 0 None) extra
            → GrowsOver (widths_of ws) p r result (λ out. out ++ (written ∷ []))
        copied_scan extra q w =
            let f : operator ws n ≡ 1 = sym eo ∙ ap number_of q in
            copied _ extra
            (rw (f, el) (scan_head (widths_of ws) images (left ws n) (right ws n) (kind ws n) (items_of ws n) extra
            (w ∙ rw el (sym (numbered_at (table_width ws) (tables ws) (left ws n) 0 (facts.left_table f))))))

        pub copied_join : (i r' j : ℕ) (k : JoinKind) → (o ≡ Join) ⊎ (o ≡ Dependent) → i ≡ images l → r' ≡ right ws n → j ≡ images r'
            → meant_kind k ≡ kind_of (kind ws n) → Pushed q r result p.item_count (head_of Join i j (Some k)) 0
            → GrowsOver (widths_of ws) p r result (λ out. out ++ (written ∷ []))
        copied_join i r' j k q ei er ej ek =
            copied _ 0
            (rw (ei, el, ej, er, ← eo) (join_head (widths_of ws) images (left ws n) (right ws n) (kind ws n) (items_of ws n) o k q ek))

        pub copied_groupjoin : (i r' j extra : ℕ) → o ≡ Groupjoin → i ≡ images l → r' ≡ right ws n → j ≡ images r'
            → extra ≡ length (keep is_aggregate (items_from ws x y)) → Pushed q r result p.item_count (head_of Groupjoin i j None) extra
            → GrowsOver (widths_of ws) p r result (λ out. out ++ (written ∷ []))
        copied_groupjoin i r' j extra q ei er ej w =
            let f : operator ws n ≡ 7 = sym eo ∙ ap number_of q in
            copied _ extra
            (rw (ei, el, ej, er, f) (groupjoin_head (widths_of ws) images (left ws n) (right ws n) (kind ws n) (items_of ws n) extra
            (w ∙ rw (ex, ey))))

        pub copied_other : (i : ℕ) → OneInput o → i ≡ images l → Pushed q r result p.item_count (head_of o i 0 None) 0
            → GrowsOver (widths_of ws) p r result (λ out. out ++ (written ∷ []))
        copied_other i q ei =
            copied _ 0
            (rw (ei, el, ← eo) (single_head (widths_of ws) images (left ws n) (right ws n) (kind ws n) (items_of ws n) o q))
