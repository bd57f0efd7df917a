-- A closed node: its nodes go behind what is there, the last is its copy, and what is over a limit stays over.
use mathlib.Core.Path.{◌≡◌, refl, ap, ◌∙◌}
use mathlib.Core.Bool.{Bool, true, false, cond}
use mathlib.Core.List.{List, [], ◌∷◌, ◌++◌}
use Prim.Native.Nat.{ℕ, suc, ◌<◌, ◌≤◌}
use native.Mathlib.Nat.{add-zero}
use native.Mathlib.Omega.{arith}
use lib.ListN.{length, get_or, length-append}
use Rattle.algebra.specs.Plan.{Kind, inner, semi, anti, left_outer, Node, scan, select, compute, project, join, group, groupjoin, dependent}
use Rattle.algebra.specs.Columns.{Column, Shape, closed, shape_at, shape_of, shapeless}
use Rattle.algebra.specs.Domains.{Domain, domain_keys, inner_domain, outside}
use Rattle.algebra.specs.Rewriting.{Piece, Placed, closed_node, dropping, emit, unnest}
use Rattle.algebra.proofs.Lists.Entries.{entry_last}
use Rattle.algebra.proofs.Tables.Tidy.{closed_every}
use Rattle.plan.specs.Words.{Item, nodes, operator, left, right, kind, items_of}
use Rattle.plan.specs.Plan.{kind_of, node_for, node_at, widths_of, nodes_of}
use Rattle.plan.specs.Verdict.{width_at}
use Rattle.plan.specs.Promise.{Accepted}
use Rattle.plan.proofs.Laws.Formed.{NodeFacts, by_operator, facts_at, dependent_left, dependent_right}
use Rattle.pages.specs.declared.domain.Domain as code
use Rattle.pages.specs.declared.page.OverLimits.{OverLimits}
use Rattle.pages.specs.declared.page.Page.{Page}
use Rattle.pages.specs.declared.sets.ColumnSet.{ColumnSet}
use Rattle.pages.specs.Pages.{Grows, GrowsOver, Holds, Leaves, copy_of}
use Rattle.pages.specs.declared.sets.ColumnSet.{ColumnSet}
use Rattle.pages.specs.Sets.{members}
use Rattle.pages.specs.Domains.{Means}
use Rattle.rules.specs.Reads.{KeySet, ReadsTable, reads_at}
use Rattle.rules.specs.Under.{Puts, Ready, Within, put, with_inner}
use Rattle.rewrite.specs.Closing.{Closes, Copies, closing}
use Rattle.rules.proofs.Laws.InputReads.{inner_within, spotted}
use Rattle.rules.proofs.Laws.StandingNodes.{stands_more}
use Rattle.pages.proofs.Laws.Pages.{over}
use Rattle.rules.proofs.Laws.RulePages.{over_more}
use Rattle.rules.proofs.Laws.UnderDomain.{inner_extends, last_is}
use Rattle.std.specs.Prelude.{Result, Ok, Err, IsErr}
use Rattle.rules.proofs.Laws.AppendedNodes.{AtEnd, Extends, emit_end, extends_none, extends_one, extends_then}
use Rattle.rules.proofs.Laws.Fuel.{own, put_behind, put_end}

-- ---- a closed node

-- behind what is there, and at the end
record Steady (out : List Node) (x : Placed) : Type 0 where
  behind : Extends out x.out
  end : AtEnd x

emitted : {out more : List Node} (n : Node) → Extends out more → Steady out (emit n more)
emitted {more} n e = record { behind = extends_then e (extends_one more n); end = emit_end n more }

dropped : {out : List Node} (k : Kind) (ps : List ℕ) {x : Placed} → Steady out x → Steady out (dropping k ps x)
dropped inner ps h = emitted _ h.behind
dropped semi ps h = h
dropped anti ps h = h
dropped left_outer ps h = emitted _ h.behind

chosen : {out : List Node} (b : Bool) {x y : Placed} → Steady out x → Steady out y → Steady out (cond b x y)
chosen true f g = f
chosen false f g = g

closed_steady : (at : ℕ → Piece) → ((i : ℕ) (D : Domain) (out : List Node) → Extends out ((at i).put D out).out)
    → (n : Node) (out : List Node) → Steady out (closed_node at n out)
unfolding closed_node unnest
closed_steady at adds (scan t) out = emitted _ extends_none
closed_steady at adds (select cs i) out = emitted _ extends_none
closed_steady at adds (compute c i) out = emitted _ extends_none
closed_steady at adds (project ps i) out = emitted _ extends_none
closed_steady at adds (join k cs l r) out = emitted _ extends_none
closed_steady at adds (group ks gs i) out = emitted _ extends_none
closed_steady at adds (groupjoin cs gs l r) out = emitted _ extends_none
closed_steady at adds (dependent k cs l r) out =
    chosen (closed (at r).shape) (emitted _ extends_none) (dropped k _ (emitted _ (extends_then (extends_one out _) (adds r _ _))))

module _ (ws : List ℕ) (images : ℕ → ℕ) (n : ℕ) (out : List Node) where
  steady : Steady out (closing ws images n out)
  steady = closed_steady (own ws images) (λ i. put_behind ws images (suc i) i) _ out

  pub closing_behind : Extends out (closing ws images n out).out
  closing_behind = steady.behind

  pub closing_end : AtEnd (closing ws images n out)
  closing_end = steady.end

-- ---- by the words of the node

module _ (at : ℕ → Piece) (l r : ℕ) (k : Kind) (xs : List Item) (out : List Node) where
  -- a copy, but for a dependent join whose right side is open
  abbrev Copied : ℕ → Type 0
  Copied o =
      (o ≡ 8 → closed (at r).shape ≡ true) → closed_node at (node_for o l r k xs) out ≡ emit (copy_of (λ i. (at i).image) (node_for o l r k xs)) out

  closed_copy : (o : ℕ) → 1 ≤ o → o ≤ 8 → Copied o
  unfolding closed_node node_for
  closed_copy =
      by_operator Copied (λ e. refl) (λ e. refl) (λ e. refl) (λ e. refl) (λ e. refl) (λ e. refl) (λ e. refl) (λ e. rw (e refl))

  -- that one: ks are the keys of its domain, y is the right side under it
  closed_inner : (o : ℕ) → o ≡ 8 → closed (at r).shape ≡ false
      → (ks : List ℕ) → ks ≡ domain_keys outside (at l).shape.width (at r).shape.reads → (y : Placed)
      → y ≡ (at r).put (inner_domain outside (at l).shape.width (at r).shape.reads (length out)) (out ++ (group ks [] (at l).image ∷ []))
      → (closed_node at (node_for o l r k xs) out).out
      ≡ with_inner outside ks (at l).shape.width (at r).shape.width (at l).image y.at (node_for o l r k xs) y.out
  unfolding closed_node node_for unnest
  closed_inner o q e ks f y g = rw (q, e, g, f)

-- ---- node n of an accepted plan is written

module _ {ws : List ℕ} (a : Accepted ws) {n : ℕ} (h : n < nodes ws) where
  abbrev facts : NodeFacts ws n
  facts = facts_at ws a.formed n h

  abbrev shape : ℕ → Shape
  shape i = shape_at (widths_of ws) (nodes_of ws) i

  -- as a copy
  pub copy_closes : {images : List ℕ} {p q : Page} {result : Result ℕ OverLimits} → (operator ws n ≡ 8 → closed (shape (right ws n)) ≡ true)
      → GrowsOver (widths_of ws) p q result (λ out. out ++ (copy_of (λ i. get_or images i 0) (node_at ws n) ∷ []))
      → Closes ws images n p q result
  copy_closes {images} e g = record { written = λ out copies page. rw (copied out) (g.written out page) }
    where
      copied : (out : List Node) → closing ws (λ i. get_or images i 0) n out ≡ emit (copy_of (λ i. get_or images i 0) (node_at ws n)) out
      copied out =
          closed_copy (own ws (λ i. get_or images i 0)) (left ws n) (right ws n) (kind_of (kind ws n)) (items_of ws n) out
          (operator ws n) facts.low facts.high e

  -- the right input of a dependent join
  right_low : operator ws n ≡ 8 → right ws n < n
  right_low e = facts.right_node (rw e)

  -- a dependent join whose right side is open
  module _ (eight : operator ws n ≡ 8) (closes : closed (shape n) ≡ true) (opens : closed (shape (right ws n)) ≡ false) where
    within : Within outside (reads_at ws n)
    within = closed_every (reads_at ws n) closes

    abbrev w : ℕ
    w = width_at ws (left ws n)

    abbrev reads : List Column
    reads = reads_at ws (right ws n)

    -- the keys of its domain
    pub keys_are : {d : code.Domain} (table : List (List ColumnSet)) (set : ColumnSet) {r : ℕ} → Means d outside → ReadsTable ws (nodes ws) table → r ≡ right ws n
        → KeySet d r table set → members set ≡ domain_keys outside w reads
    keys_are table set m read er keyed =
        keyed ws outside w m (λ i l p g. read i l p (omega (arith, right_low eight)))
        (omega (arith, a.narrow (left ws n) (dependent_left ws a.formed n h eight)))
        (rw er (spotted ws a n h outside within eight))
        ∙ ap (λ (k : ℕ). domain_keys outside w (reads_at ws k)) er

    module _ (images ks : List ℕ) (keys : ks ≡ domain_keys outside w reads) where
      -- where its left side stands
      abbrev at : ℕ
      at = get_or images (left ws n) 0

      -- the domain behind what is there, and the right side under it
      abbrev front : List Node → List Node
      front out = out ++ (group ks [] at ∷ [])

      abbrev under : List Node → Placed
      under out = put ws (λ j. get_or images j 0) (suc (right ws n)) (right ws n) (inner_domain outside w reads (length out)) (front out)

      target : (out : List Node)
          → (closing ws (λ j. get_or images j 0) n out).out
          ≡ with_inner outside ks w (width_at ws (right ws n)) at (under out).at (node_at ws n) (under out).out
      target out =
          closed_inner (own ws (λ j. get_or images j 0)) (left ws n) (right ws n) (kind_of (kind ws n)) (items_of ws n) out (operator ws n)
          eight opens ks keys (under out) refl

      finished_behind : (more : List Node) (wl wr i j : ℕ) → Extends more (with_inner outside ks wl wr i j (node_at ws n) more)
      finished_behind more wl wr i j = inner_extends outside ks wl wr i j (node_at ws n) more

      under_behind : (out : List Node) → Extends (under out).out (closing ws (λ j. get_or images j 0) n out).out
      under_behind out = rw (target out) (finished_behind (under out).out w (width_at ws (right ws n)) at (under out).at)

      front_behind : (out : List Node) → Extends (front out) (closing ws (λ j. get_or images j 0) n out).out
      front_behind out =
          extends_then (put_behind ws (λ j. get_or images j 0) (suc (right ws n)) (right ws n) _ (front out)) (under_behind out)

      module _ {i : ℕ} (ei : i ≡ at) (p₀ p₁ : Page) where
        -- the domain is written
        domained : (result : Result ℕ OverLimits) → Grows p₀ p₁ result (λ out. out ++ (group ks [] i ∷ [])) → (out : List Node)
            → Holds (widths_of ws) p₀ out [] → Leaves (widths_of ws) p₁ (front out) result
        domained result domain out page = rw ei at (domain.written (widths_of ws) out page)

        -- it is too much
        pub domain_over : {x : OverLimits} → Grows p₀ p₁ (Err x) (λ out. out ++ (group ks [] i ∷ [])) → (q : Page) (result : Result ℕ OverLimits)
            → IsErr result → Closes ws images n p₀ q result
        domain_over {x} domain q result e = record {
          written = λ out copies page. over (widths_of ws) q _ result e (over_more (front_behind out) (domained (Err x) domain out page));
        }

        -- the right side is put under it
        module _ {node : ℕ} (domain : Grows p₀ p₁ (Ok node) (λ out. out ++ (group ks [] i ∷ []))) {d : code.Domain}
            (means : Means d (inner_domain outside w reads node)) {r : ℕ} (er : r ≡ right ws n) (p₂ : Page) where
          put_leaves : (result : Result ℕ OverLimits) → Puts ws images r d p₁ p₂ result → (out : List Node) → Copies ws (λ k. get_or images k 0) n out
              → Holds (widths_of ws) p₀ out [] → Leaves (widths_of ws) p₂ (under out).out result
          put_leaves result putting out copies page =
              (rw er at putting).written (inner_domain outside w reads (length out)) (front out) (rw last at means)
              (inner_within ws a n h outside within eight (length out)) ready placed.0
            where
              placed : Leaves (widths_of ws) p₁ (front out) (Ok node)
              placed = domained (Ok node) domain out page

              last : node ≡ length out
              last = omega (arith, placed.1, length-append out (group ks [] at ∷ []))

              ready : Ready ws (λ k. get_or images k 0) (right ws n) (inner_domain outside w reads (length out)) (front out)
              ready = record {
                domain = record {
                  inside = rw length-append (omega arith);
                  width = ap (λ (s : Shape). s.width) (entry_last shapeless (shape_of (widths_of ws)) out (group ks [] at))
                      ∙ add-zero (length ks)
                      ∙ ap length keys;
                };
                copies = λ k l e. stands_more (extends_one out _) (copies k (omega (arith, right_low eight)) e);
              }

          -- it is too much
          pub put_over : {x : OverLimits} → Puts ws images r d p₁ p₂ (Err x) → (q : Page) (result : Result ℕ OverLimits) → IsErr result
              → Closes ws images n p₀ q result
          put_over {x} putting q result e = record {
            written = λ out copies page. over (widths_of ws) q _ result e (over_more (under_behind out) (put_leaves (Err x) putting out copies page));
          }

          -- and the join is written
          pub inner_closes : {j : ℕ} → Puts ws images r d p₁ p₂ (Ok j) → {wl wr i' j' : ℕ} → i' ≡ i → wl ≡ w → j' ≡ j → wr ≡ width_at ws (right ws n)
              → (q : Page) (result : Result ℕ OverLimits) → Grows p₂ q result (with_inner outside ks wl wr i' j' (node_at ws n))
              → Closes ws images n p₀ q result
          inner_closes {j} putting es el ej ew q result joining = record {
            written = λ out copies page.
                let two = put_leaves (Ok j) putting out copies page in
                let end = last_is (under out) two.1
                (put_end ws a.formed (λ k. get_or images k 0) (right ws n) (dependent_right ws a.formed n h eight)
                (inner_domain outside w reads (length out)) (front out)) in
                rw (target out) (rw (es, ei, el, ej, ew, end) at (joining.written (widths_of ws) (under out).out two.0));
          }
