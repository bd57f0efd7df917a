-- A node under a domain as the code puts it: what each return has written.
use mathlib.Core.Path.{◌∙◌, ◌≡◌, refl, subst, sym}
use mathlib.Core.Bool.{Bool, ◌&&◌, cond, false, not, true, true≢false}
use mathlib.Core.List.{List, [], ◌++◌, ◌∷◌}
use Prim.Native.Nat.{◌+◌, ◌<◌, ◌≤◌, suc, ℕ}
use native.Mathlib.Omega.{arith}
use lib.Dec.{eqb}
use lib.ListN.{get_or, length, length-append}
use borrow.Author.Tests.{eq-eqb, eqb-true, ne_eqb, not-false, not-true}
use Rattle.algebra.specs.Lists.{is_empty}
use Rattle.algebra.specs.Plan.{Node, compute, dependent, group, groupjoin, inner, join, project, scan, select}
use Rattle.algebra.specs.Columns.{Column, closed, reads_left, shape_at}
use Rattle.algebra.specs.Domains as algebra
use Rattle.algebra.specs.Rewriting.{Placed}
use Rattle.algebra.proofs.Lists.Same.{and_left, and_right}
use Rattle.plan.specs.Words.{left, nodes, operator, right}
use Rattle.plan.specs.Plan.{node_at, nodes_of, widths_of}
use Rattle.plan.specs.Verdict.{has_right, width_at}
use Rattle.plan.specs.Promise.{Accepted}
use Rattle.plan.specs.Passes.{Reaches, reach}
use Rattle.plan.proofs.Laws.Formed.{NodeFacts, facts_at}
use Rattle.pages.specs.declared.domain.Domain.{Domain}
use Rattle.pages.specs.declared.page.OverLimits.{OverLimits}
use Rattle.pages.specs.declared.page.Page.{Page}
use Rattle.pages.specs.declared.sets.ColumnSet.{ColumnSet}
use Rattle.pages.specs.Sets.{members}
use Rattle.pages.specs.Domains.{Inner, Means}
use Rattle.rules.specs.Reads.{KeySet, ReadsTable, reads_at}
use Rattle.pages.specs.Pages.{Fits, Grows, Holds, Leaves, Pushed, head_of}
use Rattle.rules.specs.Under.{Puts, Ready, Within, over_input, put, with_copy, with_inner, with_open}
use Rattle.pages.proofs.Laws.Domains.{inner_domain_lem}
use Rattle.pages.proofs.Laws.Pages.{over}
use Rattle.rules.proofs.Laws.AppendedNodes.{AtEnd, Extends, extends_dropping, extends_none, extends_one, extends_then}
use Rattle.rules.proofs.Laws.Fuel.{not_scan, put_behind, put_both, put_closed, put_copy, put_end, put_inner, put_left, put_one}
use Rattle.rules.proofs.Laws.InputReads.{inner_within, left_within, right_within, spotted}
use Rattle.rules.proofs.Laws.RulePages.{over_more}
use Rattle.std.specs.Prelude.{Some, Result, Ok, Err, IsErr}
use Rattle.plan.specs.declared.kinds.JoinKind.TheVariants.{Inner as plain_join}
use Rattle.plan.specs.declared.operator.Operator.TheVariants.{Join}
use Rattle.rules.proofs.Laws.StandingNodes.{left_stands, ready_inner, ready_left, ready_right}

-- ---- open and closed

reach_none : (cs : List Column) → reach cs ≡ 0 → is_empty cs ≡ true
reach_none [] e = refl
reach_none (c ∷ cs) e = absurd (omega arith)

module _ (ws reaches : List ℕ) (reached : Reaches ws reaches) {n : ℕ} (h : n < nodes ws) where
  pub closed_is : eqb (get_or reaches n 0) 0 ≡ closed (shape_at (widths_of ws) (nodes_of ws) n)
  closed_is = rw (reached n h) (go (reads_at ws n))
    where
      go : (cs : List Column) → eqb (reach cs) 0 ≡ is_empty cs
      go [] = refl
      go (c ∷ cs) = ne_eqb (reach (c ∷ cs)) 0 (λ e. true≢false (sym (reach_none (c ∷ cs) e)))

-- ---- a closed node

module _ {ws images : List ℕ} (a : Accepted ws) {n : ℕ} (h : n < nodes ws) {b : Bool}
    (is : b ≡ closed (shape_at (widths_of ws) (nodes_of ws) n)) (e : b ≡ true) {d : Domain} {p q : Page} {result : Result ℕ OverLimits}
    (pushed : Pushed p q result p.item_count (head_of Join d.node (get_or images n 0) (Some plain_join)) 0) where
  pub closed_put_lem : Puts ws images n d p q result
  closed_put_lem = record {
    written = λ D out m within ready page.
        rw (put_closed ws a.formed (λ i. get_or images i 0) n h D out (sym is ∙ e))
        (pushed.written (widths_of ws) out (join inner [] D.node (get_or images n 0)) page
        (record { operator = refl; left = m.node; right = refl; kind = refl; extra_is = refl; first_is = omega (arith, page.listed) }));
  }

-- ---- nodes go behind what is there

open_extends : (D : algebra.Domain) (wl wr i j : ℕ) (n : Node) (out : List Node) → Extends out (with_open D wl wr i j n out)
open_extends D wl wr i j (scan t) out = extends_none
open_extends D wl wr i j (select cs m) out = extends_none
open_extends D wl wr i j (compute c m) out = extends_none
open_extends D wl wr i j (project ps m) out = extends_none
open_extends D wl wr i j (join k cs l r) out = extends_then (extends_one _ _) (extends_dropping k _ _)
open_extends D wl wr i j (group ks gs m) out = extends_none
open_extends D wl wr i j (groupjoin cs gs l r) out = extends_one _ _
open_extends D wl wr i j (dependent k cs l r) out = extends_then (extends_one _ _) (extends_dropping k _ _)

pub inner_extends : (D : algebra.Domain) (ks : List ℕ) (wl wr i j : ℕ) (n : Node) (out : List Node) → Extends out (with_inner D ks wl wr i j n out)
inner_extends D ks wl wr i j (scan t) out = extends_none
inner_extends D ks wl wr i j (select cs m) out = extends_none
inner_extends D ks wl wr i j (compute c m) out = extends_none
inner_extends D ks wl wr i j (project ps m) out = extends_none
inner_extends D ks wl wr i j (join k cs l r) out = extends_none
inner_extends D ks wl wr i j (group ls gs m) out = extends_none
inner_extends D ks wl wr i j (groupjoin cs gs l r) out = extends_none
inner_extends D ks wl wr i j (dependent k cs l r) out = extends_then (extends_one _ _) (extends_dropping k _ _)

-- ---- an open node, its left input first

-- the last node is the one meant
pub last_is : (x : Placed) {i : ℕ} → suc i ≡ length x.out → AtEnd x → i ≡ x.at
last_is x f e = omega arith

module _ {ws : List ℕ} (a : Accepted ws) {n : ℕ} (h : n < nodes ws) (o : closed (shape_at (widths_of ws) (nodes_of ws) n) ≡ false)
    {l : ℕ} (el : l ≡ left ws n) (images : List ℕ) (d : Domain) (p₀ p₁ : Page) where
  -- where the copies stand
  abbrev pub at : ℕ → ℕ
  at i = get_or images i 0

  facts : NodeFacts ws n
  facts = facts_at ws a.formed n h

  below : left ws n < n
  below = facts.left_node (not_scan ws a.formed at n h o)

  -- what put is given
  pub record Given (D : algebra.Domain) (out : List Node) : Type 0 where
    pub means : Means d D
    pub within : Within D (reads_at ws n)
    pub ready : Ready ws at n D out
    pub page : Holds (widths_of ws) p₀ out []

  -- and what it is to write
  abbrev meant : algebra.Domain → List Node → List Node
  meant D out = (put ws at (suc n) n D out).out

  puts : (q : Page) (result : Result ℕ OverLimits) → ((D : algebra.Domain) (out : List Node) → Given D out → Leaves (widths_of ws) q (meant D out) result)
      → Puts ws images n d p₀ q result
  puts q result f = record { written = λ D out m w r g. f D out (record { means = m; within = w; ready = r; page = g }) }

  -- some of it is too much
  puts_over : (part : algebra.Domain → List Node → List Node) → ((D : algebra.Domain) (out : List Node) → Given D out → Extends (part D out) (meant D out))
      → ((D : algebra.Domain) (out : List Node) → Given D out → Fits (widths_of ws) (part D out) [] → ⊥)
      → (q : Page) (result : Result ℕ OverLimits) → IsErr result → Puts ws images n d p₀ q result
  puts_over part more f q result e = puts q result (λ D out g. over (widths_of ws) q (meant D out) result e (over_more (more D out g) (f D out g)))

  -- the left input under D
  abbrev one : algebra.Domain → List Node → Placed
  one D out = put ws at (suc (left ws n)) (left ws n) D out

  left_in : (D : algebra.Domain) (out : List Node) → Given D out → Within D (reads_at ws (left ws n))
  left_in D out g = left_within ws a n h D g.within (not_scan ws a.formed at n h o)

  left_leaves : (result : Result ℕ OverLimits) → Puts ws images l d p₀ p₁ result → (D : algebra.Domain) (out : List Node) → Given D out
      → Leaves (widths_of ws) p₁ (one D out).out result
  left_leaves result first D out g = (rw el at first).written D out g.means (left_in D out g) (ready_left ws a at h g.ready (left ws n) below) g.page

  -- it is too much
  pub left_over : {e : OverLimits} → Puts ws images l d p₀ p₁ (Err e) → (q : Page) (result : Result ℕ OverLimits) → IsErr result
      → Puts ws images n d p₀ q result
  left_over {e} first = puts_over (λ D out. (one D out).out) (λ D out g. put_left ws a.formed at n h D out o) (λ D out g. left_leaves (Err e) first D out g)

  module _ {i : ℕ} (first : Puts ws images l d p₀ p₁ (Ok i)) where
    left_page : (D : algebra.Domain) (out : List Node) → Given D out → Holds (widths_of ws) p₁ (one D out).out []
    left_page D out g = (left_leaves (Ok i) first D out g).0

    i_is : (D : algebra.Domain) (out : List Node) → Given D out → i ≡ (one D out).at
    i_is D out g = last_is (one D out) (left_leaves (Ok i) first D out g).1 (put_end ws a.formed at (left ws n) (omega (arith, below)) D out)

    -- select, map, project and group
    pub one_put : has_right (operator ws n) ≡ false → (q : Page) (result : Result ℕ OverLimits)
        → ((D : algebra.Domain) → Means d D → Grows p₁ q result (λ out. out ++ (over_input D i (node_at ws n) ∷ []))) → Puts ws images n d p₀ q result
    one_put b q result f =
        puts q result
        (λ D out g.
        rw (put_one ws a.formed at n h D out o b) at
        (rw (i_is D out g) at ((f D g.means).written (widths_of ws) (one D out).out (left_page D out g))))

    module _ (b : has_right (operator ws n) ≡ true) where
      below_right : right ws n < n
      below_right = facts.right_node b

      -- the copy of a closed right side
      pub copy_put : closed (shape_at (widths_of ws) (nodes_of ws) (right ws n)) ≡ true → {j : ℕ} → j ≡ get_or images (right ws n) 0
          → (q : Page) (result : Result ℕ OverLimits)
          → ((D : algebra.Domain) → Means d D → Grows p₁ q result (λ out. out ++ (with_copy D i j (node_at ws n) ∷ []))) → Puts ws images n d p₀ q result
      copy_put e ej q result f =
          puts q result
          (λ D out g.
          rw (put_copy ws a.formed at n h D out o b e) at
          (rw (i_is D out g, ej) at ((f D g.means).written (widths_of ws) (one D out).out (left_page D out g))))

      -- an open right side, under the same domain
      module _ (c : closed (shape_at (widths_of ws) (nodes_of ws) (right ws n)) ≡ false)
          (u : operator ws n ≡ 8 → reads_left (shape_at (widths_of ws) (nodes_of ws) (right ws n)) ≡ false) {r : ℕ} (er : r ≡ right ws n) {e : Domain}
          (me : (D : algebra.Domain) → Means d D → Means e (cond (eqb (operator ws n) 8) (algebra.inside D) D)) (p₂ : Page) where
        abbrev right_two : algebra.Domain → List Node → Placed
        right_two D out = put ws at (suc (right ws n)) (right ws n) (cond (eqb (operator ws n) 8) (algebra.inside D) D) (one D out).out

        both_meant : (D : algebra.Domain) (out : List Node)
            → with_open D (width_at ws (left ws n)) (width_at ws (right ws n)) (one D out).at (right_two D out).at (node_at ws n) (right_two D out).out
            ≡ meant D out
        both_meant D out = put_both ws a.formed at n h D out o b c u (right_two D out) refl

        right_leaves : (result : Result ℕ OverLimits) → Puts ws images r e p₁ p₂ result → (D : algebra.Domain) (out : List Node) → Given D out
            → Leaves (widths_of ws) p₂ (right_two D out).out result
        right_leaves result second D out g =
            (rw er at second).written (cond (eqb (operator ws n) 8) (algebra.inside D) D) (one D out).out (me D g.means)
            (right_within ws a n h D g.within b u)
            (ready_right ws a at h g.ready (left ws n) below (right ws n) below_right (eqb (operator ws n) 8)) (left_page D out g)

        pub both_over : {x : OverLimits} → Puts ws images r e p₁ p₂ (Err x) → (q : Page) (result : Result ℕ OverLimits) → IsErr result
            → Puts ws images n d p₀ q result
        both_over {x} second =
            puts_over (λ D out. (right_two D out).out)
            (λ D out g.
            rw (both_meant D out) at
            (open_extends D (width_at ws (left ws n)) (width_at ws (right ws n)) (one D out).at (right_two D out).at (node_at ws n) (right_two D out).out))
            (λ D out g. right_leaves (Err x) second D out g)

        pub both_put : {j : ℕ} → Puts ws images r e p₁ p₂ (Ok j) → {wl wr i' j' : ℕ} → i' ≡ i → wl ≡ width_at ws (left ws n) → j' ≡ j
            → wr ≡ width_at ws (right ws n) → (q : Page) (result : Result ℕ OverLimits)
            → ((D : algebra.Domain) → Means d D → Grows p₂ q result (with_open D wl wr i' j' (node_at ws n))) → Puts ws images n d p₀ q result
        both_put {j} second {wl} {wr} ei ewl ej ewr q result f =
            puts q result
            (λ D out g.
            let two = right_leaves (Ok j) second D out g in
            let last = last_is (right_two D out) two.1 (put_end ws a.formed at (right ws n) (omega (arith, below_right)) (cond (eqb (operator ws n) 8) (algebra.inside D) D) (one D out).out) in
            rw (both_meant D out) at
            (rw (ewl, ewr, ei, ej, i_is D out g, last) at ((f D g.means).written (widths_of ws) (right_two D out).out two.0)))

    -- a right side that reads its left row
    module _ (eight : operator ws n ≡ 8) (u : reads_left (shape_at (widths_of ws) (nodes_of ws) (right ws n)) ≡ true) {r : ℕ} (er : r ≡ right ws n)
        (reads : List (List ColumnSet)) (table : ReadsTable ws (nodes ws) reads) (set : ColumnSet) (k : KeySet d r reads set) where
      right_below : right ws n < n
      right_below = facts.right_node (rw eight)

      -- the columns of the left side fit a set
      fits_set : (D : algebra.Domain) (out : List Node) → Given D out → D.width + width_at ws (left ws n) ≤ 64
      fits_set D out g =
          let s = left_stands ws a at h g.ready (left ws n) below (left_in D out g) in
          rw s.width at ((left_page D out g).fits.rows (one D out).at)

      -- the keys of the new domain
      keys_are : (D : algebra.Domain) (out : List Node) → Given D out
          → members set ≡ algebra.domain_keys D (width_at ws (left ws n)) (reads_at ws (right ws n))
      keys_are D out g =
          subst (λ (i : ℕ). KeySet d i reads set) er k ws D (width_at ws (left ws n)) g.means
          (λ m l p hm hl hp. table m l p (omega (arith, right_below)) hl hp) (fits_set D out g) (spotted ws a n h D g.within eight)

      -- the left input and the node of the new domain
      abbrev grouped : algebra.Domain → List Node → List Node
      grouped D out = (one D out).out ++ (group (members set) [] (one D out).at ∷ [])

      -- the new domain
      abbrev new : algebra.Domain → List Node → algebra.Domain
      new D out = algebra.inner_domain D (width_at ws (left ws n)) (reads_at ws (right ws n)) (length (one D out).out)

      -- the right input under it
      abbrev two : algebra.Domain → List Node → Placed
      two D out = put ws at (suc (right ws n)) (right ws n) (new D out) (grouped D out)

      inner_meant : (D : algebra.Domain) (out : List Node) → Given D out
          → with_inner D (members set) (width_at ws (left ws n)) (width_at ws (right ws n)) (one D out).at (two D out).at (node_at ws n) (two D out).out
          ≡ meant D out
      inner_meant D out g = put_inner ws a.formed at n h D out o eight u (members set) (keys_are D out g) (two D out) refl

      meant_behind : (D : algebra.Domain) (out : List Node) → Given D out → Extends (two D out).out (meant D out)
      meant_behind D out g =
          rw (inner_meant D out g) at
          (inner_extends D (members set) (width_at ws (left ws n)) (width_at ws (right ws n)) (one D out).at (two D out).at (node_at ws n) (two D out).out)

      module _ (p₂ : Page) where
        domain_leaves : (result : Result ℕ OverLimits) → Grows p₁ p₂ result (λ out. out ++ (group (members set) [] i ∷ []))
            → (D : algebra.Domain) (out : List Node) → Given D out → Leaves (widths_of ws) p₂ (grouped D out) result
        domain_leaves result f D out g = rw (i_is D out g) at (f.written (widths_of ws) (one D out).out (left_page D out g))

        -- the new domain is too much
        pub set_over : {x : OverLimits} → Grows p₁ p₂ (Err x) (λ out. out ++ (group (members set) [] i ∷ []))
            → (q : Page) (result : Result ℕ OverLimits) → IsErr result → Puts ws images n d p₀ q result
        set_over {x} f =
            puts_over grouped
            (λ D out g. extends_then (put_behind ws at (suc (right ws n)) (right ws n) (new D out) (grouped D out)) (meant_behind D out g))
            (λ D out g. domain_leaves (Err x) f D out g)

        module _ {m : ℕ} (f : Grows p₁ p₂ (Ok m) (λ out. out ++ (group (members set) [] i ∷ []))) {e : Domain} (ie : Inner d e m set) (p₃ : Page) where
          right_under : (result : Result ℕ OverLimits) → Puts ws images r e p₂ p₃ result → (D : algebra.Domain) (out : List Node) → Given D out
              → Leaves (widths_of ws) p₃ (two D out).out result
          right_under result second D out g =
              let grown = domain_leaves (Ok m) f D out g in
              let node_is : m ≡ length (one D out).out = omega (arith, grown.1, length-append (one D out).out (group (members set) [] (one D out).at ∷ [])) in
              (rw er at second).written (new D out) (grouped D out)
              (inner_domain_lem (width_at ws (left ws n)) (reads_at ws (right ws n)) (rw node_is at ie) g.means (sym (keys_are D out g)))
              (inner_within ws a n h D g.within eight (length (one D out).out))
              (ready_inner ws a at h g.ready (left ws n) below (right ws n) right_below (width_at ws (left ws n)) (reads_at ws (right ws n)) (members set)
              (keys_are D out g))
              grown.0

          -- the right side is too much
          pub inner_over : {x : OverLimits} → Puts ws images r e p₂ p₃ (Err x) → (q : Page) (result : Result ℕ OverLimits) → IsErr result
              → Puts ws images n d p₀ q result
          inner_over {x} second = puts_over (λ D out. (two D out).out) meant_behind (λ D out g. right_under (Err x) second D out g)

          -- the join of the left with the right under the new domain
          pub set_put : {j : ℕ} → Puts ws images r e p₂ p₃ (Ok j) → {wl wr i' j' : ℕ} → i' ≡ i → wl ≡ width_at ws (left ws n) → j' ≡ j
              → wr ≡ width_at ws (right ws n) → (q : Page) (result : Result ℕ OverLimits)
              → ((D : algebra.Domain) → Means d D → Grows p₃ q result (with_inner D (members set) wl wr i' j' (node_at ws n))) → Puts ws images n d p₀ q result
          set_put {j} second ei ewl ej ewr q result last =
              puts q result
              (λ D out g.
              let under = right_under (Ok j) second D out g in
              let end = last_is (two D out) under.1 (put_end ws a.formed at (right ws n) (omega (arith, right_below)) (new D out) (grouped D out)) in
              rw (inner_meant D out g) at
              (rw (ewl, ewr, ei, ej, i_is D out g, end) at ((last D g.means).written (widths_of ws) (two D out).out under.0)))

-- ---- as the code reads a node

module _ (ws : List ℕ) (n : ℕ) {b : Bool} (f : b ≡ has_right (operator ws n)) where
  pub no_right : not b ≡ true → has_right (operator ws n) ≡ false
  no_right t = sym f ∙ not-true b t

  pub one_right : not b ≡ false → has_right (operator ws n) ≡ true
  one_right t = sym f ∙ not-false b t

module _ (ws : List ℕ) (n : ℕ) {b : Bool}
    (e : b ≡ (eqb (operator ws n) 8 && reads_left (shape_at (widths_of ws) (nodes_of ws) (right ws n)))) where
  pub reads_eight : b ≡ true → operator ws n ≡ 8
  reads_eight t = eqb-true (operator ws n) 8 (and_left (eqb (operator ws n) 8) _ (sym e ∙ t))

  pub reads_some : b ≡ true → reads_left (shape_at (widths_of ws) (nodes_of ws) (right ws n)) ≡ true
  reads_some t = and_right (eqb (operator ws n) 8) _ (sym e ∙ t)

  pub reads_none : b ≡ false → operator ws n ≡ 8 → reads_left (shape_at (widths_of ws) (nodes_of ws) (right ws n)) ≡ false
  reads_none t q = (rw (eq-eqb (operator ws n) 8 q) at (sym e)) ∙ t

module _ {ws : List ℕ} (a : Accepted ws) {n : ℕ} (h : n < nodes ws) where
  -- the inputs are nodes below
  pub left_less : closed (shape_at (widths_of ws) (nodes_of ws) n) ≡ false → left ws n < n
  left_less o = (facts_at ws a.formed n h).left_node (not_scan ws a.formed (λ i. 0) n h o)

  pub right_less : has_right (operator ws n) ≡ true → right ws n < n
  right_less q = (facts_at ws a.formed n h).right_node q
