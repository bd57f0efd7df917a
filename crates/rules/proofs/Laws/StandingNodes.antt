-- What stands among the nodes written, with its width: domains, copies and the nodes that put puts.
use mathlib.Core.Path.{◌∙◌, ◌≡◌, ap, refl}
use mathlib.Core.Bool.{Bool, cond, false, true}
use mathlib.Core.List.{List, [], ◌++◌, ◌∷◌}
use Prim.Native.Nat.{◌+◌, ◌<◌, ◌≤◌, suc, zero, ℕ}
use native.Mathlib.Omega.{arith}
use native.Mathlib.Nat.{add-zero}
use lib.ListN.{length, length-append}
use Rattle.algebra.specs.Plan.{Node, group}
use Rattle.algebra.specs.Columns.{Column, Shape, closed, shape_at, shape_of, shapeless}
use Rattle.algebra.specs.Domains.{Domain, domain_keys, inner_domain, inside}
use Rattle.algebra.specs.Rewriting.{Placed}
use Rattle.algebra.proofs.Lists.Entries.{entry_last}
use Rattle.plan.specs.Words.{nodes}
use Rattle.plan.specs.Plan.{node_at, nodes_of, widths_of}
use Rattle.plan.specs.Verdict.{columns_right, scope_of, width_at}
use Rattle.plan.specs.Promise.{Accepted}
use Rattle.plan.proofs.Laws.Formed.{shape_of_lem}
use Rattle.rules.specs.Reads.{reads_at}
use Rattle.pages.specs.Pages.{Stands}
use Rattle.rules.specs.Under.{Ready, Within, put}
use Rattle.rules.proofs.Laws.ColumnsWritten.{Grows, Sits, Wrote, grows_none, sits_closed, stands_before}
use Rattle.rules.proofs.Laws.ColumnsUnder.{open_node}
use Rattle.rules.proofs.Laws.AppendedNodes.{Extends, extends_none, extends_one, extends_then}
use Rattle.rules.proofs.Laws.Fuel.{own, put_behind, put_closed, put_open}
use Rattle.rules.proofs.Laws.InputReads.{node_fine}

-- ---- nodes behind change nothing

pub stands_more : {widths : List ℕ} {out more : List Node} {i w : ℕ} → Extends out more → Stands widths out i w → Stands widths more i w
stands_more e s = rw e.is (stands_before e.rest s)

-- ---- what is put has the domain's columns in front of its own

module _ (ws : List ℕ) (a : Accepted ws) (images : ℕ → ℕ) (bound : ℕ) (few : bound ≤ nodes ws) (out : List Node)
    (copies : (i : ℕ) → i < bound → closed (shape_at (widths_of ws) (nodes_of ws) i) ≡ true → Stands (widths_of ws) out (images i) (width_at ws i)) where
  sits : (fuel i : ℕ) → i < fuel → i < bound → Sits (widths_of ws) out (own ws images i)
  unfolding columns_right
  sits zero i l b = absurd (omega arith)
  sits (suc fuel) i l b = record {
    copied = λ e. (copies i b e);
    puts = λ D more ext sd held. go (closed shape) refl D more ext sd held (λ j g. sits fuel j (omega arith) (omega arith));
  }
    where
      shape : Shape
      shape = shape_at (widths_of ws) (nodes_of ws) i

      here : i < nodes ws
      here = omega arith

      is : shape ≡ shape_of (widths_of ws) (shape_at (widths_of ws) (nodes_of ws)) (node_at ws i)
      is = shape_of_lem ws a.formed i here

      go : (b : Bool) → closed shape ≡ b → (D : Domain) (more : List Node) → Grows (widths_of ws) out more → Stands (widths_of ws) more D.node D.width
          → Within D (reads_at ws i)
          → ((j : ℕ) → j < i → Sits (widths_of ws) out (own ws images j)) → Wrote (widths_of ws) more (put ws images (suc i) i D more) (D.width + width_at ws i)
      go true e D more ext sd held before =
          rw (put_closed ws a.formed images i here D more e) ((sits_closed (widths_of ws) out shape (images i) (copies i b e)).puts D more ext sd held)
      go false e D more ext sd held before =
          rw (put_open ws a.formed images i here D more e, ap (λ (s : Shape). s.width) is)
          (open_node (widths_of ws) out (own ws images) i before D more ext sd (scope_of ws i) (node_at ws i) (node_fine ws a i here) (rw is at e)
          (a.columns i here) (rw (ap (λ (s : Shape). s.reads) is) at held))

-- ---- what the inputs ask

module _ (ws : List ℕ) (a : Accepted ws) (images : ℕ → ℕ) {n : ℕ} (h : n < nodes ws) {D : Domain} {out : List Node} (ready : Ready ws images n D out) where
  -- behind more nodes, under another domain
  ready_behind : {more : List Node} {E : Domain} (i : ℕ) → i < n → Extends out more → Stands (widths_of ws) more E.node E.width → Ready ws images i E more
  ready_behind i g e s = record { domain = s; copies = λ j b c. stands_more e (ready.copies j (omega arith) c) }

  -- the left input
  pub ready_left : (l : ℕ) → l < n → Ready ws images l D out
  ready_left l g = ready_behind l g extends_none ready.domain

  module _ (l : ℕ) (g : l < n) where
    -- the left input under D
    abbrev x : Placed
    x = put ws images (suc l) l D out

    -- it has D's columns in front of its own
    pub left_stands : Within D (reads_at ws l) → Stands (widths_of ws) x.out x.at (D.width + width_at ws l)
    left_stands within = ((sits ws a images n (omega arith) out ready.copies (suc l) l (omega arith) g).puts D out (grows_none out) ready.domain within).has

    -- the right input under D, or inside it
    pub ready_right : (r : ℕ) → r < n → (b : Bool) → Ready ws images r (cond b (inside D) D) x.out
    ready_right r k true = ready_behind r k (put_behind ws images (suc l) l D out) (stands_more (put_behind ws images (suc l) l D out) ready.domain)
    ready_right r k false = ready_behind r k (put_behind ws images (suc l) l D out) (stands_more (put_behind ws images (suc l) l D out) ready.domain)

    -- the right input under a new domain
    pub ready_inner : (r : ℕ) → r < n → (w : ℕ) (reads : List Column) (ks : List ℕ) → ks ≡ domain_keys D w reads
        → Ready ws images r (inner_domain D w reads (length x.out)) (x.out ++ (group ks [] x.at ∷ []))
    ready_inner r k w reads ks e =
        ready_behind r k (extends_then (put_behind ws images (suc l) l D out) (extends_one x.out (group ks [] x.at)))
        (record {
          inside = rw length-append (omega arith);
          width =
              ap (λ (s : Shape). s.width) (entry_last shapeless (shape_of (widths_of ws)) x.out (group ks [] x.at)) ∙ add-zero (length ks) ∙ ap length e;
        })
