-- A closed node, by its number: what it writes.
use Rattle.std.specs.Prelude.{◌≡◌, true, List, [], ℕ, suc, ◌<◌, get_or, Result}
use Rattle.algebra.specs.Plan.{Node}
use Rattle.algebra.specs.Columns.{shape_at, closed}
use Rattle.algebra.specs.Rewriting.{Placed, closed_node}
use Rattle.plan.specs.Plan.{node_at, widths_of, nodes_of}
use Rattle.pages.specs.declared.page.OverLimits.{OverLimits}
use Rattle.pages.specs.declared.page.Page.{Page}
use Rattle.pages.specs.Pages.{Stands, Holds, Leaves}
use Rattle.rules.specs.Under.{piece}

-- the copies of the closed nodes below n stand among the nodes out, with their widths
abbrev pub Copies : List ℕ → (ℕ → ℕ) → ℕ → List Node → Type 0
Copies ws images n out =
    (i : ℕ) → i < n → closed (shape_at (widths_of ws) (nodes_of ws) i) ≡ true → Stands (widths_of ws) out (images i) (shape_at (widths_of ws) (nodes_of ws) i).width

-- node n behind out
abbrev pub closing : List ℕ → (ℕ → ℕ) → ℕ → List Node → Placed
closing ws images n out = closed_node (λ i. piece ws images (suc i) i) (node_at ws n) out

-- the nodes out have become those with the closed node n
pub record Closes (ws images : List ℕ) (n : ℕ) (page page' : Page) (result : Result ℕ OverLimits) : Type 0 where
  pub written : (out : List Node) → Copies ws (λ i. get_or images i 0) n out → Holds (widths_of ws) page out []
      → Leaves (widths_of ws) page' (closing ws (λ i. get_or images i 0) n out).out result
