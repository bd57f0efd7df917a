-- The new plan's words in the output.
use Rattle.std.specs.Prelude.{List, ◌++◌, ℕ, ◌+◌, ◌≤◌, length, take, drop}
use Rattle.algebra.specs.Lists.{each}
use Rattle.plan.specs.Words.{tables, total, header_of}
use Rattle.pages.specs.declared.page.Page.{Page}

-- n nodes and i items, with the table widths of ws, fit the limits and an output of so much room
abbrev pub Writable : List ℕ → ℕ → ℕ → ℕ → Type 0
Writable ws n i room = (8 + tables ws ≤ length ws) × (tables ws ≤ 16) × (n ≤ 256) × (i ≤ 2000) × (total (tables ws) n i ≤ room)

-- header, the widths of ws, and the nodes and items of the page
unfoldable pub table : List ℕ → Page → List ℕ
table ws page =
    let t = tables ws in
    let n = page.node_count in
    let i = page.item_count in
    header_of t n i ++ (take t (drop 8 ws) ++ (each (λ w. w) (take n page.nodes) ++ each (λ w. w) (take i page.items)))
