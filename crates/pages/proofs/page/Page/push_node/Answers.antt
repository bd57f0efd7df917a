use native.Mathlib.Omega.{arith}
use Rattle.pages.proofs.Laws.Pages.{full_nodes, wide_node, node_written}
use Rattle.pages.proofs.page.Page.push_node.Goals as goal

pub returns-then-n-ge-NODES : goal.returns-then-n-ge-NODES
returns-then-n-ge-NODES c = full_nodes (omega arith)

pub returns-then-width-gt-WIDEST : goal.returns-then-width-gt-WIDEST
returns-then-width-gt-WIDEST c = let a = c.args in
    wide_node a.self.now a.first a.head a.extra _ _ c.saturating_sub-count.ensures c.new_width-width.ensures c.if-width-gt-WIDEST.true

pub returns : goal.returns
returns c = let a = c.args in
    rw (c.number.ensures, c.kind_number.ensures)
    (node_written a.self.now a.first a.head a.extra _ _ c.saturating_sub-count.ensures c.new_width-width.ensures
    (omega arith) (omega arith) (omega arith) (omega arith))
