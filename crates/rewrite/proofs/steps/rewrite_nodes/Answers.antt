use mathlib.Core.Path.{refl, sym, ◌∙◌}
use Prim.Native.Nat.{◌<◌}
use native.Mathlib.Omega.{arith}
use Rattle.plan.specs.Words.{nodes}
use Rattle.pages.proofs.Laws.Limits.{node_index}
use Rattle.rewrite.proofs.Laws.FirstNodes.{stepped_none, stepped_open, stepped_closed, stepped_over, stepped_all}
use Rattle.rewrite.proofs.steps.rewrite_nodes.Goals as goal
use Rattle.rewrite.proofs.steps.rewrite_nodes.Goals.{In-loop-n, then-is_closed+in_ok-images, else-is_closed}

-- the node is one of the plan's
low : (c : In-loop-n) → c.loop-n.n < nodes c.args.tables.now.words.now
low c = rw (← c.nodes-n-end.ensures) c.loop-n-test.true

pub loop-n-init : goal.loop-n-init
loop-n-init c = stepped_none c.args.tables.now.words.now _ c.requires.1

pub is_closed-requires : goal.is_closed-requires
is_closed-requires c = (c.requires.0, low (goal.at.is_closed-requires c).In-loop-n)

pub closed_node-requires : goal.closed_node-requires
closed_node-requires c = ((c.requires.0, low (goal.at.closed_node-requires c).In-loop-n), sym c.is_closed.ensures ∙ c.if-is_closed.true)

pub returns-in_err-images : goal.returns-in_err-images
returns-in_err-images c =
    stepped_over c.requires.0.accepted c.loop-n.n (low (goal.at.returns-in_err-images c).In-loop-n) (sym c.is_closed.ensures ∙ c.if-is_closed.true)
    c.loop-n.invariant c.in_err-images.ensures _ c.from_residual.result c.from_residual.ensures.0

pub bounds-images-n : goal.bounds-images-n
bounds-images-n c = node_index c.requires.0.accepted (low (goal.at.bounds-images-n c).In-loop-n) refl

pub loop-n-preserved : goal.loop-n-preserved
loop-n-preserved c =
    let words = c.args.tables.now.words.now in
    let here = low (goal.at.loop-n-preserved c).In-loop-n in
    elim c.if-is_closed.branch [
      | then-is_closed+in_ok-images w ↦
          stepped_closed words c.requires.0.accepted c.loop-n.n here (sym c.is_closed.ensures ∙ w.if-is_closed.true) c.loop-n.invariant
          w.in_ok-images.ensures w.page-is w.images-is (node_index c.requires.0.accepted here refl)
      | else-is_closed w ↦
          stepped_open words c.requires.0.accepted c.loop-n.n here (sym c.is_closed.ensures ∙ w.if-is_closed.false) c.loop-n.invariant
          w.page-is w.images-is
    ]

pub returns : goal.returns
returns c = stepped_all c.loop-n.n c.nodes-n-end.result c.loop-n.invariant c.nodes-n-end.ensures (omega arith) (omega arith)
