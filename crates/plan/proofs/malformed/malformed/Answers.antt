use mathlib.Core.Path.{refl, ap}
use mathlib.Core.Bool.{not}
use native.Mathlib.Omega.{arith}
use borrow.Author.Rules.{rules}
use Rattle.plan.specs.Words.{nodes}
use Rattle.plan.specs.Verdict.{node_right}
use Rattle.plan.proofs.Laws.Formed.{limited}
use Rattle.plan.proofs.Laws.Loops.{first_end, wrong_found, wrong_more}
use Rattle.plan.proofs.Laws.Malformed.{none_before, before_more, before_within}
use Rattle.plan.proofs.malformed.malformed.Goals as goal

pub loop-n-init : goal.loop-n-init
loop-n-init c = record { within = search rules; before = none_before _; none = refl }

pub node_right-requires : goal.node_right-requires
node_right-requires c = let f = limited _ c.requires in
    (c.loop-n.invariant.before, omega (arith, c.loop-n.invariant.within, f.items_few), omega (arith, f.nodes_few), f.items_few)

pub returns-then-not-node_right : goal.returns-then-not-node_right
returns-then-not-node_right c = wrong_found (node_right _) _ c.node_right.ensures c.loop-n.invariant.none (ap not c.if-not-node_right.true) (nodes c.args.words.now) (omega arith)

pub overflow_add-before : goal.overflow_add-before
overflow_add-before c = let l = c.loop-n in
    let h = before_within _ l.n c.node_right.ensures (ap not c.if-not-node_right.false) l.invariant.before c.item_count-before.ensures in
    omega (arith, h, (limited _ c.requires).items_few)

pub loop-n-preserved : goal.loop-n-preserved
loop-n-preserved c = let l = c.loop-n in
    let says = c.node_right.ensures in
    let fine = ap not c.if-not-node_right.false in
    let count = c.item_count-before.ensures in record {
      within = before_within _ l.n says fine l.invariant.before count;
      before = before_more _ l.n l.invariant.before count;
      none = wrong_more (node_right _) l.n says l.invariant.none fine;
    }

pub returns : goal.returns
returns c = first_end _ c.loop-n.n (nodes c.args.words.now) c.loop-n.invariant.none (omega arith) (omega arith)
