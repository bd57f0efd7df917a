use mathlib.Core.Path.{refl}
use native.Mathlib.Omega.{arith}
use borrow.Author.Rules.{rules}
use Rattle.pages.proofs.Laws.Limits.{node_index, items_within}
use Rattle.rules.proofs.Laws.Reads.{items_none, items_more, node_filled}
use Rattle.rules.proofs.reads.add_node.Goals as goal

pub loop-i-init : goal.loop-i-init
loop-i-init c = items_none c.args.words.now c.args.n c.first_item-a.result

pub overflow_add-a : goal.overflow_add-a
overflow_add-a c = let w = items_within c.requires.0.0 c.requires.0.1 c.first_item-a.ensures c.item_count-i-end.ensures in
    search rules

pub add_term-requires : goal.add_term-requires
add_term-requires c = (node_index c.requires.0.0 c.requires.0.1 refl, c.loop-i.invariant.rows (c.add_inputs.ensures.rows c.requires.1.rows))

pub overflow_add-a-in-loop-i : goal.overflow_add-a-in-loop-i
overflow_add-a-in-loop-i c = let w = items_within c.requires.0.0 c.requires.0.1 c.first_item-a.ensures c.item_count-i-end.ensures in
    search rules

pub add_term-requires-in-loop-i : goal.add_term-requires-in-loop-i
add_term-requires-in-loop-i c = (
  node_index c.requires.0.0 c.requires.0.1 refl,
  c.add_term.ensures.rows (c.loop-i.invariant.rows (c.add_inputs.ensures.rows c.requires.1.rows)),
)

pub loop-i-preserved : goal.loop-i-preserved
loop-i-preserved c =
    items_more c.args.words.now c.args.n c.first_item-a.result c.loop-i.i c.loop-i.invariant
    c.first_term.ensures c.add_term.ensures c.second_term.ensures c.add_term-in-loop-i.ensures

pub returns : goal.returns
returns c = node_filled c.args.words.now c.requires.0.0 c.args.n c.requires.0.1 c.requires.1 c.add_inputs.ensures
    c.first_item-a.ensures c.item_count-i-end.ensures c.loop-i.invariant c.loop-i-test.false (omega arith)
