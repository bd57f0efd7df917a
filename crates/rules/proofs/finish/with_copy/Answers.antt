use native.Mathlib.Omega.{arith}
use Rattle.pages.proofs.Laws.Pages.{missed_then, pushed_as, wrote_then}
use Rattle.rules.proofs.Laws.ItemSorts.{read_node, fronts, movable, no_project, no_group}
use Rattle.rules.proofs.Laws.JoinNodes.{copy_missed, join_copied, groupjoin_copied}
use Rattle.rules.proofs.Laws.RulePages.{grows, grows_missed}
use Rattle.plan.proofs.Laws.Formed.{is_named, not_named}
use Rattle.plan.specs.declared.operator.Operator.TheVariants.{Groupjoin}
use Rattle.rules.proofs.finish.with_copy.Goals as goal

pub push_moved-requires : goal.push_moved-requires
push_moved-requires c =
    let node_read = read_node c.requires.0.0 c.requires.0.1 c.first_item-from.ensures c.item_count-count.ensures in
    let few = fronts node_read c.conjunct_count-conjuncts.ensures in
    let two = c.requires.1 in
    (few.1, movable node_read (no_project two) (no_group two) c.conjunct_count-conjuncts.ensures)

pub returns-in_err-push_moved : goal.returns-in_err-push_moved
returns-in_err-push_moved c D m =
    let node_read = read_node c.requires.0.0 c.requires.0.1 c.first_item-from.ensures c.item_count-count.ensures in
    copy_missed node_read c.requires.1 D c.args.left c.args.right m.width c.conjunct_count-conjuncts.ensures (c.in_err-push_moved.ensures D m)
    _ c.from_residual.result c.from_residual.ensures.0

pub overflow_sub-aggregates : goal.overflow_sub-aggregates
overflow_sub-aggregates c =
    let node_read = read_node c.requires.0.0 c.requires.0.1 c.first_item-from.ensures c.item_count-count.ensures in
    let few = fronts node_read c.conjunct_count-conjuncts.ensures in
    omega arith

pub overflow_add-from : goal.overflow_add-from
overflow_add-from c =
    let node_read = read_node c.requires.0.0 c.requires.0.1 c.first_item-from.ensures c.item_count-count.ensures in
    let few = fronts node_read c.conjunct_count-conjuncts.ensures in
    omega arith

pub push_copied-requires : goal.push_copied-requires
push_copied-requires c =
    let node_read = read_node c.requires.0.0 c.requires.0.1 c.first_item-from.ensures c.item_count-count.ensures in
    (fronts node_read c.conjunct_count-conjuncts.ensures).2

pub returns-in_err-push_copied-in-Groupjoin : goal.returns-in_err-push_copied-in-Groupjoin
returns-in_err-push_copied-in-Groupjoin c D m =
    let node_read = read_node c.requires.0.0 c.requires.0.1 c.first_item-from.ensures c.item_count-count.ensures in
    grows_missed _ _
    (groupjoin_copied node_read c.requires.1 D c.args.left c.args.right m.width c.conjunct_count-conjuncts.ensures
    (is_named _ c.requires.0.0.formed _ c.requires.0.1 c.of.ensures c.in-Groupjoin.is))
    (missed_then _ _ (c.in_ok-push_moved.ensures D m) c.in_err-push_copied-in-Groupjoin.ensures) _ c.from_residual-in_err-push_copied-in-Groupjoin.result c.from_residual-in_err-push_copied-in-Groupjoin.ensures.0

pub returns-in_ok-push_copied-in-Groupjoin : goal.returns-in_ok-push_copied-in-Groupjoin
returns-in_ok-push_copied-in-Groupjoin c D m =
    let node_read = read_node c.requires.0.0 c.requires.0.1 c.first_item-from.ensures c.item_count-count.ensures in
    grows _ _
    (groupjoin_copied node_read c.requires.1 D c.args.left c.args.right m.width c.conjunct_count-conjuncts.ensures
    (is_named _ c.requires.0.0.formed _ c.requires.0.1 c.of.ensures c.in-Groupjoin.is))
    (wrote_then _ _ (c.in_ok-push_moved.ensures D m) c.in_ok-push_copied-in-Groupjoin.ensures)
    _ c.push_node.result (pushed_as c.groupjoin.ensures c.push_node.ensures)

pub returns-in_default : goal.returns-in_default
returns-in_default c D m =
    let node_read = read_node c.requires.0.0 c.requires.0.1 c.first_item-from.ensures c.item_count-count.ensures in
    grows _ _
    (join_copied node_read c.requires.1 D c.args.left c.args.right m.width c.conjunct_count-conjuncts.ensures
    (not_named _ c.requires.0.0.formed _ c.requires.0.1 c.of.ensures Groupjoin c.in_default.not-Groupjoin) c.of-in_default.ensures)
    (c.in_ok-push_moved.ensures D m) _ c.push_node-in_default.result (pushed_as c.join.ensures c.push_node-in_default.ensures)
