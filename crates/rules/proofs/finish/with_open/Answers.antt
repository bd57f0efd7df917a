use mathlib.Core.Path.{◌∙◌}
use Prim.Native.Nat.{◌+◌}
use native.Mathlib.Omega.{arith}
use Rattle.plan.specs.Plan.{node_at}
use Rattle.rules.specs.Under.{with_open}
use Rattle.pages.proofs.Laws.Pages.{missed_more, missed_then, pushed_as, wrote_then}
use Rattle.rules.proofs.Laws.ItemSorts.{read_node, fronts, movable, groupjoin_small, groupjoin_conjuncts, no_project, no_group}
use Rattle.rules.proofs.Laws.JoinNodes.{join_open_lem, groupjoin_open, open_join, open_groupjoin, open_missed}
use Rattle.rules.proofs.Laws.RulePages.{grows, grows_as, grows_missed, drops, drops_over}
use Rattle.plan.proofs.Laws.Formed.{is_named, not_named}
use Rattle.plan.specs.declared.operator.Operator.TheVariants.{Groupjoin}
use Rattle.rules.proofs.finish.with_open.Goals as goal

pub returns-in_err-push_matches : goal.returns-in_err-push_matches
returns-in_err-push_matches c D m =
    let node_read = read_node c.requires.0.0 c.requires.0.1 c.first_item-from.ensures c.item_count-count.ensures in
    let a = c.args in
    open_missed node_read c.requires.1 D a.left.node a.right.node m.width c.conjunct_count-conjuncts.ensures a.left.width a.right.width
    (missed_more _ _ c.in_err-push_matches.ensures) _ c.from_residual.result c.from_residual.ensures.0

pub push_moved-requires : goal.push_moved-requires
push_moved-requires c =
    let node_read = read_node c.requires.0.0 c.requires.0.1 c.first_item-from.ensures c.item_count-count.ensures in
    let few = fronts node_read c.conjunct_count-conjuncts.ensures in
    let two = c.requires.1 in
    (few.1, movable node_read (no_project two) (no_group two) c.conjunct_count-conjuncts.ensures)

pub returns-in_err-push_moved : goal.returns-in_err-push_moved
returns-in_err-push_moved c D m =
    let node_read = read_node c.requires.0.0 c.requires.0.1 c.first_item-from.ensures c.item_count-count.ensures in
    let a = c.args in
    open_missed node_read c.requires.1 D a.left.node a.right.node m.width c.conjunct_count-conjuncts.ensures a.left.width a.right.width
    (missed_then _ _ c.in_ok-push_matches.ensures (c.in_err-push_moved.ensures D m)) _ c.from_residual-in_err-push_moved.result c.from_residual-in_err-push_moved.ensures.0

pub overflow_sub-aggregates : goal.overflow_sub-aggregates
overflow_sub-aggregates c =
    let node_read = read_node c.requires.0.0 c.requires.0.1 c.first_item-from.ensures c.item_count-count.ensures in
    let few = fronts node_read c.conjunct_count-conjuncts.ensures in
    omega arith

pub overflow_add-from : goal.overflow_add-from
overflow_add-from c =
    let node_read = read_node c.requires.0.0 c.requires.0.1 c.first_item-from.ensures c.item_count-count.ensures in
    let few = fronts node_read c.conjunct_count-conjuncts.ensures in
    omega arith

pub push_shifted-requires : goal.push_shifted-requires
push_shifted-requires c =
    let node_read = read_node c.requires.0.0 c.requires.0.1 c.first_item-from.ensures c.item_count-count.ensures in
    let few = fronts node_read c.conjunct_count-conjuncts.ensures in
    let seven = is_named _ c.requires.0.0.formed _ c.requires.0.1 c.of.ensures c.in-Groupjoin.is in
    (few.2, c.args.d.now.narrow, groupjoin_small node_read seven (c.conjunct_count-conjuncts.ensures ∙ groupjoin_conjuncts node_read seven))

pub returns-in_err-push_shifted-in-Groupjoin : goal.returns-in_err-push_shifted-in-Groupjoin
returns-in_err-push_shifted-in-Groupjoin c D m =
    let node_read = read_node c.requires.0.0 c.requires.0.1 c.first_item-from.ensures c.item_count-count.ensures in
    let a = c.args in
    let seven = is_named _ c.requires.0.0.formed _ c.requires.0.1 c.of.ensures c.in-Groupjoin.is in
    grows_as _ (with_open D a.left.width a.right.width a.left.node a.right.node (node_at a.words.now a.n))
    (λ out. open_groupjoin node_read c.requires.1 D a.left.width a.right.width a.left.node a.right.node m.width out seven)
    (grows_missed _ _
    (groupjoin_open node_read c.requires.1 D a.left.node a.right.node m.width c.conjunct_count-conjuncts.ensures a.left.width seven)
    (missed_then _ _ (wrote_then _ _ c.in_ok-push_matches.ensures (c.in_ok-push_moved.ensures D m)) c.in_err-push_shifted-in-Groupjoin.ensures) _ c.from_residual-in_err-push_shifted-in-Groupjoin.result c.from_residual-in_err-push_shifted-in-Groupjoin.ensures.0)

pub returns-in_ok-push_shifted-in-Groupjoin : goal.returns-in_ok-push_shifted-in-Groupjoin
returns-in_ok-push_shifted-in-Groupjoin c D m =
    let node_read = read_node c.requires.0.0 c.requires.0.1 c.first_item-from.ensures c.item_count-count.ensures in
    let a = c.args in
    let seven = is_named _ c.requires.0.0.formed _ c.requires.0.1 c.of.ensures c.in-Groupjoin.is in
    grows_as _ (with_open D a.left.width a.right.width a.left.node a.right.node (node_at a.words.now a.n))
    (λ out. open_groupjoin node_read c.requires.1 D a.left.width a.right.width a.left.node a.right.node m.width out seven)
    (grows _ _
    (groupjoin_open node_read c.requires.1 D a.left.node a.right.node m.width c.conjunct_count-conjuncts.ensures a.left.width seven)
    (wrote_then _ _ (wrote_then _ _ c.in_ok-push_matches.ensures (c.in_ok-push_moved.ensures D m)) c.in_ok-push_shifted-in-Groupjoin.ensures)
    _ c.push_node.result (pushed_as c.groupjoin.ensures c.push_node.ensures))

pub returns-in_err-join-in_default : goal.returns-in_err-join-in_default
returns-in_err-join-in_default c D m =
    let node_read = read_node c.requires.0.0 c.requires.0.1 c.first_item-from.ensures c.item_count-count.ensures in
    let a = c.args in
    let q = not_named _ c.requires.0.0.formed _ c.requires.0.1 c.of.ensures Groupjoin c.in_default.not-Groupjoin in
    grows_as _ (with_open D a.left.width a.right.width a.left.node a.right.node (node_at a.words.now a.n))
    (λ out. open_join node_read c.requires.1 D a.left.width a.right.width a.left.node a.right.node m.width out q c.of-kind.result c.of-kind.ensures)
    (drops_over _ (a.d.now.width + a.left.width) a.d.now.width a.right.width _
    (grows _ _
    (join_open_lem node_read c.requires.1 D a.left.node a.right.node m.width c.conjunct_count-conjuncts.ensures a.left.width q c.of-kind.ensures)
    (wrote_then _ _ c.in_ok-push_matches.ensures (c.in_ok-push_moved.ensures D m)) _ _ (pushed_as c.join.ensures c.in_err-join-in_default.ensures))
    _ c.from_residual-in_err-join-in_default.result c.from_residual-in_err-join-in_default.ensures.0)

pub drop_columns-requires : goal.drop_columns-requires
drop_columns-requires c = let a = c.args in
    (omega (arith, a.d.now.narrow, a.left.narrow), omega (arith, a.d.now.narrow), omega (arith, a.right.narrow))

pub returns-in_ok-join-in_default : goal.returns-in_ok-join-in_default
returns-in_ok-join-in_default c D m =
    let node_read = read_node c.requires.0.0 c.requires.0.1 c.first_item-from.ensures c.item_count-count.ensures in
    let a = c.args in
    let q = not_named _ c.requires.0.0.formed _ c.requires.0.1 c.of.ensures Groupjoin c.in_default.not-Groupjoin in
    grows_as _ (with_open D a.left.width a.right.width a.left.node a.right.node (node_at a.words.now a.n))
    (λ out. open_join node_read c.requires.1 D a.left.width a.right.width a.left.node a.right.node m.width out q c.of-kind.result c.of-kind.ensures)
    (drops _ (a.d.now.width + a.left.width) a.d.now.width a.right.width _
    (grows _ _
    (join_open_lem node_read c.requires.1 D a.left.node a.right.node m.width c.conjunct_count-conjuncts.ensures a.left.width q c.of-kind.ensures)
    (wrote_then _ _ c.in_ok-push_matches.ensures (c.in_ok-push_moved.ensures D m)) _ _ (pushed_as c.join.ensures c.in_ok-join-in_default.ensures))
    c.drop_columns.ensures)
