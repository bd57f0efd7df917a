use mathlib.Core.Path.{sym}
use Rattle.plan.proofs.Laws.Formed.{named, is_named, not_named}
use Rattle.plan.specs.declared.operator.Operator.TheVariants.{Project, Group}
use Rattle.pages.proofs.Laws.Pages.{missed_more, missed_then, pushed_as, wrote_then}
use Rattle.rules.proofs.Laws.ItemSorts.{read_node, within, outputs_small, group_small, movable, all_conjuncts, one_input}
use Rattle.rules.proofs.Laws.OneInputNodes.{project_over, group_none, group_some, moved_over}
use Rattle.rules.proofs.Laws.RulePages.{grows, grows_missed}
use Rattle.rules.proofs.finish.over_input.Goals as goal

-- ---- project

pub domain_first-requires : goal.domain_first-requires
domain_first-requires c =
    let node_read = read_node c.requires.0.0 c.requires.0.1 c.first_item-from.ensures c.item_count-count.ensures in
    let project = is_named _ c.requires.0.0.formed _ c.requires.0.1 c.of-operator.ensures c.in-Project.is in
    (within node_read, c.args.d.now.narrow, outputs_small node_read project)

pub returns-in_err-domain_first-in-Project : goal.returns-in_err-domain_first-in-Project
returns-in_err-domain_first-in-Project c D m =
    let node_read = read_node c.requires.0.0 c.requires.0.1 c.first_item-from.ensures c.item_count-count.ensures in
    let project = is_named _ c.requires.0.0.formed _ c.requires.0.1 c.of-operator.ensures c.in-Project.is in
    grows_missed _ _ (project_over node_read D c.args.input m.width project) c.in_err-domain_first-in-Project.ensures
    _ c.from_residual.result c.from_residual.ensures.0

pub returns-in_ok-domain_first-in-Project : goal.returns-in_ok-domain_first-in-Project
returns-in_ok-domain_first-in-Project c D m =
    let node_read = read_node c.requires.0.0 c.requires.0.1 c.first_item-from.ensures c.item_count-count.ensures in
    let project = is_named _ c.requires.0.0.formed _ c.requires.0.1 c.of-operator.ensures c.in-Project.is in
    grows _ _ (project_over node_read D c.args.input m.width project) c.in_ok-domain_first-in-Project.ensures
    _ c.push_node.result (pushed_as c.over.ensures c.push_node.ensures)

-- ---- group

pub count_of_sort-requires : goal.count_of_sort-requires
count_of_sort-requires c =
    let node_read = read_node c.requires.0.0 c.requires.0.1 c.first_item-from.ensures c.item_count-count.ensures in
    within node_read

pub returns-in_err-push_matches-in-Group : goal.returns-in_err-push_matches-in-Group
returns-in_err-push_matches-in-Group c D m =
    let node_read = read_node c.requires.0.0 c.requires.0.1 c.first_item-from.ensures c.item_count-count.ensures in
    let group = is_named _ c.requires.0.0.formed _ c.requires.0.1 c.of-operator.ensures c.in-Group.is in
    grows_missed _ _
    (group_none node_read D c.args.input m.width group c.count_of_sort.ensures c.if-count_of_sort-eq0.true c.args.d.now.node m.node)
    (missed_more _ _ c.in_err-push_matches-in-Group.ensures) _ c.from_residual-in_err-push_matches-in-Group.result c.from_residual-in_err-push_matches-in-Group.ensures.0

pub push_shifted-requires : goal.push_shifted-requires
push_shifted-requires c =
    let node_read = read_node c.requires.0.0 c.requires.0.1 c.first_item-from.ensures c.item_count-count.ensures in
    let group = is_named _ c.requires.0.0.formed _ c.requires.0.1 c.of-operator.ensures c.in-Group.is in
    (within node_read, c.args.d.now.narrow, group_small node_read group)

pub returns-in_err-push_shifted-in-Group : goal.returns-in_err-push_shifted-in-Group
returns-in_err-push_shifted-in-Group c D m =
    let node_read = read_node c.requires.0.0 c.requires.0.1 c.first_item-from.ensures c.item_count-count.ensures in
    let group = is_named _ c.requires.0.0.formed _ c.requires.0.1 c.of-operator.ensures c.in-Group.is in
    grows_missed _ _
    (group_none node_read D c.args.input m.width group c.count_of_sort.ensures c.if-count_of_sort-eq0.true c.args.d.now.node m.node)
    (missed_then _ _ c.in_ok-push_matches-in-Group.ensures c.in_err-push_shifted-in-Group.ensures)
    _ c.from_residual-in_err-push_shifted-in-Group.result c.from_residual-in_err-push_shifted-in-Group.ensures.0

pub returns-in_ok-push_shifted-in-Group : goal.returns-in_ok-push_shifted-in-Group
returns-in_ok-push_shifted-in-Group c D m =
    let node_read = read_node c.requires.0.0 c.requires.0.1 c.first_item-from.ensures c.item_count-count.ensures in
    let group = is_named _ c.requires.0.0.formed _ c.requires.0.1 c.of-operator.ensures c.in-Group.is in
    grows _ _
    (group_none node_read D c.args.input m.width group c.count_of_sort.ensures c.if-count_of_sort-eq0.true c.args.d.now.node m.node)
    (wrote_then _ _ c.in_ok-push_matches-in-Group.ensures c.in_ok-push_shifted-in-Group.ensures)
    _ c.push_node-in-Group.result (pushed_as c.groupjoin.ensures c.push_node-in-Group.ensures)

pub domain_first-requires-in-Group-2 : goal.domain_first-requires-in-Group-2
domain_first-requires-in-Group-2 c =
    let node_read = read_node c.requires.0.0 c.requires.0.1 c.first_item-from.ensures c.item_count-count.ensures in
    let group = is_named _ c.requires.0.0.formed _ c.requires.0.1 c.of-operator.ensures c.in-Group-2.is in
    (within node_read, c.args.d.now.narrow, group_small node_read group)

pub returns-in_err-domain_first-in-Group-2 : goal.returns-in_err-domain_first-in-Group-2
returns-in_err-domain_first-in-Group-2 c D m =
    let node_read = read_node c.requires.0.0 c.requires.0.1 c.first_item-from.ensures c.item_count-count.ensures in
    let group = is_named _ c.requires.0.0.formed _ c.requires.0.1 c.of-operator.ensures c.in-Group-2.is in
    grows_missed _ _ (group_some node_read D c.args.input m.width group c.count_of_sort.ensures c.if-count_of_sort-eq0.false)
    c.in_err-domain_first-in-Group-2.ensures _ c.from_residual-in_err-domain_first-in-Group-2.result c.from_residual-in_err-domain_first-in-Group-2.ensures.0

pub returns-in_ok-domain_first-in-Group-2 : goal.returns-in_ok-domain_first-in-Group-2
returns-in_ok-domain_first-in-Group-2 c D m =
    let node_read = read_node c.requires.0.0 c.requires.0.1 c.first_item-from.ensures c.item_count-count.ensures in
    let group = is_named _ c.requires.0.0.formed _ c.requires.0.1 c.of-operator.ensures c.in-Group-2.is in
    grows _ _ (group_some node_read D c.args.input m.width group c.count_of_sort.ensures c.if-count_of_sort-eq0.false)
    c.in_ok-domain_first-in-Group-2.ensures
    _ c.push_node-in-Group-2.result (pushed_as c.over-in-Group-2.ensures c.push_node-in-Group-2.ensures)

-- ---- select and map

pub push_moved-requires : goal.push_moved-requires
push_moved-requires c =
    let node_read = read_node c.requires.0.0 c.requires.0.1 c.first_item-from.ensures c.item_count-count.ensures in
    let neither = not_named _ c.requires.0.0.formed _ c.requires.0.1 c.of-operator.ensures in (
      within node_read,
      movable node_read (neither Project c.in_default.not-Project) (neither Group c.in_default.not-Group) (all_conjuncts node_read (one_input c.requires.1.1)),
    )

pub returns-in_err-push_moved-in_default : goal.returns-in_err-push_moved-in_default
returns-in_err-push_moved-in_default c D m =
    let node_read = read_node c.requires.0.0 c.requires.0.1 c.first_item-from.ensures c.item_count-count.ensures in
    grows_missed _ _
    (moved_over node_read D c.args.input m.width c.requires.1.0 c.requires.1.1 _ (sym (named _ c.requires.0.0.formed _ c.requires.0.1 c.of-operator.ensures))
    c.in_default.not-Project c.in_default.not-Group)
    (c.in_err-push_moved-in_default.ensures D m) _ c.from_residual-in_err-push_moved-in_default.result c.from_residual-in_err-push_moved-in_default.ensures.0

pub returns-in_ok-push_moved-in_default : goal.returns-in_ok-push_moved-in_default
returns-in_ok-push_moved-in_default c D m =
    let node_read = read_node c.requires.0.0 c.requires.0.1 c.first_item-from.ensures c.item_count-count.ensures in
    grows _ _
    (moved_over node_read D c.args.input m.width c.requires.1.0 c.requires.1.1 _ (sym (named _ c.requires.0.0.formed _ c.requires.0.1 c.of-operator.ensures))
    c.in_default.not-Project c.in_default.not-Group)
    (c.in_ok-push_moved-in_default.ensures D m) _ c.push_node-in_default.result (pushed_as c.over-in_default.ensures c.push_node-in_default.ensures)
