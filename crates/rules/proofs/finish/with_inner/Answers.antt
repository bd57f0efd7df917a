use mathlib.Core.Path.{refl, sym, ◌∙◌}
use Prim.Native.Nat.{◌+◌}
use native.Mathlib.Omega.{arith}
use Rattle.plan.specs.Plan.{node_at}
use Rattle.pages.specs.Sets.{members}
use Rattle.rules.specs.Under.{with_inner}
use Rattle.pages.proofs.Laws.Sets.{length_members}
use Rattle.pages.proofs.Laws.Pages.{missed_more, missed_then, pushed_as, wrote_then}
use Rattle.rules.proofs.Laws.ItemSorts.{read_node, within, movable, all_conjuncts, no_project, no_group, two_inputs, no_groupjoin}
use Rattle.rules.proofs.Laws.JoinNodes.{join_inner, inner_join}
use Rattle.rules.proofs.Laws.RulePages.{grows, grows_as, drops, drops_missed, drops_over}
use Rattle.rules.proofs.finish.with_inner.Goals as goal

pub returns-in_err-push_set_matches : goal.returns-in_err-push_set_matches
returns-in_err-push_set_matches c D m =
    let a = c.args in
    let node_read = read_node c.requires.0.0 c.requires.0.1 refl refl in
    let all_of = all_conjuncts node_read (no_groupjoin c.requires.1) in
    let ks = members a.set in
    let two = two_inputs c.requires.1 in
    let v = c.len-keys.ensures.value ∙ sym (length_members a.set) in
    let k = c.of-kind.ensures in
    grows_as _ (with_inner D ks a.left.width a.right.width a.left.node a.right.node (node_at a.words.now a.n))
    (λ out. inner_join node_read two D a.left.width a.right.width a.left.node a.right.node m.width out c.requires.1 c.of-kind.result k ks v)
    (drops_missed _ (a.d.now.width + a.left.width) c.len-keys.result a.right.width _ _
    (join_inner node_read two D a.left.node a.right.node m.width all_of a.left.width (no_groupjoin c.requires.1) k ks v)
    (missed_more _ _ c.in_err-push_set_matches.ensures) _ c.from_residual.result c.from_residual.ensures.0)

pub push_moved-requires : goal.push_moved-requires
push_moved-requires c =
    let node_read = read_node c.requires.0.0 c.requires.0.1 c.first_item.ensures c.item_count.ensures in
    let all_of = all_conjuncts node_read (no_groupjoin c.requires.1) in
    let two = two_inputs c.requires.1 in
    (within node_read, movable node_read (no_project two) (no_group two) all_of)

pub returns-in_err-push_moved : goal.returns-in_err-push_moved
returns-in_err-push_moved c D m =
    let a = c.args in
    let node_read = read_node c.requires.0.0 c.requires.0.1 c.first_item.ensures c.item_count.ensures in
    let all_of = all_conjuncts node_read (no_groupjoin c.requires.1) in
    let ks = members a.set in
    let two = two_inputs c.requires.1 in
    let v = c.len-keys.ensures.value ∙ sym (length_members a.set) in
    let k = c.of-kind.ensures in
    grows_as _ (with_inner D ks a.left.width a.right.width a.left.node a.right.node (node_at a.words.now a.n))
    (λ out. inner_join node_read two D a.left.width a.right.width a.left.node a.right.node m.width out c.requires.1 c.of-kind.result k ks v)
    (drops_missed _ (a.d.now.width + a.left.width) c.len-keys.result a.right.width _ _
    (join_inner node_read two D a.left.node a.right.node m.width all_of a.left.width (no_groupjoin c.requires.1) k ks v)
    (missed_then _ _ c.in_ok-push_set_matches.ensures (c.in_err-push_moved.ensures D m)) _ c.from_residual-in_err-push_moved.result c.from_residual-in_err-push_moved.ensures.0)

pub returns-in_err-join : goal.returns-in_err-join
returns-in_err-join c D m =
    let a = c.args in
    let node_read = read_node c.requires.0.0 c.requires.0.1 c.first_item.ensures c.item_count.ensures in
    let all_of = all_conjuncts node_read (no_groupjoin c.requires.1) in
    let ks = members a.set in
    let two = two_inputs c.requires.1 in
    let v = c.len-keys.ensures.value ∙ sym (length_members a.set) in
    let k = c.of-kind.ensures in
    grows_as _ (with_inner D ks a.left.width a.right.width a.left.node a.right.node (node_at a.words.now a.n))
    (λ out. inner_join node_read two D a.left.width a.right.width a.left.node a.right.node m.width out c.requires.1 c.of-kind.result k ks v)
    (drops_over _ (a.d.now.width + a.left.width) c.len-keys.result a.right.width _
    (grows _ _
    (join_inner node_read two D a.left.node a.right.node m.width all_of a.left.width (no_groupjoin c.requires.1) k ks v)
    (wrote_then _ _ c.in_ok-push_set_matches.ensures (c.in_ok-push_moved.ensures D m)) _ _ (pushed_as c.join.ensures c.in_err-join.ensures))
    _ c.from_residual-in_err-join.result c.from_residual-in_err-join.ensures.0)

pub drop_columns-requires : goal.drop_columns-requires
drop_columns-requires c =
    let a = c.args in
    let v = c.len-keys.ensures.upper_bound in
    (omega (arith, a.d.now.narrow, a.left.narrow), omega arith, omega (arith, a.right.narrow))

pub returns : goal.returns
returns c D m =
    let a = c.args in
    let node_read = read_node c.requires.0.0 c.requires.0.1 c.first_item.ensures c.item_count.ensures in
    let all_of = all_conjuncts node_read (no_groupjoin c.requires.1) in
    let ks = members a.set in
    let two = two_inputs c.requires.1 in
    let v = c.len-keys.ensures.value ∙ sym (length_members a.set) in
    let k = c.of-kind.ensures in
    grows_as _ (with_inner D ks a.left.width a.right.width a.left.node a.right.node (node_at a.words.now a.n))
    (λ out. inner_join node_read two D a.left.width a.right.width a.left.node a.right.node m.width out c.requires.1 c.of-kind.result k ks v)
    (drops _ (a.d.now.width + a.left.width) c.len-keys.result a.right.width _
    (grows _ _
    (join_inner node_read two D a.left.node a.right.node m.width all_of a.left.width (no_groupjoin c.requires.1) k ks v)
    (wrote_then _ _ c.in_ok-push_set_matches.ensures (c.in_ok-push_moved.ensures D m)) _ _ (pushed_as c.join.ensures c.in_ok-join.ensures))
    c.drop_columns.ensures)
