use mathlib.Core.Path.{refl}
use Prim.Native.Nat.{ℕ, ◌^◌, ◌<◌}
use native.Mathlib.Omega.{arith}
use lib.ListN.{get_or}
use Rattle.plan.proofs.Laws.Formed.{left_in, right_in, named}
use Rattle.pages.proofs.Laws.Limits.{items_within}
use Rattle.pages.proofs.Laws.Pages.{pushed_as}
use Rattle.rules.proofs.Laws.Copies.{copied_missed, copied_scan, copied_join, copied_groupjoin, copied_other}
use Rattle.rewrite.proofs.steps.copy_node.Goals as goal

pub push_copied-requires : goal.push_copied-requires
push_copied-requires c = items_within c.requires.0 c.requires.1 c.first_item-from.ensures c.item_count-count.ensures

pub returns-in_err-push_copied : goal.returns-in_err-push_copied
returns-in_err-push_copied c =
    let small : (i : ℕ) → get_or c.args.words.now i 0 < 2 ^ 32 = λ i. omega (arith, c.type_inv.words i) in
    copied_missed c.args.words.now c.requires.0 c.args.n c.requires.1 small (λ i. get_or c.args.images.now i 0) _ _ _ _
    (named _ c.requires.0.formed c.args.n c.requires.1 c.of-operator.ensures) c.left-input.ensures c.first_item-from.ensures c.item_count-count.ensures
    c.in_err-push_copied.ensures _ c.from_residual.result c.from_residual.ensures.0

pub bounds-images-input : goal.bounds-images-input
bounds-images-input c = left_in _ c.requires.0.formed c.args.n c.requires.1 c.left-input.ensures

pub bounds-images-input-in-Join : goal.bounds-images-input-in-Join
bounds-images-input-in-Join c = left_in _ c.requires.0.formed c.args.n c.requires.1 c.left-input.ensures

pub bounds-images-other : goal.bounds-images-other
bounds-images-other c = right_in _ c.requires.0.formed c.args.n c.requires.1 c.right-other.ensures

pub bounds-images-input-in-Groupjoin : goal.bounds-images-input-in-Groupjoin
bounds-images-input-in-Groupjoin c = left_in _ c.requires.0.formed c.args.n c.requires.1 c.left-input.ensures

pub bounds-images-other-in-Groupjoin : goal.bounds-images-other-in-Groupjoin
bounds-images-other-in-Groupjoin c = right_in _ c.requires.0.formed c.args.n c.requires.1 c.right-other-in-Groupjoin.ensures

pub count_of_sort-requires : goal.count_of_sort-requires
count_of_sort-requires c = items_within c.requires.0 c.requires.1 c.first_item-from.ensures c.item_count-count.ensures

pub returns-in-Scan : goal.returns-in-Scan
returns-in-Scan c =
    let small : (i : ℕ) → get_or c.args.words.now i 0 < 2 ^ 32 = λ i. omega (arith, c.type_inv.words i) in
    copied_scan c.args.words.now c.requires.0 c.args.n c.requires.1 small (λ i. get_or c.args.images.now i 0) _ _ _ _
    (named _ c.requires.0.formed c.args.n c.requires.1 c.of-operator.ensures) c.left-input.ensures c.first_item-from.ensures c.item_count-count.ensures
    c.in_ok-push_copied.ensures
    _ c.in-Scan.is c.table_width.ensures (pushed_as c.scan.ensures c.push_node.ensures)

pub returns-in-Select : goal.returns-in-Select
returns-in-Select c =
    let small : (i : ℕ) → get_or c.args.words.now i 0 < 2 ^ 32 = λ i. omega (arith, c.type_inv.words i) in
    copied_other c.args.words.now c.requires.0 c.args.n c.requires.1 small (λ i. get_or c.args.images.now i 0) _ _ _ _
    (named _ c.requires.0.formed c.args.n c.requires.1 c.of-operator.ensures) c.left-input.ensures c.first_item-from.ensures c.item_count-count.ensures
    c.in_ok-push_copied.ensures
    _ c.in-Select.is refl (pushed_as c.over.ensures c.push_node-in-Select.ensures)

pub returns-in-Join : goal.returns-in-Join
returns-in-Join c =
    let small : (i : ℕ) → get_or c.args.words.now i 0 < 2 ^ 32 = λ i. omega (arith, c.type_inv.words i) in
    copied_join c.args.words.now c.requires.0 c.args.n c.requires.1 small (λ i. get_or c.args.images.now i 0) _ _ _ _
    (named _ c.requires.0.formed c.args.n c.requires.1 c.of-operator.ensures) c.left-input.ensures c.first_item-from.ensures c.item_count-count.ensures
    c.in_ok-push_copied.ensures
    _ _ _ _ c.in-Join.is refl c.right-other.ensures refl c.of-kind.ensures (pushed_as c.join-head.ensures c.push_node-in-Join.ensures)

pub returns-in-Groupjoin : goal.returns-in-Groupjoin
returns-in-Groupjoin c =
    let small : (i : ℕ) → get_or c.args.words.now i 0 < 2 ^ 32 = λ i. omega (arith, c.type_inv.words i) in
    copied_groupjoin c.args.words.now c.requires.0 c.args.n c.requires.1 small (λ i. get_or c.args.images.now i 0) _ _ _ _
    (named _ c.requires.0.formed c.args.n c.requires.1 c.of-operator.ensures) c.left-input.ensures c.first_item-from.ensures c.item_count-count.ensures
    c.in_ok-push_copied.ensures
    _ _ _ _ c.in-Groupjoin.is refl c.right-other-in-Groupjoin.ensures refl
    c.count_of_sort.ensures (pushed_as c.groupjoin-head.ensures c.push_node-in-Groupjoin.ensures)
