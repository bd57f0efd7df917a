use Rattle.std.proofs.Common.{arith, rules, ◌≡◌, ◌⊎◌, inl, inr}
use Rattle.plan.proofs.Laws.Items.{sort_most, as_read, scan_items, compute_not_one, compute_one, project_none, project_some}
use Rattle.plan.proofs.Laws.Items.{group_none, group_some, groupjoin_none, groupjoin_some, other_items}
use Rattle.plan.specs.declared.operator.Operator.{Operator}
use Rattle.plan.specs.declared.operator.Operator.TheVariants.{Select, Join, Dependent}
use Rattle.plan.specs.Codes.{number_of}
use Rattle.plan.specs.declared.sorts.Sort.TheVariants.{Key}
use Rattle.plan.proofs.Laws.Codes.{same_number}
use Rattle.plan.proofs.items.node_items_right.Goals as goal

conjuncts_only : {x : Operator} → (x ≡ Select) ⊎ ((x ≡ Join) ⊎ (x ≡ Dependent)) → (number_of x ≡ 2) ⊎ ((number_of x ≡ 5) ⊎ (number_of x ≡ 8))
conjuncts_only (inl e) = inl (same_number e)
conjuncts_only (inr (inl e)) = inr (inl (same_number e))
conjuncts_only (inr (inr e)) = inr (inr (same_number e))

pub in_front-requires : goal.in_front-requires
in_front-requires c = (search rules, rw c.count_of_sort-m.ensures (sort_most _ _ Key _))

pub returns-in-Scan : goal.returns-in-Scan
returns-in-Scan c = (as_read _ c.first_item-a.ensures c.item_count-count.ensures c.requires.operator) (scan_items _ _ _ (same_number c.in-Scan.is))

pub returns-then-count-eq1 : goal.returns-then-count-eq1
returns-then-count-eq1 c = (as_read _ c.first_item-a.ensures c.item_count-count.ensures c.requires.operator) (compute_one _ _ _ (same_number c.in-Map.is) c.if-count-eq1.true c.items_right.ensures)

pub returns-else-count-eq1 : goal.returns-else-count-eq1
returns-else-count-eq1 c = (as_read _ c.first_item-a.ensures c.item_count-count.ensures c.requires.operator) (compute_not_one _ _ _ (same_number c.in-Map.is) c.if-count-eq1.false)

pub returns-then-count-ne0 : goal.returns-then-count-ne0
returns-then-count-ne0 c = (as_read _ c.first_item-a.ensures c.item_count-count.ensures c.requires.operator) (project_some _ _ _ (same_number c.in-Project.is) c.if-count-ne0.true c.items_right-then-count-ne0.ensures)

pub returns-else-count-ne0 : goal.returns-else-count-ne0
returns-else-count-ne0 c = (as_read _ c.first_item-a.ensures c.item_count-count.ensures c.requires.operator) (project_none _ _ _ (same_number c.in-Project.is) c.if-count-ne0.false)

pub returns-then-count-ne0-2 : goal.returns-then-count-ne0-2
returns-then-count-ne0-2 c = (as_read _ c.first_item-a.ensures c.item_count-count.ensures c.requires.operator) (group_some _ _ _ (same_number c.in-Group.is) c.if-count-ne0-2.true c.count_of_sort-m.ensures c.in_front.ensures)

pub returns-else-count-ne0-2 : goal.returns-else-count-ne0-2
returns-else-count-ne0-2 c = (as_read _ c.first_item-a.ensures c.item_count-count.ensures c.requires.operator) (group_none _ _ _ (same_number c.in-Group.is) c.if-count-ne0-2.false)

pub returns-then-m-count : goal.returns-then-m-count
returns-then-m-count c = (as_read _ c.first_item-a.ensures c.item_count-count.ensures c.requires.operator) (groupjoin_some _ _ _ (same_number c.in-Groupjoin.is) c.count_of_sort-m-in-Groupjoin.ensures c.if-m-count.true c.in_front-then-m-count.ensures)

pub returns-else-m-count : goal.returns-else-m-count
returns-else-m-count c = (as_read _ c.first_item-a.ensures c.item_count-count.ensures c.requires.operator) (groupjoin_none _ _ _ (same_number c.in-Groupjoin.is) c.count_of_sort-m-in-Groupjoin.ensures c.if-m-count.false)

pub returns-in-Select : goal.returns-in-Select
returns-in-Select c =
    let n = conjuncts_only c.in-Select.is in
    (as_read _ c.first_item-a.ensures c.item_count-count.ensures c.requires.operator) (other_items c.args.words.now c.first_item-a.result c.item_count-count.result (omega arith) (omega arith) (omega arith) (omega arith) (omega arith) c.items_right-in-Select.ensures)
