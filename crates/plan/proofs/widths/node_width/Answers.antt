use Rattle.std.proofs.Common.{arith, ◌≡◌, ◌≤◌, ◌⊎◌, inl, inr, get_or}
use Rattle.plan.specs.Codes.{number_of, meant_kind}
use Rattle.plan.specs.declared.operator.Operator.{Operator}
use Rattle.plan.specs.declared.operator.Operator.TheVariants.{Join, Group, Project, Dependent}
use Rattle.plan.specs.declared.sorts.Sort.TheVariants.{Aggregate}
use Rattle.plan.proofs.Laws.Codes.{TwoInputs, same_number}
use Rattle.plan.proofs.Laws.Formed.{named, inputs_there, left_below}
use Rattle.plan.proofs.Laws.Items.{sort_most}
use Rattle.plan.proofs.Laws.Reach.{items_asked}
use Rattle.plan.proofs.Laws.Widths.{scan_width, listed_width, select_width, compute_width, groupjoin_width, join_width_lem, join_narrow}
use Rattle.plan.proofs.widths.node_width.Goals.{After-of, After-right}
use Rattle.plan.proofs.widths.node_width.Goals as goal

listed : {x : Operator} → (x ≡ Project) ⊎ (x ≡ Group) → (number_of x ≡ 4) ⊎ (number_of x ≡ 6)
listed (inl e) = inl (same_number e)
listed (inr e) = inr (same_number e)

joined : {x : Operator} → (x ≡ Join) ⊎ (x ≡ Dependent) → (number_of x ≡ 5) ⊎ (number_of x ≡ 8)
joined (inl e) = inl (same_number e)
joined (inr e) = inr (same_number e)

joins : {x : Operator} → (x ≡ Join) ⊎ (x ≡ Dependent) → TwoInputs x
joins (inl e) = inl e
joins (inr e) = inr (inr e)

-- the left row is not too wide
left_row : (c : After-of) → (number_of c.of.result ≡ 1 → ⊥) → get_or c.args.rows.now c.left-l.result 0 ≤ 64
left_row c q = c.requires.2 _ (left_below _ c.requires.0 _ c.requires.1 (named _ c.requires.0 _ c.requires.1 c.of.ensures) q c.left-l.ensures)

-- nor are both rows of a join
both_rows : (c : After-right) → (get_or c.args.rows.now c.left-l.result 0 ≤ 64) × (get_or c.args.rows.now c.right.result 0 ≤ 64)
both_rows c =
    let there = inputs_there _ c.requires.0 _ c.requires.1 c.of.ensures (joins c.in-Join.is) c.left-l.ensures c.right.ensures in
    (c.requires.2 _ there.0, c.requires.2 _ there.1)

pub overflow_add-result : goal.overflow_add-result
overflow_add-result c =
    let q = same_number c.in-Map.is in
    let there = left_row (goal.at.overflow_add-result c).After-of (λ e. omega arith) in omega arith

pub count_of_sort-requires : goal.count_of_sort-requires
count_of_sort-requires c = (items_asked _ c.requires.0 _ c.requires.1 c.first_item.ensures c.item_count-count.ensures).0

pub overflow_add-result-in-Groupjoin : goal.overflow_add-result-in-Groupjoin
overflow_add-result-in-Groupjoin c =
    let q = same_number c.in-Groupjoin.is in
    let there = left_row (goal.at.overflow_add-result-in-Groupjoin c).After-of (λ e. omega arith) in
    let few = (items_asked _ c.requires.0 _ c.requires.1 c.first_item.ensures c.item_count-count.ensures).0 in
    omega (arith, sort_most c.args.words.now c.first_item.result Aggregate c.item_count-count.result)

pub overflow_cast-result-in-Join : goal.overflow_cast-result-in-Join
overflow_cast-result-in-Join c =
    let rows = both_rows (goal.at.overflow_cast-result-in-Join c).After-right in
    omega (arith, join_narrow (meant_kind c.of-in-Join.result) _ _ rows.0 rows.1)

pub returns-in-Scan : goal.returns-in-Scan
returns-in-Scan c = scan_width _ c.requires.0 _ c.requires.1 (named _ c.requires.0 _ c.requires.1 c.of.ensures) _ c.left-l.ensures (same_number c.in-Scan.is) c.table_width.ensures

pub returns-in-Select : goal.returns-in-Select
returns-in-Select c = select_width _ c.requires.0 _ c.requires.1 (named _ c.requires.0 _ c.requires.1 c.of.ensures) _ c.left-l.ensures (same_number c.in-Select.is)

pub returns-in-Map : goal.returns-in-Map
returns-in-Map c = compute_width _ c.requires.0 _ c.requires.1 (named _ c.requires.0 _ c.requires.1 c.of.ensures) _ c.left-l.ensures (same_number c.in-Map.is)

pub returns-in-Project : goal.returns-in-Project
returns-in-Project c = listed_width _ c.requires.0 _ c.requires.1 (named _ c.requires.0 _ c.requires.1 c.of.ensures) _ c.item_count-count.ensures (listed c.in-Project.is)

pub returns-in-Groupjoin : goal.returns-in-Groupjoin
returns-in-Groupjoin c = groupjoin_width _ c.requires.0 _ c.requires.1 (named _ c.requires.0 _ c.requires.1 c.of.ensures) _ c.left-l.ensures (same_number c.in-Groupjoin.is)
    c.first_item.ensures c.item_count-count.ensures c.count_of_sort.ensures

pub returns-in-Join : goal.returns-in-Join
returns-in-Join c =
    join_width_lem _ c.requires.0 _ c.requires.1 (named _ c.requires.0 _ c.requires.1 c.of.ensures) _ c.left-l.ensures (joined c.in-Join.is) c.of-in-Join.ensures c.right.ensures c.width.ensures
