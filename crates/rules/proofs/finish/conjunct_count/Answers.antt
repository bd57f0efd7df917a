use Rattle.plan.proofs.Laws.Formed.{is_named, not_named}
use Rattle.plan.specs.declared.operator.Operator.TheVariants.{Groupjoin}
use Rattle.rules.proofs.Laws.ItemSorts.{read_node, within}
use Rattle.rules.proofs.Laws.RulePages.{count_some, count_all}
use Rattle.rules.proofs.finish.conjunct_count.Goals as goal

pub count_of_sort-requires : goal.count_of_sort-requires
count_of_sort-requires c = within (read_node c.requires.0 c.requires.1 c.first_item.ensures c.item_count-count.ensures)

pub returns-in-Groupjoin : goal.returns-in-Groupjoin
returns-in-Groupjoin c = let a = c.args in
    count_some a.words.now a.n _ c.item_count-count.ensures _ _
    (is_named _ c.requires.0.formed _ c.requires.1 c.of.ensures c.in-Groupjoin.is) c.first_item.ensures c.count_of_sort.ensures

pub returns-in_default : goal.returns-in_default
returns-in_default c = let a = c.args in
    count_all a.words.now a.n _ c.item_count-count.ensures
    (not_named _ c.requires.0.formed _ c.requires.1 c.of.ensures Groupjoin c.in_default.not-Groupjoin)
