use Rattle.std.proofs.Common.{rules, tests, arith, ◌∙◌, ◌+◌, ℕ}
use Rattle.std.proofs.lemmas.Iterator.{YieldsList-from_range}
use Rattle.std.proofs.lemmas.Iterator.Consumers.{YieldsList-from_filter, count_from_yields_List}
use Rattle.plan.specs.Words.{Item, item_at}
use Rattle.plan.specs.Items.{between}
use Rattle.plan.proofs.Laws.Ranges.{count_numbers}
use Rattle.plan.proofs.tags.count_tagged.Goals as goal

pub returns : goal.returns
returns c =
    let ws = c.args.words.now in
    let test = λ (x : Item). between c.args.low c.args.high x.tag in
    count_from_yields_List c.filter.result _ c.count.ensures.ran
    (YieldsList-from_filter _ (λ (j : ℕ). test (item_at ws j)) (YieldsList-from_range c.args.a (c.args.a + c.args.count) c.args.count (cc) (omega arith)) c.filter.ensures.closure (λ x b q k. search (rules, tests)))
    ∙ count_numbers test (item_at ws) c.args.a c.args.count
