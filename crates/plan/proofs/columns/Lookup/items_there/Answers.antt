use Rattle.std.proofs.Common.{rules, tests, arith, ◌∙◌, ◌+◌, ℕ, refl}
use Rattle.std.proofs.lemmas.Iterator.{YieldsList-from_range}
use Rattle.std.proofs.lemmas.Iterator.Search.{all_from_yields_List}
use Rattle.plan.specs.Words.{item_at}
use Rattle.plan.specs.Verdict.{scope_of}
use Rattle.plan.specs.Passes.{item_there}
use Rattle.plan.proofs.Laws.Ranges.{all_numbers}
use Rattle.plan.proofs.Laws.Reach.{items_asked}
use Rattle.plan.proofs.columns.Lookup.items_there.Goals as goal

pub overflow_add-a : goal.overflow_add-a
overflow_add-a c = omega (arith, (items_asked _ c.args.self.now.placed.formed _ c.requires c.first_item-a.ensures c.item_count.ensures).0)

pub returns : goal.returns
returns c =
    let a = c.first_item-a.result in
    let m = c.item_count.result in
    let there = item_there (scope_of c.args.self.now.words.now c.args.n) c.args.w c.args.v in
    let items = item_at c.args.self.now.words.now in
    all_from_yields_List (λ (j : ℕ). there (items j)) _ _ _ c.all.ensures.ran (YieldsList-from_range a (a + m) m refl (omega arith)) (λ x b q k. search (rules, tests))
    ∙ all_numbers there items a m
    ∙ rw (c.first_item-a.ensures, c.item_count.ensures)
