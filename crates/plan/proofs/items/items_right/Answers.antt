use Rattle.std.proofs.Common.{rules, tests, arith, ◌∙◌, ◌+◌, ℕ, refl}
use Rattle.std.proofs.lemmas.Iterator.{YieldsList-from_range}
use Rattle.std.proofs.lemmas.Iterator.Search.{all_from_yields_List}
use Rattle.plan.specs.Words.{item_at}
use Rattle.plan.specs.Sorts.{right_of}
use Rattle.plan.proofs.Laws.Ranges.{all_numbers}
use Rattle.plan.proofs.items.items_right.Goals as goal

pub returns : goal.returns
returns c =
    let a = c.args.a in
    let n = c.args.count in
    let items = item_at c.args.words.now in
    all_from_yields_List (λ (j : ℕ). right_of c.args.sort (items j)) _ _ _ c.all.ensures.ran (YieldsList-from_range a (a + n) n refl (omega arith)) (λ x b q k. search (rules, tests))
    ∙ all_numbers (right_of c.args.sort) items a n
