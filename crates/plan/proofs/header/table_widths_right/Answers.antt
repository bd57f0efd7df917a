use Rattle.std.proofs.Common.{rules, tests, arith, ◌∙◌, ℕ, refl}
use Rattle.std.proofs.lemmas.Iterator.{YieldsList-from_range}
use Rattle.std.proofs.lemmas.Iterator.Search.{all_from_yields_List}
use Rattle.plan.specs.Words.{table_width}
use Rattle.plan.specs.Items.{between}
use Rattle.plan.proofs.Laws.Ranges.{all_below}
use Rattle.plan.proofs.header.table_widths_right.Goals as goal

pub returns : goal.returns
returns c =
    let right = λ (i : ℕ). between 1 64 (table_width c.args.words.now i) in
    all_from_yields_List right _ _ _ c.all.ensures.ran (YieldsList-from_range 0 c.args.t c.args.t refl (omega arith)) (λ x b q k. search (rules, tests))
    ∙ all_below right c.args.t
