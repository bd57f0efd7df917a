use Rattle.std.proofs.Common.{rules, tests, ◌∙◌}
use lib.IntN.{ℤ}
use Rattle.std.proofs.lemmas.Iterator.{YieldsList-from_slice}
use Rattle.std.proofs.lemmas.Iterator.Search.{all_from_yields_List}
use Rattle.store.specs.Cells.{value, in_range}
use Rattle.store.proofs.Laws.Ranges.{all_listed}
use Rattle.store.proofs.cells.all_in_range.Goals as goal

pub returns : goal.returns
returns c =
    let right = λ (z : ℤ). in_range (value z) in
    all_from_yields_List right _ _ _ c.all.ensures.ran (YieldsList-from_slice c.args.cells.now cc) (λ x b q k. search (rules, tests))
    ∙ all_listed right c.args.cells.now
