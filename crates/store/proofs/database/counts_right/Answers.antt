use Rattle.std.proofs.Common.{rules, tests, ◌∙◌, ℕ}
use lib.Dec.{leb}
use Rattle.std.proofs.lemmas.Iterator.{YieldsList-from_slice}
use Rattle.std.proofs.lemmas.Iterator.Search.{all_from_yields_List}
use Rattle.store.proofs.Laws.Ranges.{all_listed}
use Rattle.store.proofs.database.counts_right.Goals as goal

pub returns : goal.returns
returns c =
    let few = λ (k : ℕ). leb k 4096 in
    all_from_yields_List few _ _ _ c.all.ensures.ran (YieldsList-from_slice c.args.counts.now cc) (λ x b q k. search (rules, tests))
    ∙ all_listed few c.args.counts.now
