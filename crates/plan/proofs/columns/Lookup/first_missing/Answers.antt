use Rattle.std.proofs.Common.{◌≡◌, ℕ, ◌<◌, List, true, false, not, rules, tests}
use Rattle.std.proofs.lemmas.Iterator.{first_from_Range}
use Rattle.plan.specs.Verdict.{columns_right}
use Rattle.plan.proofs.Laws.First.{first_is}
use Rattle.plan.proofs.columns.Lookup.first_missing.Goals as goal

pub returns : goal.returns
returns c =
    let ws : List ℕ = c.args.self.now.words.now in
    let m : ℕ = c.nodes.result in
    first_is (λ k. not (columns_right ws k)) m _ c.nodes.ensures
    (first_from_Range _ _ _ _ (λ k. k < m → not (columns_right ws k) ≡ true) (λ k. k < m → not (columns_right ws k) ≡ false) c.find.ensures.ran
    (λ x q k h. search (rules, tests))
    (λ x q k. (search (rules, tests), λ h. search (rules, tests))))
