use Rattle.std.proofs.Common.{◌≡◌, ◌∙◌, ℕ, ◌<◌, List, true, false, ◌&&◌, ltb, get_or, arith, rules, tests}
use Rattle.std.proofs.lemmas.Iterator.{first_from_Range, serves_from_Range}
use Rattle.plan.specs.Verdict.{is_open_twice}
use Rattle.plan.proofs.Laws.Formed.{limited}
use Rattle.plan.proofs.Laws.First.{first_is}
use Rattle.plan.proofs.Laws.Reach.{open_twice_test}
use Rattle.plan.proofs.uses.first_open_twice.Goals as goal

pub find-requires-clause-callable : goal.find-requires-clause-callable
find-requires-clause-callable c = serves_from_Range (λ x q k. search (rules, tests)) (λ x low high. let few = (limited _ c.requires.0).nodes_few in search rules)

pub returns : goal.returns
returns c =
    let ws : List ℕ = c.args.words.now in
    let m : ℕ = c.nodes.result in
    let says : (k : ℕ) → k < c.nodes.result → is_open_twice c.args.words.now k ≡ (ltb 0 (get_or c.args.reaches.now k 0) && ltb 1 (get_or c.args.uses.now k 0)) =
    λ k h. open_twice_test c.args.uses.now c.args.reaches.now c.requires.0 c.requires.1 c.requires.2 k (omega arith) in
    first_is (is_open_twice ws) m _ c.nodes.ensures
    (first_from_Range _ _ _ _ (λ k. k < m → is_open_twice ws k ≡ true) (λ k. k < m → is_open_twice ws k ≡ false) c.find.ensures.ran
    (λ x q k h. says x h ∙ search (rules, tests))
    (λ x q k. (search (rules, tests), λ h. says x h ∙ search (rules, tests))))
