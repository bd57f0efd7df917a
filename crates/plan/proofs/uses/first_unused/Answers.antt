use Rattle.std.proofs.Common.{◌≡◌, ◌∙◌, ℕ, ◌-◌, ◌<◌, List, true, false, eqb, get_or, arith, rules, tests}
use Rattle.std.proofs.lemmas.Iterator.{first_from_Range, serves_from_Range}
use Rattle.plan.specs.Words.{nodes}
use Rattle.plan.specs.Verdict.{is_unused_node}
use Rattle.plan.proofs.Laws.Formed.{limited}
use Rattle.plan.proofs.Laws.First.{first_below}
use Rattle.plan.proofs.Laws.Uses.{unused_test, root_passed}
use Rattle.plan.proofs.uses.first_unused.Goals as goal

pub overflow_sub-nodes : goal.overflow_sub-nodes
overflow_sub-nodes c = omega (arith, (limited _ c.requires.0).nodes_some)

pub find-requires-clause-callable : goal.find-requires-clause-callable
find-requires-clause-callable c = serves_from_Range (λ x q k. search (rules, tests)) (λ x low high. let few = (limited _ c.requires.0).nodes_few in search rules)

pub returns : goal.returns
returns c =
    let ws : List ℕ = c.args.words.now in
    let uses : List ℕ = c.args.uses.now in
    let m : ℕ = c.nodes.result - 1 in
    let says : (k : ℕ) → k < c.nodes.result - 1 → is_unused_node c.args.words.now k ≡ eqb (get_or c.args.uses.now k 0) 0 =
    λ k h. unused_test uses c.requires.0 c.requires.1 k (omega arith) in
    first_below (is_unused_node ws) m (nodes ws) _ (omega arith) (λ k g l. root_passed uses c.requires.0 c.requires.1 k (omega arith))
    (first_from_Range _ _ _ _ (λ k. k < m → is_unused_node ws k ≡ true) (λ k. k < m → is_unused_node ws k ≡ false) c.find.ensures.ran
    (λ x q k h. says x h ∙ search (rules, tests))
    (λ x q k. (search rules, λ h. says x h ∙ search (rules, tests))))
