use Rattle.plan.proofs.Laws.Uses.{Tally, seen}
use Rattle.plan.proofs.uses.count_uses.Given as goal

abbrev pub invariant-loop-n : goal.invariant-loop-n
invariant-loop-n l = Tally l.uses (seen l.words l.n)
