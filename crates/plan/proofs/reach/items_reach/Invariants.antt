use mathlib.Core.Path.{◌≡◌}
use Rattle.plan.specs.Words.{items_from}
use Rattle.plan.specs.Passes.{items_reach}
use Rattle.plan.proofs.reach.items_reach.Given as goal

abbrev pub invariant-loop-i : goal.invariant-loop-i
invariant-loop-i l = l.reach ≡ items_reach (items_from l.words l.a l.i)
