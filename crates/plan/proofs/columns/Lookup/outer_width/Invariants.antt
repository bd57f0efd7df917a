use Prim.Native.Nat.{◌-◌}
use Rattle.plan.proofs.Laws.Levels.{Climbed}
use Rattle.plan.proofs.columns.Lookup.outer_width.Given as goal

abbrev pub invariant-loop : goal.invariant-loop
invariant-loop l = Climbed l.self.words.now l.n l.level l.at (l.level - l.counter)
