use Rattle.rules.proofs.Laws.Keys.{Levels}
use Rattle.rules.proofs.reads.key_set.Given as goal

abbrev pub invariant-loop-l : goal.invariant-loop-l
invariant-loop-l l = Levels l.d l.reads l.r l.l l.set
