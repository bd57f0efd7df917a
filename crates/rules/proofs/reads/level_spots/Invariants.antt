use Rattle.rules.proofs.Laws.Keys.{Spots}
use Rattle.rules.proofs.reads.level_spots.Given as goal

abbrev pub invariant-loop-p : goal.invariant-loop-p
invariant-loop-p l = Spots l.d l.level l.columns l.initial.set l.p l.set
