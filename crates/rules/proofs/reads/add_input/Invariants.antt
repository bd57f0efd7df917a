use Rattle.rules.specs.Reads.{Added}
use Rattle.rules.proofs.Laws.Reads.{levels_read}
use Rattle.rules.proofs.reads.add_input.Given as goal

abbrev pub invariant-loop-l : goal.invariant-loop-l
invariant-loop-l l = Added l.n (levels_read l.initial.table l.i l.skip l.l) l.initial.table l.table
