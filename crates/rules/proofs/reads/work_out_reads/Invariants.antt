use Rattle.rules.specs.Reads.{Filled}
use Rattle.rules.proofs.reads.work_out_reads.Given as goal

abbrev pub invariant-loop-n : goal.invariant-loop-n
invariant-loop-n l = Filled l.words l.n l.table
