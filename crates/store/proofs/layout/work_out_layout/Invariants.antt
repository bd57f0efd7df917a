use Rattle.store.proofs.Laws.Layouts.{Filled}
use Rattle.store.proofs.layout.work_out_layout.Given as goal

abbrev pub invariant-loop-n : goal.invariant-loop-n
invariant-loop-n l = Filled l.words l.counts l.area l.n l.layout
