use Rattle.text.proofs.Laws.Writing.{Spelled}
use Rattle.text.proofs.write.write_decimal.Given as goal

abbrev pub invariant-loop-k : goal.invariant-loop-k
invariant-loop-k l = Spelled l.n l.at l.k l.rest l.initial.text l.text
