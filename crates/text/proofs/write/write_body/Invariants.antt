use Prim.Native.Nat.{◌≤◌, ◌+◌, ◌*◌}
use Rattle.text.specs.Steps.{counts}
use Rattle.text.proofs.Laws.WrittenLines.{Lined}
use Rattle.text.proofs.write.write_body.Given as goal

abbrev pub invariant-loop-k : goal.invariant-loop-k
invariant-loop-k l = (l.next ≤ l.at + 192 * l.k) × Lined (counts l.s) l.words l.initial.text l.at l.text l.k l.next l.from
