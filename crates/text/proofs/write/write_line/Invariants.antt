use Prim.Native.Nat.{◌≤◌, ◌+◌, ◌*◌}
use Rattle.text.proofs.Laws.WrittenLines.{Upto}
use Rattle.text.proofs.write.write_line.Given as goal

abbrev pub invariant-loop-j : goal.invariant-loop-j
invariant-loop-j l = (l.next ≤ l.at + 12 * l.j) × Upto l.item l.row l.initial.text l.at l.text l.j l.next l.last l.before
