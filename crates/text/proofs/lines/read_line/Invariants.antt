use Prim.Native.Nat.{◌≤◌}
use lib.ListN.{length}
use Rattle.text.proofs.Laws.Stepped.{LineSoFar}
use Rattle.text.proofs.lines.read_line.Given as goal

abbrev pub invariant-loop-j : goal.invariant-loop-j
invariant-loop-j l = (l.next ≤ length l.text) × LineSoFar l.text l.at l.form l.initial.words l.to l.words l.j l.next l.last l.before
