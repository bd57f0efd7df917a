use Prim.Native.Nat.{◌+◌, ◌*◌, ◌≤◌}
use lib.ListN.{length}
use Rattle.text.specs.Steps.{counts}
use Rattle.text.proofs.Laws.Stepped.{BodySoFar}
use Rattle.text.proofs.lines.read_body.Given as goal

abbrev pub invariant-loop-k : goal.invariant-loop-k
invariant-loop-k l = (l.next ≤ length l.text) × (l.to ≤ 8 + 16 * l.k) × BodySoFar l.text l.at (counts l.s) l.initial.words l.words l.k l.next l.to
