use Rattle.operators.specs.Choice.{same_key}
use Rattle.operators.proofs.Laws.Keys.{Parted}
use Rattle.operators.proofs.keys.split.Given as goal

abbrev pub invariant-loop-i : goal.invariant-loop-i
invariant-loop-i l =
    Parted (same_key l.rows l.width l.positions l.k) l.initial.rest l.initial.found l.n l.rest l.found l.members l.others l.i
