use mathlib.Core.Path.{◌≡◌}
use mathlib.Core.List.{map}
use Rattle.store.specs.Cells.{value}
use Rattle.operators.proofs.Laws.Keys.{left_same}
use Rattle.operators.proofs.keys.same_key.Given as goal

abbrev pub invariant-loop-p : goal.invariant-loop-p
invariant-loop-p l = left_same l.positions (map value l.a) (map value l.b) 0 ≡ left_same l.positions (map value l.a) (map value l.b) l.p-index
