use mathlib.Core.Path.{◌≡◌}
use lib.ListN.{length}
use Rattle.store.proofs.Laws.Written.{Copied}
use Rattle.store.proofs.cells.copy_cells.Given as goal

abbrev pub invariant-loop-i : goal.invariant-loop-i
invariant-loop-i l = (length l.s ≡ length l.initial.s) × Copied l.from l.at l.initial.s l.to l.i l.s
