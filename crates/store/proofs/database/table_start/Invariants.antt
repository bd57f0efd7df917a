use mathlib.Core.Path.{◌≡◌}
use Prim.Native.Nat.{◌*◌, ◌≤◌}
use Rattle.store.specs.Database.{table_start}
use Rattle.store.proofs.database.table_start.Given as goal

abbrev pub invariant-loop-i : goal.invariant-loop-i
invariant-loop-i l = (l.at ≡ table_start l.words l.counts l.i) × (l.at ≤ l.i * 262144)
