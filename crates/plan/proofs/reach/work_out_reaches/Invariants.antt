use mathlib.Core.Path.{◌≡◌}
use Prim.Native.Nat.{ℕ, ◌<◌}
use lib.ListN.{get_or}
use Rattle.algebra.specs.Columns.{shape_at}
use Rattle.plan.specs.Plan.{widths_of, nodes_of}
use Rattle.plan.specs.Passes.{ZeroFrom, reach}
use Rattle.plan.proofs.reach.work_out_reaches.Given as goal

abbrev pub invariant-loop-n : goal.invariant-loop-n
invariant-loop-n l = record {
  reached : (m : ℕ) → m < l.n → get_or l.reaches m 0 ≡ reach (shape_at (widths_of l.words) (nodes_of l.words) m).reads;
  zero_from : ZeroFrom l.n l.reaches;
}
