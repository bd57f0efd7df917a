use mathlib.Core.Path.{◌≡◌}
use mathlib.Core.List.{[]}
use Prim.Native.Nat.{ℕ, ◌<◌}
use lib.ListN.{get_or}
use Rattle.algebra.specs.Lists.{keep, upto}
use Rattle.plan.specs.Verdict.{width_at, is_too_wide}
use Rattle.plan.specs.Passes.{ZeroFrom}
use Rattle.plan.proofs.widths.work_out_widths.Given as goal

abbrev pub invariant-loop-n : goal.invariant-loop-n
invariant-loop-n l = record {
  before : (m : ℕ) → m < l.n → get_or l.rows m 0 ≡ width_at l.words m;
  narrow : keep (is_too_wide l.words) (upto l.n) ≡ [];
  rest : ZeroFrom l.n l.rows;
}
