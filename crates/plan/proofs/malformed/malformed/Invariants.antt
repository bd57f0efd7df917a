use mathlib.Core.Path.{◌≡◌}
use mathlib.Core.Bool.{not}
use mathlib.Core.List.{[]}
use Prim.Native.Nat.{◌≤◌}
use Rattle.algebra.specs.Lists.{keep, upto}
use Rattle.plan.specs.Words.{items}
use Rattle.plan.specs.Verdict.{items_before, node_right}
use Rattle.plan.proofs.malformed.malformed.Given as goal

abbrev pub invariant-loop-n : goal.invariant-loop-n
invariant-loop-n l = record {
  within : l.before ≤ items l.words;
  before : l.before ≡ items_before l.words l.n;
  none : keep (λ k. not (node_right l.words k)) (upto l.n) ≡ [];
}
