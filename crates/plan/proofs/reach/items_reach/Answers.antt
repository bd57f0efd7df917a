use Prim.Native.Nat.{ℕ, ◌+◌}
use native.Mathlib.Omega.{arith}
use Rattle.plan.specs.Words.{item_at}
use Rattle.plan.proofs.Laws.Reach.{reach_more}
use Rattle.plan.proofs.reach.items_reach.Goals as goal

pub loop-i-preserved : goal.loop-i-preserved
loop-i-preserved c = omega (arith, reach_more (λ (j : ℕ). item_at c.args.words.now (c.args.a + j)) c.loop-i.i)
