-- What the limits of an accepted plan say of a node.
use mathlib.Core.Path.{◌≡◌}
use mathlib.Core.List.{List}
use Prim.Native.Nat.{ℕ, ◌+◌, ◌<◌, ◌≤◌}
use native.Mathlib.Omega.{arith}
use Rattle.plan.specs.Words.{nodes, first_item, item_count}
use Rattle.plan.specs.Promise.{Accepted}
use Rattle.plan.proofs.Laws.Formed.{facts_at, limited}

module _ {ws : List ℕ} (accepted : Accepted ws) {n : ℕ} (h : n < nodes ws) where
  -- it has its place in the tables
  pub node_index : {i : ℕ} → i ≡ n → i < 256
  node_index e = omega (arith, (limited ws accepted.formed.sized).nodes_few)

  -- its items are among the first 2,000
  pub items_within : {a count : ℕ} → a ≡ first_item ws n → count ≡ item_count ws n → a + count ≤ 2000
  items_within ea ec = omega (arith, (facts_at ws accepted.formed n h).within, (limited ws accepted.formed.sized).items_few)
