-- What an accepted slice promises: all that the crates above may use.
use Rattle.std.specs.Prelude.{◌≡◌, true, List, ℕ, suc, ◌<◌, ◌≤◌}
use Rattle.algebra.specs.Statements.{WellFormed, OpenOnce}
use Rattle.plan.specs.Words.{nodes}
use Rattle.plan.specs.Plan.{widths_of, nodes_of}
use Rattle.plan.specs.Verdict.{header_right, limits_right, node_right, uses_of, width_at, columns_right}

-- past refusals 1 and 2: the slice has the parts that its header says
pub record Sized (ws : List ℕ) : Type 0 where
  pub header : header_right ws ≡ true
  pub limits : limits_right ws ≡ true

-- past refusal 3: every node and its items are well formed
pub record Formed (ws : List ℕ) : Type 0 where
  pub sized : Sized ws
  pub formed : (n : ℕ) → n < nodes ws → node_right ws n ≡ true

pub record Accepted (ws : List ℕ) : Type 0 where
  pub formed : Formed ws
  pub used : (n : ℕ) → suc n < nodes ws → 0 < uses_of ws n
  pub narrow : (n : ℕ) → n < nodes ws → width_at ws n ≤ 64
  pub once : OpenOnce (widths_of ws) (nodes_of ws)
  pub columns : (n : ℕ) → n < nodes ws → columns_right ws n ≡ true
  pub plan : WellFormed (widths_of ws) (nodes_of ws)
