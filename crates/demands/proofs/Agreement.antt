-- The right side of a dependent join depends only on the columns that it reads.
use mathlib.Core.List.{List}
use Prim.Native.Nat.{ℕ}
use Rattle.algebra.proofs.Statements as algebra
use Rattle.plan.specs.Words.{right}
use Rattle.plan.specs.Plan.{widths_of, nodes_of}
use Rattle.demands.specs.Agreement.{Agreement}

-- for every slice of words
pub agreement : (ws : List ℕ) → Agreement ws
agreement ws db n h dependent o x y agree = algebra.agreement (widths_of ws) db (nodes_of ws) (right ws n) o x y agree
