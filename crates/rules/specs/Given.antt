-- What stands together in the contracts of functions over a node.
use Rattle.std.specs.Prelude.{◌≡◌, false, List, ℕ, ◌<◌}
use Rattle.plan.specs.Words.{nodes, operator}
use Rattle.plan.specs.Verdict.{has_right}
use Rattle.plan.specs.Promise.{Accepted}
use Rattle.plan.specs.Passes.{Reaches, Widths}
use Rattle.rules.specs.declared.tables.Tables.{Tables}
use Rattle.rules.specs.Reads.{ReadsTable}

-- node n of an accepted plan
abbrev pub PlanNode : List ℕ → ℕ → Type 0
PlanNode ws n = Accepted ws × (n < nodes ws)

-- select, map, project or group
abbrev pub OneInput : List ℕ → ℕ → Type 0
OneInput ws n = (operator ws n ≡ 1 → ⊥) × (has_right (operator ws n) ≡ false)

-- an accepted plan, and what the tables say of its nodes is so
pub record Right (t : Tables) : Type 0 where
  pub accepted : Accepted t.words.now
  pub reaches : Reaches t.words.now t.reaches.now
  pub widths : Widths t.words.now t.widths.now
  pub reads : ReadsTable t.words.now (nodes t.words.now) t.reads.now

-- node n of it
abbrev pub Known : Tables → ℕ → Type 0
Known t n = Right t × (n < nodes t.words.now)
