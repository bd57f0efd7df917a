-- A plan that the check accepted is well formed.
use mathlib.Core.Path.{◌≡◌, sym, ap, ◌∙◌}
use mathlib.Core.List.{List}
use Prim.Native.Nat.{ℕ}
use Rattle.std.specs.Prelude.{Result, Ok}
use Rattle.plan.specs.declared.Refusal.{Refusal}
use Rattle.plan.specs.Verdict.{verdict}
use Rattle.plan.specs.Answers.{answer_of}
use Rattle.plan.specs.Promise.{Formed}
use Rattle.plan.proofs.Promise.{promise}

pub well_formed : (ws : List ℕ) (v : Result (Unit {0}) Refusal) → v ≡ Ok tt → answer_of v ≡ verdict ws → Formed ws
well_formed ws v e q = (promise ws (sym q ∙ ap answer_of e)).formed
