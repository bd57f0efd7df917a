-- An answer of the C interface, and what it says.
use Rattle.std.specs.Prelude.{◌≡◌, ℕ}
use Rattle.plan.specs.Verdict as plan
use Rattle.tunesaturn.specs.declared.Answer.{Answer}

-- number and node of a refusal, 0 and 0 for acceptance, and a count
pub record Says (a : Answer) (refusal : plan.Answer) (count : ℕ) : Type 0 where
  pub number : a.number ≡ refusal.number
  pub node : a.node ≡ refusal.node
  pub total : a.count ≡ count

-- number, node and count of an answer
pub record Gives (a : Answer) (o : plan.CountedAnswer) : Type 0 where
  pub number : a.number ≡ o.number
  pub node : a.node ≡ o.node
  pub total : a.count ≡ o.count
