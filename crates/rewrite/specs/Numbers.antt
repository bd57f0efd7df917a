-- The rewriter's answers as document 01 numbers them.
use Rattle.std.specs.Prelude.{ℕ, Result, Ok, Err}
use Rattle.plan.specs.Verdict.{CountedAnswer}
use Rattle.plan.specs.Answers.{refusal_of}
use Rattle.rewrite.specs.declared.RewriteRefusal.{RewriteRefusal}
use Rattle.rewrite.specs.declared.RewriteRefusal.TheVariants.{Plan, OverLimits, NoRoom}

abbrev pub rewriting_of : Result ℕ RewriteRefusal → CountedAnswer
rewriting_of (Ok n) = record { number = 0; node = 0; count = n }
rewriting_of (Err (Plan r)) = record { number = (refusal_of r).number; node = (refusal_of r).node; count = 0 }
rewriting_of (Err OverLimits) = record { number = 8; node = 0; count = 0 }
rewriting_of (Err NoRoom) = record { number = 9; node = 0; count = 0 }
