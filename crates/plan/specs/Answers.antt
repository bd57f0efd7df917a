-- The check's answers as document 01 numbers them.
use Rattle.std.specs.Prelude.{Result, Ok, Err}
use Rattle.plan.specs.declared.Refusal.{Refusal}
use Rattle.plan.specs.declared.Refusal.TheVariants.{Header, Limits, Malformed, Unused, TooWide, OpenTwice, NoColumn}
use Rattle.plan.specs.Verdict.{Answer, accepted}

-- "each returns number and node (0 for 1, 2 ..)"
abbrev pub refusal_of : Refusal → Answer
refusal_of Header = record { number = 1; node = 0 }
refusal_of Limits = record { number = 2; node = 0 }
refusal_of (Malformed n) = record { number = 3; node = n }
refusal_of (Unused n) = record { number = 4; node = n }
refusal_of (TooWide n) = record { number = 5; node = n }
refusal_of (OpenTwice n) = record { number = 6; node = n }
refusal_of (NoColumn n) = record { number = 7; node = n }

abbrev pub answer_of : Result (Unit {0}) Refusal → Answer
answer_of (Ok u) = accepted
answer_of (Err r) = refusal_of r
