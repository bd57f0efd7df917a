-- Two answers with the same number, node and count are equal.
use mathlib.Core.Path.{◌≡◌, refl, sym, ap, ◌∙◌}
use mathlib.Core.Bool.{cond}
use lib.Dec.{eqb}
use Rattle.plan.specs.declared.Refusal.TheVariants.{Header, Limits, Malformed, Unused, TooWide, OpenTwice, NoColumn}
use Rattle.std.specs.Prelude.{ℕ, Result, Ok, Err}
use Rattle.evaluate.specs.declared.EvaluateRefusal.{EvaluateRefusal}
use Rattle.evaluate.specs.declared.EvaluateRefusal.TheVariants.{Plan, Database, Limit, Scratch, Output, TooMany, OutOfRange}
use Rattle.evaluate.specs.Answer.{Evaluation}
use Rattle.evaluate.specs.Numbers.{evaluation_of}

-- the answer that a number, a node and a count name
abbrev evaluated_from : Evaluation → Result ℕ EvaluateRefusal
evaluated_from a =
    cond (eqb a.number 0) (Ok a.count)
    (cond (eqb a.number 1) (Err (Plan Header))
    (cond (eqb a.number 2) (Err (Plan Limits))
    (cond (eqb a.number 3) (Err (Plan (Malformed a.node)))
    (cond (eqb a.number 4) (Err (Plan (Unused a.node)))
    (cond (eqb a.number 5) (Err (Plan (TooWide a.node)))
    (cond (eqb a.number 6) (Err (Plan (OpenTwice a.node)))
    (cond (eqb a.number 7) (Err (Plan (NoColumn a.node)))
    (cond (eqb a.number 10) (Err Database)
    (cond (eqb a.number 11) (Err Limit)
    (cond (eqb a.number 12) (Err Scratch)
    (cond (eqb a.number 13) (Err Output)
    (cond (eqb a.number 14) (Err (TooMany a.node)) (Err (OutOfRange a.node))))))))))))))

named : (r : Result ℕ EvaluateRefusal) → evaluated_from (evaluation_of r) ≡ r
named (Ok n) = refl
named (Err (Plan Header)) = refl
named (Err (Plan Limits)) = refl
named (Err (Plan (Malformed n))) = refl
named (Err (Plan (Unused n))) = refl
named (Err (Plan (TooWide n))) = refl
named (Err (Plan (OpenTwice n))) = refl
named (Err (Plan (NoColumn n))) = refl
named (Err Database) = refl
named (Err Limit) = refl
named (Err Scratch) = refl
named (Err Output) = refl
named (Err (TooMany n)) = refl
named (Err (OutOfRange n)) = refl

pub one_answer : (r s : Result ℕ EvaluateRefusal) → evaluation_of r ≡ evaluation_of s → r ≡ s
one_answer r s e = sym (named r) ∙ ap evaluated_from e ∙ named s
