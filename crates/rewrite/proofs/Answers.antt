-- Two answers with the same number, node and count are equal.
use mathlib.Core.Path.{◌≡◌, refl, sym, ap, ◌∙◌}
use mathlib.Core.Bool.{cond}
use Prim.Native.Nat.{ℕ}
use lib.Dec.{eqb}
use Rattle.std.specs.Prelude.{Result, Ok, Err}
use Rattle.plan.specs.declared.Refusal.TheVariants.{Header, Limits, Malformed, Unused, TooWide, OpenTwice, NoColumn}
use Rattle.rewrite.specs.declared.RewriteRefusal.{RewriteRefusal}
use Rattle.rewrite.specs.declared.RewriteRefusal.TheVariants.{Plan, OverLimits, NoRoom}
use Rattle.plan.specs.Verdict.{CountedAnswer}
use Rattle.rewrite.specs.Numbers.{rewriting_of}

-- the answer that a number, a node and a count name
abbrev rewritten_from : CountedAnswer → Result ℕ RewriteRefusal
rewritten_from a =
    cond (eqb a.number 0) (Ok a.count)
    (cond (eqb a.number 1) (Err (Plan Header))
    (cond (eqb a.number 2) (Err (Plan Limits))
    (cond (eqb a.number 3) (Err (Plan (Malformed a.node)))
    (cond (eqb a.number 4) (Err (Plan (Unused a.node)))
    (cond (eqb a.number 5) (Err (Plan (TooWide a.node)))
    (cond (eqb a.number 6) (Err (Plan (OpenTwice a.node)))
    (cond (eqb a.number 7) (Err (Plan (NoColumn a.node)))
    (cond (eqb a.number 8) (Err OverLimits) (Err NoRoom)))))))))

named : (r : Result ℕ RewriteRefusal) → rewritten_from (rewriting_of r) ≡ r
named (Ok n) = refl
named (Err (Plan Header)) = refl
named (Err (Plan Limits)) = refl
named (Err (Plan (Malformed n))) = refl
named (Err (Plan (Unused n))) = refl
named (Err (Plan (TooWide n))) = refl
named (Err (Plan (OpenTwice n))) = refl
named (Err (Plan (NoColumn n))) = refl
named (Err OverLimits) = refl
named (Err NoRoom) = refl

pub one_answer : (r s : Result ℕ RewriteRefusal) → rewriting_of r ≡ rewriting_of s → r ≡ s
one_answer r s e = sym (named r) ∙ ap rewritten_from e ∙ named s
