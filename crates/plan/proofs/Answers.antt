-- What the public functions state fixes their answers: verdicts with the same number and node are equal, and terms with the same meaning.
use mathlib.Core.Path.{◌≡◌, refl, sym, ap, ◌∙◌}
use mathlib.Core.Bool.{cond}
use lib.Dec.{eqb}
use Rattle.std.specs.Prelude.{Result, Ok, Err}
use Rattle.plan.specs.declared.Refusal.{Refusal}
use Rattle.plan.specs.declared.Refusal.TheVariants.{Header, Limits, Malformed, Unused, TooWide, OpenTwice, NoColumn}
use Rattle.algebra.specs.Plan as algebra
use Rattle.plan.specs.declared.terms.Term.{Term}
use Rattle.plan.specs.declared.terms.Term.TheVariants.{Local, Outer, Constant, Null}
use Rattle.plan.specs.Terms.{meant}
use Rattle.plan.specs.Verdict.{Answer}
use Rattle.plan.specs.Answers.{answer_of}

-- the refusal that a number and a node name
abbrev refusal_from : Answer → Refusal
refusal_from a =
    cond (eqb a.number 1) Header
    (cond (eqb a.number 2) Limits
    (cond (eqb a.number 3) (Malformed a.node)
    (cond (eqb a.number 4) (Unused a.node)
    (cond (eqb a.number 5) (TooWide a.node)
    (cond (eqb a.number 6) (OpenTwice a.node) (NoColumn a.node))))))

-- the verdict that they name
abbrev verdict_from : Answer → Result (Unit {0}) Refusal
verdict_from a = cond (eqb a.number 0) (Ok tt) (Err (refusal_from a))

-- a verdict is the one that its answer names
named : (v : Result (Unit {0}) Refusal) → verdict_from (answer_of v) ≡ v
named (Ok tt) = refl
named (Err Header) = refl
named (Err Limits) = refl
named (Err (Malformed n)) = refl
named (Err (Unused n)) = refl
named (Err (TooWide n)) = refl
named (Err (OpenTwice n)) = refl
named (Err (NoColumn n)) = refl

-- verdicts with the same answer are equal
pub one_answer : (v w : Result (Unit {0}) Refusal) → answer_of v ≡ answer_of w → v ≡ w
one_answer v w e = sym (named v) ∙ ap verdict_from e ∙ named w

-- the term that means one of the algebra's
abbrev term_from : algebra.Term → Term
term_from (algebra.column p) = Local p
term_from (algebra.outer l p) = Outer l p
term_from (algebra.constant z) = Constant z
term_from algebra.nothing = Null

term_named : (t : Term) → term_from (meant t) ≡ t
term_named (Local p) = refl
term_named (Outer l p) = refl
term_named (Constant z) = refl
term_named Null = refl

-- terms with the same meaning are equal
pub one_term : (t u : Term) → meant t ≡ meant u → t ≡ u
one_term t u e = sym (term_named t) ∙ ap term_from e ∙ term_named u
