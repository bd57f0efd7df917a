-- The terms of the code, and what each means.
use Rattle.algebra.specs.Plan as algebra
use Rattle.plan.specs.declared.terms.Term.{Term}
use Rattle.plan.specs.declared.terms.Term.TheVariants.{Local, Outer, Constant, Null}

abbrev pub meant : Term → algebra.Term
meant (Local p) = algebra.column p
meant (Outer l p) = algebra.outer l p
meant (Constant z) = algebra.constant z
meant Null = algebra.nothing
