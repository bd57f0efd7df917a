use Rattle.std.proofs.Common.{arith}
use Rattle.std.proofs.lemmas.Int.{ints}
use Rattle.plan.proofs.Laws.Terms.{read_signed}
use Rattle.plan.proofs.terms.signed_word.Goals as goal

pub returns : goal.returns
returns c = omega (arith, ints, read_signed _ c.ranges.w.fits)
