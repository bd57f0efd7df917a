use native.Mathlib.Omega.{arith}
use Rattle.text.proofs.Laws.Writing.{one_digit, digits_counted}
use Rattle.text.proofs.write.digit_count.Goals as goal

pub returns-in-Some-clause-value : goal.returns-in-Some-clause-value
returns-in-Some-clause-value c = let p = c.in-Some in
    digits_counted p.power c.args.n p.ensures.power_le p.ensures.next_power_gt

pub returns-in-None-clause-value : goal.returns-in-None-clause-value
returns-in-None-clause-value c = one_digit c.args.n (omega (arith, c.in-None.ensures.none))
