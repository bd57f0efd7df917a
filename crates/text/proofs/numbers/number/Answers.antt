use native.Mathlib.Omega.{arith}
use mathlib.Core.Path.{sym, ◌∙◌}
use Rattle.text.proofs.Laws.Digits.{no_number, zero_number, some_number, said}
use Rattle.text.proofs.numbers.number.Goals as goal

pub returns-then-not-is_ascii_digit : goal.returns-then-not-is_ascii_digit
returns-then-not-is_ascii_digit c = let y = c.byte-b in
    no_number c.args.text.now c.args.at y.result y.ensures (sym c.if-not-is_ascii_digit.ensures.value)

pub returns-then-b-eq48 : goal.returns-then-b-eq48
returns-then-b-eq48 c = let y = c.byte-b in
    said c.args.high (zero_number c.args.text.now c.args.at y.result y.ensures (omega arith))

pub returns : goal.returns
returns c = let y = c.byte-b in
    let n = some_number c.args.text.now c.args.at y.result y.ensures (sym c.if-not-is_ascii_digit.ensures.value) (λ e. omega (arith, e)) in
    λ low e. c.digits_on.ensures low e ∙ said c.args.high n low e
