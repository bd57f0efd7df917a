use mathlib.Core.Path.{sym}
use Rattle.text.proofs.Laws.Digits.{plain_constant}
use Rattle.text.proofs.Laws.Stepped.{minus_found, minus_bad}
use Rattle.text.proofs.numbers.constant.Goals as goal

pub returns-then-byte-ne45 : goal.returns-then-byte-ne45
returns-then-byte-ne45 c = let a = c.args in
    rw (sym (plain_constant a.text.now a.at c.byte.result c.byte.ensures a.end c.if-byte-ne45.true)) c.word.ensures

pub returns-in_err-f : goal.returns-in_err-f
returns-in_err-f c = let a = c.args in
    rw c.from_residual.ensures (minus_bad a.text.now a.at c.byte.result c.byte.ensures c.if-byte-ne45.false a.end c.in_err-f.ensures)

pub returns : goal.returns
returns c = let a = c.args in
    let f = c.in_ok-f in
    (minus_found a.text.now a.at c.byte.result c.byte.ensures c.if-byte-ne45.false a.end f.f.word f.f.next f.ensures.0 c.wrapping_neg.ensures c.wrapping_neg.type_inv, f.ensures.1)
