use mathlib.Core.Path.{refl, sym, ◌∙◌}
use lib.ListN.{drop}
use Rattle.text.proofs.Laws.Digits.{digits_end, digits_more, digits_out, said, said_over}
use Rattle.text.proofs.numbers.digits_on.Goals.{then-high-value-via-then-high-value, then-high-value-via-else-high-value+then-not-is_ascii_digit}
use Rattle.text.proofs.numbers.digits_on.Goals as goal

pub returns-then-high-value : goal.returns-then-high-value
returns-then-high-value c = let t = c.args.text.now in
    let l = c.loop-i in
    elim c.then-high-value.branch [
      | then-high-value-via-then-high-value w ↦ said_over c.args.high l.value (drop l.i t) l.invariant w.if-high-value.true
      | then-high-value-via-else-high-value+then-not-is_ascii_digit w ↦
          said c.args.high (l.invariant ∙ digits_end t l.i _ refl l.value (sym w.if-not-is_ascii_digit.ensures.value))
    ]

pub loop-i-preserved : goal.loop-i-preserved
loop-i-preserved c = let t = c.args.text.now in
    let l = c.loop-i in
    l.invariant ∙ digits_more t l.i _ refl l.value (sym c.if-not-is_ascii_digit.ensures.value)

pub returns : goal.returns
returns c = let t = c.args.text.now in
    let l = c.loop-i in
    said c.args.high (l.invariant ∙ digits_out t l.i l.value c.loop-i-test.false)
