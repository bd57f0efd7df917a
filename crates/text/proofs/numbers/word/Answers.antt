use native.Mathlib.Omega.{arith}
use mathlib.Core.Path.{refl, sym, ◌∙◌}
use lib.ListN.{drop}
use Rattle.text.proofs.Laws.Digits.{no_word, under_low, over_high, ends_early, other_end, right_end}
use Rattle.text.proofs.numbers.word.Goals.{then-value-low-via-then-value-low, then-value-low-via-else-value-low+then-value-high, then-text-next-via-then-text-next, then-text-next-via-else-text-next+then-text-next-2}
use Rattle.text.proofs.numbers.word.Goals as goal

pub returns-in_err-value : goal.returns-in_err-value
returns-in_err-value c = let a = c.args in
    rw c.from_residual.ensures (no_word a.low a.high a.end (drop a.at a.text.now) c.in_err-value.ensures)

pub returns-then-value-low : goal.returns-then-value-low
returns-then-value-low c = let a = c.args in
    let d = c.in_ok-value.field-0 in
    sym (c.in_ok-value.ensures a.low a.end)
    ∙ elim c.then-value-low.branch [
      | then-value-low-via-then-value-low w ↦ under_low a.low a.high a.end d.value (drop d.next a.text.now) w.if-value-low.true
      | then-value-low-via-else-value-low+then-value-high w ↦ over_high a.low a.high a.end d.value (drop d.next a.text.now) w.if-value-high.true
    ]

pub returns-then-text-next : goal.returns-then-text-next
returns-then-text-next c = let a = c.args in
    let d = c.in_ok-value.field-0 in
    sym (c.in_ok-value.ensures a.low a.end)
    ∙ elim c.then-text-next.branch [
      | then-text-next-via-then-text-next w ↦ ends_early a.text.now a.low a.high a.end d.value d.next w.if-text-next.true
      | then-text-next-via-else-text-next+then-text-next-2 w ↦ other_end a.text.now a.low a.high a.end d.value d.next _ refl w.if-text-next.false w.if-text-next-2.true
    ]

pub returns : goal.returns
returns c = let a = c.args in
    let d = c.in_ok-value.field-0 in (
      sym (c.in_ok-value.ensures a.low a.end)
          ∙ right_end a.text.now a.low a.high a.end d.value d.next _ refl c.if-text-next.false c.if-text-next-2.false (omega arith) (omega arith),
      omega arith,
    )
