use native.Mathlib.Omega.{arith}
use Rattle.text.proofs.Laws.Writing.{plain_written, positive_written, negative_written}
use Rattle.text.proofs.write.write_number.Goals.{then-not-constant-via-then-not-constant, then-not-constant-via-else-not-constant+then-w-lt-NEGATIVE}
use Rattle.text.proofs.write.write_number.Goals as goal

pub returns-then-not-constant-clause-written_to : goal.returns-then-not-constant-clause-written_to
returns-then-not-constant-clause-written_to c = let a = c.args in
    let d = c.write_decimal in
    elim c.then-not-constant.branch [
      | then-not-constant-via-then-not-constant w ↦ plain_written a.constant a.text.now a.at a.w d.new.text d.result w.if-not-constant.true d.ensures.written_to
      | then-not-constant-via-else-not-constant+then-w-lt-NEGATIVE w ↦
          positive_written a.constant a.text.now a.at a.w d.new.text d.result w.if-not-constant.false w.if-w-lt-NEGATIVE.true d.ensures.written_to
    ]

pub returns-clause-written_to : goal.returns-clause-written_to
returns-clause-written_to c = let a = c.args in
    let d = c.write_decimal-2 in
    negative_written a.constant a.text.now a.at a.w c.wrapping_neg.result c.put.new.to d.new.text d.result c.if-not-constant.false
    c.if-w-lt-NEGATIVE.false (omega arith) c.put.ensures d.ensures.written_to
