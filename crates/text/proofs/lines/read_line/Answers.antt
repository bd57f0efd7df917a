use native.Mathlib.Omega.{arith}
use Rattle.text.proofs.Laws.Stepped.{line_bad, line_more, line_end}
use Rattle.text.proofs.lines.read_line.Goals as goal

pub returns-in_err-f : goal.returns-in_err-f
returns-in_err-f c = let a = c.args in
    let l = c.loop-j in
    rw c.from_residual.ensures (line_bad a.text.now a.at a.form a.words.now a.to l.words l.j l.next l.last l.before l.invariant.1 c.loop-j-test.true
    c.is_constant-signed.ensures c.end_of.ensures c.in_err-f.ensures)

pub loop-j-preserved : goal.loop-j-preserved
loop-j-preserved c = let a = c.args in
    let l = c.loop-j in
    let f = c.in_ok-f.ensures in (
      f.1,
      line_more a.text.now a.at a.form a.words.now a.to l.words l.j l.next l.last l.before l.invariant.1 c.loop-j-test.true
          c.is_constant-signed.ensures c.end_of.ensures f.0 c.put.ensures,
    )

pub returns : goal.returns
returns c = let a = c.args in
    let l = c.loop-j in
    line_end a.text.now a.at a.form a.words.now a.to l.words l.j l.next l.last l.before l.invariant.1 (omega arith) (omega arith) l.invariant.0
