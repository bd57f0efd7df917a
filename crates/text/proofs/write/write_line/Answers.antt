use native.Mathlib.Omega.{arith}
use mathlib.Core.Path.{refl}
use Rattle.text.proofs.Laws.WrittenLines.{line_more, line_all}
use Rattle.text.proofs.write.write_line.Goals as goal

pub loop-j-preserved : goal.loop-j-preserved
loop-j-preserved c = let a = c.args in
    let l = c.loop-j in
    let n = c.write_number-next in
    let u = line_more a.item a.row.now a.text.now a.at l.text l.j l.next l.last l.before _ c.is_constant.result n.new.text n.result c.end_of.result c.put.new.to
    c.loop-j-test.true refl c.is_constant.ensures c.end_of.ensures l.invariant.1 n.ensures.written_to c.put.ensures in
    (omega arith, u)

pub returns-clause-written_to : goal.returns-clause-written_to
returns-clause-written_to c = let l = c.loop-j in
    let a = c.args in
    line_all a.item a.row.now a.text.now a.at l.text l.j l.next l.last l.before c.loop-j-test.false l.invariant.1
