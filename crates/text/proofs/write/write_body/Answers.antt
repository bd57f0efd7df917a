use native.Mathlib.Omega.{arith}
use Rattle.text.specs.Steps.{counts}
use Rattle.text.proofs.Laws.WrittenLines.{lines_none, lines_room, lines_narrow, lines_more, lines_all}
use Rattle.text.proofs.write.write_body.Goals as goal

pub loop-k-init : goal.loop-k-init
loop-k-init c = (omega arith, lines_none (counts c.args.s) c.args.words.now c.args.text.now c.args.at c.requires.words_there)

pub slice_bounds-write_line-end : goal.slice_bounds-write_line-end
slice_bounds-write_line-end c = let a = c.args in
    let l = c.loop-k in
    let f = c.form_at-form in
    let r = lines_room (counts a.s) a.words.now a.text.now a.at l.text l.k l.next l.from f.result (omega arith) f.ensures l.invariant.1 in
    omega (arith, r)

pub write_line-next-requires-clause-row_len_bound : goal.write_line-next-requires-clause-row_len_bound
write_line-next-requires-clause-row_len_bound c = let a = c.args in
    let l = c.loop-k in
    let f = c.form_at-form in
    lines_narrow (counts a.s) a.words.now a.text.now a.at l.text l.k l.next l.from f.result (omega arith) f.ensures l.invariant.1 a.s.few_tables

pub loop-k-preserved : goal.loop-k-preserved
loop-k-preserved c = let a = c.args in
    let l = c.loop-k in
    let f = c.form_at-form in
    let n = c.write_line-next in
    let u = lines_more (counts a.s) a.words.now a.text.now a.at l.text l.k l.next l.from f.result (omega arith) f.ensures l.invariant.1 n.new.text n.result
    n.ensures.written_to in
    (omega arith, u)

pub returns-clause-written_to : goal.returns-clause-written_to
returns-clause-written_to c = let l = c.loop-k in
    let a = c.args in
    lines_all (counts a.s) a.words.now a.text.now a.at l.text l.k l.next l.from (omega arith) l.invariant.1
