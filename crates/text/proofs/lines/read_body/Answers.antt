use native.Mathlib.Omega.{arith}
use mathlib.Core.Path.{◌≡◌, ◌∙◌}
use Prim.Native.Nat.{◌+◌}
use Rattle.std.proofs.lemmas.Result.{err_from_is_err_and}
use Rattle.text.specs.Steps.{counts}
use Rattle.text.proofs.Laws.Forms.{narrow_form}
use Rattle.text.proofs.Laws.Stepped.{body_bad, body_more, body_end}
use Rattle.text.proofs.lines.read_body.Goals as goal

pub read_line-requires-clause-count_bound : goal.read_line-requires-clause-count_bound
read_line-requires-clause-count_bound c = narrow_form (counts c.args.s) c.args.s.few_tables c.loop-k.k _ c.form_at-form.ensures (omega arith)

pub returns-in_err-next : goal.returns-in_err-next
returns-in_err-next c = let a = c.args in
    let l = c.loop-k in
    let f = c.form_at-form in
    let p = err_from_is_err_and c.from_residual.result c.from_residual.ensures.1 in
    let e = c.in_err-next.ensures in
    let n : p.0 ≡ 2 + l.k = p.2 ∙ cc (rw e.ok_part at e.value) in
    rw (p.1, n) (body_bad a.text.now a.at (counts a.s) a.words.now l.words l.k l.next l.to l.invariant.2 (omega arith) f.result f.ensures (rw e.ok_part at c.read_line.ensures))

pub loop-k-preserved : goal.loop-k-preserved
loop-k-preserved c = let a = c.args in
    let l = c.loop-k in
    let f = c.form_at-form in
    let r = rw c.in_ok-next.ensures.ok_part at c.read_line.ensures in
    let n = narrow_form (counts a.s) a.s.few_tables l.k _ f.ensures (omega arith) in
    (r.0, omega (arith, n), body_more a.text.now a.at (counts a.s) a.words.now l.words l.k l.next l.to l.invariant.2 (omega arith) f.result f.ensures r)

pub returns : goal.returns
returns c = let a = c.args in
    let l = c.loop-k in
    body_end a.text.now a.at (counts a.s) a.words.now l.words l.k l.next l.to l.invariant.2 (omega arith) l.invariant.0 (omega arith)
