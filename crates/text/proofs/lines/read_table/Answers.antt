use native.Mathlib.Omega.{arith}
use mathlib.Core.Path.{ap, ◌∙◌}
use mathlib.Core.List.{◌++◌}
use Rattle.text.specs.Reading.{header, bad_line}
use Rattle.text.specs.Steps.{counts}
use Rattle.text.proofs.Laws.Judged.{surplus, all_read, table_stored}
use Rattle.text.proofs.lines.read_table.Goals as goal

pub returns-then-next-text : goal.returns-then-next-text
returns-then-next-text c = let h = c.in-Some in
    let b = c.in_ok-next in
    surplus c.args.text.now (counts h.s) h.at h.ensures.0 b.ensures.2.0 b.next b.ensures.2.2 c.if-next-text.true ∙ ap bad_line (omega (arith, c.line_count.ensures))

pub returns : goal.returns
returns c = let h = c.in-Some in
    let b = c.in_ok-next in
    let r = b.ensures in (
      r.1,
      (
        header (counts h.s) ++ r.2.0,
        r.2.1,
        all_read c.args.text.now (counts h.s) h.at h.ensures.0 r.2.0 b.next r.2.2 c.if-next-text.false,
        table_stored (counts h.s) c.args.words.now c.put_header.new.words c.read_body.new.words r.2.0 c.put_header.ensures r.2.3,
      ),
    )
