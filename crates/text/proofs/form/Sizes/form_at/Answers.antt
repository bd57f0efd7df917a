use native.Mathlib.Omega.{arith}
use Rattle.text.specs.Steps.{counts}
use Rattle.text.proofs.Laws.Forms.{widths_at, nodes_at, items_at}
use Rattle.text.proofs.form.Sizes.form_at.Goals as goal

pub returns-then-k-eq0 : goal.returns-then-k-eq0
returns-then-k-eq0 c = widths_at (counts c.args.self) _ c.if-k-eq0.true

pub returns-then-k-self : goal.returns-then-k-self
returns-then-k-self c = nodes_at (counts c.args.self) _ c.if-k-eq0.false (omega arith)

pub returns-else-k-self : goal.returns-else-k-self
returns-else-k-self c = items_at (counts c.args.self) _ (omega arith) (omega arith)
