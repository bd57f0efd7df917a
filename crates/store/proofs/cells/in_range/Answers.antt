use mathlib.Core.Path.{◌∙◌}
use Rattle.store.proofs.Laws.Ranges.{null_ranged, low_ranged, high_ranged}
use Rattle.store.proofs.cells.in_range.Goals as goal

pub returns-then-x-eq-NULL : goal.returns-then-x-eq-NULL
returns-then-x-eq-NULL c = rw c.if-x-eq-NULL.true (null_ranged _ c.ranges.x c.if-x-eq-NULL.true)

pub returns-then-x : goal.returns-then-x
returns-then-x c = high_ranged _ c.ranges.x c.if-x-eq-NULL.false c.if-x.true

pub returns-else-x : goal.returns-else-x
returns-else-x c = c.if-x.false ∙ low_ranged _ c.ranges.x c.if-x-eq-NULL.false c.if-x.false
