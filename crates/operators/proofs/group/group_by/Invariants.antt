use mathlib.Core.Path.{◌≡◌}
use lib.ListN.{length}
use Rattle.store.specs.Rows.{row_of}
use Rattle.operators.specs.Choice.{aggregates_from}
use Rattle.operators.proofs.Laws.Groups.{Grouped}
use Rattle.operators.proofs.group.group_by.Given as goal

abbrev pub invariant-loop-left : goal.invariant-loop-left
invariant-loop-left l =
    Grouped l.keyed (aggregates_from l.words l.aggregates.first l.aggregates.count) (row_of l.cells l.initial.scratch l.b) l.b.count
    l.width l.to l.initial.scratch l.scratch l.rest l.left l.groups
    × (length l.scratch ≡ length l.initial.scratch) × (length l.found ≡ length l.initial.found)
    × (length l.rest ≡ 4096)

abbrev pub decreases-loop-left : goal.decreases-loop-left
decreases-loop-left l = l.left
