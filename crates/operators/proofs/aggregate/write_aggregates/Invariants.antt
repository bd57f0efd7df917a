use mathlib.Core.Path.{◌≡◌}
use mathlib.Core.Bool.{true}
use mathlib.Core.List.{map}
use lib.ListN.{length}
use Rattle.algebra.specs.Lists.{all}
use Rattle.algebra.specs.Operators.{aggregates}
use Rattle.store.specs.Cells.{cell, in_range, written}
use Rattle.store.specs.Rows.{row_of}
use Rattle.operators.specs.Choice.{aggregates_from}
use Rattle.operators.proofs.aggregate.write_aggregates.Given as goal

abbrev pub invariant-loop-i : goal.invariant-loop-i
invariant-loop-i l =
    (length l.scratch ≡ length l.initial.scratch)
    × (all in_range (aggregates (aggregates_from l.words l.aggregates.first l.i) (map (row_of l.cells l.initial.scratch l.b) l.found)) ≡ true)
    × (l.scratch ≡ written l.initial.scratch l.to
    (map cell (aggregates (aggregates_from l.words l.aggregates.first l.i) (map (row_of l.cells l.initial.scratch l.b) l.found))))
