use mathlib.Core.Path.{◌≡◌, refl, sym, ap, ◌∙◌}
use mathlib.Core.List.{map}
use Prim.Native.Nat.{◌+◌}
use native.Mathlib.Omega.{arith}
use lib.ListN.{length-set}
use mir.Syntax.{w64}
use mir.Val.{to_z, of_z}
use mir.ValLaws.{to_z-of_z}
use Rattle.algebra.specs.Operators.{aggregated}
use Rattle.plan.specs.Words.{item_at}
use Rattle.plan.specs.Items.{aggregate_of}
use Rattle.store.specs.Cells.{in_range, value}
use Rattle.store.specs.Rows.{row_of}
use Rattle.operators.proofs.Laws.Answers.{put_of}
use Rattle.store.proofs.Laws.Cells.{written_nothing}
use Rattle.operators.proofs.Laws.Aggregates.{chosen_there, turn_ranged, turn_entry, range_fails, range_more, row_written}
use Rattle.operators.proofs.aggregate.write_aggregates.Goals.{After-aggregate_cell-x}
use Rattle.operators.proofs.aggregate.write_aggregates.Goals as goal

pub loop-i-init : goal.loop-i-init
loop-i-init c = (refl, refl, sym (written_nothing _ _))

pub aggregate_cell-x-requires : goal.aggregate_cell-x-requires
aggregate_cell-x-requires c =
    let a = c.args in
    let l = c.loop-i in
    let p = c.requires.input in (
      p.1,
      chosen_there a.cells.now l.scratch a.b a.to p.0.0 p.2 (omega arith) c.rows.ensures,
      p.0.2,
      turn_ranged a.words.now a.aggregates.first a.cells.now a.scratch.now a.b a.to a.found.now p.2 p.0.0 l.i l.scratch _ (omega arith)
          l.invariant.2 c.rows.ensures p.3,
    )

-- the cell worked out is the next aggregate
entry_is : (c : After-aggregate_cell-x)
    → value (to_z w64 (of_z w64 c.aggregate_cell-x.result))
    ≡ aggregated (aggregate_of (item_at c.args.words.now (c.args.aggregates.first + c.loop-i.i)))
    (map (row_of c.args.cells.now c.args.scratch.now c.args.b) c.args.found.now)
entry_is c =
    let a = c.args in
    let l = c.loop-i in
    let p = c.requires.input in
    let r = c.aggregate_cell-x in
    turn_entry a.words.now a.aggregates.first a.cells.now a.scratch.now a.b a.to a.found.now p.2 p.0.0 l.i l.scratch _ (omega arith)
    l.invariant.2 c.rows.ensures r.result _ _ r.ensures c.of-aggregate.ensures
    (to_z-of_z w64 r.result (record { sfits = r.type_inv }))

pub returns-then-not-in_range : goal.returns-then-not-in_range
returns-then-not-in_range c =
    let a = c.args in
    let l = c.loop-i in
    let e = entry_is (goal.at.returns-then-not-in_range c).After-aggregate_cell-x in (
      ap put_of (range_fails a.words.now a.aggregates.first (map (row_of a.cells.now a.scratch.now a.b) a.found.now) l.i a.aggregates.count
          (ap in_range (sym e) ∙ sym c.in_range.ensures ∙ c.if-not-in_range.true) (omega arith)),
      λ q. absurd (cc),
    )

pub loop-i-preserved : goal.loop-i-preserved
loop-i-preserved c =
    let a = c.args in
    let l = c.loop-i in
    let rs = map (row_of a.cells.now a.scratch.now a.b) a.found.now in
    let e = entry_is (goal.at.loop-i-preserved c).After-aggregate_cell-x in (
      simp length-set l.invariant.0,
      range_more a.words.now a.aggregates.first rs l.i l.invariant.1
          (ap in_range (sym e) ∙ sym c.in_range.ensures ∙ c.if-not-in_range.false),
      row_written a.words.now a.aggregates.first rs a.scratch.now l.scratch a.to l.i _ (omega arith) l.invariant.2 e,
    )
