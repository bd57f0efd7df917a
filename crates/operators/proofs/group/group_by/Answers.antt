use borrow.Author.Rules.{rules}
use mathlib.Core.List.{[], ◌∷◌}
use mathlib.Core.Path.{◌≡◌, ◌∙◌, refl}
use Prim.Native.Nat.{ℕ, ◌+◌}
use native.Mathlib.Omega.{arith}
use lib.ListN.{length, length-take, get_or, take}
use lib.Seq.{length-take-le}
use Rattle.std.proofs.lemmas.Result.{err_from_is_err_and}
use Rattle.algebra.specs.Lists.{done, more}
use Rattle.algebra.proofs.Lists.Every.{every_head}
use Rattle.operators.specs.Choice.{aggregates_from}
use Rattle.store.specs.Rows.{row_of}
use Rattle.operators.proofs.Laws.Partners.{before_within, before_later}
use Rattle.operators.proofs.Laws.Aggregates.{aggregates_length}
use Rattle.operators.proofs.Laws.Groups.{grouped_makes, grouped_none}
use Rattle.operators.proofs.Laws.OneGroup.{Round, round_begins, Turned, below_more, first_there, keyed_makes, part_there, place_fits, ranged_after, turned, turned_fails, turned_next}
use Rattle.operators.proofs.group.group_by.Goals.{After-split-parts}
use Rattle.operators.proofs.group.group_by.Goals as goal

-- ---- what is known in a round

round : (c : After-split-parts)
    → Round c.args.cells.now c.args.scratch.now c.args.b c.args.to (take c.args.keys.count c.read_positions.new.positions)
    (aggregates_from c.args.words.now c.args.aggregates.first c.args.aggregates.count) (c.args.keys.count + c.args.aggregates.count)
    c.loop-left.scratch c.loop-left.rest c.loop-left.left c.loop-left.groups
round c =
    let a = c.args in
    let l = c.loop-left.invariant in
    round_begins a.keys.first a.aggregates.first a.keys.count a.aggregates.count a.limit c.requires.before.0 l.0 c.loop-left-test.true l.3 c.requires.room

-- how many keys there are
keyed : (c : After-split-parts) → length (take c.args.keys.count c.read_positions.new.positions) ≡ c.args.keys.count
keyed c = length-take-le c.args.keys.count c.read_positions.new.positions (omega (arith, c.read_positions.auto.positions, c.requires.room.2))

turn : (c : After-split-parts)
    → Turned (take c.args.keys.count c.read_positions.new.positions)
    (aggregates_from c.args.words.now c.args.aggregates.first c.args.aggregates.count)
    (row_of c.args.cells.now c.args.scratch.now c.args.b) c.args.b.count c.loop-left.left c.split-parts.result.others
    (get_or c.loop-left.rest 0 0) (take c.loop-left.left c.loop-left.rest)
    (take c.split-parts.result.members c.split-parts.new.found) (take c.split-parts.result.others c.split-parts.new.rest)
turn c =
    let s = c.split-parts in
    turned (round c) c.rows.ensures refl s.result.members s.result.others s.new.found s.new.rest s.ensures.0 s.ensures.1
    s.ensures.3 s.auto.rest

-- ---- the goals

pub loop-left-init : goal.loop-left-init
loop-left-init c = (grouped_none _ _ _ _ _ _ _ _ c.choose_all.ensures, refl, refl, c.choose_all.auto.found)

pub split-parts-requires : goal.split-parts-requires
split-parts-requires c =
    let a = c.args in
    let p = c.requires in
    let l = c.loop-left in
    let round = round_begins a.keys.first a.aggregates.first a.keys.count a.aggregates.count a.limit p.before.0 l.invariant.0 c.loop-left-test.true l.invariant.3 p.room in
    let first = first_there round refl in
    let inside = before_within a.cells.now l.scratch a.to a.b p.before.0 (omega (arith, p.room.3, l.invariant.1)) in
    let there = part_there round c.rows.ensures inside in
    record {
      width_in_bounds = (search rules, omega (arith, first, p.room.4, p.room.5), every_head (there (_ ∷ []) (more first done)));
      n_in_bounds = (
        round.long,
        omega (arith, l.invariant.0.room, l.invariant.2, p.before.3, p.room.4, p.room.5),
        there _ l.invariant.0.below,
        below_more p.room.4 p.room.5 l.invariant.0.below,
      );
    }

pub pick_row-requires : goal.pick_row-requires
pick_row-requires c =
    let past = (goal.at.pick_row-requires c).After-split-parts in (
      (before_later c.args.cells.now c.args.to _ c.args.b c.requires.before.0 (omega arith), search rules, search rules),
      first_there (round past) refl,
      omega (arith, keyed past, place_fits (round past), c.loop-left.invariant.1),
    )

pub write_aggregates-requires-clause-input : goal.write_aggregates-requires-clause-input
write_aggregates-requires-clause-input c =
    let past = (goal.at.write_aggregates-requires-clause-input c).After-split-parts in
    let s = c.split-parts in
    let l = c.loop-left.invariant in
    let p = c.requires in (
      (before_later c.args.cells.now c.args.to _ c.args.b p.before.0 (omega arith), search rules, search rules),
      omega (arith, length-take {A = ℕ}, s.ensures.2, l.0.room, p.room.4, p.room.5),
      (turn past).those,
      ranged_after (round past) (first_there (round past) refl) (omega (arith, keyed past)) l.1 refl c.pick_row.ensures
          p.before.2 (turn past).those,
    )

pub returns-in_err-write_aggregates : goal.returns-in_err-write_aggregates
returns-in_err-write_aggregates c =
    let past = (goal.at.returns-in_err-write_aggregates c).After-split-parts in
    let a = c.args in
    let e = err_from_is_err_and c.from_residual.result c.from_residual.ensures.1 in
    rw (e.1, e.2)
    (keyed_makes a.cells.now a.scratch.now a.b (aggregates_from a.words.now a.aggregates.first a.aggregates.count) c.read_positions.ensures
    (turned_fails (round past) (first_there (round past) refl) (omega (arith, keyed past)) c.loop-left.invariant.1 refl
    c.pick_row.ensures (turn past) c.write_aggregates.ensures.0 c.in_err-write_aggregates.was a.limit
    c.requires.room.4 _))

pub loop-left-smaller : goal.loop-left-smaller
loop-left-smaller c = (turn (goal.at.loop-left-smaller c).After-split-parts).fewer

pub loop-left-preserved : goal.loop-left-preserved
loop-left-preserved c =
    let past = (goal.at.loop-left-preserved c).After-split-parts in
    let a = c.args in
    let s = c.split-parts in
    let l = c.loop-left.invariant in
    let w = c.write_aggregates in (
      turned_next (round past) (first_there (round past) refl) (omega (arith, keyed past)) l.1 refl c.pick_row.ensures
          (turn past) w.ensures.0 c.in_ok-write_aggregates.was c.requires.before.2
          (λ rs. omega (arith, keyed past, aggregates_length a.words.now a.aggregates.first a.aggregates.count rs)) w.ensures.1 refl,
      w.auto.scratch ∙ c.pick_row.auto.scratch ∙ l.1,
      s.auto.found ∙ l.2,
      s.auto.rest ∙ l.3,
    )

pub returns : goal.returns
returns c =
    let a = c.args in
    keyed_makes a.cells.now a.scratch.now a.b (aggregates_from a.words.now a.aggregates.first a.aggregates.count) c.read_positions.ensures
    (grouped_makes _ _ _ _ _ _ _ c.loop-left.invariant.0 a.limit c.loop-left-test.false c.requires.room.4)
