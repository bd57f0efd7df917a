use mir.Syntax.{w64}
use mir.ValLaws.{to_z-of_z}
use Rattle.operators.proofs.Laws.Sums.{better_of_null, better_than_null, better_least, better_greatest}
use Rattle.operators.proofs.aggregate.better_cell.Goals as goal

pub returns-then-a-eq-NULL : goal.returns-then-a-eq-NULL
returns-then-a-eq-NULL c = let f = c.ranges in better_of_null _ _ c.args.order f.a f.b c.if-a-eq-NULL.true

pub returns-then-b-eq-NULL : goal.returns-then-b-eq-NULL
returns-then-b-eq-NULL c = let f = c.ranges in better_than_null _ _ c.args.order f.a f.b c.if-a-eq-NULL.false c.if-b-eq-NULL.true

pub returns-in-Least : goal.returns-in-Least
returns-in-Least c =
    rw (
      c.in-Least.is,
      to_z-of_z w64 c.min.result (record { sfits = c.min.type_inv }),
      c.min.ensures.value,
      to_z-of_z w64 c.args.a c.ranges.a,
      to_z-of_z w64 c.args.b c.ranges.b,
    )
    (better_least c.args.a c.args.b c.if-a-eq-NULL.false c.if-b-eq-NULL.false)

pub returns-in-Greatest : goal.returns-in-Greatest
returns-in-Greatest c =
    rw (
      c.in-Greatest.is,
      to_z-of_z w64 c.max.result (record { sfits = c.max.type_inv }),
      c.max.ensures.value,
      to_z-of_z w64 c.args.a c.ranges.a,
      to_z-of_z w64 c.args.b c.ranges.b,
    )
    (better_greatest c.args.a c.args.b c.if-a-eq-NULL.false c.if-b-eq-NULL.false)
