use Rattle.operators.proofs.Laws.Computations.{combined_null, sum_fits, difference_fits, combined_sum, combined_difference}
use Rattle.operators.proofs.select.combine.Goals as goal

pub returns-in_default : goal.returns-in_default
returns-in_default c =
    combined_null c.args.operation c.in_default.not-Copy c.args.a c.args.b c.ranges.a c.ranges.b c.then-a-eq-NULL.either

pub overflow_add-result : goal.overflow_add-result
overflow_add-result c =
    sum_fits c.args.a c.args.b c.ranges.a c.ranges.b c.if-a-eq-NULL.false c.if-b-eq-NULL.false c.requires.0 c.requires.1

pub returns-in-Add : goal.returns-in-Add
returns-in-Add c =
    rw c.in-Add.is
    (combined_sum c.args.a c.args.b c.ranges.a c.ranges.b c.if-a-eq-NULL.false c.if-b-eq-NULL.false c.requires.0 c.requires.1)

pub overflow_sub-result : goal.overflow_sub-result
overflow_sub-result c =
    difference_fits c.args.a c.args.b c.ranges.a c.ranges.b c.if-a-eq-NULL.false c.if-b-eq-NULL.false c.requires.0 c.requires.1

pub returns-in-Subtract : goal.returns-in-Subtract
returns-in-Subtract c =
    rw c.in-Subtract.is
    (combined_difference c.args.a c.args.b c.ranges.a c.ranges.b c.if-a-eq-NULL.false c.if-b-eq-NULL.false c.requires.0 c.requires.1)
