-- What the code's enums of kinds, tests, operations and aggregates mean.
use Rattle.std.specs.Prelude.{◌≡◌, Bool, false, not, cond, ℕ, eqb, Result, MatchResult}
use Rattle.algebra.specs.Value as values
use Rattle.algebra.specs.Plan as algebra
use Rattle.plan.specs.Items.{between}
use Rattle.plan.specs.declared.operator.Operator.{Operator}
use Rattle.plan.specs.declared.operator.Operator.TheVariants.{Scan, Select, Map, Project, Join, Group, Groupjoin, Dependent}
use Rattle.plan.specs.declared.operator.UnknownOperator.{UnknownOperator}
use Rattle.plan.specs.declared.kinds.JoinKind.{JoinKind}
use Rattle.plan.specs.declared.kinds.JoinKind.TheVariants.{Inner, Semi, Anti, LeftOuter}
use Rattle.plan.specs.declared.sorts.Test.{Test}
use Rattle.plan.specs.declared.sorts.Test.TheVariants.{Equal, Unequal, Less, AtMost, More, AtLeast, Same}
use Rattle.plan.specs.declared.sorts.Operation.{Operation}
use Rattle.plan.specs.declared.sorts.Operation.TheVariants.{Copy, Add, Subtract}
use Rattle.plan.specs.declared.sorts.Aggregate.{Aggregate}
use Rattle.plan.specs.declared.sorts.Aggregate.TheVariants.{Count, Sum, Minimum, Maximum}

-- "1 scan, 2 select, 3 map, 4 project, 5 join, 6 group, 7 groupjoin, 8 dependent join"
unfoldable pub operator_of : ℕ → Operator
operator_of o =
    cond (eqb o 1) Scan
    (cond (eqb o 2) Select
    (cond (eqb o 3) Map
    (cond (eqb o 4) Project
    (cond (eqb o 5) Join
    (cond (eqb o 6) Group
    (cond (eqb o 7) Groupjoin Dependent))))))

abbrev pub number_of : Operator → ℕ
number_of Scan = 1
number_of Select = 2
number_of Map = 3
number_of Project = 4
number_of Join = 5
number_of Group = 6
number_of Groupjoin = 7
number_of Dependent = 8

-- a scan names a table; every other operator has a left input
abbrev pub has_left : ℕ → Bool
has_left o = not (eqb o 1)

-- the operator of a number, where one has it
abbrev pub Numbered : ℕ → Result Operator UnknownOperator → Type 0
Numbered o r = MatchResult r (λ x. number_of x ≡ o) (λ e. between 1 8 o ≡ false)

abbrev pub meant_kind : JoinKind → algebra.Kind
meant_kind Inner = algebra.inner
meant_kind Semi = algebra.semi
meant_kind Anti = algebra.anti
meant_kind LeftOuter = algebra.left_outer

abbrev pub meant_test : Test → values.Test
meant_test Equal = values.equal
meant_test Unequal = values.unequal
meant_test Less = values.less
meant_test AtMost = values.at_most
meant_test More = values.more
meant_test AtLeast = values.at_least
meant_test Same = values.same

-- "Computations: 8 copy .., 9 add, 10 subtract."
unfoldable pub operation_of : ℕ → Operation
operation_of tag = cond (eqb tag 8) Copy (cond (eqb tag 9) Add Subtract)

abbrev pub meant_aggregate : Aggregate → algebra.Aggregate
meant_aggregate Count = algebra.count
meant_aggregate (Sum p) = algebra.sum p
meant_aggregate (Minimum p) = algebra.minimum p
meant_aggregate (Maximum p) = algebra.maximum p
