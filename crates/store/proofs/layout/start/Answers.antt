use mathlib.Core.Path.{refl}
use native.Mathlib.Omega.{arith}
use Rattle.plan.specs.declared.operator.Operator.TheVariants.{Scan}
use Rattle.plan.proofs.Laws.Formed.{facts_at, limited}
use Rattle.store.proofs.Laws.Layouts.{start_small}
use Rattle.store.proofs.Laws.Operators.{compared_is, compared_not}
use Rattle.store.proofs.layout.start.Goals as goal

pub table_start-requires : goal.table_start-requires
table_start-requires c =
    let p = c.requires in (
      p.0.formed.sized,
      omega (arith, (facts_at _ p.0.formed _ p.1).left_table (compared_is p.0.formed p.1 c.of.ensures Scan c.eq.ensures c.if-eq.true)),
      p.2,
      p.3,
    )

pub overflow_mul-result : goal.overflow_mul-result
overflow_mul-result c =
    let p = c.requires in
    omega (arith, start_small {n = c.args.n} (omega (arith, (limited _ p.0.formed.sized).nodes_few)) p.4)

pub returns-then-eq : goal.returns-then-eq
returns-then-eq c =
    let p = c.requires in
    (λ q. rw c.left.ensures at c.table_start.ensures.0, λ q. absurd (q (compared_is p.0.formed p.1 c.of.ensures Scan c.eq.ensures c.if-eq.true)))

pub returns : goal.returns
returns c =
    let p = c.requires in (λ q. absurd (compared_not p.0.formed p.1 c.of.ensures Scan c.eq.ensures c.if-eq.false q), λ q. refl)
