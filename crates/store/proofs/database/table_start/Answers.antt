use native.Mathlib.Omega.{arith}
use Rattle.store.proofs.Laws.Tables.{start_none, start_more, start_end, table_small}
use Rattle.plan.proofs.Laws.Formed.{limited}
use Rattle.store.proofs.database.table_start.Goals as goal

pub loop-i-init : goal.loop-i-init
loop-i-init c = (start_none _ _, omega arith)

pub loop-i-preserved : goal.loop-i-preserved
loop-i-preserved c =
    let p = c.requires in (
      start_more _ _ c.loop-i.i c.table_width.ensures c.loop-i.invariant.0,
      omega (arith, table_small _ c.args.counts.now c.loop-i.i c.table_width.ensures p.3 p.0 (omega arith)),
    )

pub returns : goal.returns
returns c =
    let p = c.requires in
    (start_end _ _ c.loop-i.invariant.0 c.loop-i-test.false (omega arith), omega (arith, (limited _ p.0).tables_few))
