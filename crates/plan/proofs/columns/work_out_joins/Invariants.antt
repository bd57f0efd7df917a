use Rattle.plan.proofs.Laws.Scope.{Entered}
use Rattle.plan.proofs.columns.work_out_joins.Given as goal

abbrev pub invariant-loop-p : goal.invariant-loop-p
invariant-loop-p l = Entered l.words l.reaches l.joins l.p
