use native.Mathlib.Omega.{arith}
use Rattle.plan.proofs.Laws.Formed.{limited}
use Rattle.plan.proofs.Laws.Levels.{climb_start, climb_next, climb_none, climb_inside, climb_left, climb_end}
use Rattle.plan.proofs.columns.Lookup.outer_width.Goals as goal

pub bounds-self-n : goal.bounds-self-n
bounds-self-n c = omega (arith, (limited _ c.args.self.now.placed.formed.sized).nodes_few)

pub loop-init : goal.loop-init
loop-init c = climb_start c.args.self.now.placed c.requires (omega arith)

pub returns-in_default : goal.returns-in_default
returns-in_default c = climb_none c.loop.invariant c.in_default.is

pub bounds-self-p : goal.bounds-self-p
bounds-self-p c = climb_inside c.args.self.now.placed c.loop.invariant c.in-Some.is

pub loop-preserved : goal.loop-preserved
loop-preserved c = climb_next c.args.self.now.placed c.loop.invariant c.in-Some.is (omega arith)

pub bounds-self-left : goal.bounds-self-left
bounds-self-left c = climb_left c.args.self.now.placed c.loop.invariant c.in-Some-at.is c.left.ensures

pub returns-in-Some-at : goal.returns-in-Some-at
returns-in-Some-at c = climb_end c.args.self.now.placed c.loop.invariant c.in-Some-at.is c.left.ensures (omega arith)

pub returns-in-None : goal.returns-in-None
returns-in-None c = climb_none c.loop.invariant c.in-None.is
