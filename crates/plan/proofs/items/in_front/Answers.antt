use Rattle.plan.proofs.Laws.Items.{front_fails, front_passes}
use Rattle.plan.proofs.items.in_front.Goals as goal

pub returns-then-items_right : goal.returns-then-items_right
returns-then-items_right c =
    front_passes _ _ c.args.sort _ _ c.requires.1 c.items_right.ensures c.if-items_right.true c.items_right-then-items_right.ensures

pub returns-else-items_right : goal.returns-else-items_right
returns-else-items_right c = front_fails _ _ c.args.sort _ _ c.requires.1 c.items_right.ensures c.if-items_right.false
