use native.Mathlib.Omega.{arith}
use Rattle.text.proofs.Laws.WrittenTable.{room_for_all}
use Rattle.text.proofs.has_room.Goals as goal

pub returns-then-room-ge-LONGEST : goal.returns-then-room-ge-LONGEST
returns-then-room-ge-LONGEST c = let r = c.requires in
    room_for_all c.args.words.now c.args.room (λ i. omega (arith, c.type_inv.words i)) r.header r.limits (omega arith)
