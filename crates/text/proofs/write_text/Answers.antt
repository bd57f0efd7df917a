use mathlib.Core.Path.{sym}
use Rattle.text.proofs.Laws.WrittenTable.{no_header, no_limits, no_room, all_written}
use Rattle.text.proofs.write_text.Goals as goal

pub returns-then-not-header_right : goal.returns-then-not-header_right
returns-then-not-header_right c = let said = no_header c.args.words.now c.args.text.now (sym c.if-not-header_right.ensures) in
    record { answer = said.0; text_after = said.1 }

pub returns-then-not-limits_right : goal.returns-then-not-limits_right
returns-then-not-limits_right c = let said = no_limits c.args.words.now c.args.text.now (sym c.if-not-header_right.ensures) (sym c.if-not-limits_right.ensures) in
    record { answer = said.0; text_after = said.1 }

pub returns-then-not-has_room : goal.returns-then-not-has_room
returns-then-not-has_room c = let a = c.args in
    let said = no_room a.words.now a.text.now (sym c.if-not-header_right.ensures) (sym c.if-not-limits_right.ensures) (sym c.if-not-has_room.ensures) in
    record { answer = said.0; text_after = said.1 }

pub returns : goal.returns
returns c = let a = c.args in
    let w = c.write_table-count in
    let said = all_written a.words.now a.text.now (sym c.if-not-header_right.ensures) (sym c.if-not-limits_right.ensures) (sym c.if-not-has_room.ensures)
    w.new.text w.result w.ensures.written_to in
    record { answer = said.0; text_after = said.1 }
