use native.Mathlib.Omega.{arith}
use Rattle.plan.proofs.Laws.Header.{header_says, limits_say}
use Rattle.text.proofs.Laws.WrittenTable.{table_written}
use Rattle.text.proofs.write.write_table.Goals as goal

pub invariant_of-s : goal.invariant_of-s
invariant_of-s c = let m = limits_say c.args.words.now c.requires.limits in
    record { few_tables = omega arith; few_nodes = omega arith; few_items = omega arith }

pub write_body-requires-clause-words_there : goal.write_body-requires-clause-words_there
write_body-requires-clause-words_there c = let d = header_says c.args.words.now c.requires.header in
    omega arith

pub returns-clause-written_to : goal.returns-clause-written_to
returns-clause-written_to c = let a = c.args in
    let l = c.write_line-next in
    let b = c.write_body in
    table_written a.words.now c.requires.header c.requires.limits c.tables.result c.nodes.result c.items.result c.tables.ensures c.nodes.ensures c.items.ensures
    a.text.now l.new.text l.result b.new.text b.result l.ensures.written_to b.ensures.written_to
