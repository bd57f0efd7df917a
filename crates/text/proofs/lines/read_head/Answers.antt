use Rattle.text.proofs.Laws.Fields.{word_is}
use Rattle.text.proofs.Laws.Judged.{no_tables, no_nodes, no_items, head_found}
use Rattle.text.proofs.lines.read_head.Goals as goal

pub returns-in_err-tables : goal.returns-in_err-tables
returns-in_err-tables c = rw c.from_residual.ensures (no_tables c.args.text.now c.in_err-tables.ensures)

pub returns-in_err-nodes : goal.returns-in_err-nodes
returns-in_err-nodes c = let t = c.in_ok-tables in
    rw c.from_residual-in_err-nodes.ensures (no_nodes c.args.text.now t.tables.word t.tables.next t.ensures.0 c.in_err-nodes.ensures)

pub returns-in_err-items : goal.returns-in_err-items
returns-in_err-items c = let t = c.in_ok-tables in
    let n = c.in_ok-nodes in
    rw c.from_residual-in_err-items.ensures
    (no_items c.args.text.now t.tables.word t.tables.next t.ensures.0 n.nodes.word n.nodes.next n.ensures.0 c.in_err-items.ensures)

pub invariant_of-s : goal.invariant_of-s
invariant_of-s c = record {
  few_tables = (word_is 1 16 32 _ _ _ c.in_ok-tables.ensures.0).1;
  few_nodes = (word_is 1 256 32 _ _ _ c.in_ok-nodes.ensures.0).1;
  few_items = (word_is 0 2000 10 _ _ _ c.in_ok-items.ensures.0).1;
}

pub returns : goal.returns
returns c = let t = c.in_ok-tables in
    let n = c.in_ok-nodes in
    let i = c.in_ok-items in
    (head_found c.args.text.now t.tables.word t.tables.next t.ensures.0 n.nodes.word n.nodes.next n.ensures.0 i.items.word i.items.next i.ensures.0, i.ensures.1)
