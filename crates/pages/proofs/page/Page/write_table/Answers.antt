use native.Mathlib.Omega.{arith}
use mathlib.Core.Path.{ap, ◌∙◌}
use lib.ListN.{length}
use Rattle.pages.proofs.Laws.Output.{written}
use Rattle.pages.proofs.page.Page.write_table.Goals as goal

pub returns : goal.returns
returns c =
    let nodes = c.copy_from_slice-2.ensures.after in
    let items = c.copy_from_slice-3.ensures.after in
    written c.args.words.now c.args.out.now c.args.self.now (omega arith) (omega arith) _ _ _ _ _ c.tables-t.ensures c.requires.0
    c.copy_from_slice.ensures.after c.copy_words.ensures
    (nodes ∙ c.as_flattened.ensures.value) (ap length nodes ∙ c.as_flattened.ensures.len)
    (items ∙ c.as_flattened-2.ensures.value) (ap length items ∙ c.as_flattened-2.ensures.len)
