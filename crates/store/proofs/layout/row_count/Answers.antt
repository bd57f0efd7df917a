use Rattle.store.proofs.Laws.Layouts.{count_read}
use Rattle.store.proofs.layout.row_count.Goals as goal

pub returns : goal.returns
returns c = count_read c.args.words.now c.args.layout.now c.requires.2
