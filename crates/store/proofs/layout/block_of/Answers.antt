use Rattle.std.proofs.Common.{rules}
use Rattle.store.proofs.Laws.Operators.{scan_read}
use Rattle.store.proofs.layout.block_of.Goals as goal

pub returns : goal.returns
returns c = rw (scan_read _ c.of.ensures c.eq.ensures) (search rules)
