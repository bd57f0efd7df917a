use Rattle.algebra.specs.Lists.{each}
use Rattle.plan.specs.Words.{items_from}
use Rattle.rules.specs.Reads.{reads, Added}
use Rattle.rules.proofs.Laws.ColumnsRead.{item_reads}
use Rattle.rules.proofs.reads.add_node.Given as goal

abbrev pub invariant-loop-i : goal.invariant-loop-i
invariant-loop-i l = Added l.n (reads (each item_reads (items_from l.words l.a l.i))) l.initial.table l.table
