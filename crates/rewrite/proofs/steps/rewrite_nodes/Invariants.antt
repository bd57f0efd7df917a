use Rattle.rewrite.proofs.Laws.FirstNodes.{Stepped}
use Rattle.rewrite.proofs.steps.rewrite_nodes.Given as goal

abbrev pub invariant-loop-n : goal.invariant-loop-n
invariant-loop-n l = Stepped l.tables.words.now l.page l.images l.n
