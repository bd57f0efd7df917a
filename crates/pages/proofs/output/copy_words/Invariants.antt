use mathlib.Core.Path.{◌≡◌}
use lib.ListN.{length}
use lib.Seq.{paste}
use Rattle.pages.proofs.output.copy_words.Given as goal

abbrev pub invariant-loop-k : goal.invariant-loop-k
invariant-loop-k l = (length l.to ≡ length l.initial.to) × (l.to ≡ paste l.initial.to 0 l.from l.k)
