use mathlib.Core.List.{map}
use Prim.Native.Nat.{◌+◌}
use Rattle.algebra.specs.Lists.{upto}
use Rattle.plan.specs.Words.{item_at}
use Rattle.pages.specs.Items.{item_words}
use Rattle.pages.specs.Pages.{Wrote}
use Rattle.pages.proofs.page.Page.push_copied.Given as goal

abbrev pub invariant-loop-i : goal.invariant-loop-i
invariant-loop-i l = Wrote l.initial.self l.self (map (λ k. item_words (item_at l.words (l.from + k))) (upto l.i))
