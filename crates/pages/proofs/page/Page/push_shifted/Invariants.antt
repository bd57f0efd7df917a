use mathlib.Core.List.{map}
use Prim.Native.Nat.{◌+◌}
use Rattle.algebra.specs.Lists.{upto}
use Rattle.plan.specs.Words.{item_at}
use Rattle.pages.specs.Items.{shifted_words}
use Rattle.pages.specs.Pages.{Wrote}
use Rattle.pages.proofs.page.Page.push_shifted.Given as goal

abbrev pub invariant-loop-i : goal.invariant-loop-i
invariant-loop-i l = Wrote l.initial.self l.self (map (λ k. shifted_words l.front (item_at l.words (l.from + k))) (upto l.i))
