use mathlib.Core.List.{map}
use Prim.Native.Nat.{◌+◌}
use Rattle.algebra.specs.Lists.{upto}
use Rattle.algebra.specs.Domains as algebra
use Rattle.plan.specs.Words.{item_at}
use Rattle.pages.specs.Domains.{Means}
use Rattle.pages.specs.Items.{moved_words, shifted}
use Rattle.pages.specs.Pages.{Wrote}
use Rattle.pages.proofs.page.Page.push_moved.Given as goal

abbrev pub invariant-loop-i : goal.invariant-loop-i
invariant-loop-i l = (D : algebra.Domain) → Means l.d D → Wrote l.initial.self l.self (map (λ k. moved_words D (shifted l.shift) (item_at l.words (l.from + k))) (upto l.i))
