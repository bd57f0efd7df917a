use mathlib.Core.List.{map}
use Prim.Native.Nat.{◌+◌}
use Rattle.algebra.specs.Lists.{upto}
use Rattle.pages.specs.Pages.{Wrote}
use Rattle.pages.proofs.Laws.Writer.{locals}
use Rattle.pages.proofs.page.Page.push_matches.Given as goal

abbrev pub invariant-loop-i : goal.invariant-loop-i
invariant-loop-i l = Wrote l.initial.self l.self (map (λ q. locals 7 q (l.behind + q)) (upto l.i))
