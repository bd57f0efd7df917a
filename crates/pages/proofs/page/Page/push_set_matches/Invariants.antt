use mathlib.Core.List.{map}
use Prim.Native.Nat.{◌+◌}
use Rattle.algebra.specs.Lists.{keep, upto}
use Rattle.pages.specs.Sets.{in_set, rank}
use Rattle.pages.specs.Pages.{Wrote}
use Rattle.pages.proofs.Laws.Writer.{locals}
use Rattle.pages.proofs.page.Page.push_set_matches.Given as goal

abbrev pub invariant-loop-q : goal.invariant-loop-q
invariant-loop-q l = Wrote l.initial.self l.self (map (λ k. locals 7 k (l.behind + rank l.set k)) (keep (in_set l.set) (upto l.q)))
