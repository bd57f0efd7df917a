use mathlib.Core.List.{map}
use Rattle.algebra.specs.Lists.{keep, upto}
use Rattle.pages.specs.Sets.{in_set}
use Rattle.pages.specs.Pages.{Wrote}
use Rattle.pages.proofs.Laws.Writer.{locals}
use Rattle.pages.proofs.page.Page.push_set_keys.Given as goal

abbrev pub invariant-loop-q : goal.invariant-loop-q
invariant-loop-q l = Wrote l.initial.self l.self (map (λ k. locals 11 k 0) (keep (in_set l.set) (upto l.q)))
