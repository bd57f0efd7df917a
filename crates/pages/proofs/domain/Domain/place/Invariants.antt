use mathlib.Core.Path.{◌≡◌}
use Rattle.pages.specs.Domains.{climb, place_in}
use Rattle.pages.proofs.domain.Domain.place.Given as goal

abbrev pub invariant-loop-l : goal.invariant-loop-l
invariant-loop-l l = climb l.self.levels l.l l.place ≡ place_in l.self l.level l.position
