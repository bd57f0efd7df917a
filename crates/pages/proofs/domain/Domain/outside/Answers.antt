use mathlib.Core.Path.{refl, ap}
use Rattle.std.proofs.lemmas.List.{get_or-replicate}
use Rattle.pages.specs.declared.domain.Level.{Level}
use Rattle.pages.specs.Domains.{none}
use Rattle.pages.proofs.Laws.Domains.{outside_means}
use Rattle.pages.proofs.domain.Domain.outside.Goals as goal

pub returns : goal.returns
returns c = outside_means refl refl (λ l h. ap (λ (x : Level). x.base) (get_or-replicate 8 l _ none h))
