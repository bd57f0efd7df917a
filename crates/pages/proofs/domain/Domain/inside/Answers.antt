use mathlib.Core.Path.{refl}
use Rattle.pages.proofs.Laws.Domains.{inside_means}
use Rattle.pages.proofs.domain.Domain.inside.Goals as goal

pub returns : goal.returns
returns c = inside_means c.deeper.ensures refl refl
