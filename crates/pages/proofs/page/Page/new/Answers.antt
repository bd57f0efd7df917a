use Rattle.plan.proofs.Laws.Loops.{zeros_at}
use Rattle.pages.proofs.Laws.Pages.{holds_none}
use Rattle.pages.proofs.page.Page.new.Goals as goal

pub returns : goal.returns
returns c widths = holds_none widths _ _ _ (zeros_at 256)
