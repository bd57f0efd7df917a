use mathlib.Core.List.{[], map}
use Rattle.algebra.specs.Plan.{group}
use Rattle.plan.specs.Encoding.{position_words}
use Rattle.pages.specs.Sets.{members}
use Rattle.pages.proofs.Laws.Pages.{pushed_as}
use Rattle.rules.proofs.Laws.RulePages.{grows, grows_missed, domain_written}
use Rattle.rules.proofs.finish.push_domain.Goals as goal

pub returns-in_err-push_set_keys : goal.returns-in_err-push_set_keys
returns-in_err-push_set_keys c = let ks = members c.args.set in
    grows_missed (map (position_words 11) ks) (group ks [] c.args.left) (domain_written ks c.args.left) c.in_err-push_set_keys.ensures
    _ c.from_residual.result c.from_residual.ensures.0

pub returns : goal.returns
returns c = let ks = members c.args.set in
    grows (map (position_words 11) ks) (group ks [] c.args.left) (domain_written ks c.args.left) c.in_ok-push_set_keys.ensures
    _ c.push_node.result (pushed_as c.over.ensures c.push_node.ensures)
