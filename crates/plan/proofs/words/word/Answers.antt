use Rattle.std.proofs.Common.{◌∙◌, ap, arith}
use Rattle.std.specs.Option.{unwrap_or}
use Rattle.plan.specs.Words.{word}
use Rattle.plan.proofs.words.word.Goals as goal

pub returns : goal.returns
unfolding word
returns c = c.unwrap_or.ensures ∙ ap (λ o. unwrap_or o 0) c.copied.ensures ∙ c.get.ensures.lookup.4 (omega arith) 0
