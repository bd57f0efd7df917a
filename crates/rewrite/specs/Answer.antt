-- What the rewriter answers, and what stands in the output then.
use Rattle.std.specs.Prelude.{Bool, not, cond, ◌&&◌, List, ◌++◌, ℕ, leb, ltb, eqb, length, drop}
use Rattle.algebra.specs.Lists.{all, upto}
use Rattle.algebra.specs.Plan.{Node}
use Rattle.algebra.specs.Columns.{shape_at}
use Rattle.algebra.specs.Rewriting.{rewritten}
use Rattle.plan.specs.Plan.{widths_of, nodes_of}
use Rattle.plan.specs.Verdict.{Answer, CountedAnswer, accepted, verdict}
use Rattle.plan.specs.Encoding.{words_of, all_items}

-- "over 256 nodes, over 2,000 items or a row over 64": not so
unfoldable pub within_limits : List ℕ → List Node → Bool
within_limits widths ns =
    leb (length ns) 256
    && (leb (length (all_items ns)) 2000
    && all (λ i. leb (shape_at widths ns i).width 64) (upto (length ns)))

-- the plan that the rules give, and its words
abbrev pub new_plan : List ℕ → List Node
new_plan ws = rewritten (widths_of ws) (nodes_of ws)

abbrev pub new_words : List ℕ → List ℕ
new_words ws = words_of (widths_of ws) (new_plan ws)

-- refusals 1 to 9; 0 and 0 for acceptance
unfoldable pub refusal : List ℕ → ℕ → Answer
refusal ws room =
    cond (not (eqb (verdict ws).number 0)) (verdict ws)
    (cond (not (within_limits (widths_of ws) (new_plan ws))) (record { number = 8; node = 0 })
    (cond (ltb room (length (new_words ws))) (record { number = 9; node = 0 })
    accepted))

abbrev pub is_accepted : List ℕ → ℕ → Bool
is_accepted ws room = eqb (refusal ws room).number 0

-- number, node, and how many words were written
unfoldable pub rewriting : List ℕ → ℕ → CountedAnswer
rewriting ws room = record { number = (refusal ws room).number; node = (refusal ws room).node; count = cond (is_accepted ws room) (length (new_words ws)) 0 }

-- the output after the call: the new words "at the front of the output, leaves the rest"; untouched where it is refused
unfoldable pub output_after : List ℕ → List ℕ → List ℕ
output_after ws out = cond (is_accepted ws (length out)) (new_words ws ++ drop (length (new_words ws)) out) out
