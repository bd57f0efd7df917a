-- Demand 3 holds for every accepted slice of words and every output.
use mathlib.Core.Path.{◌≡◌, refl, sym, ap, subst, ◌∙◌}
use mathlib.Core.Bool.{Bool, true, false}
use mathlib.Core.List.{List, ◌++◌}
use Prim.Native.Nat.{ℕ, ◌≤◌}
use native.Mathlib.Omega.{arith}
use lib.Dec.{ltb}
use lib.ListN.{length, take, drop}
use lib.Seq.{take_at}
use borrow.Author.Tests.{lt-ltb, le-ltb, ltb-true, ltb-false, ne_eqb}
use Rattle.algebra.specs.Lists.{Every}
use Rattle.algebra.specs.Plan.{Node}
use Rattle.algebra.specs.Statements.{Plain}
use Rattle.plan.specs.Plan.{widths_of, nodes_of}
use Rattle.plan.specs.Verdict.{CountedAnswer, accepted, verdict}
use Rattle.plan.specs.Encoding.{words_of}
use Rattle.plan.proofs.Promise.{promise, algebra_applies, four_for_each}
use Rattle.plan.proofs.Laws.Encoded.{nodes_of_lem}
use Rattle.plan.proofs.Encoding.{decoded_widths, decoded_nodes, encoded}
use Rattle.rewrite.specs.Answer.{within_limits, new_plan, new_words, refusal, rewriting, output_after}
use Rattle.rewrite.proofs.Accepted.{accepted_again, plain_words, storable_again, own_rewriting}
use Rattle.demands.specs.Rewriting.{Words, SameRows, Owed, answered, after, written, Refusals, Gives, Demand}

module _ (ws : List ℕ) (words : Words ws) (a : verdict ws ≡ accepted) where
  same_rows : SameRows ws (new_words ws)
  same_rows db fits r =
      rw (decoded_widths (widths_of ws) (new_plan ws), decoded_nodes (widths_of ws) (new_plan ws) (storable_again ws a words)) (algebra_applies ws a db fits r)

  owed : within_limits (widths_of ws) (new_plan ws) ≡ true → Owed ws (new_words ws)
  owed w = record {
    passes_the_check = accepted_again ws a words w;
    no_dependent_join = plain_words ws a;
    at_most_four_each = rw (nodes_of_lem (widths_of ws) (new_plan ws)) (four_for_each ws a);
    same_rows = same_rows;
  }

  module _ (out : List ℕ) where
    refusals : Refusals ws out
    unfolding refusal rewriting
    refusals = record {
      over_limit = λ w. rw (a, w);
      no_room = λ w h. rw (a, w, lt-ltb (length out) (length (new_words ws)) h);
      otherwise_none = λ w h. rw (a, w, le-ltb (length out) (length (new_words ws)) h);
    }

    -- an answer of 0: the rules' plan is within the limits and fits
    module _ (w : within_limits (widths_of ws) (new_plan ws) ≡ true) (h : length (new_words ws) ≤ length out) where
      after_is : after ws out ≡ new_words ws ++ drop (length (new_words ws)) out
      unfolding refusal output_after
      after_is = rw (a, w, le-ltb (length out) (length (new_words ws)) h)

      count_is : (answered ws out).count ≡ length (new_words ws)
      count_is = ap (λ (x : CountedAnswer). x.count) (refusals.otherwise_none w h)

      written_is : written ws out ≡ new_words ws
      written_is =
          ap (take (answered ws out).count) after_is ∙ take_at (new_words ws) (drop (length (new_words ws)) out) (answered ws out).count (sym count_is)

      gives : Gives ws out
      gives = record {
        words = written_is;
        output =
            after_is ∙ ap (λ (vs : List ℕ). vs ++ drop (length (new_words ws)) out) (sym written_is)
            ∙ ap (λ (k : ℕ). written ws out ++ drop k out) (sym count_is);
        owed = subst (Owed ws) (sym written_is) (owed w);
      }

    -- an answer of 0 comes of nothing else
    accepted_gives : (answered ws out).number ≡ 0 → Gives ws out
    accepted_gives e = go (within_limits (widths_of ws) (new_plan ws)) refl (ltb (length out) (length (new_words ws))) refl
      where
        go : (b : Bool) → within_limits (widths_of ws) (new_plan ws) ≡ b → (c : Bool) → ltb (length out) (length (new_words ws)) ≡ c → Gives ws out
        go true w true l =
            let z : ◌≡◌ {A = ℕ} 9 0 = sym (ap (λ (x : CountedAnswer). x.number) (refusals.no_room w (ltb-true _ _ l))) ∙ e in absurd (omega arith)
        go true w false l = gives w (ltb-false _ _ l)
        go false w c l = let z : ◌≡◌ {A = ℕ} 8 0 = sym (ap (λ (x : CountedAnswer). x.number) (refusals.over_limit w)) ∙ e in absurd (omega arith)

    leaves : ((answered ws out).number ≡ 0 → ⊥) → after ws out ≡ out
    unfolding rewriting output_after
    leaves not = rw (ne_eqb (refusal ws (length out)).number 0 not)

    -- demand 3
    pub demand_3 : Demand ws out
    demand_3 = record { refusals = refusals; gives = accepted_gives; leaves = leaves }

  -- "a plan without dependent joins is its own rewriting", word for word
  pub own_words : Every Plain (nodes_of ws) → new_words ws ≡ ws
  own_words plain = ap (λ (ns : List Node). words_of (widths_of ws) ns) (own_rewriting ws a plain) ∙ encoded ws (promise ws a).formed words
