-- Demand 2 holds for every input.
use mathlib.Core.Path.{◌≡◌, refl, sym, ap, subst, ◌∙◌}
use mathlib.Core.Bool.{true, false, false≢true, ◌||◌}
use mathlib.Core.List.{List, ◌++◌}
use Prim.Native.Nat.{ℕ}
use lib.IntN.{ℤ}
use lib.Dec.{eqb}
use lib.ListN.{length, drop}
use Rattle.algebra.specs.Value.{Row}
use Rattle.plan.specs.Plan.{widths_of, nodes_of}
use Rattle.plan.proofs.Promise.{promise}
use Rattle.store.specs.Cells.{cells_of}
use Rattle.working.specs.Run.{Outcome, done, refused, run_of}
use Rattle.store.specs.Database.{database_of}
use Rattle.evaluate.specs.Answer.{Evaluation, is_run, ended, over, evaluation, output_after, scratch_after}
use Rattle.working.proofs.Laws.Run.{run_is_answer, not_both}
use Rattle.evaluate.proofs.Laws.PastRefusals.{Past, past_all, database_ranging}
use Rattle.demands.specs.Evaluation.{rows_of, seen, answered, written, Gives, Stops, Runs, Refuses, Demand}
use Rattle.demands.specs.Visits.{First, judged}
use Rattle.demands.proofs.Judged.{kept_judged, judged_kept, judged_first, first_judged}
use Rattle.demands.proofs.Visited.{run_judged}
use Rattle.demands.proofs.Seen.{every_seen}

module _ (ws counts : List ℕ) (cells : List ℤ) (R : ℕ) (scratch out : List ℤ) where
  module _ (e : is_run ws counts cells R (length scratch) (length out) ≡ true) where
    past : Past ws counts cells R (length scratch) (length out)
    past = past_all ws counts cells R (length scratch) (length out) e

    -- the answer and the output are the run's
    answered_is : (x : Outcome) → run_of ws counts cells R ≡ x → answered ws counts cells R scratch out ≡ ended ws counts cells R x
    unfolding evaluation
    answered_is x q = rw e (ap (ended ws counts cells R) q)

    written_is : (x : Outcome) → run_of ws counts cells R ≡ x → written ws counts cells R scratch out ≡ over ws counts cells R x out
    unfolding output_after
    written_is x q = rw e (ap (λ (y : Outcome). over ws counts cells R y out) q)

    -- where the run is done
    gives : (rows : List Row) → run_of ws counts cells R ≡ done rows → Gives ws counts cells R scratch out
    gives rows q =
        let meant : rows ≡ rows_of ws counts cells = run_is_answer (widths_of ws) (database_of ws counts cells) R (nodes_of ws) (promise ws past.plan).plan rows q in
        record {
          count = ap (λ (a : Evaluation). a.count) (answered_is (done rows) q) ∙ ap length meant;
          output = written_is (done rows) q ∙ ap (λ (rs : List Row). cells_of rs ++ drop (length (cells_of rs)) out) meant;
        }

    -- the run is what its visits say
    run_is : run_of ws counts cells R ≡ judged R (seen ws counts cells) (done (rows_of ws counts cells))
    run_is = run_judged (widths_of ws) (database_of ws counts cells) R (nodes_of ws) (promise ws past.plan).plan

    -- where it is refused
    first : (k m : ℕ) → run_of ws counts cells R ≡ refused k m → First R (seen ws counts cells) k m
    first k m q = judged_first R (seen ws counts cells) (rows_of ws counts cells) k m (sym run_is ∙ q)

    stops : (k m : ℕ) → run_of ws counts cells R ≡ refused k m → Stops ws counts cells R scratch out
    stops k m q =
        let a = answered_is (refused k m) q in
        record {
          first = subst (λ (x : Evaluation). First R (seen ws counts cells) x.number x.node) (sym a) (first k m q);
          count = ap (λ (x : Evaluation). x.count) a;
          output = written_is (refused k m) q;
        }

    -- a refusal is not 0
    not_zero : (k m : ℕ) → run_of ws counts cells R ≡ refused k m → (answered ws counts cells R scratch out).number ≡ 0 → ⊥
    not_zero k m q z =
        let k_zero : k ≡ 0 = sym (ap (λ (x : Evaluation). x.number) (answered_is (refused k m) q)) ∙ z in
        false≢true (subst (λ (j : ℕ). (eqb j 14 || eqb j 15) ≡ true) k_zero (first k m q).wrong.number)

    -- an answer of 0 is a run that is done
    done_when : (answered ws counts cells R scratch out).number ≡ 0 → (rows : List Row) × (run_of ws counts cells R ≡ done rows)
    done_when z = go (run_of ws counts cells R) refl
      where
        go : (x : Outcome) → run_of ws counts cells R ≡ x → (rows : List Row) × (run_of ws counts cells R ≡ done rows)
        go (done rows) q = (rows, q)
        go (refused k m) q = absurd (not_zero k m q z)

    -- any other is one that is refused
    stopped_when : ((answered ws counts cells R scratch out).number ≡ 0 → ⊥) → Stops ws counts cells R scratch out
    stopped_when z = go (run_of ws counts cells R) refl
      where
        go : (x : Outcome) → run_of ws counts cells R ≡ x → Stops ws counts cells R scratch out
        go (done rows) q = absurd (z (ap (λ (a : Evaluation). a.number) (answered_is (done rows) q)))
        go (refused k m) q = stops k m q

    runs : Runs ws counts cells R scratch out
    unfolding scratch_after
    runs = record {
      gives = λ z. let d = done_when z in gives d.0 d.1;
      stops = stopped_when;
      accepted_when = λ kept.
          ap (λ (a : Evaluation). a.number)
          (answered_is (done (rows_of ws counts cells)) (run_is ∙ kept_judged R (seen ws counts cells) kept (done (rows_of ws counts cells))));
      accepted_only_when = λ z.
          let d = done_when z in judged_kept R (seen ws counts cells) (rows_of ws counts cells) d.0 (sym run_is ∙ d.1);
      refused_when = λ k n f. answered_is (refused k n) (run_is ∙ first_judged R (seen ws counts cells) k n f (done (rows_of ws counts cells)));
      from_the_rules = every_seen (widths_of ws) (database_of ws counts cells) (nodes_of ws) (promise ws past.plan).plan.nodes;
      never_both = not_both (database_of ws counts cells) R (database_ranging ws counts cells past.database) past.low;
      cleared = rw e;
    }

  refuses : is_run ws counts cells R (length scratch) (length out) ≡ false → Refuses ws counts cells R scratch out
  unfolding evaluation output_after scratch_after
  refuses e = record { number = rw e; node = rw e; count = rw e; output = rw e; unchanged = rw e }

  -- demand 2
  pub demand_2 : Demand ws counts cells R scratch out
  demand_2 = record { runs = runs; refuses = refuses }
