-- The outcome of a node, and of the run, by the visits.
use mathlib.Core.Path.{◌≡◌, refl, sym, ap, ◌∙◌}
use mathlib.Core.Bool.{Bool, true, false, cond, false≢true}
use mathlib.Core.List.{List, [], ◌∷◌, ◌++◌, map, append-nil}
use Prim.Native.Nat.{ℕ, zero, suc, ◌<◌, ◌≤◌, pred}
use native.Mathlib.Omega.{arith}
use lib.Dec.{eqb}
use lib.ListN.{length, get_or, take}
use borrow.Author.Tests.{eqb-true, eqb-false}
use Rattle.algebra.specs.Lists.{keep, each, upto, entry, Every}
use Rattle.algebra.specs.Value.{Row}
use Rattle.algebra.specs.Plan.{Node, scan, select, compute, project, join, group, groupjoin, dependent, inputs}
use Rattle.algebra.specs.Operators.{Outer, passes, computed, picked, grouped, joined, partners, join_rows, groupjoin_rows}
use Rattle.algebra.specs.Meaning.{Database, Result, node_rows, result_of, answer}
use Rattle.algebra.specs.Columns.{shape_at, closed}
use Rattle.algebra.specs.Statements.{FineFrom, WellFormed}
use Rattle.algebra.proofs.Lists.Every.{every_head, every_tail, every_map}
use Rattle.algebra.proofs.Lists.Keep.{keep_append, each_append}
use Rattle.algebra.proofs.Tables.Fine.{inputs_under}
use Rattle.algebra.proofs.Tables.Theorem.{width_is}
use Rattle.working.specs.Run.{Outcome, done, refused, then, finished, work, outcome_at, run}
use Rattle.working.proofs.Laws.Order.{outcome_at_lem, outcome_closed, run_stops, run_ends, entry_here, entry_below}
use Rattle.working.proofs.Laws.Run.{result_at, result_before, outcome_rows, result_closed}
use Rattle.demands.specs.Visits.{Visit, visit, bindings, rows_at, anew, visits_of, visits_at, visits, judged}
use Rattle.demands.proofs.Judged.{judged_append, then_judged, finished_judged, bound_judged, judged_passes, judged_stops}

-- ---- one node

module _ (widths : List ℕ) (db : Database) (ns : List Node) where
  -- a node's rows come of those of its inputs alone
  rows_same : (a b : ℕ → Result) (x : Node) (o : Outer) → Every (λ j. a j ≡ b j) (inputs x) → node_rows widths db a x o ≡ node_rows widths db b x o
  rows_same a b (scan t) o h = refl
  rows_same a b (select cs i) o h = ap (λ (r : Result). keep (passes o cs) (r.rows o)) (every_head h)
  rows_same a b (compute c i) o h = ap (λ (r : Result). map (λ x. x ++ (computed o c x ∷ [])) (r.rows o)) (every_head h)
  rows_same a b (project ps i) o h = ap (λ (r : Result). map (picked ps) (r.rows o)) (every_head h)
  rows_same a b (join k cs l r) o h =
      ap (λ (q : Result). join_rows k (a r).width o cs (q.rows o) (λ x. (a r).rows o)) (every_head h)
      ∙ ap (λ (q : Result). join_rows k q.width o cs ((b l).rows o) (λ x. q.rows o)) (every_head (every_tail h))
  rows_same a b (group ks gs i) o h = ap (λ (r : Result). grouped ks gs (r.rows o)) (every_head h)
  rows_same a b (groupjoin cs gs l r) o h =
      ap (λ (q : Result). groupjoin_rows o cs gs (q.rows o) ((a r).rows o)) (every_head h)
      ∙ ap (λ (q : Result). groupjoin_rows o cs gs ((b l).rows o) (q.rows o)) (every_head (every_tail h))
  rows_same a b (dependent k cs l r) o h =
      ap (λ (q : Result). join_rows k (a r).width o cs (q.rows o) (λ x. (a r).rows (x ∷ o))) (every_head h)
      ∙ ap (λ (q : Result). join_rows k q.width o cs ((b l).rows o) (λ x. q.rows (x ∷ o))) (every_head (every_tail h))

  -- and so do its visits
  visits_same : (a b : ℕ → Outer → List Visit) (n : ℕ) (x : Node) (o : Outer) → Every (λ j. a j ≡ b j) (inputs x)
      → visits_of widths db ns a n x o ≡ visits_of widths db ns b n x o
  visits_same a b n (scan t) o h = refl
  visits_same a b n (select cs i) o h = rw (every_head h)
  visits_same a b n (compute c i) o h = rw (every_head h)
  visits_same a b n (project ps i) o h = rw (every_head h)
  visits_same a b n (group ks gs i) o h = rw (every_head h)
  visits_same a b n (join k cs l r) o h = rw (every_head h, every_head (every_tail h))
  visits_same a b n (groupjoin cs gs l r) o h = rw (every_head h, every_head (every_tail h))
  visits_same a b n (dependent k cs l r) o h = rw (every_head h, every_head (every_tail h))

  module _ (n : ℕ) (l : n < length ns) (below : Every (λ j. j < n) (inputs (get_or ns n (scan 0)))) where
    -- the rows of a node from those of its inputs
    pub node_rows_lem : (o : Outer) → rows_at widths db ns n o ≡ node_rows widths db (result_of widths db ns) (get_or ns n (scan 0)) o
    node_rows_lem o =
        ap (λ (r : Result). r.rows o) (result_at widths db ns n (scan 0) l)
        ∙ rows_same (result_of widths db (take n ns)) (result_of widths db ns) (get_or ns n (scan 0)) o
        (every_map (λ j (g : j < n). sym (result_before widths db ns n (scan 0) l j g)) below)

    pub visits_at_lem : (o : Outer) → visits_at widths db ns n o ≡ visits_of widths db ns (visits_at widths db ns) n (get_or ns n (scan 0)) o
    unfolding visits_at
    visits_at_lem o =
        let f : (ℕ → Outer → List Visit) → ℕ → Outer → List Visit = λ at m p. visits_of widths db ns at m (get_or ns m (scan 0)) p in
        let z : Outer → List Visit = λ p. [] in
        ap (λ (q : Outer → List Visit). q o) (entry_here z f (length ns) n l)
        ∙ visits_same (entry z f (upto n)) (entry z f (upto (length ns))) n (get_or ns n (scan 0)) o
        (every_map (λ j (h : j < n). sym (entry_below z f (length ns) j n h (omega arith))) below)

module _ (widths : List ℕ) (db : Database) (R : ℕ) (ns : List Node) (at : ℕ → Outer → Outcome) (seen : ℕ → Outer → List Visit) where
  -- the outcome of node j is that of its visits
  abbrev Sees : ℕ → Type 0
  Sees j =
      ((shape_at widths ns j).width ≡ (result_of widths db ns j).width)
      × ((o : Outer) → at j o ≡ judged R (anew widths db ns seen j o) (done (rows_at widths db ns j o)))

  module _ (n : ℕ) (o : Outer) where
    -- the node's rows, once its inputs have theirs
    own : (rows : List Row) → rows ≡ rows_at widths db ns n o
        → finished R n rows ≡ judged R (visit n (rows_at widths db ns n o) ∷ []) (done (rows_at widths db ns n o))
    own rows e = ap (finished R n) e ∙ finished_judged R n (rows_at widths db ns n o)

    behind : (j : ℕ) → Sees j → (next : List Row → Outcome) (vs : List Visit) (last : Outcome) → next (rows_at widths db ns j o) ≡ judged R vs last
        → then (at j o) next ≡ judged R (anew widths db ns seen j o ++ vs) last
    behind j s next vs last e =
        ap (λ (x : Outcome). then x next) (s.1 o)
        ∙ then_judged R (anew widths db ns seen j o) (rows_at widths db ns j o) next
        ∙ ap (judged R (anew widths db ns seen j o)) e
        ∙ sym (judged_append R (anew widths db ns seen j o) vs last)

  work_judged : (n : ℕ) (x : Node) (o : Outer) → Every Sees (inputs x) → rows_at widths db ns n o ≡ node_rows widths db (result_of widths db ns) x o
      → work widths db R ns at n x o ≡ judged R (visits_of widths db ns seen n x o) (done (rows_at widths db ns n o))
  unfolding work
  work_judged n (scan t) o h e = own n o _ (sym e)
  work_judged n (select cs i) o h e = behind n o i (every_head h) _ _ _ (own n o _ (sym e))
  work_judged n (compute c i) o h e = behind n o i (every_head h) _ _ _ (own n o _ (sym e))
  work_judged n (project ps i) o h e = behind n o i (every_head h) _ _ _ (own n o _ (sym e))
  work_judged n (group ks gs i) o h e = behind n o i (every_head h) _ _ _ (own n o _ (sym e))
  work_judged n (groupjoin cs gs l r) o h e =
      behind n o l (every_head h) _ _ _ (behind n o r (every_head (every_tail h)) _ _ _ (own n o _ (sym e)))
  work_judged n (join k cs l r) o h e =
      let w = (every_head (every_tail h)).0 in
      behind n o l (every_head h) _ _ _ (behind n o r (every_head (every_tail h)) _ _ _
      (own n o _ (ap (λ (v : ℕ). join_rows k v o cs (rows_at widths db ns l o) (λ x. rows_at widths db ns r o)) w ∙ sym e)))
  work_judged n (dependent k cs l r) o h e =
      let w = (every_head (every_tail h)).0 in
      let vs : List Visit = bindings n (λ x. anew widths db ns seen r (x ∷ o))
      (λ x. joined k (shape_at widths ns r).width (partners o cs (rows_at widths db ns r (x ∷ o)) x) x) (rows_at widths db ns l o) [] in
      behind n o l (every_head h) _ vs _
      (bound_judged R n (λ x. at r (x ∷ o)) (λ x rs. joined k (shape_at widths ns r).width (partners o cs rs x) x) (λ x. anew widths db ns seen r (x ∷ o))
      (λ x. rows_at widths db ns r (x ∷ o)) (λ x. (every_head (every_tail h)).1 (x ∷ o)) (rows_at widths db ns l o) []
      ∙ ap (λ (rows : List Row). judged R vs (done rows))
      (ap (λ (v : ℕ). join_rows k v o cs (rows_at widths db ns l o) (λ x. rows_at widths db ns r (x ∷ o))) w ∙ sym e))

-- ---- every node

module _ (widths : List ℕ) (db : Database) (R : ℕ) (ns : List Node) (fine : FineFrom widths [] ns) where
  -- the closed nodes below n are done
  abbrev Before : ℕ → Type 0
  Before n = (j : ℕ) → j < n → closed (shape_at widths ns j) ≡ true → outcome_at widths db R ns j [] ≡ done (rows_at widths db ns j [])

  -- node n is what its visits say, under the outer rows that it has
  abbrev Told : ℕ → Outer → Type 0
  Told n o =
      outcome_at widths db R ns n o
      ≡ judged R (visits_at widths db ns n (cond (closed (shape_at widths ns n)) [] o)) (done (rows_at widths db ns n (cond (closed (shape_at widths ns n)) [] o)))

  -- an input: a closed one is done, an open one has been worked out
  sees : (j : ℕ) → j < length ns → (closed (shape_at widths ns j) ≡ true → outcome_at widths db R ns j [] ≡ done (rows_at widths db ns j []))
      → (o : Outer) → Told j o
      → outcome_at widths db R ns j o ≡ judged R (anew widths db ns (visits_at widths db ns) j o) (done (rows_at widths db ns j o))
  unfolding judged
  sees j h d o told = go (closed (shape_at widths ns j)) refl
    where
      go : (b : Bool) → closed (shape_at widths ns j) ≡ b
          → outcome_at widths db R ns j o ≡ judged R (anew widths db ns (visits_at widths db ns) j o) (done (rows_at widths db ns j o))
      go true c =
          rw c (outcome_closed widths db R ns j h (inputs_under widths (scan 0) ns fine j h) c o [] ∙ d c ∙ ap done (result_closed widths db R ns fine j o true c))
      go false c = rw c (rw c at told)

  outcome_below : (bound n : ℕ) → n < bound → n < length ns → Before n → (o : Outer) → Told n o
  outcome_below zero n l h d o = absurd (omega arith)
  outcome_below (suc bound) n l h d o =
      let below = inputs_under widths (scan 0) ns fine n h in
      let p : Outer = cond (closed (shape_at widths ns n)) [] o in
      outcome_at_lem widths db R ns n h below o
      ∙ work_judged widths db R ns (outcome_at widths db R ns) (visits_at widths db ns) n (get_or ns n (scan 0)) p
      (every_map
      (λ j (g : j < n). (
        sym (width_is widths db ns j),
        λ q. sees j (omega arith) (d j g) q (outcome_below bound j (omega arith) (omega arith) (λ i k. d i (omega arith)) q),
      ))
      below)
      (node_rows_lem widths db ns n h below p)
      ∙ ap (λ (vs : List Visit). judged R vs (done (rows_at widths db ns n p))) (sym (visits_at_lem widths db ns n h below p))

  -- ---- the run

  abbrev shut : ℕ → Bool
  shut n = closed (shape_at widths ns n)

  -- the visits of the closed nodes below n
  abbrev before : ℕ → List Visit
  before n = each (λ m. visits_at widths db ns m []) (keep shut (upto n))

  before_more : (n : ℕ) (b : Bool) → shut n ≡ b → before (suc n) ≡ before n ++ cond b (visits_at widths db ns n []) []
  before_more n b c =
      ap (each (λ m. visits_at widths db ns m [])) (keep_append shut (upto n) (n ∷ []))
      ∙ each_append (λ m. visits_at widths db ns m []) (keep shut (upto n)) (keep shut (n ∷ []))
      ∙ ap (λ (vs : List Visit). before n ++ vs) (go b c)
    where
      go : (d : Bool) → shut n ≡ d → each (λ m. visits_at widths db ns m []) (cond (shut n) (n ∷ []) []) ≡ cond d (visits_at widths db ns n []) []
      go true e = rw e (append-nil (visits_at widths db ns n []))
      go false e = rw e refl

  -- the visits below n have passed, or the run is over
  data Gone (n : ℕ) : Type 0 where
    passed : Before n → ((last : Outcome) → judged R (before n) last ≡ last) → Gone n
    stopped : (k m : ℕ) → run widths db R ns ≡ refused k m → ((last : Outcome) → judged R (before n) last ≡ refused k m) → Gone n

  -- the visits below n, then those of n
  judged_more : (n : ℕ) (b : Bool) → shut n ≡ b → (last : Outcome)
      → judged R (before (suc n)) last ≡ judged R (before n) (judged R (cond b (visits_at widths db ns n []) []) last)
  judged_more n b c last =
      ap (λ (vs : List Visit). judged R vs last) (before_more n b c) ∙ judged_append R (before n) (cond b (visits_at widths db ns n []) []) last

  before_too : (n : ℕ) → Before n → (shut n ≡ true → outcome_at widths db R ns n [] ≡ done (rows_at widths db ns n [])) → Before (suc n)
  before_too n d own j l c = go (eqb j n) refl
    where
      go : (b : Bool) → eqb j n ≡ b → outcome_at widths db R ns j [] ≡ done (rows_at widths db ns j [])
      go true e = let p : j ≡ n = eqb-true j n e in rw p (own (rw p at c))
      go false e = d j (omega (arith, eqb-false j n e)) c

  next : (n : ℕ) → n < length ns → Gone n → Gone (suc n)
  unfolding judged
  next n h (stopped k m e f) = stopped k m e (λ last. judged_more n (shut n) refl last ∙ f _)
  next n h (passed d f) = by_closed (shut n) refl
    where
      by_outcome : (x : Outcome) → shut n ≡ true → outcome_at widths db R ns n [] ≡ x → Gone (suc n)
      by_outcome (done rows) c e =
          let q : outcome_at widths db R ns n [] ≡ judged R (visits_at widths db ns n []) (done (rows_at widths db ns n [])) =
          rw c at (outcome_below (suc n) n (omega arith) h d []) in
          passed
          (before_too n d (λ g. e ∙ ap done (outcome_rows widths db R ns fine n h [] rows e)))
          (λ last. judged_more n true c last ∙ f _ ∙ judged_passes R (visits_at widths db ns n []) (rows_at widths db ns n []) rows (sym q ∙ e) last)
      by_outcome (refused k m) c e =
          let q : outcome_at widths db R ns n [] ≡ judged R (visits_at widths db ns n []) (done (rows_at widths db ns n [])) =
          rw c at (outcome_below (suc n) n (omega arith) h d []) in
          stopped k m
          (run_stops widths db R ns (λ j. rows_at widths db ns j []) n k m h d c e)
          (λ last. judged_more n true c last ∙ f _ ∙ judged_stops R (visits_at widths db ns n []) (rows_at widths db ns n []) k m (sym q ∙ e) last)

      by_closed : (b : Bool) → shut n ≡ b → Gone (suc n)
      by_closed true c = by_outcome (outcome_at widths db R ns n []) c refl
      by_closed false c = passed (before_too n d (λ g. absurd (false≢true (sym c ∙ g)))) (λ last. judged_more n false c last ∙ f last)

  gone : (n : ℕ) → n ≤ length ns → Gone n
  unfolding judged
  gone zero h = passed (λ j l. absurd (omega arith)) (λ last. refl)
  gone (suc n) h = next n (omega arith) (gone n (omega arith))

-- the run is what its visits say: the first that is too long or out of range, or the plan's answer
pub run_judged : (widths : List ℕ) (db : Database) (R : ℕ) (ns : List Node) → WellFormed widths ns
    → run widths db R ns ≡ judged R (visits widths db ns) (done (answer widths db ns))
unfolding visits answer
run_judged widths db R ns w = go (gone widths db R ns w.nodes (length ns) (omega arith))
  where
    go : Gone widths db R ns w.nodes (length ns)
        → run widths db R ns ≡ judged R (before widths db R ns w.nodes (length ns)) (done (rows_at widths db ns (pred (length ns)) []))
    go (passed d f) = run_ends widths db R ns (λ j. rows_at widths db ns j []) w.some d w.root ∙ sym (f _)
    go (stopped k m e f) = e ∙ sym (f _)
