-- Visits one after the other, and the first that is refused.
use mathlib.Core.Path.{◌≡◌, refl, sym, ap, subst, ◌∙◌}
use mathlib.Core.Bool.{Bool, true, false, cond, false≢true, ◌||◌}
use mathlib.Core.List.{List, [], ◌∷◌, ◌++◌, append_assoc, append-nil}
use Prim.Native.Nat.{ℕ}
use native.Mathlib.Omega.{arith}
use lib.Dec.{leb, eqb}
use lib.ListN.{length}
use borrow.Author.Tests.{eqb-true, leb-true, leb-false, le-leb, lt-leb}
use Rattle.algebra.specs.Lists as lists
use Rattle.algebra.specs.Lists.{all, each, Every}
use Rattle.algebra.specs.Value.{Row}
use Rattle.algebra.proofs.Lists.Every.{every_head, every_tail}
use Rattle.store.specs.Cells.{in_range}
use Rattle.working.specs.Run.{Outcome, done, refused, then, finished, bound}
use Rattle.working.specs.Statements.{Kept}
use Rattle.working.proofs.Laws.Order.{is_done}
use Rattle.demands.specs.Visits.{Visit, visit, bindings, judged, Wrong, First}

-- what follows a test of rows
then_after : (few ranged : Bool) (n : ℕ) (x : Outcome) (next : List Row → Outcome)
    → then (cond few (cond ranged x (refused 15 n)) (refused 14 n)) next ≡ cond few (cond ranged (then x next) (refused 15 n)) (refused 14 n)
then_after true true n x next = refl
then_after true false n x next = refl
then_after false ranged n x next = refl

module _ (R : ℕ) where
  pub judged_append : (us vs : List Visit) (last : Outcome) → judged R (us ++ vs) last ≡ judged R us (judged R vs last)
  unfolding judged
  judged_append [] vs last = refl
  judged_append (u ∷ us) vs last =
      ap (λ (x : Outcome). cond (leb (length u.rows) R) (cond (all (all in_range) u.rows) x (refused 15 u.node)) (refused 14 u.node))
      (judged_append us vs last)

  -- what follows rows that come at the end
  pub then_judged : (vs : List Visit) (rows : List Row) (next : List Row → Outcome) → then (judged R vs (done rows)) next ≡ judged R vs (next rows)
  unfolding judged
  then_judged [] rows next = refl
  then_judged (v ∷ vs) rows next =
      then_after (leb (length v.rows) R) (all (all in_range) v.rows) v.node (judged R vs (done rows)) next
      ∙ ap (λ (x : Outcome). cond (leb (length v.rows) R) (cond (all (all in_range) v.rows) x (refused 15 v.node)) (refused 14 v.node))
      (then_judged vs rows next)

  -- a node's rows are one visit
  pub finished_judged : (n : ℕ) (rows : List Row) → finished R n rows ≡ judged R (visit n rows ∷ []) (done rows)
  unfolding judged finished
  finished_judged n rows = refl

  pub then_finished : (n : ℕ) (rows : List Row) (next : List Row → Outcome) → then (finished R n rows) next ≡ judged R (visit n rows ∷ []) (next rows)
  then_finished n rows next = ap (λ (x : Outcome). then x next) (finished_judged n rows) ∙ then_judged (visit n rows ∷ []) rows next

  -- the bindings of a dependent join
  pub bound_judged : (n : ℕ) (right : Row → Outcome) (make : Row → List Row → List Row) (seen : Row → List Visit) (f : Row → List Row)
      → ((l : Row) → right l ≡ judged R (seen l) (done (f l)))
      → (ls before : List Row)
      → bound R n right make ls before ≡ judged R (bindings n seen (λ l. make l (f l)) ls before) (done (before ++ each (λ l. make l (f l)) ls))
  unfolding judged
  bound_judged n right make seen f h [] before = ap done (sym (append-nil before))
  bound_judged n right make seen f h (l ∷ ls) before =
      let so : List Row = before ++ make l (f l) in
      let rest : List Visit = bindings n seen (λ a. make a (f a)) ls so in
      let end : List Row = each (λ a. make a (f a)) ls in
      ap (λ (x : Outcome). then x (λ rs. then (finished R n (before ++ make l rs)) (λ more. bound R n right make ls more))) (h l)
      ∙ then_judged (seen l) (f l) _
      ∙ ap (judged R (seen l)) (
      then_finished n so (λ more. bound R n right make ls more)
      ∙ ap (judged R (visit n so ∷ [])) (bound_judged n right make seen f h ls so ∙ ap (λ (xs : List Row). judged R rest (done xs)) (append_assoc before (make l (f l)) end))
      ∙ sym (judged_append (visit n so ∷ []) rest (done (before ++ (make l (f l) ++ end))))
      )
      ∙ sym (judged_append (seen l) (visit n so ∷ rest) (done (before ++ (make l (f l) ++ end))))

-- ---- what the end says of the visits

module _ (R : ℕ) where
  -- where rows come at the end, anything would
  pub judged_passes : (vs : List Visit) (xs rows : List Row) → judged R vs (done xs) ≡ done rows → (last : Outcome) → judged R vs last ≡ last
  unfolding judged
  judged_passes [] xs rows e last = refl
  judged_passes (v ∷ vs) xs rows e last = go (λ d. judged_passes vs xs rows d last) (leb (length v.rows) R) (all (all in_range) v.rows) e
    where
      go : (judged R vs (done xs) ≡ done rows → judged R vs last ≡ last)
          → (few ranged : Bool) → cond few (cond ranged (judged R vs (done xs)) (refused 15 v.node)) (refused 14 v.node) ≡ done rows
          → cond few (cond ranged (judged R vs last) (refused 15 v.node)) (refused 14 v.node) ≡ last
      go f true true d = f d
      go f true false d = absurd (false≢true (ap is_done d))
      go f false ranged d = absurd (false≢true (ap is_done d))

  -- where a refusal comes of rows at the end, it comes of anything there
  pub judged_stops : (vs : List Visit) (xs : List Row) (k m : ℕ) → judged R vs (done xs) ≡ refused k m → (last : Outcome) → judged R vs last ≡ refused k m
  unfolding judged
  judged_stops [] xs k m e last = absurd (false≢true (sym (ap is_done e)))
  judged_stops (v ∷ vs) xs k m e last = go (λ d. judged_stops vs xs k m d last) (leb (length v.rows) R) (all (all in_range) v.rows) e
    where
      go : (judged R vs (done xs) ≡ refused k m → judged R vs last ≡ refused k m)
          → (few ranged : Bool) → cond few (cond ranged (judged R vs (done xs)) (refused 15 v.node)) (refused 14 v.node) ≡ refused k m
          → cond few (cond ranged (judged R vs last) (refused 15 v.node)) (refused 14 v.node) ≡ refused k m
      go f true true d = f d
      go f true false d = d
      go f false ranged d = d

  -- where every visit is kept, the end stands
  pub kept_judged : (vs : List Visit) → Every (λ v. Kept R v.rows) vs → (last : Outcome) → judged R vs last ≡ last
  unfolding judged
  kept_judged [] h last = refl
  kept_judged (v ∷ vs) h last =
      let k = every_head h in rw (le-leb (length v.rows) R k.0, k.1) (kept_judged vs (every_tail h) last)

  -- and only then
  pub judged_kept : (vs : List Visit) (xs rows : List Row) → judged R vs (done xs) ≡ done rows → Every (λ v. Kept R v.rows) vs
  unfolding judged
  judged_kept [] xs rows e = lists.done
  judged_kept (v ∷ vs) xs rows e = go (judged_kept vs xs rows) (leb (length v.rows) R) refl (all (all in_range) v.rows) refl e
    where
      go : (judged R vs (done xs) ≡ done rows → Every (λ v. Kept R v.rows) vs)
          → (few : Bool) → leb (length v.rows) R ≡ few → (ranged : Bool) → all (all in_range) v.rows ≡ ranged
          → cond few (cond ranged (judged R vs (done xs)) (refused 15 v.node)) (refused 14 v.node) ≡ done rows
          → Every (λ v. Kept R v.rows) (v ∷ vs)
      go f true p true q d = lists.more (leb-true _ _ p, q) (f d)
      go f true p false q d = absurd (false≢true (ap is_done d))
      go f false p ranged q d = absurd (false≢true (ap is_done d))

  -- a refusal is that of the first visit that is not kept
  pub judged_first : (vs : List Visit) (xs : List Row) (k n : ℕ) → judged R vs (done xs) ≡ refused k n → First R vs k n
  unfolding judged
  judged_first [] xs k n e = absurd (false≢true (sym (ap is_done e)))
  judged_first (v ∷ vs) xs k n e = go (judged_first vs xs k n) (leb (length v.rows) R) refl (all (all in_range) v.rows) refl e
    where
      -- v itself, where it is wrong
      itself : (j : ℕ) → refused j v.node ≡ refused k n → Wrong R j v.rows → First R (v ∷ vs) k n
      itself j d w = record {
        before = [];
        here = v;
        after = vs;
        order = refl;
        passed = lists.done;
        node = cc;
        wrong = let p : j ≡ k = cc in subst (λ (i : ℕ). Wrong R i v.rows) p w;
      }

      go : (judged R vs (done xs) ≡ refused k n → First R vs k n)
          → (few : Bool) → leb (length v.rows) R ≡ few → (ranged : Bool) → all (all in_range) v.rows ≡ ranged
          → cond few (cond ranged (judged R vs (done xs)) (refused 15 v.node)) (refused 14 v.node) ≡ refused k n
          → First R (v ∷ vs) k n
      go f true p true q d =
          let t = f d in
          record {
            before = v ∷ t.before;
            here = t.here;
            after = t.after;
            order = ap (λ (us : List Visit). v ∷ us) t.order;
            passed = lists.more (leb-true _ _ p, q) t.passed;
            node = t.node;
            wrong = t.wrong;
          }
      go f true p false q d = itself 15 d (record { number = refl; too_many = λ e₁. absurd (omega arith); out_of_range = λ e₁. (leb-true _ _ p, q) })
      go f false p ranged q d = itself 14 d (record { number = refl; too_many = λ e₁. leb-false (length v.rows) R p; out_of_range = λ e₁. absurd (omega arith) })

  -- and only then
  pub first_judged : (vs : List Visit) (k n : ℕ) → First R vs k n → (last : Outcome) → judged R vs last ≡ refused k n
  unfolding judged
  first_judged vs k n t last =
      ap (λ (us : List Visit). judged R us last) t.order
      ∙ judged_append R t.before (t.here ∷ t.after) last
      ∙ kept_judged t.before t.passed _
      ∙ go (eqb k 14) refl (eqb k 15) refl t.wrong.number
      ∙ ap (refused k) t.node
    where
      go : (a : Bool) → eqb k 14 ≡ a → (b : Bool) → eqb k 15 ≡ b → (eqb k 14 || eqb k 15) ≡ true
          → cond (leb (length t.here.rows) R) (cond (all (all in_range) t.here.rows) (judged R t.after last) (refused 15 t.here.node)) (refused 14 t.here.node)
          ≡ refused k t.here.node
      go true p b q e =
          let r : k ≡ 14 = eqb-true k 14 p in rw (lt-leb (length t.here.rows) R (t.wrong.too_many r), r) refl
      go false p true q e =
          let r : k ≡ 15 = eqb-true k 15 q in
          let w = t.wrong.out_of_range r in
          rw (le-leb (length t.here.rows) R w.0, w.1, r) refl
      go false p false q e = absurd (false≢true (rw (p, q) at e))
