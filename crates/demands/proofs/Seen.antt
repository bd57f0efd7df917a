-- Every visit is one of a node that the order reaches, under outer rows that the operator rules give.
use mathlib.Core.Path.{◌≡◌, refl, sym, ap, ◌∙◌}
use mathlib.Core.Bool.{Bool, true, false, cond}
use mathlib.Core.List.{List, [], ◌∷◌, ◌++◌, append_assoc, append-nil}
use Prim.Native.Nat.{ℕ, zero, suc, ◌<◌}
use native.Mathlib.Omega.{arith}
use lib.Dec.{eqb}
use lib.ListN.{length, get_or}
use borrow.Author.Tests.{eq-eqb}
use Rattle.algebra.specs.Lists as lists
use Rattle.algebra.specs.Lists.{any, each, upto, Every}
use Rattle.algebra.specs.Value.{Row}
use Rattle.algebra.specs.Plan.{Node, scan, select, compute, project, join, group, groupjoin, dependent, inputs}
use Rattle.algebra.specs.Operators.{Outer, joined, partners}
use Rattle.algebra.specs.Meaning.{Database, node_rows, result_of}
use Rattle.algebra.specs.Columns.{shape_at, closed}
use Rattle.algebra.specs.Statements.{FineFrom}
use Rattle.algebra.proofs.Lists.Every.{every_head, every_tail, every_map, every_append, every_both, every_keep, every_kept, every_each}
use Rattle.algebra.proofs.Domains.Keys.{upto_below}
use Rattle.algebra.proofs.Tables.Fine.{inputs_under}
use Rattle.algebra.proofs.Tables.Theorem.{width_is}
use Rattle.demands.specs.Visits.{visit, bindings, rows_at, anew, visits_of, visits_at, visits, Reached, alone, beneath, bound, Seen}
use Rattle.demands.proofs.Visited.{node_rows_lem, visits_at_lem}

itself : (i : ℕ) (is : List ℕ) → any (eqb i) (i ∷ is) ≡ true
itself i is = rw (eq-eqb i i refl)

second : (i j : ℕ) → any (eqb j) (i ∷ j ∷ []) ≡ true
second i j = go (eqb j i)
  where
    go : (b : Bool) → cond b true (any (eqb j) (j ∷ [])) ≡ true
    go true = refl
    go false = itself j []

module _ (widths : List ℕ) (db : Database) (ns : List Node) where
  -- the visits of node j are seen, once it is reached
  abbrev Sees : ℕ → Type 0
  Sees j = (o : Outer) → Reached widths db ns j o → Every (Seen widths db ns) (visits_at widths db ns j o)

  anew_seen : (j : ℕ) → Sees j → (o : Outer) → (closed (shape_at widths ns j) ≡ false → Reached widths db ns j o)
      → Every (Seen widths db ns) (anew widths db ns (visits_at widths db ns) j o)
  anew_seen j sees o reach = go (closed (shape_at widths ns j)) refl
    where
      go : (b : Bool) → closed (shape_at widths ns j) ≡ b → Every (Seen widths db ns) (cond b [] (visits_at widths db ns j o))
      go true c = lists.done
      go false c = sees o (reach c)

  module _ (n : ℕ) (o : Outer) (reached : Reached widths db ns n o) where
    own : Every (Seen widths db ns) (visit n (rows_at widths db ns n o) ∷ [])
    own = lists.more (record { around = o; reached = reached; rest = []; first = append-nil (rows_at widths db ns n o) }) lists.done

    -- the bindings, one after the other
    bindings_seen : (r : ℕ) → Sees r → (whole : List Row) (make : Row → List Row)
        → ((x : Row) (earlier later : List Row) → whole ≡ earlier ++ (x ∷ later) → closed (shape_at widths ns r) ≡ false → Reached widths db ns r (x ∷ o))
        → (ls earlier before : List Row) → whole ≡ earlier ++ ls → before ++ each make ls ≡ rows_at widths db ns n o
        → Every (Seen widths db ns) (bindings n (λ x. anew widths db ns (visits_at widths db ns) r (x ∷ o)) make ls before)
    bindings_seen r sees whole make reach [] earlier before w e = lists.done
    bindings_seen r sees whole make reach (x ∷ xs) earlier before w e =
        let so : (before ++ make x) ++ each make xs ≡ rows_at widths db ns n o = append_assoc before (make x) (each make xs) ∙ e in
        every_append (anew_seen r sees (x ∷ o) (reach x earlier xs w))
        (lists.more (record { around = o; reached = reached; rest = each make xs; first = so })
        (bindings_seen r sees whole make reach xs (earlier ++ (x ∷ [])) (before ++ make x) (w ∙ sym (append_assoc earlier (x ∷ []) xs)) so))

    node_seen : (x : Node) → get_or ns n (scan 0) ≡ x → Every Sees (inputs x)
        → Every (λ j. (shape_at widths ns j).width ≡ (result_of widths db ns j).width) (inputs x)
        → rows_at widths db ns n o ≡ node_rows widths db (result_of widths db ns) x o
        → Every (Seen widths db ns) (visits_of widths db ns (visits_at widths db ns) n x o)
    node_seen (scan t) e h w q = own
    node_seen (select cs i) e h w q = every_append (anew_seen i (every_head h) o (beneath reached (rw e (itself i [])))) own
    node_seen (compute c i) e h w q = every_append (anew_seen i (every_head h) o (beneath reached (rw e (itself i [])))) own
    node_seen (project ps i) e h w q = every_append (anew_seen i (every_head h) o (beneath reached (rw e (itself i [])))) own
    node_seen (group ks gs i) e h w q = every_append (anew_seen i (every_head h) o (beneath reached (rw e (itself i [])))) own
    node_seen (join k cs l r) e h w q =
        every_append (anew_seen l (every_head h) o (beneath reached (rw e (itself l (r ∷ [])))))
        (every_append (anew_seen r (every_head (every_tail h)) o (beneath reached (rw e (second l r)))) own)
    node_seen (groupjoin cs gs l r) e h w q =
        every_append (anew_seen l (every_head h) o (beneath reached (rw e (itself l (r ∷ [])))))
        (every_append (anew_seen r (every_head (every_tail h)) o (beneath reached (rw e (second l r)))) own)
    node_seen (dependent k cs l r) e h w q =
        every_append (anew_seen l (every_head h) o (beneath reached (rw e (itself l []))))
        (bindings_seen r (every_head (every_tail h)) (rows_at widths db ns l o)
        (λ x. joined k (shape_at widths ns r).width (partners o cs (rows_at widths db ns r (x ∷ o)) x) x)
        (λ x earlier later s. bound earlier later reached e s) (rows_at widths db ns l o) [] [] refl
        (ap (λ (v : ℕ). each (λ x. joined k v (partners o cs (rows_at widths db ns r (x ∷ o)) x) x) (rows_at widths db ns l o)) (every_head (every_tail w)) ∙ sym q))

  module _ (fine : FineFrom widths [] ns) where
    seen_below : (limit n : ℕ) → n < limit → n < length ns → Sees n
    seen_below zero n l h o reached = absurd (omega arith)
    seen_below (suc limit) n l h o reached =
        let below = inputs_under widths (scan 0) ns fine n h in
        rw (visits_at_lem widths db ns n h below o)
        (node_seen n o reached (get_or ns n (scan 0)) refl
        (every_map (λ j (g : j < n). seen_below limit j (omega arith) (omega arith)) below)
        (every_map (λ j (g : j < n). sym (width_is widths db ns j)) below)
        (node_rows_lem widths db ns n h below o))

    -- every visit is seen
    pub every_seen : Every (Seen widths db ns) (visits widths db ns)
    unfolding visits
    every_seen =
        every_each (λ n. visits_at widths db ns n [])
        (every_map (λ n (h : (n < length ns) × (closed (shape_at widths ns n) ≡ true)). seen_below (suc n) n (omega arith) h.0 [] (alone h.0 h.1))
        (every_both (every_keep (λ n. closed (shape_at widths ns n)) (upto_below (length ns))) (every_kept (λ n. closed (shape_at widths ns n)) (upto (length ns)))))
