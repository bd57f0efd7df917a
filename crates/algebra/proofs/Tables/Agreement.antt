-- Outer rows that agree on the columns that a node reads give it the same rows.
use mathlib.Core.Path.{◌∙◌, ◌≡◌, ap, refl}
use mathlib.Core.List.{List, [], ◌++◌, ◌∷◌}
use Prim.Native.Nat.{suc, zero, ℕ}
use lib.ListN.{get_or}
use Rattle.algebra.specs.Lists.{Every, each}
use Rattle.algebra.specs.Value.{Row, null}
use Rattle.algebra.specs.Plan.{Computation, Conjunct, Kind, Node, Term, add, column, compute, constant, copy, dependent, group, groupjoin, join, nothing, outer, project, scan, select, subtract}
use Rattle.algebra.specs.Operators.{Outer, aggregates, computed, join_rows, joined, partners, passes, value_of}
use Rattle.algebra.specs.Meaning.{Database, Result, empty, node_result, result_of}
use Rattle.algebra.specs.Columns.{Column, Shape, computation_reads, conjunct_reads, past, past_one, shape_at, shape_of, shapeless, term_reads}
use Rattle.algebra.proofs.Lists.Every.{every_back, every_front, every_head, every_map, every_of, every_uneach}
use Rattle.algebra.proofs.Lists.Keep.{each_cong, keep_same, map_cong}
use Rattle.algebra.proofs.Lists.Entries.{entries_related}

-- the column has one value in both
abbrev pub Alike : Outer → Outer → Column → Type 0
Alike o p c = get_or (get_or o c.level []) c.position null ≡ get_or (get_or p c.level []) c.position null

abbrev pub Respects : List Column → (Outer → List Row) → Type 0
Respects cs rows = (o p : Outer) → Every (Alike o p) cs → rows o ≡ rows p

module _ (o p : Outer) where
  value_alike : (r : Row) (t : Term) → Every (Alike o p) (term_reads t) → value_of o r t ≡ value_of p r t
  value_alike r (column i) h = refl
  value_alike r (outer l i) h = every_head h
  value_alike r (constant z) h = refl
  value_alike r nothing h = refl

  passes_alike : (cs : List Conjunct) → Every (Alike o p) (each conjunct_reads cs) → (r : Row) → passes o cs r ≡ passes p cs r
  passes_alike [] h r = refl
  passes_alike (c ∷ cs) h r =
      let rs = every_front (conjunct_reads c) (each conjunct_reads cs) h in
      rw (value_alike r c.first (every_front (term_reads c.first) _ rs), value_alike r c.second (every_back (term_reads c.first) _ rs), passes_alike cs (every_back (conjunct_reads c) _ h) r)

  computed_alike : (c : Computation) → Every (Alike o p) (computation_reads c) → (r : Row) → computed o c r ≡ computed p c r
  computed_alike (copy a) h r = value_alike r a h
  computed_alike (add a b) h r = rw (value_alike r a (every_front (term_reads a) _ h), value_alike r b (every_back (term_reads a) _ h))
  computed_alike (subtract a b) h r = rw (value_alike r a (every_front (term_reads a) _ h), value_alike r b (every_back (term_reads a) _ h))

  partners_alike : (cs : List Conjunct) → Every (Alike o p) (each conjunct_reads cs) → (ys : List Row) (l : Row) → partners o cs ys l ≡ partners p cs ys l
  partners_alike cs h ys l = keep_same _ _ ys (λ r. passes_alike cs h (l ++ r))

  join_alike : (k : Kind) (w : ℕ) (cs : List Conjunct) (xs : List Row) (f g : Row → List Row) → Every (Alike o p) (each conjunct_reads cs) → ((x : Row) → f x ≡ g x)
      → join_rows k w o cs xs f ≡ join_rows k w p cs xs g
  join_alike k w cs xs f g h e = each_cong _ _ (every_of (λ x. ap (λ ys. joined k w ys x) (partners_alike cs h (f x) x ∙ ap (λ ys. partners p cs ys x) (e x))) xs)

  past_alike : (x : Row) (cs : List Column) → Every (Alike o p) (past cs) → Every (Alike (x ∷ o) (x ∷ p)) cs
  past_alike x cs h = every_map one (every_uneach _ cs h)
    where
      level : (l i : ℕ) → Every (Alike o p) (past_one l i) → Alike (x ∷ o) (x ∷ p) (record { level = l; position = i })
      level zero i t = refl
      level (suc l) i t = every_head t

      one : (c : Column) → Every (Alike o p) (past_one c.level c.position) → Alike (x ∷ o) (x ∷ p) c
      one c t = level c.level c.position t

module _ (widths : List ℕ) (db : Database) where
  pub node_agree : (at : ℕ → Result) (sh : ℕ → Shape) → ((i : ℕ) → Respects (sh i).reads (at i).rows) → (n : Node) → Respects (shape_of widths sh n).reads (node_result widths db at n).rows
  node_agree at sh h (scan t) o p e = refl
  node_agree at sh h (select cs i) o p e = rw (h i o p (every_back (each conjunct_reads cs) _ e)) (keep_same _ _ ((at i).rows p) (passes_alike o p cs (every_front (each conjunct_reads cs) _ e)))
  node_agree at sh h (compute c i) o p e =
      rw (h i o p (every_back (computation_reads c) _ e)) (map_cong _ _ (every_of (λ r. ap (λ v. r ++ (v ∷ [])) (computed_alike o p c (every_front (computation_reads c) _ e) r)) ((at i).rows p)))
  node_agree at sh h (project ps i) o p e = rw (h i o p e)
  node_agree at sh h (join k cs l r) o p e =
      let b = every_back (each conjunct_reads cs) _ e in
      rw (h l o p (every_front (sh l).reads _ b), h r o p (every_back (sh l).reads _ b)) (join_alike o p k (at r).width cs ((at l).rows p) (λ x. (at r).rows p) _ (every_front (each conjunct_reads cs) _ e) (λ x. refl))
  node_agree at sh h (group ks gs i) o p e = rw (h i o p e)
  node_agree at sh h (groupjoin cs gs l r) o p e =
      let b = every_back (each conjunct_reads cs) _ e in
      rw (h l o p (every_front (sh l).reads _ b), h r o p (every_back (sh l).reads _ b))
      (map_cong _ _ (every_of (λ x. ap (λ ys. x ++ aggregates gs ys) (partners_alike o p cs (every_front (each conjunct_reads cs) _ e) ((at r).rows p) x)) ((at l).rows p)))
  node_agree at sh h (dependent k cs l r) o p e =
      let b = every_back (each conjunct_reads cs) _ e in
      rw (h l o p (every_front (sh l).reads _ b))
      (join_alike o p k (at r).width cs ((at l).rows p) _ _ (every_front (each conjunct_reads cs) _ e) (λ x. h r (x ∷ o) (x ∷ p) (past_alike o p x (sh r).reads (every_back (sh l).reads _ b))))

  pub results_respect : (ns : List Node) (i : ℕ) → Respects (shape_at widths ns i).reads (result_of widths db ns i).rows
  results_respect = entries_related empty shapeless (node_result widths db) (shape_of widths) (λ r s. Respects s.reads r.rows) (λ o p e. refl) node_agree
