-- Plans without dependent joins and outer columns, whose inputs stand before their nodes.
use mathlib.Core.Path.{◌≡◌, refl}
use mathlib.Core.Bool.{false≢true, true}
use mathlib.Core.List.{List, [], ◌++◌, ◌∷◌, map}
use Prim.Native.Nat.{◌<◌, ℕ}
use lib.ListN.{length}
use Rattle.algebra.specs.Lists.{Every, done, each, is_empty, list_from, more}
use Rattle.algebra.specs.Plan.{Computation, Conjunct, Node, Term, add, column, compute, constant, copy, dependent, group, groupjoin, join, nothing, outer, project, scan, select, subtract}
use Rattle.algebra.specs.Columns.{Column, Shape, computation_reads, conjunct_reads, shape_at, shape_of, shapeless, term_reads}
use Rattle.algebra.specs.Domains.{Domain, match, move_computation, move_conjunct, move_term}
use Rattle.algebra.specs.Statements.{Plain}
use Rattle.algebra.proofs.Lists.Every.{every_append, every_at}
use Rattle.algebra.proofs.Lists.Keep.{each_append}
use Rattle.algebra.proofs.Lists.Entries.{entries_snoc}

pub closed_front : (cs ds : List Column) → is_empty (cs ++ ds) ≡ true → is_empty cs ≡ true
closed_front [] ds e = refl
closed_front (c ∷ cs) ds e = e

pub closed_back : (cs ds : List Column) → is_empty (cs ++ ds) ≡ true → is_empty ds ≡ true
closed_back [] ds e = e
closed_back (c ∷ cs) ds e = absurd (false≢true e)

pub closed_append : (cs ds : List Column) → is_empty cs ≡ true → is_empty ds ≡ true → is_empty (cs ++ ds) ≡ true
closed_append [] ds e f = f
closed_append (c ∷ cs) ds e f = e

pub closed_every : {P : Column → Type 0} (cs : List Column) → is_empty cs ≡ true → Every P cs
closed_every [] e = done
closed_every (c ∷ cs) e = absurd (false≢true e)

-- moved references read nothing outside
module _ (D : Domain) (f : ℕ → ℕ) where
  term_moved : (t : Term) → term_reads (move_term D f t) ≡ []
  term_moved (column p) = refl
  term_moved (outer l p) = refl
  term_moved (constant z) = refl
  term_moved nothing = refl

  pub closed_moved : (cs : List Conjunct) → is_empty (each conjunct_reads (map (move_conjunct D f) cs)) ≡ true
  closed_moved [] = refl
  closed_moved (c ∷ cs) = rw (term_moved c.first, term_moved c.second) (closed_moved cs)

  pub closed_computed : (c : Computation) → is_empty (computation_reads (move_computation D f c)) ≡ true
  closed_computed (copy a) = rw (term_moved a)
  closed_computed (add a b) = rw (term_moved a, term_moved b)
  closed_computed (subtract a b) = rw (term_moved a, term_moved b)

pub closed_match : (f g : ℕ → ℕ) (ks : List ℕ) → is_empty (each conjunct_reads (match f g ks)) ≡ true
closed_match f g [] = refl
closed_match f g (k ∷ ks) = closed_match f g ks

pub closed_both : (f g h : ℕ → ℕ) (ks : List ℕ) (D : Domain) (cs : List Conjunct) → is_empty (each conjunct_reads (match f g ks ++ map (move_conjunct D h) cs)) ≡ true
closed_both f g h ks D cs = rw each_append (closed_append (each conjunct_reads (match f g ks)) _ (closed_match f g ks) (closed_moved D h cs))

-- a node that may stand at c in such a plan
abbrev pub Tidy : ℕ → Node → Type 0
Tidy c (scan t) = Unit {0}
Tidy c (select cs i) = (i < c) × (is_empty (each conjunct_reads cs) ≡ true)
Tidy c (compute e i) = (i < c) × (is_empty (computation_reads e) ≡ true)
Tidy c (project ps i) = i < c
Tidy c (join k cs l r) = (l < c) × (r < c) × (is_empty (each conjunct_reads cs) ≡ true)
Tidy c (group ks gs i) = i < c
Tidy c (groupjoin cs gs l r) = (l < c) × (r < c) × (is_empty (each conjunct_reads cs) ≡ true)
Tidy c (dependent k cs l r) = ⊥

pub data Ordered : List Node → Type 0 where
  no_node : Ordered []
  one_more : (out : List Node) (n : Node) → Ordered out → Tidy (length out) n → Ordered (out ++ (n ∷ []))

tidy_plain : (c : ℕ) (n : Node) → Tidy c n → Plain n
tidy_plain c (scan t) h = tt
tidy_plain c (select cs i) h = tt
tidy_plain c (compute e i) h = tt
tidy_plain c (project ps i) h = tt
tidy_plain c (join k cs l r) h = tt
tidy_plain c (group ks gs i) h = tt
tidy_plain c (groupjoin cs gs l r) h = tt
tidy_plain c (dependent k cs l r) h = h

pub ordered_plain : {out : List Node} → Ordered out → Every Plain out
ordered_plain no_node = done
ordered_plain (one_more out n t h) = every_append (ordered_plain t) (more (tidy_plain (length out) n h) done)

-- ---- such plans are well formed and closed

module _ (widths : List ℕ) where
  tidy_closed : (sh : ℕ → Shape) (c : ℕ) → ((i : ℕ) → is_empty (sh i).reads ≡ true) → (n : Node) → Tidy c n → is_empty (shape_of widths sh n).reads ≡ true
  tidy_closed sh c e (scan t) h = refl
  tidy_closed sh c e (select cs i) h = closed_append (each conjunct_reads cs) _ h.1 (e i)
  tidy_closed sh c e (compute a i) h = closed_append (computation_reads a) _ h.1 (e i)
  tidy_closed sh c e (project ps i) h = e i
  tidy_closed sh c e (join k cs l r) h = closed_append (each conjunct_reads cs) _ h.2 (closed_append (sh l).reads _ (e l) (e r))
  tidy_closed sh c e (group ks gs i) h = e i
  tidy_closed sh c e (groupjoin cs gs l r) h = closed_append (each conjunct_reads cs) _ h.2 (closed_append (sh l).reads _ (e l) (e r))
  tidy_closed sh c e (dependent k cs l r) h = absurd h

  shapes_closed : {out : List Node} → Ordered out → Every (λ s. is_empty s.reads ≡ true) (list_from shapeless (shape_of widths) [] out)
  shapes_closed no_node = done
  shapes_closed (one_more out n t h) =
      let e = shapes_closed t in rw (entries_snoc shapeless (shape_of widths) out n) (every_append e (more (tidy_closed (shape_at widths out) (length out) (every_at shapeless refl e) n h) done))

  pub ordered_closed : {out : List Node} → Ordered out → (i : ℕ) → is_empty (shape_at widths out i).reads ≡ true
  ordered_closed t = every_at shapeless refl (shapes_closed t)
