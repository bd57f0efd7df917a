-- Nodes written one behind the other, with their columns there.
use mathlib.Core.Path.{◌∙◌, ◌≡◌, ap, refl, sym}
use mathlib.Core.Bool.{true}
use mathlib.Core.List.{List, [], ◌++◌, ◌∷◌, append_assoc, append-nil}
use Prim.Native.Nat.{◌+◌, ◌<◌, ℕ}
use native.Mathlib.Nat.{add-zero}
use native.Mathlib.Omega.{arith}
use lib.ListN.{length, length-append, length-map}
use Rattle.algebra.specs.Lists.{Every, all, done, each, is_empty, more}
use Rattle.algebra.specs.Plan.{Conjunct, Kind, Node, anti, group, inner, inputs, join, join_width, left_outer, project, semi, width_of}
use Rattle.algebra.specs.Columns.{Shape, conjunct_reads, past, shape_at, shape_of, shapeless}
use Rattle.algebra.specs.Domains.{Domain, around, domain_keys, inner_domain, under_inner}
use Rattle.algebra.specs.Rewriting.{Piece, Placed, closed_put, dropping, emit, unnest}
use Rattle.algebra.specs.Statements.{InLeft}
use Rattle.algebra.proofs.Lists.Entries.{entry_before, entry_last}
use Rattle.algebra.proofs.Columns.Picked.{length_upto}
use Rattle.algebra.proofs.Lists.Same.{and_both}
use Rattle.plan.specs.Verdict.{columns_there, conjunct_there}
use Rattle.pages.specs.Pages.{Stands}
use Rattle.rules.proofs.Laws.Columns.{Held, around_there, columns_all, inner_held, inner_there, keys_below, keys_ranked}

module _ (widths : List ℕ) where
  -- the width of node i of the nodes written
  abbrev pub width_in : List Node → ℕ → ℕ
  width_in out i = (shape_at widths out i).width

  -- nodes written one behind the other, each with its inputs before it and its columns in their rows
  pub data Sound : List Node → Type 0 where
    no_node : Sound []
    one_more : (out : List Node) (n : Node) → Sound out → Every (λ j. j < length out) (inputs n) → columns_there (width_in out) [] n ≡ true
        → Sound (out ++ (n ∷ []))

  -- more nodes behind those of out
  pub record Grows (out more : List Node) : Type 0 where
    pub rest : List Node
    pub is : more ≡ out ++ rest
    pub keeps : Sound out → Sound more

  -- what a step has written, and the width of the node meant
  pub record Wrote (out : List Node) (x : Placed) (w : ℕ) : Type 0 where
    pub grows : Grows out x.out
    pub has : Stands widths x.out x.at w

  -- a piece: its copy where it is closed, and what it writes under a domain that holds what it reads
  pub record Sits (out : List Node) (p : Piece) : Type 0 where
    pub copied : is_empty p.shape.reads ≡ true → Stands widths out p.image p.shape.width
    pub puts : (D : Domain) (more : List Node) → Grows out more → Stands widths more D.node D.width → Held D p.shape.reads
        → Wrote more (p.put D more) (D.width + p.shape.width)

module _ {widths : List ℕ} where
  -- nothing more
  pub grows_none : (out : List Node) → Grows widths out out
  grows_none out = record { rest = []; is = sym (append-nil out); keeps = λ t. t }

  -- more, and more behind it
  pub grows_both : {a b c : List Node} → Grows widths a b → Grows widths b c → Grows widths a c
  grows_both {a} f g = record { rest = f.rest ++ g.rest; is = g.is ∙ rw f.is (append_assoc a f.rest g.rest); keeps = λ t. g.keeps (f.keeps t) }

  -- a node stays where it is
  pub stands_before : {out : List Node} {i w : ℕ} (rest : List Node) → Stands widths out i w → Stands widths (out ++ rest) i w
  stands_before {out} {i} rest s = record {
    inside = rw length-append (omega (arith, s.inside));
    width = ap (λ (r : Shape). r.width) (entry_before shapeless (shape_of widths) out rest i s.inside) ∙ s.width;
  }

  pub stands_grows : {out more : List Node} {i w : ℕ} → Grows widths out more → Stands widths out i w → Stands widths more i w
  stands_grows e s = rw e.is (stands_before e.rest s)

  -- so does what a piece knows
  pub sits_grows : {out more : List Node} {p : Piece} → Grows widths out more → Sits widths out p → Sits widths more p
  sits_grows e s = record { copied = λ c. stands_grows e (s.copied c); puts = λ D m f h. s.puts D m (grows_both e f) h }

  -- one more node
  pub wrote : (out : List Node) (n : Node) (w : ℕ) → Every (λ j. j < length out) (inputs n) → columns_there (width_in widths out) [] n ≡ true
      → width_of widths (width_in widths out) n ≡ w → Wrote widths out (emit n out) w
  wrote out n w b c e = record {
    grows = record { rest = n ∷ []; is = refl; keeps = λ t. one_more out n t b c };
    has = record { inside = rw length-append (omega arith); width = ap (λ (r : Shape). r.width) (entry_last shapeless (shape_of widths) out n) ∙ e };
  }

  -- what is written behind more nodes is written behind the first of them
  pub wrote_after : {out more : List Node} {x : Placed} {w : ℕ} → Grows widths out more → Wrote widths more x w → Wrote widths out x w
  wrote_after e s = record { grows = grows_both e s.grows; has = s.has }

  -- the width in another form
  pub wrote_width : {out : List Node} {x : Placed} {w v : ℕ} → w ≡ v → Wrote widths out x w → Wrote widths out x v
  wrote_width e s = rw e at s

  -- the project that drops the columns between
  wrote_project : (n m w : ℕ) (out : List Node) (x : Placed) → Wrote widths out x (n + (m + w))
      → Wrote widths out (emit (project (around n m w) x.at) x.out) (n + w)
  unfolding columns_there
  wrote_project n m w out x s =
      wrote_after s.grows
      (wrote x.out _ _ (more s.has.inside done) (rw s.has.width (around_there n m w)) (simp (length-append, length-map, length_upto)))

  -- it stands behind an inner or an outer join
  pub wrote_dropping : (k : Kind) (n m w : ℕ) (out : List Node) (x : Placed) → Wrote widths out x (join_width k n (m + w))
      → Wrote widths out (dropping k (around n m w) x) (join_width k n w)
  wrote_dropping inner n m w out x s = wrote_project n m w out x s
  wrote_dropping semi n m w out x s = s
  wrote_dropping anti n m w out x s = s
  wrote_dropping left_outer n m w out x s = wrote_project n m w out x s

  -- a join of two nodes in place
  pub wrote_join : (k : Kind) (cs : List Conjunct) (n m i j : ℕ) (out : List Node) → Stands widths out i n → Stands widths out j m
      → all (conjunct_there [] (n + m)) cs ≡ true → Wrote widths out (emit (join k cs i j) out) (join_width k n m)
  unfolding columns_there
  wrote_join k cs n m i j out s t e = wrote out _ _ (more s.inside (more t.inside done)) (rw (s.width, t.width) e) (rw (s.width, t.width))

module _ (widths : List ℕ) where
  -- a closed piece writes the join of a domain with its copy
  pub sits_closed : (out : List Node) (sh : Shape) (i : ℕ) → Stands widths out i sh.width
      → Sits widths out (record { shape = sh; image = i; put = closed_put i })
  sits_closed out sh i s = record {
    copied = λ c. s;
    puts = λ D more f d h. wrote_join inner [] D.width sh.width D.node i more d (stands_grows f s) refl;
  }

  module _ (out : List Node) (at : ℕ → Piece) (count : ℕ) (sits : (i : ℕ) → i < count → Sits widths out (at i)) where
    -- the shapes of the pieces
    abbrev sh : ℕ → Shape
    sh i = (at i).shape

    -- a dependent join, its left in place: a new domain, the right under it, a join
    pub wrote_unnest : (D : Domain) (kind : Kind) (cs : List Conjunct) (scope : List ℕ) (l r : ℕ) → r < count
        → Every (λ e. InLeft (sh l).width e.level e.position) (sh r).reads
        → all (conjunct_there scope ((sh l).width + (sh r).width)) cs ≡ true → Held D (each conjunct_reads cs) → Held D (past (sh r).reads)
        → (x : Placed) → Grows widths out x.out → Stands widths x.out x.at (D.width + (sh l).width)
        → Wrote widths x.out (unnest kind cs (at l) (at r) D x) (join_width kind (D.width + (sh l).width) (sh r).width)
    unfolding unnest columns_there
    wrote_unnest D kind cs scope l r hr il there hc hp x ex sx =
        wrote_dropping kind (D.width + (sh l).width) (length ks) (sh r).width x.out _
        (wrote_after e
        (wrote_join kind (under_inner D (sh l).width ks cs) (D.width + (sh l).width) (length ks + (sh r).width) x.at _ _ (stands_grows e sx) right.has
        (inner_there D scope (sh l).width (sh r).width cs there hc ks (keys_below D (sh l).width (sh r).reads)
        (keys_ranked D (sh l).width (sh r).reads))))
      where
        ks : List ℕ
        ks = domain_keys D (sh l).width (sh r).reads

        g : Placed
        g = emit (group ks [] x.at) x.out

        new : Domain
        new = inner_domain D (sh l).width (sh r).reads g.at

        domain : Wrote widths x.out g (length ks)
        domain =
            wrote x.out (group ks [] x.at) (length ks) (more sx.inside done)
            (rw sx.width (and_both _ _ (columns_all (D.width + (sh l).width) (keys_below D (sh l).width (sh r).reads)) refl)) (add-zero (length ks))

        right : Wrote widths g.out ((at r).put new g.out) (length ks + (sh r).width)
        right = (sits r hr).puts new g.out (grows_both ex domain.grows) domain.has (inner_held D (sh l).width (sh r).reads g.at il hp)

        e : Grows widths x.out ((at r).put new g.out).out
        e = grows_both domain.grows right.grows
