-- An open node, rewritten under a domain, has its columns there.
use mathlib.Core.Path.{◌≡◌, refl}
use mathlib.Core.Bool.{Bool, cond, false, true, true≢false}
use mathlib.Core.List.{List, [], ◌++◌, ◌∷◌, map}
use Prim.Native.Nat.{◌+◌, ◌<◌, ℕ}
use native.Mathlib.Omega.{arith}
use lib.Dec.{ltb}
use lib.ListN.{length, length-append, length-map}
use Rattle.algebra.specs.Lists.{Every, all, done, each, is_empty, more}
use Rattle.algebra.specs.Plan.{Aggregate, Computation, Conjunct, Kind, join_width}
use Rattle.algebra.specs.Plan.{Node, compute, dependent, group, groupjoin, join, project, scan, select}
use Rattle.algebra.specs.Columns.{Shape, computation_reads, conjunct_reads, past, reads_left, shape_of}
use Rattle.algebra.specs.Domains.{Domain, inside, move_aggregate, move_conjunct, shift, under_both}
use Rattle.algebra.specs.Rewriting.{Piece, Placed, emit, join_closed, join_open, join_under, open_under, unnest}
use Rattle.algebra.specs.Statements.{Fine, InLeft}
use Rattle.algebra.proofs.Lists.Same.{and_left, and_right, and_both}
use Rattle.algebra.proofs.Lists.Every.{every_back, every_front, every_map}
use Rattle.algebra.proofs.Columns.Picked.{length_upto}
use Rattle.algebra.proofs.Domains.Keys.{upto_below}
use Rattle.algebra.proofs.Tables.Nodes.{join_width_under}
use Rattle.plan.specs.Verdict.{aggregate_there, columns_there, conjunct_there}
use Rattle.pages.specs.Pages.{Stands}
use Rattle.rules.proofs.Laws.Columns.{Held, aggregates_moved, both_there, computation_moved, conjuncts_moved}
use Rattle.rules.proofs.Laws.Columns.{first_there, inside_held, left_there, match_there}
use Rattle.rules.proofs.Laws.ColumnsWritten.{Grows, Sits, Wrote, grows_both, stands_grows}
use Rattle.rules.proofs.Laws.ColumnsWritten.{wrote, wrote_after, wrote_dropping, wrote_join, wrote_unnest, wrote_width}

module _ (widths : List ℕ) (out : List Node) (at : ℕ → Piece) (count : ℕ) (sits : (i : ℕ) → i < count → Sits widths out (at i))
    (D : Domain) (before : List Node) (ext : Grows widths out before) (sd : Stands widths before D.node D.width) (scope : List ℕ) where
  -- the shapes of the pieces
  abbrev sh : ℕ → Shape
  sh i = (at i).shape

  -- a node that has its columns, rewritten under D, which holds what it reads
  abbrev Open : Node → Type 0
  Open n =
      columns_there (λ i. (sh i).width) scope n ≡ true → Held D (shape_of widths sh n).reads
      → Wrote widths before (open_under at n D before) (D.width + (shape_of widths sh n).width)

  -- an input under D
  left : (i : ℕ) → i < count → Held D (sh i).reads → Wrote widths before ((at i).put D before) (D.width + (sh i).width)
  left i h g = (sits i h).puts D before ext sd g

  -- a select
  open_select : (cs : List Conjunct) (i : ℕ) → i < count → Open (select cs i)
  unfolding open_under columns_there
  open_select cs i h e g =
      let u = left i h (every_back (each conjunct_reads cs) _ g) in
      wrote_after u.grows
      (wrote _ _ _ (more u.has.inside done)
      (rw u.has.width
      (conjuncts_moved D (shift D.width) scope (sh i).width (D.width + (sh i).width) (λ p q. omega arith) (omega arith) cs e
      (every_front (each conjunct_reads cs) _ g)))
      u.has.width)

  -- a map
  open_compute : (c : Computation) (i : ℕ) → i < count → Open (compute c i)
  unfolding open_under columns_there
  open_compute c i h e g =
      let u = left i h (every_back (computation_reads c) _ g) in
      wrote_after u.grows
      (wrote _ _ _ (more u.has.inside done)
      (rw u.has.width
      (computation_moved D (shift D.width) scope (sh i).width (D.width + (sh i).width) (λ p q. omega arith) (omega arith) c e
      (every_front (computation_reads c) _ g)))
      (rw u.has.width (omega arith)))

  -- a project
  open_project : (ps : List ℕ) (i : ℕ) → i < count → Open (project ps i)
  unfolding open_under columns_there
  open_project ps i h e g =
      let u = left i h g in
      wrote_after u.grows
      (wrote _ _ _ (more u.has.inside done) (rw u.has.width (first_there D (sh i).width ps e))
      (simp (length-append, length-map, length_upto)))

  -- the aggregates of a group or a groupjoin, over an input under D
  aggregates_there : (i : ℕ) (gs : List Aggregate) → all (aggregate_there (sh i).width) gs ≡ true
      → all (aggregate_there (D.width + (sh i).width)) (map (move_aggregate (shift D.width)) gs) ≡ true
  aggregates_there i gs e = aggregates_moved (shift D.width) (sh i).width (D.width + (sh i).width) (λ p q. omega arith) gs e

  -- a group, without keys a groupjoin
  open_group : (ks : List ℕ) (gs : List Aggregate) (i : ℕ) → i < count → Open (group ks gs i)
  unfolding open_under columns_there
  open_group [] gs i h e g =
      let u = left i h g in
      let d = stands_grows u.grows sd in
      wrote_after u.grows
      (wrote _ _ _ (more d.inside (more u.has.inside done))
      (rw (d.width, u.has.width)
      (and_both _ _ (match_there _ _ _ (every_map (λ q (t : q < D.width). (omega arith, omega arith)) (upto_below D.width)))
      (aggregates_there i gs e)))
      (rw (d.width, length-map) (omega arith)))
  open_group (k ∷ ks) gs i h e g =
      let u = left i h g in
      let ek = and_left (all (λ p. ltb p (sh i).width) (k ∷ ks)) _ e in
      let eg = and_right (all (λ p. ltb p (sh i).width) (k ∷ ks)) _ e in
      wrote_after u.grows
      (wrote _ _ _ (more u.has.inside done)
      (rw u.has.width (and_both _ _ (first_there D (sh i).width (k ∷ ks) ek) (aggregates_there i gs eg)))
      (simp (length-append, length-map, length_upto) (omega arith)))

  -- a join whose right side stands under E, which is D seen from inside it
  open_join : (kind : Kind) (cs : List Conjunct) (l r : ℕ) → l < count → r < count → (place : ℕ → ℕ → ℕ)
      → all (conjunct_there scope ((sh l).width + (sh r).width)) cs ≡ true → Held D (each conjunct_reads cs) → Held D (sh l).reads
      → Held (record { node = D.node; width = D.width; place = place }) (sh r).reads
      → Wrote widths before (join_under kind cs (at l) (at r) D (record { node = D.node; width = D.width; place = place }) before)
      (D.width + join_width kind (sh l).width (sh r).width)
  unfolding join_under join_closed join_open
  open_join kind cs l r hl hr place e hc gl gr = go (is_empty (sh r).reads) refl
    where
      E : Domain
      E = record { node = D.node; width = D.width; place = place }

      x : Placed
      x = (at l).put D before

      y : Placed
      y = (at r).put E x.out

      u : Wrote widths before x (D.width + (sh l).width)
      u = left l hl gl

      v : Wrote widths x.out y (D.width + (sh r).width)
      v = (sits r hr).puts E x.out (grows_both ext u.grows) (stands_grows u.grows sd) gr

      go : (b : Bool) → is_empty (sh r).reads ≡ b
          → Wrote widths before
          (cond b (join_closed kind cs D x (at r).image) (join_open kind cs (sh l).width (sh r).width D x.at y))
          (D.width + join_width kind (sh l).width (sh r).width)
      go true c =
          wrote_after u.grows
          (wrote_width (join_width_under kind D.width (sh l).width (sh r).width)
          (wrote_join kind _ (D.width + (sh l).width) (sh r).width x.at (at r).image x.out u.has
          (stands_grows (grows_both ext u.grows) ((sits r hr).copied c))
          (left_there D scope (sh l).width (sh r).width cs e hc)))
      go false c =
          wrote_width (join_width_under kind D.width (sh l).width (sh r).width)
          (wrote_dropping kind (D.width + (sh l).width) D.width (sh r).width before _
          (wrote_after (grows_both u.grows v.grows)
          (wrote_join kind (under_both D (sh l).width cs) (D.width + (sh l).width) (D.width + (sh r).width) x.at y.at y.out
          (stands_grows v.grows u.has) v.has
          (both_there D scope (sh l).width (sh r).width cs e hc))))

  -- a groupjoin
  open_groupjoin : (cs : List Conjunct) (gs : List Aggregate) (l r : ℕ) → l < count → r < count → Open (groupjoin cs gs l r)
  unfolding open_under columns_there
  open_groupjoin cs gs l r hl hr e g = go (is_empty (sh r).reads) refl
    where
      hc : Held D (each conjunct_reads cs)
      hc = every_front (each conjunct_reads cs) _ g

      hs : Held D ((sh l).reads ++ (sh r).reads)
      hs = every_back (each conjunct_reads cs) _ g

      ec : all (conjunct_there scope ((sh l).width + (sh r).width)) cs ≡ true
      ec = and_left (all (conjunct_there scope ((sh l).width + (sh r).width)) cs) _ e

      eg : all (aggregate_there (sh r).width) gs ≡ true
      eg = and_right (all (conjunct_there scope ((sh l).width + (sh r).width)) cs) _ e

      x : Placed
      x = (at l).put D before

      y : Placed
      y = (at r).put D x.out

      u : Wrote widths before x (D.width + (sh l).width)
      u = left l hl (every_front (sh l).reads _ hs)

      v : Wrote widths x.out y (D.width + (sh r).width)
      v = (sits r hr).puts D x.out (grows_both ext u.grows) (stands_grows u.grows sd) (every_back (sh l).reads _ hs)

      go : (b : Bool) → is_empty (sh r).reads ≡ b
          → Wrote widths before
          (cond b (emit (groupjoin (map (move_conjunct D (shift D.width)) cs) gs x.at (at r).image) x.out)
          (emit (groupjoin (under_both D (sh l).width cs) (map (move_aggregate (shift D.width)) gs) x.at y.at) y.out))
          (D.width + ((sh l).width + length gs))
      go true c =
          let s = u.has in
          let t = stands_grows (grows_both ext u.grows) ((sits r hr).copied c) in
          wrote_after u.grows
          (wrote _ _ _ (more s.inside (more t.inside done))
          (rw (s.width, t.width) (and_both _ _ (left_there D scope (sh l).width (sh r).width cs ec hc) eg))
          (rw s.width (omega arith)))
      go false c =
          let s = stands_grows v.grows u.has in
          let t = v.has in
          wrote_after (grows_both u.grows v.grows)
          (wrote _ _ _ (more s.inside (more t.inside done))
          (rw (s.width, t.width) (and_both _ _ (both_there D scope (sh l).width (sh r).width cs ec hc) (aggregates_there r gs eg)))
          (rw (s.width, length-map) (omega arith)))

  -- a dependent join
  open_dependent : (kind : Kind) (cs : List Conjunct) (l r : ℕ) → l < count → r < count
      → Every (λ e. InLeft (sh l).width e.level e.position) (sh r).reads → Open (dependent kind cs l r)
  unfolding open_under columns_there
  open_dependent kind cs l r hl hr il e g = go (reads_left (sh r)) refl
    where
      hc : Held D (each conjunct_reads cs)
      hc = every_front (each conjunct_reads cs) _ g

      hs : Held D ((sh l).reads ++ past (sh r).reads)
      hs = every_back (each conjunct_reads cs) _ g

      gl : Held D (sh l).reads
      gl = every_front (sh l).reads _ hs

      gr : Held D (past (sh r).reads)
      gr = every_back (sh l).reads _ hs

      u : Wrote widths before ((at l).put D before) (D.width + (sh l).width)
      u = left l hl gl

      go : (b : Bool) → reads_left (sh r) ≡ b
          → Wrote widths before
          (cond b (unnest kind cs (at l) (at r) D ((at l).put D before)) (join_under kind cs (at l) (at r) D (inside D) before))
          (D.width + join_width kind (sh l).width (sh r).width)
      go true c =
          wrote_after u.grows
          (wrote_width (join_width_under kind D.width (sh l).width (sh r).width)
          (wrote_unnest widths out at count sits D kind cs scope l r hr il e hc gr ((at l).put D before) (grows_both ext u.grows) u.has))
      go false c = open_join kind cs l r hl hr (inside D).place e hc gl (inside_held D (sh r).reads c gr)

  -- every open node
  pub open_node : (n : Node) → Fine sh count n → is_empty (shape_of widths sh n).reads ≡ false → Open n
  unfolding open_under columns_there
  open_node (scan t) f o e g = absurd (true≢false o)
  open_node (select cs i) f o e g = open_select cs i f e g
  open_node (compute c i) f o e g = open_compute c i f e g
  open_node (project ps i) f o e g = open_project ps i f e g
  open_node (join k cs l r) f o e g =
      let hs : Held D ((sh l).reads ++ (sh r).reads) = every_back (each conjunct_reads cs) _ g in
      open_join k cs l r f.0 f.1 D.place e (every_front (each conjunct_reads cs) _ g) (every_front (sh l).reads _ hs)
      (every_back (sh l).reads _ hs)
  open_node (group ks gs i) f o e g = open_group ks gs i f e g
  open_node (groupjoin cs gs l r) f o e g = open_groupjoin cs gs l r f.0 f.1 e g
  open_node (dependent k cs l r) f o e g = open_dependent k cs l r f.0 f.1 f.2 e g
