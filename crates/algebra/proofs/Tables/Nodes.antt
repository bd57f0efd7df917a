-- Each node of the rewriting has the rows of the node that it stands for.
use mathlib.Core.Path.{◌∙◌, ◌≡◌, ap, fun_ext, refl, sym}
use mathlib.Core.Bool.{Bool, cond, false, true, true≢false}
use mathlib.Core.List.{List, [], ◌++◌, ◌∷◌, map}
use Prim.Native.Nat.{◌+◌, ◌<◌, ◌≤◌, suc, zero, ℕ}
use native.Mathlib.Nat.{add-zero, zero-add}
use native.Mathlib.Omega.{arith}
use lib.Dec.{eqb}
use lib.ListN.{get_or, length, length-append, length-map}
use Rattle.algebra.specs.Lists.{Every, each, is_empty, keep, upto}
use Rattle.algebra.specs.Value.{Row}
use Rattle.algebra.specs.Plan.{Aggregate, Computation, Conjunct, Kind, Node, anti, compute, dependent, group, groupjoin, inner, join, join_width, left_outer, project, scan, select, semi}
use Rattle.algebra.specs.Operators.{Outer, aggregates, computed, grouped, groupjoin_rows, groups_by, join_rows, passes, picked}
use Rattle.algebra.specs.Meaning.{Database, Result, node_result}
use Rattle.algebra.specs.Columns.{Column, Shape, computation_reads, conjunct_reads, past, past_one, reads_left, shape_of}
use Rattle.algebra.specs.Domains.{Domain, around, domain_keys, inner_domain, inside, inside_place, match, move_aggregate, move_computation, move_conjunct, outside, shift, under_both, under_inner}
use Rattle.algebra.specs.Rewriting.{Piece, Placed, closed_node, closed_put, emit, join_closed, join_open, join_under, open_under, unnest}
use Rattle.algebra.specs.Statements.{Fine, InLeft, Wide}
use Rattle.algebra.proofs.Lists.Every.{any_none, every_back, every_both, every_front, every_head, every_map, every_uneach}
use Rattle.algebra.proofs.Lists.Distinct.{Once}
use Rattle.algebra.proofs.Columns.Picked.{length_upto}
use Rattle.algebra.proofs.Columns.Moved.{Agrees, Fits}
use Rattle.algebra.proofs.Domains.Part.{part, part_none}
use Rattle.algebra.proofs.Under.Groups.{under_group}
use Rattle.algebra.proofs.Under.Joins.{dropped}
use Rattle.algebra.proofs.Under.Operators.{under_closed, under_compute, under_groupjoin_closed, under_groupjoin_open, under_join_closed, under_join_open, under_project, under_select, under_total}
use Rattle.algebra.proofs.Under.Unnest.{under_unnest}
use Rattle.algebra.proofs.Tables.Agreement.{Respects}
use Rattle.algebra.proofs.Tables.Tidy.{closed_back, closed_both, closed_computed, closed_every, closed_front, closed_match, closed_moved}
use Rattle.algebra.proofs.Tables.Placing.{Extends, Stands, Wrote, extends_refl, extends_trans, stands_extends, stands_wide, wrote, wrote_after, wrote_join, wrote_rows, wrote_width}

grouped_some : (js : List ℕ) (b : ℕ) (bs : List ℕ) (gs : List Aggregate) (rs : List Row) → grouped (js ++ (b ∷ bs)) gs rs ≡ groups_by (js ++ (b ∷ bs)) gs rs
grouped_some [] b bs gs rs = refl
grouped_some (j ∷ js) b bs gs rs = refl

pub join_width_under : (k : Kind) (d l r : ℕ) → join_width k (d + l) r ≡ d + join_width k l r
join_width_under inner d l r = omega arith
join_width_under semi d l r = refl
join_width_under anti d l r = refl
join_width_under left_outer d l r = omega arith

module _ (widths : List ℕ) (db : Database) where
  -- x has, under D, the rows of R: those behind a row of D that agrees with o are R o
  pub record Under (D : Domain) (ds : List Row) (cs : List Column) (R : Outer → List Row) (w : ℕ) (out : List Node) (x : Placed) : Type 0 where
    pub rows : List Row
    pub written : Wrote widths db out x (D.width + w) rows
    pub behind : (k : Row) (o : Outer) → length k ≡ D.width → Once ds k → Agrees D o k cs → part D.width k rows ≡ R o

  -- a piece does what its node means
  pub record Good (out : List Node) (p : Piece) (r : Result) : Type 0 where
    pub width : r.width ≡ p.shape.width
    pub respects : Respects p.shape.reads r.rows
    pub copied : is_empty p.shape.reads ≡ true → Stands widths db out p.image p.shape.width (r.rows [])
    pub puts : (D : Domain) (ds : List Row) (more : List Node) → Extends out more → Stands widths db more D.node D.width ds
        → Under D ds p.shape.reads r.rows p.shape.width more (p.put D more)

  pub good_extends : {out more : List Node} {p : Piece} {r : Result} → Extends out more → Good out p r → Good more p r
  good_extends e g = record {
    width = g.width;
    respects = g.respects;
    copied = λ c. stands_extends e (g.copied c);
    puts = λ D ds m f s. g.puts D ds m (extends_trans e f) s;
  }

  module _ (sound : (t : ℕ) → Wide (get_or widths t 0) (get_or db t [])) where
    -- a closed piece: its copy, joined with the domain
    pub good_closed : (out : List Node) (sh : Shape) (i : ℕ) (r : Result) → is_empty sh.reads ≡ true → r.width ≡ sh.width → Respects sh.reads r.rows → Stands widths db out i sh.width (r.rows [])
        → Good out (record { shape = sh; image = i; put = closed_put i }) r
    good_closed out sh i r e w re s = record {
      width = w;
      respects = re;
      copied = λ c. s;
      puts = λ D ds more f sd.
          let c = stands_extends f s in
          record {
            rows = join_rows inner sh.width [] [] ds (λ x. r.rows []);
            written = wrote more (join inner [] D.node i) _ _ (sd.inside, c.inside, refl) (rw (sd.width, c.width)) (rw (sd.rows, c.rows));
            behind = λ k o lk on ag. under_closed D.width k ds (stands_wide sound sd) on sh.width (r.rows []) ∙ re [] o (closed_every sh.reads e);
          };
    }

    module _ (out : List Node) (at : ℕ → Piece) (R : ℕ → Result) (count : ℕ) (good : (i : ℕ) → i < count → Good out (at i) (R i)) where
      abbrev sh : ℕ → Shape
      sh i = (at i).shape

      -- the left side x of a dependent join, in place with the rows xs, (the && right) side under a new domain
      module _ (D : Domain) (l r : ℕ) (hr : r < count) (il : Every (λ e. InLeft (at l).shape.width e.level e.position) (at r).shape.reads)
          (x : Placed) (xs : List Row) (ex : Extends out x.out) (sx : Stands widths db x.out x.at (D.width + (at l).shape.width) xs) where
        abbrev ks : List ℕ
        ks = domain_keys D (sh l).width (sh r).reads

        abbrev g : Placed
        g = emit (group ks [] x.at) x.out

        abbrev new : Domain
        new = inner_domain D (sh l).width (sh r).reads g.at

        the_domain : Wrote widths db x.out g (length ks) (grouped ks [] xs)
        the_domain = wrote x.out (group ks [] x.at) _ _ sx.inside (add-zero (length ks)) (rw sx.rows)

        inner_right : Under new (grouped ks [] xs) (sh r).reads (R r).rows (sh r).width g.out ((at r).put new g.out)
        inner_right = (good r hr).puts new (grouped ks [] xs) g.out (extends_trans ex the_domain.grows) the_domain.stands

        abbrev under_new : Placed
        under_new = (at r).put new g.out

        abbrev unnested : Kind → List Conjunct → List Row
        unnested kind cs = dropped kind (around (D.width + (sh l).width) (length ks) (sh r).width) (join_rows kind (length ks + (sh r).width) [] (under_inner D (sh l).width ks cs) xs (λ z. inner_right.rows))

        wrote_unnest : (kind : Kind) (cs : List Conjunct) → Wrote widths db x.out (unnest kind cs (at l) (at r) D x) (join_width kind (D.width + (sh l).width) (sh r).width) (unnested kind cs)
        unfolding unnest
        wrote_unnest kind cs =
            let e = extends_trans the_domain.grows inner_right.written.grows in
            wrote_after e
            (wrote_join kind (under_inner D (sh l).width ks cs) (D.width + (sh l).width) (length ks) (sh r).width x.at under_new.at under_new.out xs inner_right.rows (closed_both _ _ _ ks D cs) (stands_extends e sx) inner_right.written.stands)

        behind_unnest : (kind : Kind) (cs : List Conjunct) (k : Row) (o : Outer) → length k ≡ D.width → Agrees D o k (each conjunct_reads cs) → Agrees D o k (past (sh r).reads)
            → part D.width k (unnested kind cs) ≡ join_rows kind (sh r).width o cs (part D.width k xs) (λ z. (R r).rows (z ∷ o))
        behind_unnest kind cs k o lk ac ap =
            under_unnest D o k lk (sh l).width (sh r).reads g.at (sh r).width (R r).rows xs inner_right.rows (stands_wide sound sx) (stands_wide sound inner_right.written.stands)
            (λ e p le on ag. inner_right.behind e p le on ag) il ap kind cs ac

      module _ (D : Domain) (ds : List Row) (more : List Node) (ext : Extends out more) (sd : Stands widths db more D.node D.width ds) where
        abbrev Open : Node → Type 0
        Open n = Under D ds (shape_of widths (λ i. (at i).shape) n).reads (node_result widths db R n).rows (shape_of widths (λ i. (at i).shape) n).width more (open_under at n D more)

        open_select : (cs : List Conjunct) (i : ℕ) → i < count → Open (select cs i)
        unfolding open_under
        open_select cs i h =
            let u = (good i h).puts D ds more ext sd in
            let s = u.written.stands in
            record {
              rows = keep (passes [] (map (move_conjunct D (shift D.width)) cs)) u.rows;
              written = wrote_after u.written.grows (wrote _ _ _ _ (s.inside, closed_moved D _ cs) s.width (rw s.rows));
              behind = λ k o lk on ag.
                  under_select D o k lk (sh i).width u.rows (stands_wide sound s) cs (every_front (each conjunct_reads cs) _ ag)
                  ∙ ap (keep (passes o cs)) (u.behind k o lk on (every_back (each conjunct_reads cs) _ ag));
            }

        open_compute : (c : Computation) (i : ℕ) → i < count → Open (compute c i)
        unfolding open_under
        open_compute c i h =
            let u = (good i h).puts D ds more ext sd in
            let s = u.written.stands in
            record {
              rows = map (λ r. r ++ (computed [] (move_computation D (shift D.width) c) r ∷ [])) u.rows;
              written = wrote_after u.written.grows (wrote _ _ _ _ (s.inside, closed_computed D _ c) (rw s.width (omega arith)) (rw s.rows));
              behind = λ k o lk on ag.
                  under_compute D o k lk (sh i).width u.rows (stands_wide sound s) c (every_front (computation_reads c) _ ag)
                  ∙ ap (map (λ r. r ++ (computed o c r ∷ []))) (u.behind k o lk on (every_back (computation_reads c) _ ag));
            }

        open_project : (ps : List ℕ) (i : ℕ) → i < count → Open (project ps i)
        unfolding open_under
        open_project ps i h =
            let u = (good i h).puts D ds more ext sd in
            let s = u.written.stands in
            record {
              rows = map (picked (upto D.width ++ map (shift D.width) ps)) u.rows;
              written = wrote_after u.written.grows (wrote _ _ _ _ s.inside (simp (length-append, length-map, length_upto)) (rw s.rows));
              behind = λ k o lk on ag.
                  under_project D o k lk (sh i).width u.rows (stands_wide sound s) ps ∙ ap (map (picked ps)) (u.behind k o lk on ag);
            }

        open_group : (ks : List ℕ) (gs : List Aggregate) (i : ℕ) → i < count → Open (group ks gs i)
        unfolding open_under
        open_group [] gs i h =
            let u = (good i h).puts D ds more ext sd in
            let s = u.written.stands in
            let t = stands_extends u.written.grows sd in
            record {
              rows = groupjoin_rows [] (match (λ q. q) (λ q. D.width + q) (upto D.width)) (map (move_aggregate (shift D.width)) gs) ds u.rows;
              written = wrote_after u.written.grows (wrote _ _ _ _ (t.inside, s.inside, closed_match _ _ (upto D.width)) (rw (t.width, length-map) (omega arith)) (rw (t.rows, s.rows)));
              behind = λ k o lk on ag.
                  under_total D.width k ds (stands_wide sound sd) on (sh i).width gs u.rows (stands_wide sound s)
                  ∙ ap (λ rs. aggregates gs rs ∷ []) (u.behind k o lk on ag);
            }
        open_group (j ∷ js) gs i h =
            let u = (good i h).puts D ds more ext sd in
            let s = u.written.stands in
            let wide : Every (λ x. D.width ≤ length x) u.rows = every_map (λ x (e : length x ≡ D.width + (sh i).width). omega arith) (stands_wide sound s) in
            record {
              rows = groups_by (upto D.width ++ map (shift D.width) (j ∷ js)) (map (move_aggregate (shift D.width)) gs) u.rows;
              written = wrote_after u.written.grows
                  (wrote _ _ _ _ s.inside (simp (length-append, length-map, length_upto) (omega arith)) (rw s.rows (grouped_some (upto D.width) _ _ _ u.rows)));
              behind = λ k o lk on ag. under_group D.width k lk (j ∷ js) gs u.rows wide ∙ ap (groups_by (j ∷ js) gs) (u.behind k o lk on ag);
            }

        -- a join; the right side's outer rows are those of the left row x (the && outer) rows o
        module _ (cs : List Conjunct) (l r : ℕ) (hl : l < count) (hr : r < count) (place : ℕ → ℕ → ℕ) (push : Row → Outer → Outer) (S : List Column)
            (inward : (k : Row) (o : Outer) (x : Row) → Agrees D o k S → Agrees (record { node = D.node; width = D.width; place = place }) (push x o) k (at r).shape.reads) where
          abbrev E : Domain
          E = record { node = D.node; width = D.width; place = place }

          abbrev x : Placed
          x = (at l).put D more

          abbrev y : Placed
          y = (at r).put E x.out

          left : Under D ds (sh l).reads (R l).rows (sh l).width more x
          left = (good l hl).puts D ds more ext sd

          right : Under E ds (sh r).reads (R r).rows (sh r).width x.out y
          right = (good r hr).puts E ds x.out (extends_trans ext left.written.grows) (stands_extends left.written.grows sd)

          copy_of : is_empty (sh r).reads ≡ true → Stands widths db x.out (at r).image (sh r).width ((R r).rows [])
          copy_of e = stands_extends (extends_trans ext left.written.grows) ((good r hr).copied e)

          of_left : (k : Row) (o : Outer) → length k ≡ D.width → Once ds k → Agrees D o k (each conjunct_reads cs ++ ((sh l).reads ++ S)) → part D.width k left.rows ≡ (R l).rows o
          of_left k o lk on ag = left.behind k o lk on (every_front (sh l).reads S (every_back (each conjunct_reads cs) _ ag))

          of_right : (k : Row) (o : Outer) → length k ≡ D.width → Once ds k → Agrees D o k (each conjunct_reads cs ++ ((sh l).reads ++ S)) → (z : Row) → part D.width k right.rows ≡ (R r).rows (push z o)
          of_right k o lk on ag z = right.behind k (push z o) lk on (inward k o z (every_back (sh l).reads S (every_back (each conjunct_reads cs) _ ag)))

          abbrev Joins : Kind → Placed → Type 0
          Joins kind p = Under D ds (each conjunct_reads cs ++ ((sh l).reads ++ S)) (λ o. join_rows kind (R r).width o cs ((R l).rows o) (λ z. (R r).rows (push z o))) (join_width kind (sh l).width (sh r).width) more p

          join_closed_lem : (kind : Kind) → is_empty (sh r).reads ≡ true → Joins kind (join_closed kind cs D x (at r).image)
          unfolding join_closed
          join_closed_lem kind e =
              let s = left.written.stands in
              let t = copy_of e in
              record {
                rows = join_rows kind (sh r).width [] (map (move_conjunct D (shift D.width)) cs) left.rows (λ z. (R r).rows []);
                written = wrote_after left.written.grows (wrote _ _ _ _ (s.inside, t.inside, closed_moved D _ cs) (rw (s.width, t.width) (join_width_under kind _ _ _)) (rw (s.rows, t.rows, t.width)));
                behind = λ k o lk on ag.
                    under_join_closed D o k lk (sh l).width left.rows (stands_wide sound s) kind (sh r).width cs ((R r).rows []) (every_front (each conjunct_reads cs) _ ag)
                    ∙ rw (of_left k o lk on ag, (good r hr).width)
                    (ap (join_rows kind (sh r).width o cs ((R l).rows o)) (fun_ext (λ z. (good r hr).respects [] (push z o) (closed_every (sh r).reads e))));
              }

          join_open_lem : (kind : Kind) → Joins kind (join_open kind cs (sh l).width (sh r).width D x.at y)
          unfolding join_open
          join_open_lem kind =
              let s = stands_extends right.written.grows left.written.stands in
              let t = right.written.stands in
              record {
                rows = dropped kind (around (D.width + (sh l).width) D.width (sh r).width) (join_rows kind (D.width + (sh r).width) [] (under_both D (sh l).width cs) left.rows (λ z. right.rows));
                written = wrote_after (extends_trans left.written.grows right.written.grows)
                    (wrote_width (join_width_under kind D.width (sh l).width (sh r).width) (wrote_join kind (under_both D (sh l).width cs) (D.width + (sh l).width) D.width (sh r).width x.at y.at y.out left.rows right.rows (closed_both _ _ _ (upto D.width) D cs) s t));
                behind = λ k o lk on ag.
                    under_join_open D o k lk (sh l).width left.rows (stands_wide sound s) (sh r).width right.rows (stands_wide sound t) (λ z. (R r).rows (push z o)) (of_right k o lk on ag) kind cs (every_front (each conjunct_reads cs) _ ag)
                    ∙ rw (of_left k o lk on ag, (good r hr).width);
              }

          pub join_under_lem : (kind : Kind) → Joins kind (join_under kind cs (at l) (at r) D E more)
          unfolding join_under
          join_under_lem kind = go (is_empty (sh r).reads) refl
            where
              go : (b : Bool) → is_empty (sh r).reads ≡ b → Joins kind (cond b (join_closed kind cs D x (at r).image) (join_open kind cs (sh l).width (sh r).width D x.at y))
              go true e = join_closed_lem kind e
              go false e = join_open_lem kind

        open_join : (kind : Kind) (cs : List Conjunct) (l r : ℕ) → l < count → r < count → Open (join kind cs l r)
        unfolding open_under
        open_join kind cs l r hl hr = join_under_lem cs l r hl hr D.place (λ z o. o) (sh r).reads (λ k o z ag. ag) kind

        open_groupjoin : (cs : List Conjunct) (gs : List Aggregate) (l r : ℕ) → l < count → r < count → Open (groupjoin cs gs l r)
        unfolding open_under
        open_groupjoin cs gs l r hl hr = go (is_empty (sh r).reads) refl
          where
            x : Placed
            x = (at l).put D more

            y : Placed
            y = (at r).put D x.out

            u : Under D ds (sh l).reads (R l).rows (sh l).width more x
            u = left cs l r hl hr D.place (λ z o. o) (sh r).reads (λ k o z ag. ag)

            v : Under D ds (sh r).reads (R r).rows (sh r).width x.out y
            v = right cs l r hl hr D.place (λ z o. o) (sh r).reads (λ k o z ag. ag)

            go : (b : Bool) → is_empty (sh r).reads ≡ b
                → Under D ds (each conjunct_reads cs ++ ((sh l).reads ++ (sh r).reads)) (λ o. groupjoin_rows o cs gs ((R l).rows o) ((R r).rows o)) ((sh l).width + length gs) more
                (cond b (emit (groupjoin (map (move_conjunct D (shift D.width)) cs) gs x.at (at r).image) x.out)
                (emit (groupjoin (under_both D (sh l).width cs) (map (move_aggregate (shift D.width)) gs) x.at y.at) y.out))
            go true e =
                let s = u.written.stands in
                let t = copy_of cs l r hl hr D.place (λ z o. o) (sh r).reads (λ k o z ag. ag) e in
                record {
                  rows = groupjoin_rows [] (map (move_conjunct D (shift D.width)) cs) gs u.rows ((R r).rows []);
                  written = wrote_after u.written.grows (wrote _ _ _ _ (s.inside, t.inside, closed_moved D _ cs) (rw s.width (omega arith)) (rw (s.rows, t.rows)));
                  behind = λ k o lk on ag.
                      under_groupjoin_closed D o k lk (sh l).width u.rows (stands_wide sound s) cs gs ((R r).rows []) (every_front (each conjunct_reads cs) _ ag)
                      ∙ rw (u.behind k o lk on (every_front (sh l).reads _ (every_back (each conjunct_reads cs) _ ag)), (good r hr).respects [] o (closed_every (sh r).reads e));
                }
            go false e =
                let s = stands_extends v.written.grows u.written.stands in
                let t = v.written.stands in
                record {
                  rows = groupjoin_rows [] (under_both D (sh l).width cs) (map (move_aggregate (shift D.width)) gs) u.rows v.rows;
                  written = wrote_after (extends_trans u.written.grows v.written.grows) (wrote _ _ _ _ (s.inside, t.inside, closed_both _ _ _ (upto D.width) D cs) (rw (s.width, length-map) (omega arith)) (rw (s.rows, t.rows)));
                  behind = λ k o lk on ag.
                      under_groupjoin_open D o k lk (sh l).width u.rows (stands_wide sound s) (sh r).width v.rows (stands_wide sound t) (λ z. (R r).rows o) (λ z. v.behind k o lk on (every_back (sh l).reads _ (every_back (each conjunct_reads cs) _ ag))) cs gs (every_front (each conjunct_reads cs) _ ag)
                      ∙ rw (u.behind k o lk on (every_front (sh l).reads _ (every_back (each conjunct_reads cs) _ ag)));
                }

        open_unnest : (kind : Kind) (cs : List Conjunct) (l r : ℕ) → l < count → r < count → Every (λ e. InLeft (sh l).width e.level e.position) (sh r).reads
            → Under D ds (each conjunct_reads cs ++ ((sh l).reads ++ past (sh r).reads)) (node_result widths db R (dependent kind cs l r)).rows (join_width kind (sh l).width (sh r).width) more (unnest kind cs (at l) (at r) D ((at l).put D more))
        open_unnest kind cs l r hl hr il =
            let u = (good l hl).puts D ds more ext sd in
            let s = u.written.stands in
            let ex = extends_trans ext u.written.grows in
            record {
              rows = unnested D l r hr il ((at l).put D more) u.rows ex s kind cs;
              written = wrote_after u.written.grows (wrote_width (join_width_under kind D.width (sh l).width (sh r).width) (wrote_unnest D l r hr il ((at l).put D more) u.rows ex s kind cs));
              behind = λ k o lk on ag.
                  behind_unnest D l r hr il ((at l).put D more) u.rows ex s kind cs k o lk (every_front (each conjunct_reads cs) _ ag) (every_back (sh l).reads _ (every_back (each conjunct_reads cs) _ ag))
                  ∙ rw (u.behind k o lk on (every_front (sh l).reads _ (every_back (each conjunct_reads cs) _ ag)), (good r hr).width);
            }

        open_dependent : (kind : Kind) (cs : List Conjunct) (l r : ℕ) → l < count → r < count → Every (λ e. InLeft (sh l).width e.level e.position) (sh r).reads → Open (dependent kind cs l r)
        unfolding open_under
        open_dependent kind cs l r hl hr il = go (reads_left (sh r)) refl
          where
            one : (k : Row) (o : Outer) (z : Row) (v p : ℕ) → eqb v 0 ≡ false → Every (Fits D o k) (past_one v p) → Fits (inside D) (z ∷ o) k (record { level = v; position = p })
            one k o z zero p e t = absurd (true≢false e)
            one k o z (suc v) p e t = every_head t

            inward : reads_left (sh r) ≡ false → (k : Row) (o : Outer) (z : Row) → Agrees D o k (past (sh r).reads) → Agrees (inside D) (z ∷ o) k (sh r).reads
            inward e k o z ag = every_map (λ c h. one k o z c.level c.position h.0 h.1) (every_both (any_none (λ c. eqb c.level 0) (sh r).reads e) (every_uneach _ (sh r).reads ag))

            go : (b : Bool) → reads_left (sh r) ≡ b
                → Under D ds (each conjunct_reads cs ++ ((sh l).reads ++ past (sh r).reads)) (node_result widths db R (dependent kind cs l r)).rows (join_width kind (sh l).width (sh r).width) more
                (cond b (unnest kind cs (at l) (at r) D ((at l).put D more)) (join_under kind cs (at l) (at r) D (inside D) more))
            go true e = open_unnest kind cs l r hl hr il
            go false e = join_under_lem cs l r hl hr (inside_place D.place) (λ z o. z ∷ o) (past (sh r).reads) (inward e) kind

        pub open_node : (n : Node) → Fine (λ i. (at i).shape) count n → is_empty (shape_of widths (λ i. (at i).shape) n).reads ≡ false → Open n
        open_node (scan t) f e = absurd (true≢false e)
        open_node (select cs i) f e = open_select cs i f
        open_node (compute c i) f e = open_compute c i f
        open_node (project ps i) f e = open_project ps i f
        open_node (join k cs l r) f e = open_join k cs l r f.0 f.1
        open_node (group ks gs i) f e = open_group ks gs i f
        open_node (groupjoin cs gs l r) f e = open_groupjoin cs gs l r f.0 f.1
        open_node (dependent k cs l r) f e = open_dependent k cs l r f.0 f.1 f.2

      -- ---- closed nodes

      closed_unnest : (kind : Kind) (cs : List Conjunct) (l r : ℕ) → l < count → r < count → Every (λ e. InLeft (sh l).width e.level e.position) (sh r).reads
          → is_empty (each conjunct_reads cs ++ ((sh l).reads ++ past (sh r).reads)) ≡ true
          → Wrote widths db out (unnest kind cs (at l) (at r) outside (record { out = out; at = (at l).image })) (join_width kind (sh l).width (sh r).width) ((node_result widths db R (dependent kind cs l r)).rows [])
      closed_unnest kind cs l r hl hr il e =
          let b = closed_back (each conjunct_reads cs) _ e in
          let c = (good l hl).copied (closed_front (sh l).reads _ b) in
          let x : Placed = record { out = out; at = (at l).image } in
          let s : Stands widths db out (at l).image (0 + (sh l).width) ((R l).rows []) = rw zero-add c in
          wrote_rows
          (sym (part_none _)
          ∙ behind_unnest outside l r hr il x ((R l).rows []) (extends_refl out) s kind cs [] [] refl (closed_every (each conjunct_reads cs) (closed_front (each conjunct_reads cs) _ e)) (closed_every (past (sh r).reads) (closed_back (sh l).reads _ b))
          ∙ rw (part_none ((R l).rows []), (good r hr).width))
          (wrote_width (rw zero-add) (wrote_unnest outside l r hr il x ((R l).rows []) (extends_refl out) s kind cs))

      closed_join : (kind : Kind) (cs : List Conjunct) (l r : ℕ) → l < count → r < count → is_empty (sh l).reads ≡ true → is_empty (sh r).reads ≡ true → is_empty (each conjunct_reads cs) ≡ true
          → Wrote widths db out (emit (join kind cs (at l).image (at r).image) out) (join_width kind (sh l).width (sh r).width) (join_rows kind (R r).width [] cs ((R l).rows []) (λ z. (R r).rows []))
      closed_join kind cs l r hl hr el er ec =
          let a = (good l hl).copied el in
          let b = (good r hr).copied er in
          wrote out _ _ _ (a.inside, b.inside, ec) (rw (a.width, b.width)) (rw (a.rows, b.rows, b.width, (good r hr).width))

      pub closed_node_lem : (n : Node) → Fine (λ i. (at i).shape) count n → is_empty (shape_of widths (λ i. (at i).shape) n).reads ≡ true
          → Wrote widths db out (closed_node at n out) (shape_of widths (λ i. (at i).shape) n).width ((node_result widths db R n).rows [])
      unfolding closed_node
      closed_node_lem (scan t) f e = wrote out _ _ _ tt refl refl
      closed_node_lem (select cs i) f e = let c = (good i f).copied (closed_back (each conjunct_reads cs) _ e) in wrote out _ _ _ (c.inside, closed_front (each conjunct_reads cs) _ e) c.width (rw c.rows)
      closed_node_lem (compute c i) f e = let a = (good i f).copied (closed_back (computation_reads c) _ e) in wrote out _ _ _ (a.inside, closed_front (computation_reads c) _ e) (rw a.width) (rw a.rows)
      closed_node_lem (project ps i) f e = let c = (good i f).copied e in wrote out _ _ _ c.inside refl (rw c.rows)
      closed_node_lem (join k cs l r) f e =
          let b = closed_back (each conjunct_reads cs) _ e in closed_join k cs l r f.0 f.1 (closed_front (sh l).reads _ b) (closed_back (sh l).reads _ b) (closed_front (each conjunct_reads cs) _ e)
      closed_node_lem (group ks gs i) f e = let c = (good i f).copied e in wrote out _ _ _ c.inside refl (rw c.rows)
      closed_node_lem (groupjoin cs gs l r) f e =
          let b = closed_back (each conjunct_reads cs) _ e in
          let c = (good l f.0).copied (closed_front (sh l).reads _ b) in
          let a = (good r f.1).copied (closed_back (sh l).reads _ b) in
          wrote out _ _ _ (c.inside, a.inside, closed_front (each conjunct_reads cs) _ e) (rw c.width) (rw (c.rows, a.rows))
      closed_node_lem (dependent kind cs l r) f e = go (is_empty (sh r).reads) refl
        where
          go : (b : Bool) → is_empty (sh r).reads ≡ b
              → Wrote widths db out (cond b (emit (join kind cs (at l).image (at r).image) out) (unnest kind cs (at l) (at r) outside (record { out = out; at = (at l).image }))) (join_width kind (sh l).width (sh r).width) ((node_result widths db R (dependent kind cs l r)).rows [])
          go true t =
              wrote_rows (ap (join_rows kind (R r).width [] cs ((R l).rows [])) (fun_ext (λ z. (good r f.1).respects [] (z ∷ []) (closed_every (sh r).reads t))))
              (closed_join kind cs l r f.0 f.1 (closed_front (sh l).reads _ (closed_back (each conjunct_reads cs) _ e)) t (closed_front (each conjunct_reads cs) _ e))
          go false t = closed_unnest kind cs l r f.0 f.1 f.2 e
