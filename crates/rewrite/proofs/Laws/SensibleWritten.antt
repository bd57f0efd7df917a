-- Every node of the rewriting of sensible nodes is sensible.
use mathlib.Core.Path.{◌≡◌, refl, subst}
use mathlib.Core.Bool.{Bool, cond, false, true, true≢false}
use mathlib.Core.List.{List, [], ◌++◌, ◌∷◌}
use Prim.Native.Nat.{◌+◌, ◌<◌, ◌≤◌, ℕ}
use native.Mathlib.Nat.{add-zero}
use native.Mathlib.Omega.{arith}
use lib.ListN.{length, length-map}
use Rattle.algebra.specs.Lists.{Every, done, each, is_empty, more, upto}
use Rattle.algebra.specs.Plan.{Conjunct, Kind, Node, anti, compute, dependent, group, groupjoin, inner, join, left_outer, project, scan, select, semi}
use Rattle.algebra.specs.Columns.{Shape, closed, computation_reads, conjunct_reads, past, reads_left, shape_at, shape_of}
use Rattle.algebra.specs.Domains.{Domain, around, domain_keys, inner_domain, inside, outside}
use Rattle.algebra.specs.Rewriting.{Piece, Placed, State, add_piece, closed_node, closed_put, dropping, emit, join_closed}
use Rattle.algebra.specs.Rewriting.{join_open, join_under, missing, open_under, piece_at, rewritten, step, steps, unnest}
use Rattle.algebra.specs.Statements.{Fine, FineFrom, InLeft}
use Rattle.algebra.proofs.Lists.Every.{any_some, every_append, every_back, every_front, every_head, every_in, every_map, every_tail}
use Rattle.algebra.proofs.Tables.Tidy.{closed_back, closed_every}
use Rattle.algebra.proofs.Tables.Fine.{fine_below}
use Rattle.rules.proofs.Laws.Columns.{Held, inner_held, inside_held}
use Rattle.rewrite.proofs.Laws.Sensible.{Fit, Stored, around_some, both_stored, computation_stored}
use Rattle.rewrite.proofs.Laws.Sensible.{conjuncts_stored, first_some, inner_stored, keys_some, match_stored, width_some}
use Rattle.rewrite.proofs.Laws.PieceShapes.{Shaped, shaped_none, shaped_step, shapes_are}

module _ (T : ℕ) where
  -- the nodes written are sensible
  abbrev pub Fits : Placed → Type 0
  Fits x = Every (Fit T) x.out

  -- a piece has a column, and writes sensible nodes under a domain that holds what it reads
  pub record Sane (p : Piece) : Type 0 where
    pub wide : 0 < p.shape.width
    pub puts : (D : Domain) (out : List Node) → Held D p.shape.reads → Every (Fit T) out → Fits (p.put D out)

  -- one more node
  one_fits : {out : List Node} (n : Node) → Every (Fit T) out → Fit T n → Fits (emit n out)
  one_fits n t f = every_append t (more f done)

  -- both ways of a choice
  choice_fits : (b : Bool) (x y : Placed) → (b ≡ true → Fits x) → (b ≡ false → Fits y) → Fits (cond b x y)
  choice_fits true x y f g = f refl
  choice_fits false x y f g = g refl

  -- the project behind a join
  dropping_fits : (k : Kind) (n m w : ℕ) (x : Placed) → 0 < n → Fits x → Fits (dropping k (around n m w) x)
  dropping_fits inner n m w x h t = one_fits _ t (around_some n m w h, done)
  dropping_fits semi n m w x h t = t
  dropping_fits anti n m w x h t = t
  dropping_fits left_outer n m w x h t = one_fits _ t (around_some n m w h, done)

  -- a dependent join, its left in place
  unnest_fits : (k : Kind) (cs : List Conjunct) (l r : Piece) (D : Domain) (x : Placed) → 0 < l.shape.width → Sane r → Stored cs
      → is_empty r.shape.reads ≡ false
      → Every (λ e. InLeft l.shape.width e.level e.position) r.shape.reads → Held D (past r.shape.reads) → Fits x → Fits (unnest k cs l r D x)
  unfolding unnest
  unnest_fits k cs l r D x wl hr s o il h t =
      let w : ℕ = l.shape.width in
      let ks : List ℕ = domain_keys D w r.shape.reads in
      let g : Placed = emit (group ks [] x.at) x.out in
      let some = keys_some D w r.shape.reads o il h in
      dropping_fits k (D.width + w) (length ks) r.shape.width _ (omega arith)
      (one_fits _ (hr.puts (inner_domain D w r.shape.reads g.at) g.out (inner_held D w r.shape.reads g.at il h)
      (one_fits _ t (rw (add-zero (length ks)) some, done))) (tt, inner_stored D w cs s ks))

  -- a join of two sides under their domains
  join_fits : (k : Kind) (cs : List Conjunct) (l r : Piece) (D E : Domain) (out : List Node) → Sane l → Sane r → Stored cs → Held D l.shape.reads
      → Held E r.shape.reads
      → Every (Fit T) out → Fits (join_under k cs l r D E out)
  unfolding join_under join_closed join_open
  join_fits k cs l r D E out hl hr s dl er t =
      let x : Placed = l.put D out in
      let u : Fits x = hl.puts D out dl t in
      choice_fits (closed r.shape) _ _
      (λ e. one_fits _ u (tt, conjuncts_stored D _ cs s))
      (λ e. dropping_fits k (D.width + l.shape.width) D.width r.shape.width _ (omega (arith, hl.wide))
      (one_fits _ (hr.puts E x.out er u) (tt, both_stored D l.shape.width cs s)))

  module _ (widths : List ℕ) (at : ℕ → Piece) (count : ℕ) (sane : (i : ℕ) → i < count → Sane (at i)) where
    -- the shapes of the pieces
    abbrev sh : ℕ → Shape
    sh i = (at i).shape

    -- an open node under a domain
    open_fits : (n : Node) → Fine sh count n → Fit T n → is_empty (shape_of widths sh n).reads ≡ false → (D : Domain) (out : List Node)
        → Held D (shape_of widths sh n).reads
        → Every (Fit T) out → Fits (open_under at n D out)
    unfolding open_under
    open_fits (scan t) f h o D out d e = absurd (true≢false o)
    open_fits (select cs i) f h o D out d e = one_fits _ ((sane i f).puts D out (every_back (each conjunct_reads cs) _ d) e) (tt, conjuncts_stored D _ cs h.1)
    open_fits (compute c i) f h o D out d e = one_fits _ ((sane i f).puts D out (every_back (computation_reads c) _ d) e) (tt, computation_stored D _ c h.1)
    open_fits (project ps i) f h o D out d e = one_fits _ ((sane i f).puts D out d e) (first_some D ps h.0, done)
    open_fits (join k cs l r) f h o D out d e =
        let s : Held D ((sh l).reads ++ (sh r).reads) = every_back (each conjunct_reads cs) _ d in
        join_fits k cs (at l) (at r) D D out (sane l f.0) (sane r f.1) h.1 (every_front (sh l).reads _ s) (every_back (sh l).reads _ s) e
    open_fits (group [] gs i) f h o D out d e =
        one_fits _ ((sane i f).puts D out d e) (rw length-map (omega (arith, h.0)), match_stored (λ q. q) (λ q. D.width + q) (upto D.width))
    open_fits (group (k ∷ ks) gs i) f h o D out d e = one_fits _ ((sane i f).puts D out d e) (omega (arith, first_some D (k ∷ ks) (omega arith)), done)
    open_fits (groupjoin cs gs l r) f h o D out d e =
        let s : Held D ((sh l).reads ++ (sh r).reads) = every_back (each conjunct_reads cs) _ d in
        let x : Placed = (at l).put D out in
        let u : Fits x = (sane l f.0).puts D out (every_front (sh l).reads _ s) e in
        choice_fits (closed (sh r)) _ _
        (λ q. one_fits _ u (h.0, conjuncts_stored D _ cs h.1))
        (λ q. one_fits _ ((sane r f.1).puts D x.out (every_back (sh l).reads _ s) u) (rw length-map h.0, both_stored D (sh l).width cs h.1))
    open_fits (dependent k cs l r) f h o D out d e =
        let s : Held D ((sh l).reads ++ past (sh r).reads) = every_back (each conjunct_reads cs) _ d in
        let dl = every_front (sh l).reads _ s in
        let dr = every_back (sh l).reads _ s in
        choice_fits (reads_left (sh r)) _ _
        (λ q. unnest_fits k cs (at l) (at r) D ((at l).put D out) (sane l f.0).wide (sane r f.1) h.1 (any_some _ (sh r).reads q) f.2 dr
        ((sane l f.0).puts D out dl e))
        (λ q. join_fits k cs (at l) (at r) D (inside D) out (sane l f.0) (sane r f.1) h.1 dl (inside_held D (sh r).reads q dr) e)

    -- a closed node
    closed_fits : (n : Node) → Fine sh count n → Fit T n → is_empty (shape_of widths sh n).reads ≡ true → (out : List Node) → Every (Fit T) out
        → Fits (closed_node at n out)
    unfolding closed_node
    closed_fits (scan t) f h c out e = one_fits _ e h
    closed_fits (select cs i) f h c out e = one_fits _ e h
    closed_fits (compute x i) f h c out e = one_fits _ e h
    closed_fits (project ps i) f h c out e = one_fits _ e h
    closed_fits (join k cs l r) f h c out e = one_fits _ e h
    closed_fits (group ks gs i) f h c out e = one_fits _ e h
    closed_fits (groupjoin cs gs l r) f h c out e = one_fits _ e h
    closed_fits (dependent k cs l r) f h c out e =
        choice_fits (closed (sh r)) _ _
        (λ q. one_fits _ e h)
        (λ q. unnest_fits k cs (at l) (at r) outside _ (sane l f.0).wide (sane r f.1) h.1 q f.2
        (closed_every (past (sh r).reads) (closed_back (sh l).reads _ (closed_back (each conjunct_reads cs) _ c))) e)

-- ---- all nodes

-- tables with columns
module _ (widths : List ℕ) (some : Every (λ w. (1 ≤ w) × (w ≤ 64)) widths) where
  -- the number of tables
  abbrev T : ℕ
  T = length widths

  -- the pieces and the nodes written are sensible
  record Kept (s : State) : Type 0 where
    pieces : Every (Sane T) s.pieces
    out : Every (Fit T) s.out

  -- one more node
  kept_step : (ns : List Node) (s : State) (n : Node) → Shaped widths ns s → Kept s → Fine (shape_at widths ns) (length ns) n → Fit T n → Kept (step widths s n)
  unfolding step
  kept_step ns s n v k f h = go (is_empty sh.reads) refl
    where
      at : ℕ → Piece
      at = piece_at s

      sh : Shape
      sh = shape_of widths (λ i. (at i).shape) n

      fine : Fine (λ i. (at i).shape) (length ns) n
      fine = subst (λ (q : ℕ → Shape). Fine q (length ns) n) (shapes_are widths ns s v) f

      sane : (i : ℕ) → i < length ns → Sane T (at i)
      sane i l = every_in missing k.pieces i (rw v.count l)

      wide : 0 < sh.width
      wide = width_some widths some (λ i. (at i).shape.width) n h.0 (every_map (λ i l. (sane i l).wide) (fine_below _ _ n fine))

      x : Placed
      x = closed_node at n s.out

      go : (b : Bool) → is_empty sh.reads ≡ b
          → Kept (cond b (add_piece s sh x (closed_put x.at)) (add_piece s sh (record { out = s.out; at = 0 }) (open_under at n)))
      go true e = record {
        pieces = every_append k.pieces (more (record { wide = wide; puts = λ D out d t. one_fits T _ t (tt, done) }) done);
        out = closed_fits T widths at (length ns) sane n fine h e s.out k.out;
      }
      go false e = record {
        pieces = every_append k.pieces (more (record { wide = wide; puts = open_fits T widths at (length ns) sane n fine h e }) done);
        out = k.out;
      }

  -- all nodes, one after the other
  kept_steps : (ns ms : List Node) (s : State) → Shaped widths ns s → Kept s → FineFrom widths ns ms → Every (Fit T) ms → Kept (steps widths s ms)
  unfolding steps
  kept_steps ns [] s v k f h = k
  kept_steps ns (m ∷ ms) s v k f h =
      kept_steps (ns ++ (m ∷ [])) ms (step widths s m) (shaped_step widths ns s m v) (kept_step ns s m v k f.0 (every_head h)) f.1 (every_tail h)

  -- the nodes of the rewriting are sensible
  pub rewritten_fits : (ns : List Node) → FineFrom widths [] ns → Every (Fit T) ns → Every (Fit T) (rewritten widths ns)
  unfolding rewritten
  rewritten_fits ns f h = (kept_steps [] ns _ (shaped_none widths) (record { pieces = done; out = done }) f h).out
