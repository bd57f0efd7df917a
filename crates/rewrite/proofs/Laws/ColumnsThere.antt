-- A closed node, rewritten, has its columns there, and so has all that is written after one node more.
use mathlib.Core.Path.{◌∙◌, ◌≡◌, ap, refl, subst, sym}
use mathlib.Core.Bool.{Bool, cond, false, true, true≢false}
use mathlib.Core.List.{List, [], ◌++◌, ◌∷◌, append_assoc}
use Prim.Native.Nat.{◌<◌, ℕ}
use native.Mathlib.Nat.{zero-add}
use native.Mathlib.Omega.{arith}
use lib.Dec.{ltb}
use lib.ListN.{get_or-append, get_or, length, length-append}
use lib.Seq.{get_or_at}
use borrow.Author.Tests.{ltb-false, ltb-true}
use Rattle.algebra.specs.Lists.{Every, done, each, is_empty, more}
use Rattle.algebra.specs.Plan.{Conjunct, Kind, Node, compute, dependent, group, groupjoin, join, join_width, project, scan, select}
use Rattle.algebra.specs.Columns.{Shape, conjunct_reads, computation_reads, past, shape_at, shape_of, shapeless}
use Rattle.algebra.specs.Domains.{outside}
use Rattle.algebra.specs.Rewriting.{Piece, Placed, State, add_piece, closed_node, closed_put, emit, missing, open_under, piece_at, step, unnest}
use Rattle.algebra.specs.Statements.{Fine}
use Rattle.algebra.proofs.Lists.Entries.{entry_before}
use Rattle.algebra.proofs.Lists.Every.{every_append, every_in, every_map}
use Rattle.algebra.proofs.Tables.Tidy.{closed_back, closed_every, closed_front}
use Rattle.plan.specs.Verdict.{columns_there}
use Rattle.algebra.proofs.Tables.Fine.{fine_below}
use Rattle.rules.proofs.Laws.Columns.{columns_closed, columns_same}
use Rattle.rules.proofs.Laws.ColumnsWritten.{Grows, Sits, Sound, Wrote, grows_none, no_node, one_more}
use Rattle.rules.proofs.Laws.ColumnsWritten.{sits_closed, sits_grows, width_in, wrote, wrote_join, wrote_unnest, wrote_width}
use Rattle.rules.proofs.Laws.ColumnsUnder.{open_node}
use Rattle.rewrite.proofs.Laws.PieceShapes.{Shaped, shaped_snoc, shapes_are}

-- ---- closed nodes

module _ (widths : List ℕ) (out : List Node) (at : ℕ → Piece) (count : ℕ) (sits : (i : ℕ) → i < count → Sits widths out (at i)) (scope : List ℕ) where
  -- the shapes of the pieces
  abbrev sh : ℕ → Shape
  sh i = (at i).shape

  -- a closed dependent join: its left side is in place
  closed_unnest : (kind : Kind) (cs : List Conjunct) (l r : ℕ) → Fine sh count (dependent kind cs l r)
      → is_empty (each conjunct_reads cs ++ ((sh l).reads ++ past (sh r).reads)) ≡ true
      → columns_there (λ i. (sh i).width) scope (dependent kind cs l r) ≡ true
      → Wrote widths out (unnest kind cs (at l) (at r) outside (record { out = out; at = (at l).image })) (join_width kind (sh l).width (sh r).width)
  unfolding columns_there
  closed_unnest kind cs l r f c e =
      let b = closed_back (each conjunct_reads cs) _ c in
      wrote_width (rw zero-add)
      (wrote_unnest widths out at count sits outside kind cs scope l r f.1 f.2 e
      (closed_every (each conjunct_reads cs) (closed_front (each conjunct_reads cs) _ c)) (closed_every (past (sh r).reads) (closed_back (sh l).reads _ b))
      (record { out = out; at = (at l).image }) (grows_none out) (rw zero-add ((sits l f.0).copied (closed_front (sh l).reads _ b))))

  -- a join of two copies
  closed_join : (kind : Kind) (cs : List Conjunct) (l r : ℕ) → l < count → r < count → is_empty (sh l).reads ≡ true → is_empty (sh r).reads ≡ true
      → columns_there (λ i. (sh i).width) [] (join kind cs l r) ≡ true
      → Wrote widths out (emit (join kind cs (at l).image (at r).image) out) (join_width kind (sh l).width (sh r).width)
  unfolding columns_there
  closed_join kind cs l r hl hr cl cr e =
      wrote_join kind cs (sh l).width (sh r).width (at l).image (at r).image out ((sits l hl).copied cl) ((sits r hr).copied cr) e

  -- a closed node is copied
  closed_node_lem : (n : Node) → Fine sh count n → is_empty (shape_of widths sh n).reads ≡ true → columns_there (λ i. (sh i).width) scope n ≡ true
      → columns_there (λ i. (sh i).width) [] n ≡ true → Wrote widths out (closed_node at n out) (shape_of widths sh n).width
  unfolding closed_node columns_there
  closed_node_lem (scan t) f c e a = wrote out _ _ done refl refl
  closed_node_lem (select cs i) f c e a =
      let s = (sits i f).copied (closed_back (each conjunct_reads cs) _ c) in wrote out _ _ (more s.inside done) (rw s.width a) s.width
  closed_node_lem (compute x i) f c e a =
      let s = (sits i f).copied (closed_back (computation_reads x) _ c) in wrote out _ _ (more s.inside done) (rw s.width a) (rw s.width)
  closed_node_lem (project ps i) f c e a = let s = (sits i f).copied c in wrote out _ _ (more s.inside done) (rw s.width a) refl
  closed_node_lem (join k cs l r) f c e a =
      let b = closed_back (each conjunct_reads cs) _ c in closed_join k cs l r f.0 f.1 (closed_front (sh l).reads _ b) (closed_back (sh l).reads _ b) a
  closed_node_lem (group ks gs i) f c e a = let s = (sits i f).copied c in wrote out _ _ (more s.inside done) (rw s.width a) refl
  closed_node_lem (groupjoin cs gs l r) f c e a =
      let b = closed_back (each conjunct_reads cs) _ c in
      let s = (sits l f.0).copied (closed_front (sh l).reads _ b) in
      let t = (sits r f.1).copied (closed_back (sh l).reads _ b) in
      wrote out _ _ (more s.inside (more t.inside done)) (rw (s.width, t.width) a) (rw s.width)
  closed_node_lem (dependent k cs l r) f c e a = go (is_empty (sh r).reads) refl
    where
      go : (b : Bool) → is_empty (sh r).reads ≡ b
          → Wrote widths out (cond b (emit (join k cs (at l).image (at r).image) out)
          (unnest k cs (at l) (at r) outside (record { out = out; at = (at l).image }))) (join_width k (sh l).width (sh r).width)
      go true t = closed_join k cs l r f.0 f.1 (closed_front (sh l).reads _ (closed_back (each conjunct_reads cs) _ c)) t a
      go false t = closed_unnest k cs l r f c e

-- ---- all nodes

module _ (widths : List ℕ) where
  -- a node whose columns are there in some rows around
  abbrev pub Legal : List Node → Node → Type 0
  Legal ns n = (scope : List ℕ) × (columns_there (width_in widths ns) scope n ≡ true)

  -- what is known after the nodes ns
  pub record Built (ns : List Node) (s : State) : Type 0 where
    pub shaped : Shaped widths ns s
    pub pieces : Every (Sits widths s.out) s.pieces
    pub sound : Sound widths s.out

  -- one more piece
  built_snoc : (ns : List Node) (s : State) (n : Node) (out : List Node) (p : Piece) → Built ns s → p.shape ≡ shape_of widths (λ i. (piece_at s i).shape) n
      → Grows widths s.out out → Sits widths out p
      → Built (ns ++ (n ∷ [])) (record { out = out; pieces = s.pieces ++ (p ∷ []) })
  built_snoc ns s n out p v e ex g = record {
    shaped = shaped_snoc widths ns s n out p v.shaped e;
    pieces = every_append (every_map (λ q h. sits_grows ex h) v.pieces) (more g done);
    sound = ex.keeps v.sound;
  }

  -- one more node: a closed one is written, an open one waits for a domain
  pub built_step : (ns : List Node) (s : State) (n : Node) → Built ns s → Fine (shape_at widths ns) (length ns) n → Legal ns n
      → Built (ns ++ (n ∷ [])) (step widths s n)
  unfolding step
  built_step ns s n v f legal = go (is_empty sh.reads) refl
    where
      at : ℕ → Piece
      at = piece_at s

      sh : Shape
      sh = shape_of widths (λ i. (at i).shape) n

      fine : Fine (λ i. (at i).shape) (length ns) n
      fine = subst (λ (q : ℕ → Shape). Fine q (length ns) n) (shapes_are widths ns s v.shaped) f

      there : columns_there (λ i. (at i).shape.width) legal.0 n ≡ true
      there = subst (λ (q : ℕ → Shape). columns_there (λ i. (q i).width) legal.0 n ≡ true) (shapes_are widths ns s v.shaped) legal.1

      sits : (i : ℕ) → i < length ns → Sits widths s.out (at i)
      sits i h = every_in missing v.pieces i (rw v.shaped.count h)

      x : Placed
      x = closed_node at n s.out

      go : (b : Bool) → is_empty sh.reads ≡ b
          → Built (ns ++ (n ∷ [])) (cond b (add_piece s sh x (closed_put x.at)) (add_piece s sh (record { out = s.out; at = 0 }) (open_under at n)))
      go true e =
          let a = columns_closed (λ i. (at i).shape.width) legal.0 (λ i. (at i).shape.reads) n e there in
          let c = closed_node_lem widths s.out at (length ns) sits legal.0 n fine e there a in
          built_snoc ns s n x.out _ v refl c.grows (sits_closed widths x.out sh x.at c.has)
      go false e =
          built_snoc ns s n s.out _ v refl (grows_none s.out)
          (record {
            copied = λ t. absurd (true≢false (sym t ∙ e));
            puts = λ D before ex sd held. open_node widths s.out at (length ns) sits D before ex sd legal.0 n fine e there held;
          })

  -- a node of a plan looks only at the nodes before it
  pub legal_before : (front back : List Node) (n : Node) → Fine (shape_at widths front) (length front) n → Legal (front ++ back) n → Legal front n
  legal_before front back n f legal = (
    legal.0,
    sym (columns_same (width_in widths (front ++ back)) (width_in widths front) legal.0 n
        (every_map (λ j h. ap (λ (r : Shape). r.width) (entry_before shapeless (shape_of widths) front back j h)) (fine_below _ _ n f))) ∙ legal.1,
  )

  -- each node of those written, whatever is behind
  pub sound_at : {out : List Node} → Sound widths out → (rest : List Node) (n : ℕ) (d : Node) → n < length out
      → columns_there (width_in widths (out ++ rest)) [] (get_or out n d) ≡ true
  sound_at no_node rest n d h = absurd (omega arith)
  sound_at (one_more out m t b c) rest n d h = go (ltb n (length out)) refl (λ l. sound_at t (m ∷ rest) n d l)
    where
      go : (q : Bool) → ltb n (length out) ≡ q → (n < length out → columns_there (width_in widths (out ++ (m ∷ rest))) [] (get_or out n d) ≡ true)
          → columns_there (width_in widths ((out ++ (m ∷ [])) ++ rest)) [] (get_or (out ++ (m ∷ [])) n d) ≡ true
      go true e before =
          let l : n < length out = ltb-true n (length out) e in
          rw (append_assoc out (m ∷ []) rest, get_or-append out (m ∷ []) d n l) (before l)
      go false e before =
          let i : n ≡ length out = omega (arith, ltb-false n (length out) e, rw length-append at h) in
          rw (append_assoc out (m ∷ []) rest, get_or_at out m [] d n (sym i))
          (columns_same (width_in widths (out ++ (m ∷ rest))) (width_in widths out) [] m
          (every_map (λ j l. ap (λ (r : Shape). r.width) (entry_before shapeless (shape_of widths) out (m ∷ rest) j l)) b) ∙ c)
