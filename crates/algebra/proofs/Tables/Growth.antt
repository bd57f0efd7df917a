-- The rewriting has at most four nodes for each node of the plan.
use mathlib.Core.Path.{◌∙◌, ◌≡◌, refl, subst, sym}
use mathlib.Core.Bool.{Bool, cond, false, true, true≢false}
use mathlib.Core.List.{List, [], ◌++◌, ◌∷◌, append_assoc, append-nil, map}
use Prim.Native.Nat.{◌*◌, ◌+◌, ◌<◌, ◌≤◌, suc, zero, ℕ}
use native.Mathlib.Nat.{mul-le-mul_right, zero-add}
use native.Mathlib.Omega.{arith}
use lib.ListN.{get_or, length, length-append}
use Rattle.algebra.specs.Lists.{done, each}
use Rattle.algebra.specs.Plan.{Conjunct, Kind, Node, anti, compute, dependent, group, groupjoin, inner, inputs, join, left_outer, project, scan, select, semi}
use Rattle.algebra.specs.Columns.{Shape, closed, reads_left, shape_at, shape_of}
use Rattle.algebra.specs.Domains.{Domain, domain_keys, inner_domain, inside, outside}
use Rattle.algebra.specs.Rewriting.{Piece, Placed, State, add_piece, closed_node, closed_put, dropping, emit, join_closed, join_open, join_under, missing, open_under, piece_at, rewritten, step, steps, unnest}
use Rattle.algebra.specs.Statements.{OpenOnce, WellFormed, uses}
use Rattle.algebra.proofs.Lists.Every.{any_some}
use Rattle.algebra.proofs.Lists.Keep.{each_append}
use Rattle.algebra.proofs.Lists.Entries.{Beside, beside_at, beside_snoc, ended}
use Rattle.algebra.proofs.Lists.Sums.{occurs, taken, taken_all, taken_append, taken_once, taken_snoc, total, total_snoc}
use Rattle.algebra.proofs.Tables.Theorem.{Inv, after, shapes_are}

-- a piece of weight w: an open one writes at most w nodes under a domain, a closed one weighs nothing and writes at most one
record Weighs (p : Piece) (w : ℕ) : Type 0 where
  free : closed p.shape ≡ true → w ≡ 0
  put_grows : (D : Domain) (out : List Node) → length (p.put D out).out ≤ length out + (w + 1)
  put_open : closed p.shape ≡ false → (D : Domain) (out : List Node) → length (p.put D out).out ≤ length out + w

-- both ways of a choice write few enough nodes
choice_grows : (b : Bool) (x y : Placed) (m : ℕ) → (b ≡ true → length x.out ≤ m) → (b ≡ false → length y.out ≤ m) → length (cond b x y).out ≤ m
choice_grows true x y m f g = f refl
choice_grows false x y m f g = g refl

-- a join and the project behind it are two nodes
dropping_grows : (k : Kind) (ps : List ℕ) (n : Node) (out : List Node) (m : ℕ) → length out + 2 ≤ m → length (dropping k ps (emit n out)).out ≤ m
dropping_grows inner ps n out m h = simp length-append (omega arith)
dropping_grows semi ps n out m h = simp length-append (omega arith)
dropping_grows anti ps n out m h = simp length-append (omega arith)
dropping_grows left_outer ps n out m h = simp length-append (omega arith)

-- a dependent join, its left in place, writes a group, the right under it, a join and a project
unnest_grows : (k : Kind) (cs : List Conjunct) (l r : Piece) (D : Domain) (x : Placed) (w : ℕ) → Weighs r w → closed r.shape ≡ false
    → length (unnest k cs l r D x).out ≤ length x.out + (w + 3)
unfolding unnest
unnest_grows k cs l r D x w h e =
    let v : ℕ = l.shape.width in
    let g : Placed = emit (group (domain_keys D v r.shape.reads) [] x.at) x.out in
    let y : Placed = r.put (inner_domain D v r.shape.reads g.at) g.out in
    let a : length y.out ≤ length x.out + 1 + w = rw (length-append x.out) at (h.put_open e (inner_domain D v r.shape.reads g.at) g.out) in
    dropping_grows k _ _ y.out _ (omega arith)

-- a join writes its left and its right under their domains, a join and a project
join_grows : (k : Kind) (cs : List Conjunct) (l r : Piece) (D E : Domain) (out : List Node) (a b : ℕ) → Weighs l a → Weighs r b
    → length (join_under k cs l r D E out).out ≤ length out + (a + (b + 4))
unfolding join_under join_closed join_open
join_grows k cs l r D E out a b hl hr =
    let x : Placed = l.put D out in
    let y : Placed = r.put E x.out in
    let p = hl.put_grows D out in
    let q = hr.put_grows E x.out in
    choice_grows (closed r.shape) _ _ _ (λ e. rw length-append (omega arith)) (λ e. dropping_grows k _ _ y.out _ (omega arith))

module _ (at : ℕ → Piece) (w : ℕ → ℕ) (h : (i : ℕ) → Weighs (at i) (w i)) where
  -- an open node writes at most four nodes and what its inputs weigh
  open_grows : (n : Node) (D : Domain) (out : List Node) → length (open_under at n D out).out ≤ length out + (total (map w (inputs n)) + 4)
  unfolding open_under
  open_grows (scan t) D out = omega arith
  open_grows (select cs i) D out = rw length-append (omega (arith, (h i).put_grows D out))
  open_grows (compute c i) D out = rw length-append (omega (arith, (h i).put_grows D out))
  open_grows (project ps i) D out = rw length-append (omega (arith, (h i).put_grows D out))
  open_grows (join k cs l r) D out = omega (arith, join_grows k cs (at l) (at r) D D out (w l) (w r) (h l) (h r))
  open_grows (group [] gs i) D out = rw length-append (omega (arith, (h i).put_grows D out))
  open_grows (group (k ∷ ks) gs i) D out = rw length-append (omega (arith, (h i).put_grows D out))
  open_grows (groupjoin cs gs l r) D out =
      let x : Placed = (at l).put D out in
      let p = (h l).put_grows D out in
      let q = (h r).put_grows D x.out in
      choice_grows (closed (at r).shape) _ _ _ (λ e. rw length-append (omega arith)) (λ e. rw length-append (omega arith))
  open_grows (dependent k cs l r) D out =
      let x : Placed = (at l).put D out in
      let p = (h l).put_grows D out in
      choice_grows (reads_left (at r).shape) _ _ _
      (λ e. omega (arith, unnest_grows k cs (at l) (at r) D x (w r) (h r) (any_some _ (at r).shape.reads e)))
      (λ e. omega (arith, join_grows k cs (at l) (at r) D (inside D) out (w l) (w r) (h l) (h r)))

  -- a closed node does so too
  closed_grows : (n : Node) (out : List Node) → length (closed_node at n out).out ≤ length out + (total (map w (inputs n)) + 4)
  unfolding closed_node
  closed_grows (scan t) out = rw length-append (omega arith)
  closed_grows (select cs i) out = rw length-append (omega arith)
  closed_grows (compute c i) out = rw length-append (omega arith)
  closed_grows (project ps i) out = rw length-append (omega arith)
  closed_grows (join k cs l r) out = rw length-append (omega arith)
  closed_grows (group ks gs i) out = rw length-append (omega arith)
  closed_grows (groupjoin cs gs l r) out = rw length-append (omega arith)
  closed_grows (dependent k cs l r) out =
      choice_grows (closed (at r).shape) _ _ _ (λ e. rw length-append (omega arith))
      (λ e. omega (arith, unnest_grows k cs (at l) (at r) outside (record { out = out; at = (at l).image }) (w r) (h r) e))

-- a node that is not there weighs nothing
missing_weighs : Weighs missing 0
missing_weighs = record { free = λ e. refl; put_grows = λ D out. omega arith; put_open = λ e. absurd (true≢false e) }

-- after the nodes ns: the nodes written and the weights are paid for by four for each node and by the weights of the inputs
record Grown (ns : List Node) (s : State) : Type 0 where
  weights : List ℕ
  weigh : Beside Weighs s.pieces weights
  paid : length s.out + total weights ≤ 4 * length ns + taken (each inputs ns) 0 weights

-- one more piece, whose nodes and weight are paid for by four and by the weights of its inputs
grown_snoc : (ns : List Node) (s : State) (n : Node) (out : List Node) (p : Piece) (w : ℕ) (v : Grown ns s) → Weighs p w
    → length out + w ≤ length s.out + (total (map (λ i. get_or v.weights i 0) (inputs n)) + 4) → Grown (ns ++ (n ∷ [])) (record { out = out; pieces = s.pieces ++ (p ∷ []) })
grown_snoc ns s n out p w v h g =
    let ws : List ℕ = v.weights in
    record {
      weights = ws ++ (w ∷ []);
      weigh = beside_snoc v.weigh h;
      paid = rw (length-append, total_snoc, each_append inputs ns (n ∷ []), append-nil, taken_append)
          (omega (arith, v.paid, taken_all (inputs n) ws, taken_snoc (each inputs ns) 0 ws w, taken_snoc (inputs n) 0 ws w));
    }

module _ (widths : List ℕ) where
  -- a closed node is written and weighs nothing, an open one is not written and weighs what it will write
  grown_step : (ns : List Node) (s : State) (n : Node) → Grown ns s → Grown (ns ++ (n ∷ [])) (step widths s n)
  unfolding step
  grown_step ns s n v = go (closed sh) refl
    where
      at : ℕ → Piece
      at = piece_at s

      sh : Shape
      sh = shape_of widths (λ i. (at i).shape) n

      x : Placed
      x = closed_node at n s.out

      w : ℕ → ℕ
      w i = get_or v.weights i 0

      h : (i : ℕ) → Weighs (at i) (w i)
      h = beside_at missing 0 missing_weighs v.weigh

      go : (b : Bool) → closed sh ≡ b → Grown (ns ++ (n ∷ [])) (cond b (add_piece s sh x (closed_put x.at)) (add_piece s sh (record { out = s.out; at = 0 }) (open_under at n)))
      go true e =
          grown_snoc ns s n x.out _ 0 v
          (record { free = λ c. refl; put_grows = λ D out. rw length-append (omega arith); put_open = λ c. absurd (true≢false (sym e ∙ c)) })
          (omega (arith, closed_grows at w h n s.out))
      go false e =
          grown_snoc ns s n s.out _ (total (map w (inputs n)) + 4) v
          (record { free = λ c. absurd (true≢false (sym c ∙ e)); put_grows = λ D out. omega (arith, open_grows at w h n D out); put_open = λ c. open_grows at w h n })
          (omega arith)

  -- all nodes, one after the other
  grown_steps : (ns ms : List Node) (s : State) → Grown ns s → Grown (ns ++ ms) (steps widths s ms)
  unfolding steps
  grown_steps ns [] s v = rw append-nil v
  grown_steps ns (m ∷ ms) s v = rw append_assoc at (grown_steps (ns ++ (m ∷ [])) ms (step widths s m) (grown_step ns s m v))

-- what is open stands among the pieces
open_inside : (ps : List Piece) (i : ℕ) → closed (get_or ps i missing).shape ≡ false → i < length ps
open_inside [] i e = absurd (true≢false e)
open_inside (p ∷ ps) zero e = omega arith
open_inside (p ∷ ps) (suc i) e = omega (arith, open_inside ps i e)

-- at most four nodes are written for each: an open node is an input once, so the inputs weigh no more than the nodes
pub four_each : (widths : List ℕ) (ns : List Node) → WellFormed widths ns → OpenOnce widths ns → length (rewritten widths ns) ≤ 4 * length ns
unfolding rewritten
four_each widths ns f o = omega (arith, v.paid, taken_once (each inputs ns) 0 v.weights once)
  where
    s : State
    s = steps widths (record { out = []; pieces = [] }) ns

    v : Grown ns s
    v = grown_steps widths [] ns _ (record { weights = []; weigh = ended; paid = omega arith })

    inv : Inv widths [] ns s
    inv = after widths [] (λ t. done) ns f

    once : (i : ℕ) → occurs (0 + i) (each inputs ns) * get_or v.weights i 0 ≤ get_or v.weights i 0
    once i = rw zero-add (go (closed (piece_at s i).shape) refl)
      where
        h : Weighs (piece_at s i) (get_or v.weights i 0)
        h = beside_at missing 0 missing_weighs v.weigh i

        go : (b : Bool) → closed (piece_at s i).shape ≡ b → occurs i (each inputs ns) * get_or v.weights i 0 ≤ get_or v.weights i 0
        go true e = rw (h.free e) (omega arith)
        go false e =
            let e' : closed (shape_at widths ns i) ≡ false = subst (λ (q : ℕ → Shape). closed (q i) ≡ false) (sym (shapes_are widths [] ns s inv)) e in
            let u : uses ns i ≤ 1 = o i (omega (arith, inv.count, open_inside s.pieces i e)) e' in
            omega (arith, mul-le-mul_right (get_or v.weights i 0) u)
