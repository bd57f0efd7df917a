-- A node looks only at its inputs: over pieces that put the same it is put, or copied, the same.
use mathlib.Core.Path.{◌≡◌, refl, ap, ◌∙◌}
use mathlib.Core.Bool.{Bool, true, false, cond}
use mathlib.Core.List.{List, [], ◌∷◌, map}
use Prim.Native.Nat.{ℕ}
use Rattle.algebra.specs.Lists.{Every, each}
use Rattle.algebra.specs.Plan.{Conjunct, Kind, Node, scan, select, compute, project, join, group, groupjoin, dependent, inputs}
use Rattle.algebra.specs.Columns.{closed, computation_reads, conjunct_reads, shape_of}
use Rattle.algebra.specs.Domains.{Domain, inside, outside, shift, move_conjunct}
use Rattle.algebra.specs.Rewriting.{Piece, Placed, closed_node, emit, join_closed, join_under, open_under, unnest}
use Rattle.algebra.proofs.Lists.Every.{every_head, every_tail}
use Rattle.algebra.proofs.Tables.Tidy.{closed_back, closed_front}

-- two pieces that put the same, and whose copies stand at one place if they are closed
pub record Alike (p q : Piece) : Type 0 where
  pub shape : p.shape ≡ q.shape
  pub image : closed p.shape ≡ true → p.image ≡ q.image
  pub put : p.put ≡ q.put

-- one of two, the first of which counts only where it is taken
cond_same : {A : Type 0} (b : Bool) {x y : A} (z : A) → (b ≡ true → x ≡ y) → cond b x z ≡ cond b y z
cond_same true z e = e refl
cond_same false z e = refl

module _ {a b p q : Piece} (f : Alike a b) (g : Alike p q) where
  -- the copy of a closed right
  copy_alike : (h : ℕ → Placed) (z : Placed) → cond (closed q.shape) (h p.image) z ≡ cond (closed q.shape) (h q.image) z
  copy_alike h z = cond_same (closed q.shape) z (λ t. ap h (g.image (ap closed g.shape ∙ t)))

  module _ (k : Kind) (cs : List Conjunct) where
    -- a join
    join_alike : (D E : Domain) (out : List Node) → join_under k cs a p D E out ≡ join_under k cs b q D E out
    unfolding join_under
    join_alike D E out = rw (f.put, f.shape, g.put, g.shape) (copy_alike (join_closed k cs D (b.put D out)) _)

    -- a dependent join whose left is in place
    unnest_alike : (D : Domain) (x : Placed) → unnest k cs a p D x ≡ unnest k cs b q D x
    unfolding unnest
    unnest_alike D x = rw (f.shape, g.put, g.shape)

module _ (at bt : ℕ → Piece) where
  -- an open node
  pub open_alike : (n : Node) → Every (λ i. Alike (at i) (bt i)) (inputs n) → (D : Domain) (out : List Node) → open_under at n D out ≡ open_under bt n D out
  unfolding open_under
  open_alike (scan t) h D out = refl
  open_alike (select cs i) h D out = rw (every_head h).put
  open_alike (compute c i) h D out = rw (every_head h).put
  open_alike (project ps i) h D out = rw (every_head h).put
  open_alike (join k cs l r) h D out = join_alike (every_head h) (every_head (every_tail h)) k cs D D out
  open_alike (group [] gs i) h D out = rw (every_head h).put
  open_alike (group (k ∷ ks) gs i) h D out = rw (every_head h).put
  open_alike (groupjoin cs gs l r) h D out =
      let f = every_head h in
      let g = every_head (every_tail h) in
      rw (f.put, f.shape, g.put, g.shape)
      (copy_alike f g (λ i. emit (groupjoin (map (move_conjunct D (shift D.width)) cs) gs ((bt l).put D out).at i) ((bt l).put D out).out) _)
  open_alike (dependent k cs l r) h D out =
      let f = every_head h in
      let g = every_head (every_tail h) in
      rw (unnest_alike f g k cs D ((at l).put D out), join_alike f g k cs D (inside D) out, f.put, g.shape)

  -- a closed node
  pub closed_alike : (widths : List ℕ) (n : Node) → Every (λ i. Alike (at i) (bt i)) (inputs n) → closed (shape_of widths (λ i. (at i).shape) n) ≡ true
      → (out : List Node)
      → closed_node at n out ≡ closed_node bt n out
  unfolding closed_node
  closed_alike widths (scan t) h c out = refl
  closed_alike widths (select cs i) h c out = rw ((every_head h).image (closed_back (each conjunct_reads cs) _ c))
  closed_alike widths (compute x i) h c out = rw ((every_head h).image (closed_back (computation_reads x) _ c))
  closed_alike widths (project ps i) h c out = rw ((every_head h).image c)
  closed_alike widths (join k cs l r) h c out =
      let b = closed_back (each conjunct_reads cs) _ c in
      rw ((every_head h).image (closed_front (at l).shape.reads _ b), (every_head (every_tail h)).image (closed_back (at l).shape.reads _ b))
  closed_alike widths (group ks gs i) h c out = rw ((every_head h).image c)
  closed_alike widths (groupjoin cs gs l r) h c out =
      let b = closed_back (each conjunct_reads cs) _ c in
      rw ((every_head h).image (closed_front (at l).shape.reads _ b), (every_head (every_tail h)).image (closed_back (at l).shape.reads _ b))
  closed_alike widths (dependent k cs l r) h c out =
      let f = every_head h in
      let g = every_head (every_tail h) in
      let shut = closed_front (at l).shape.reads _ (closed_back (each conjunct_reads cs) _ c) in
      rw (unnest_alike f g k cs outside (record { out = out; at = (at l).image }), f.image shut, g.shape)
      (copy_alike f g (λ i. emit (join k cs (bt l).image i) out) _)
