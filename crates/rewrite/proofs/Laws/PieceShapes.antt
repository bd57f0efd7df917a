-- The pieces of the rewriting have the shapes of the plan's nodes.
use mathlib.Core.Path.{◌∙◌, ◌≡◌, ap, fun_ext, refl, sym}
use mathlib.Core.Bool.{Bool, cond, false, true}
use mathlib.Core.List.{List, [], ◌++◌, ◌∷◌, map}
use Prim.Native.Nat.{ℕ}
use native.Mathlib.Omega.{arith}
use lib.ListN.{get_or-map, get_or, length, length-append}
use Rattle.algebra.specs.Lists.{list_from}
use Rattle.algebra.specs.Plan.{Node}
use Rattle.algebra.specs.Columns.{Shape, closed, shape_at, shape_of, shapeless}
use Rattle.algebra.specs.Rewriting.{Piece, Placed, State, add_piece, closed_node, closed_put, missing, open_under, piece_at, step}
use Rattle.algebra.proofs.Lists.Keep.{map_append}
use Rattle.algebra.proofs.Lists.Entries.{entries_snoc}

module _ (widths : List ℕ) where
  -- after the nodes ns: one piece for each, with its shape
  pub record Shaped (ns : List Node) (s : State) : Type 0 where
    pub count : length s.pieces ≡ length ns
    pub shapes : map (λ p. p.shape) s.pieces ≡ list_from shapeless (shape_of widths) [] ns

  -- before the first node
  pub shaped_none : Shaped [] (record { out = []; pieces = [] })
  shaped_none = record { count = refl; shapes = refl }

  -- the pieces have the shapes of the nodes
  pub shapes_are : (ns : List Node) (s : State) → Shaped ns s → shape_at widths ns ≡ (λ i. (piece_at s i).shape)
  shapes_are ns s v = fun_ext (λ i. ap (λ (l : List Shape). get_or l i shapeless) (sym v.shapes) ∙ get_or-map (λ p. p.shape) s.pieces i missing)

  -- one more piece
  pub shaped_snoc : (ns : List Node) (s : State) (n : Node) (out : List Node) (p : Piece) → Shaped ns s → p.shape ≡ shape_of widths (λ i. (piece_at s i).shape) n
      → Shaped (ns ++ (n ∷ [])) (record { out = out; pieces = s.pieces ++ (p ∷ []) })
  shaped_snoc ns s n out p v e = record {
    count = simp length-append (omega (arith, v.count));
    shapes =
        map_append _ s.pieces (p ∷ []) ∙ rw (v.shapes, e, entries_snoc shapeless (shape_of widths) ns n)
        (ap (λ (q : ℕ → Shape). list_from shapeless (shape_of widths) [] ns ++ (shape_of widths q n ∷ [])) (sym (shapes_are ns s v)));
  }

  -- one more node
  pub shaped_step : (ns : List Node) (s : State) (n : Node) → Shaped ns s → Shaped (ns ++ (n ∷ [])) (step widths s n)
  unfolding step
  shaped_step ns s n v = go (closed sh)
    where
      at : ℕ → Piece
      at = piece_at s

      sh : Shape
      sh = shape_of widths (λ i. (at i).shape) n

      x : Placed
      x = closed_node at n s.out

      go : (b : Bool)
          → Shaped (ns ++ (n ∷ [])) (cond b (add_piece s sh x (closed_put x.at)) (add_piece s sh (record { out = s.out; at = 0 }) (open_under at n)))
      go true = shaped_snoc ns s n x.out _ v refl
      go false = shaped_snoc ns s n s.out _ v refl
