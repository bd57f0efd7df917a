-- A plan without dependent joins is its own rewriting.
use mathlib.Core.Path.{◌∙◌, ◌≡◌, ap, refl, subst, sym}
use mathlib.Core.Bool.{Bool, ◌&&◌, cond, false, true}
use mathlib.Core.List.{List, [], ◌++◌, ◌∷◌, append_assoc, append-nil, map}
use Prim.Native.Nat.{◌<◌, suc, zero, ℕ}
use native.Mathlib.Numerals.{add-one}
use native.Mathlib.Omega.{arith}
use lib.Dec.{ltb}
use lib.ListN.{get_or-map, get_or, length, length-append}
use borrow.Author.Tests.{ltb-true, ne_eqb}
use Rattle.algebra.specs.Lists.{Every, upto}
use Rattle.algebra.specs.Plan.{Node, compute, dependent, group, groupjoin, inputs, join, project, scan, select}
use Rattle.algebra.specs.Columns.{Shape, closed, shape_at, shape_of, shapeless}
use Rattle.algebra.specs.Rewriting.{Piece, State, closed_node, emit, missing, piece_at, rewritten, step, steps}
use Rattle.algebra.specs.Statements.{Fine, FineFrom, Plain}
use Rattle.algebra.proofs.Lists.Keep.{map_append}
use Rattle.algebra.proofs.Lists.Every.{every_head, every_map, every_tail, every_unmapped}
use Rattle.algebra.proofs.Lists.Entries.{entry_before, entry_last}
use Rattle.algebra.proofs.Domains.Keys.{upto_all}
use Rattle.algebra.proofs.Tables.Tidy.{Ordered, ordered_closed}
use Rattle.plan.specs.Words.{items_of, kind, left, nodes, operator, right}
use Rattle.plan.specs.Plan.{node_at, nodes_of, widths_of}
use Rattle.plan.specs.Verdict.{columns_right, is_open, is_right_side, scope, user_of, width_at}
use Rattle.plan.specs.Promise.{Accepted}
use Rattle.plan.specs.Encoding.{parts}
use Rattle.plan.proofs.Laws.Formed.{NodeFacts, facts_at, inputs_below, mapped_at, nodes_length, upto_at}
use Rattle.plan.proofs.Laws.Rebuilt.{operator_again}
use Rattle.algebra.proofs.Tables.Fine.{fine_below}
use Rattle.rewrite.proofs.Laws.LocalColumns.{ordered_all, tidy_node}
use Rattle.rewrite.proofs.Laws.PieceShapes.{Shaped, shaped_none, shaped_step, shapes_are}

-- ---- closed nodes without dependent joins are copied

-- over copies that kept their numbers
copied_same : (at : ℕ → Piece) (n : Node) (out : List Node) → Plain n → Every (λ i. (at i).image ≡ i) (inputs n) → closed_node at n out ≡ emit n out
unfolding closed_node
copied_same at (scan t) out p h = refl
copied_same at (select cs i) out p h = rw (every_head h)
copied_same at (compute c i) out p h = rw (every_head h)
copied_same at (project ps i) out p h = rw (every_head h)
copied_same at (join k cs l r) out p h = rw (every_head h, every_head (every_tail h))
copied_same at (group ks gs i) out p h = rw (every_head h)
copied_same at (groupjoin cs gs l r) out p h = rw (every_head h, every_head (every_tail h))
copied_same at (dependent k cs l r) out p h = absurd p

-- after the nodes ns: these are written, each copy under its own number
record Kept (ns : List Node) (s : State) : Type 0 where
  out : s.out ≡ ns
  images : map (λ p. p.image) s.pieces ≡ upto (length ns)

module _ (widths : List ℕ) where
  -- one more node
  kept_step : (ns : List Node) (s : State) (n : Node) → Shaped widths ns s → Kept ns s → Fine (shape_at widths ns) (length ns) n → Plain n
      → closed (shape_of widths (shape_at widths ns) n) ≡ true → Kept (ns ++ (n ∷ [])) (step widths s n)
  unfolding step
  kept_step ns s n v q f p c =
      rw (
        subst (λ (t : ℕ → Shape). closed (shape_of widths t n) ≡ true) (shapes_are widths ns s v) c,
        copied_same at n s.out p
            (every_map image (fine_below _ _ n f)),
      )
      (record {
        out = ap (λ (l : List Node). l ++ (n ∷ [])) q.out;
        images = map_append _ s.pieces _ ∙ rw (q.images, length-append ns (n ∷ []), add-one, q.out);
      })
    where
      at : ℕ → Piece
      at = piece_at s

      image : (i : ℕ) → i < length ns → (at i).image ≡ i
      image i h = sym (get_or-map (λ p. p.image) s.pieces i missing) ∙ ap (λ (l : List ℕ). get_or l i 0) q.images ∙ upto_at (length ns) i 0 h

  -- all nodes, one after the other
  kept_steps : (ns ms : List Node) (s : State) → Shaped widths ns s → Kept ns s → FineFrom widths ns ms → Every Plain ms
      → ((i : ℕ) → closed (shape_at widths (ns ++ ms) i) ≡ true)
      → (steps widths s ms).out ≡ ns ++ ms
  unfolding steps
  kept_steps ns [] s v q f p c = rw append-nil q.out
  kept_steps ns (m ∷ ms) s v q f p c =
      kept_steps (ns ++ (m ∷ [])) ms (step widths s m) (shaped_step widths ns s m v) (kept_step ns s m v q f.0 (every_head p) here) f.1
      (every_tail p) (rw (append_assoc ns (m ∷ []) ms) c)
      ∙ append_assoc ns (m ∷ []) ms
    where
      here : closed (shape_of widths (shape_at widths ns) m) ≡ true
      here =
          ap closed
          (sym (entry_last shapeless (shape_of widths) ns m)
          ∙ sym (entry_before shapeless (shape_of widths) (ns ++ (m ∷ [])) ms (length ns) (rw length-append (omega arith)))
          ∙ ap (λ (l : List Node). shape_at widths l (length ns)) (append_assoc ns (m ∷ []) ms))
          ∙ c (length ns)

  -- a plan of closed nodes without dependent joins
  pub unchanged : (ns : List Node) → FineFrom widths [] ns → Every Plain ns → Ordered ns → rewritten widths ns ≡ ns
  unfolding rewritten
  unchanged ns f p o = kept_steps [] ns _ (shaped_none widths) (record { out = refl; images = refl }) f p (ordered_closed widths o)

-- ---- in an accepted plan without dependent joins every node is closed

-- the operator of a node that is no dependent join
pub plain_operator : (x : Node) → Plain x → (parts x).operator ≡ 8 → ⊥
plain_operator (scan t) p e = omega arith
plain_operator (select cs i) p e = omega arith
plain_operator (compute c i) p e = omega arith
plain_operator (project ps i) p e = omega arith
plain_operator (join k cs l r) p e = omega arith
plain_operator (group ks gs i) p e = omega arith
plain_operator (groupjoin cs gs l r) p e = omega arith
plain_operator (dependent k cs l r) p e = p

module _ (ws : List ℕ) (a : Accepted ws) (plain : Every Plain (nodes_of ws)) where
  -- node n is no dependent join
  plain_at : (n : ℕ) → n < nodes ws → Plain (node_at ws n)
  plain_at n h = upto_all {P = λ i. Plain (node_at ws i)} (nodes ws) (every_unmapped {P = Plain} (node_at ws) (upto (nodes ws)) plain) n h

  -- its operator is not 8
  no_eight : (n : ℕ) → n < nodes ws → operator ws n ≡ 8 → ⊥
  no_eight n h e =
      let v : NodeFacts ws n = facts_at ws a.formed n h in
      plain_operator (node_at ws n) (plain_at n h) (operator_again (left ws n) (right ws n) (kind ws n) (items_of ws n) (operator ws n) v.low v.high ∙ e)

  -- nothing stands around a node
  no_scope : (fuel m : ℕ) → scope ws fuel m ≡ []
  unfolding scope
  no_scope zero m = refl
  no_scope (suc fuel) m = go (scope ws fuel (user_of ws m)) (is_open ws m) (ltb (user_of ws m) (nodes ws)) refl (no_scope fuel (user_of ws m))
    where
      go : (beyond : List ℕ) (o t : Bool) → ltb (user_of ws m) (nodes ws) ≡ t → beyond ≡ []
          → cond (o && t) (cond (is_right_side ws (user_of ws m) m) (width_at ws (left ws (user_of ws m)) ∷ beyond) beyond) [] ≡ []
      go beyond false t e q = refl
      go beyond true false e q = refl
      go beyond true true e q = rw (ne_eqb (operator ws (user_of ws m)) 8 (no_eight (user_of ws m) (ltb-true _ _ e))) q

  -- so it mentions local columns only
  plan_ordered : Ordered (nodes_of ws)
  unfolding columns_right
  plan_ordered =
      ordered_all (node_at ws 0) (nodes_of ws)
      (λ i l.
      let h : i < nodes ws = rw (nodes_length ws) at l in
      rw (mapped_at (node_at ws) (nodes ws) i 0 h)
      (tidy_node (width_at ws) i (node_at ws i) (plain_at i h) (inputs_below ws a.formed i h) (rw (no_scope (nodes ws) i) at (a.columns i h))))

  -- and the plan is its own rewriting
  pub plan_unchanged : rewritten (widths_of ws) (nodes_of ws) ≡ nodes_of ws
  plan_unchanged = unchanged (widths_of ws) (nodes_of ws) a.plan.nodes plain plan_ordered
