-- The pieces of the first nodes of a plan: what they put, where the copies of the closed ones stand, and the columns of what is written.
use mathlib.Core.Path.{◌≡◌, refl, sym, ap, fun_ext, subst, ◌∙◌}
use mathlib.Core.Bool.{Bool, true, false, cond, true≢false}
use mathlib.Core.List.{List, [], ◌∷◌, ◌++◌, map, append-nil}
use Prim.Native.Nat.{ℕ, zero, suc, ◌+◌, ◌-◌, ◌≤◌, ◌<◌}
use native.Mathlib.Omega.{arith}
use lib.Dec.{ltb}
use lib.ListN.{length, get_or, get_or-append}
use lib.Seq.{get_or_at}
use borrow.Author.Tests.{ltb-true, ltb-false}
use Rattle.algebra.specs.Lists.{done, upto}
use Rattle.algebra.specs.Plan.{Node}
use Rattle.algebra.specs.Columns.{Shape, closed, shape_at, shape_of, shapeless}
use Rattle.algebra.specs.Rewriting.{Piece, Placed, State, add_piece, closed_node, closed_put, missing, open_under, piece_at, rewritten, step, steps}
use Rattle.algebra.specs.Statements.{Fine}
use Rattle.algebra.proofs.Lists.Every.{every_in, every_map}
use Rattle.algebra.proofs.Lists.Entries.{entry_before, entry_last}
use Rattle.algebra.proofs.Lists.Keep.{map_append}
use Rattle.plan.specs.Words.{nodes}
use Rattle.plan.specs.Plan.{node_at, nodes_of, widths_of}
use Rattle.plan.specs.Verdict.{columns_right, columns_there, scope_of}
use Rattle.plan.specs.Promise.{Accepted, Formed}
use Rattle.plan.proofs.Laws.Formed.{inputs_below}
use Rattle.plan.proofs.Laws.Numbered.{numbered_add, numbered_at, numbered_length, numbered_take}
use Rattle.rewrite.specs.Answer.{new_plan}
use Rattle.rules.specs.Under.{piece, put}
use Rattle.rewrite.specs.Closing.{Copies, closing}
use Rattle.rules.proofs.Laws.SamePieces.{Alike, open_alike, closed_alike}
use Rattle.algebra.proofs.Tables.Fine.{fine_front}
use Rattle.rules.proofs.Laws.ColumnsWritten.{no_node}
use Rattle.rewrite.proofs.Laws.ColumnsThere.{Built, Legal, built_step, legal_before, sound_at}
use Rattle.rewrite.proofs.Laws.PieceShapes.{Shaped, shaped_none, shaped_step, shapes_are}

-- ---- one node more

module _ (widths : List ℕ) where
  -- the piece that a node adds
  abbrev piece_of : State → Node → Piece
  piece_of s n =
      let sh = shape_of widths (λ i. (piece_at s i).shape) n in
      let x = closed_node (piece_at s) n s.out in
      cond (closed sh) (record { shape = sh; image = x.at; put = closed_put x.at }) (record { shape = sh; image = 0; put = open_under (piece_at s) n })

  step_pieces : (s : State) (n : Node) → (step widths s n).pieces ≡ s.pieces ++ (piece_of s n ∷ [])
  unfolding step
  step_pieces s n = go (closed sh)
    where
      at : ℕ → Piece
      at = piece_at s

      sh : Shape
      sh = shape_of widths (λ i. (at i).shape) n

      x : Placed
      x = closed_node at n s.out

      go : (b : Bool) → (cond b (add_piece s sh x (closed_put x.at)) (add_piece s sh (record { out = s.out; at = 0 }) (open_under at n))).pieces
          ≡ s.pieces ++ (cond b (record { shape = sh; image = x.at; put = closed_put x.at }) (record { shape = sh; image = 0; put = open_under at n }) ∷ [])
      go true = refl
      go false = refl

  -- a closed node is written, an open one is not
  pub step_closed : (s : State) (n : Node) → closed (shape_of widths (λ i. (piece_at s i).shape) n) ≡ true
      → (step widths s n).out ≡ (closed_node (piece_at s) n s.out).out
  unfolding step
  step_closed s n e = rw e

  pub step_open : (s : State) (n : Node) → closed (shape_of widths (λ i. (piece_at s i).shape) n) ≡ false → (step widths s n).out ≡ s.out
  unfolding step
  step_open s n e = rw e

  -- nodes behind
  steps_append : (s : State) (ns ms : List Node) → steps widths s (ns ++ ms) ≡ steps widths (steps widths s ns) ms
  unfolding steps
  steps_append s [] ms = refl
  steps_append s (n ∷ ns) ms = steps_append (step widths s n) ns ms

-- ---- the state after the first nodes

-- the first k nodes
abbrev first : List ℕ → ℕ → List Node
first ws k = map (node_at ws) (upto k)

abbrev pub after : List ℕ → ℕ → State
after ws k = steps (widths_of ws) (record { out = []; pieces = [] }) (first ws k)

abbrev pub shape : List ℕ → ℕ → Shape
shape ws i = shape_at (widths_of ws) (nodes_of ws) i

module _ (ws : List ℕ) where
  first_suc : (k : ℕ) → first ws (suc k) ≡ first ws k ++ (node_at ws k ∷ [])
  first_suc k = map_append (node_at ws) (upto k) (k ∷ [])

  pub after_suc : (k : ℕ) → after ws (suc k) ≡ step (widths_of ws) (after ws k) (node_at ws k)
  unfolding steps
  after_suc k = ap (steps (widths_of ws) _) (first_suc k) ∙ steps_append (widths_of ws) _ (first ws k) (node_at ws k ∷ [])

  -- one piece for each node, with its shape
  shaped : (k : ℕ) → Shaped (widths_of ws) (first ws k) (after ws k)
  unfolding steps
  shaped zero = shaped_none (widths_of ws)
  shaped (suc k) = rw (after_suc k, first_suc k) (shaped_step (widths_of ws) (first ws k) (after ws k) (node_at ws k) (shaped k))

  pieces_count : (k : ℕ) → length (after ws k).pieces ≡ k
  pieces_count k = (shaped k).count ∙ numbered_length (node_at ws) k

  -- nodes behind change no shape
  shape_first : (k i : ℕ) → k ≤ nodes ws → i < k → shape_at (widths_of ws) (first ws k) i ≡ shape ws i
  shape_first k i h g =
      let e : nodes ws ≡ k + (nodes ws - k) = omega arith in
      sym
      (ap (λ (m : ℕ). shape_at (widths_of ws) (first ws m) i) e
      ∙ ap (λ (l : List Node). shape_at (widths_of ws) l i) (numbered_add (node_at ws) k (nodes ws - k))
      ∙ entry_before shapeless (shape_of (widths_of ws)) (first ws k) _ i (rw (numbered_length (node_at ws) k) g))

  pieces_shape : (k i : ℕ) → k ≤ nodes ws → i < k → (piece_at (after ws k) i).shape ≡ shape ws i
  pieces_shape k i h g = (λ j. sym (shapes_are (widths_of ws) (first ws k) (after ws k) (shaped k)) j i) ∙ shape_first k i h g

  -- the shape of the next node
  pub next_shape : (k : ℕ) → k < nodes ws → shape_of (widths_of ws) (λ i. (piece_at (after ws k) i).shape) (node_at ws k) ≡ shape ws k
  next_shape k h =
      ap (λ (q : ℕ → Shape). shape_of (widths_of ws) q (node_at ws k)) (sym (shapes_are (widths_of ws) (first ws k) (after ws k) (shaped k)))
      ∙ sym (entry_last shapeless (shape_of (widths_of ws)) (first ws k) (node_at ws k))
      ∙ (λ j. shape_at (widths_of ws) (sym (first_suc k) j) (numbered_length (node_at ws) k j))
      ∙ shape_first (suc k) k h (omega arith)

  -- the pieces of the nodes before, and the new one
  pub piece_before : (k i : ℕ) → i < k → piece_at (after ws (suc k)) i ≡ piece_at (after ws k) i
  piece_before k i h =
      ap (λ (s : State). piece_at s i) (after_suc k)
      ∙ ap (λ (l : List Piece). get_or l i missing) (step_pieces (widths_of ws) (after ws k) (node_at ws k))
      ∙ get_or-append (after ws k).pieces _ missing i (rw (pieces_count k) h)

  pub piece_next : (k : ℕ) → piece_at (after ws (suc k)) k ≡ piece_of (widths_of ws) (after ws k) (node_at ws k)
  piece_next k =
      ap (λ (s : State). piece_at s k) (after_suc k)
      ∙ ap (λ (l : List Piece). get_or l k missing) (step_pieces (widths_of ws) (after ws k) (node_at ws k))
      ∙ get_or_at (after ws k).pieces _ [] missing k (pieces_count k)

-- ---- what the pieces put

-- where the copies of the first k nodes stand
abbrev pub image_of : List ℕ → ℕ → ℕ → ℕ
image_of ws k i = (piece_at (after ws k) i).image

-- images says so of the closed ones
abbrev pub Placing : List ℕ → (ℕ → ℕ) → ℕ → Type 0
Placing ws images k = (i : ℕ) → i < k → closed (shape ws i) ≡ true → images i ≡ image_of ws k i

module _ (ws : List ℕ) (f : Formed ws) (images : ℕ → ℕ) where
  -- a new piece
  next_alike : (k fuel : ℕ) → k < nodes ws → ((i : ℕ) → i < k → Alike (piece_at (after ws k) i) (piece ws images fuel i))
      → (closed (shape ws k) ≡ true → images k ≡ (piece_of (widths_of ws) (after ws k) (node_at ws k)).image)
      → Alike (piece_of (widths_of ws) (after ws k) (node_at ws k)) (piece ws images (suc fuel) k)
  unfolding put
  next_alike k fuel h before placed = go (closed (shape ws k)) refl
    where
      sh : Shape
      sh = shape_of (widths_of ws) (λ i. (piece_at (after ws k) i).shape) (node_at ws k)

      is : sh ≡ shape ws k
      is = next_shape ws k h

      x : Placed
      x = closed_node (piece_at (after ws k)) (node_at ws k) (after ws k).out

      go : (b : Bool) → closed (shape ws k) ≡ b → Alike (piece_of (widths_of ws) (after ws k) (node_at ws k)) (piece ws images (suc fuel) k)
      go true e =
          let c : closed sh ≡ true = ap closed is ∙ e in
          let at : images k ≡ x.at = placed e ∙ rw c in
          rw c (record { shape = is; image = λ t. sym at; put = fun_ext (λ D. fun_ext (λ out. rw (e, at))) })
      go false e =
          let c : closed sh ≡ false = ap closed is ∙ e in
          rw c (record {
            shape = is;
            image = λ t. absurd (true≢false (sym t ∙ c));
            put =
                fun_ext (λ D. fun_ext (λ out. rw e (open_alike (piece_at (after ws k)) (piece ws images fuel) (node_at ws k)
                (every_map before (inputs_below ws f k h)) D out)));
          })

  -- all pieces so far
  pieces_alike : (k : ℕ) → k ≤ nodes ws → Placing ws images k → (i fuel : ℕ) → i < k → i < fuel → Alike (piece_at (after ws k) i) (piece ws images fuel i)
  pieces_alike zero h placed i fuel g e = absurd (omega arith)
  pieces_alike (suc k) h placed i zero g e = absurd (omega arith)
  pieces_alike (suc k) h placed i (suc fuel) g e =
      go (pieces_alike k (omega arith) (λ j l t. placed j (omega arith) t ∙ ap (λ (p : Piece). p.image) (piece_before ws k j l))) (ltb i k) refl
    where
      go : ((j n : ℕ) → j < k → j < n → Alike (piece_at (after ws k) j) (piece ws images n j)) → (b : Bool) → ltb i k ≡ b
          → Alike (piece_at (after ws (suc k)) i) (piece ws images (suc fuel) i)
      go before true t = rw (piece_before ws k i (ltb-true i k t)) (before i (suc fuel) (ltb-true i k t) e)
      go before false t =
          let q : i ≡ k = omega (arith, ltb-false i k t) in
          rw (q, piece_next ws k)
          (next_alike k fuel h (λ j l. before j fuel l (omega arith)) (λ u. placed k (omega arith) u ∙ ap (λ (p : Piece). p.image) (piece_next ws k)))

  -- a closed node
  pub next_closed : (k : ℕ) → k < nodes ws → closed (shape ws k) ≡ true → Placing ws images k → (out : List Node)
      → closed_node (piece_at (after ws k)) (node_at ws k) out ≡ closing ws images k out
  next_closed k h c placed out =
      closed_alike (piece_at (after ws k)) (λ i. piece ws images (suc i) i) (widths_of ws) (node_at ws k)
      (every_map (λ i g. pieces_alike k (omega arith) placed i (suc i) g (omega arith)) (inputs_below ws f k h)) (ap closed (next_shape ws k h) ∙ c) out

-- ---- the copies stand, with their widths

module _ (ws : List ℕ) (a : Accepted ws) where
  module _ (k : ℕ) (h : k < nodes ws) where
    -- a node behind those before it
    node_front : Fine (shape_at (widths_of ws) (first ws k)) (length (first ws k)) (node_at ws k)
    node_front =
        rw (numbered_take (node_at ws) (nodes ws) k (omega arith), numbered_at (node_at ws) (nodes ws) k (node_at ws 0) h) at
        (fine_front (widths_of ws) (node_at ws 0) [] (nodes_of ws) a.plan.nodes k (rw (numbered_length (node_at ws) (nodes ws)) h))

    -- its columns are there, over the nodes before it
    node_legal : Legal (widths_of ws) (first ws k) (node_at ws k)
    unfolding columns_right
    node_legal =
        let e : nodes ws ≡ k + (nodes ws - k) = omega arith in
        let whole : nodes_of ws ≡ first ws k ++ map (λ i. node_at ws (k + i)) (upto (nodes ws - k)) =
        ap (first ws) e ∙ numbered_add (node_at ws) k (nodes ws - k) in
        let all : Legal (widths_of ws) (nodes_of ws) (node_at ws k) = (scope_of ws k, a.columns k h) in
        legal_before (widths_of ws) (first ws k) _ (node_at ws k) node_front (subst (λ (l : List Node). Legal (widths_of ws) l (node_at ws k)) whole all)

  built : (k : ℕ) → k ≤ nodes ws → Built (widths_of ws) (first ws k) (after ws k)
  unfolding steps
  built zero h = record { shaped = shaped_none (widths_of ws); pieces = done; sound = no_node }
  built (suc k) h =
      rw (after_suc ws k, first_suc ws k)
      (built_step (widths_of ws) (first ws k) (after ws k) (node_at ws k) (built k (omega arith)) (node_front k h) (node_legal k h))

  pub copies_stand : (images : ℕ → ℕ) (k : ℕ) → k ≤ nodes ws → Placing ws images k → Copies ws images k (after ws k).out
  copies_stand images k h placed i g c =
      let is = pieces_shape ws k i h g in
      let has = (every_in missing (built k h).pieces i (rw (pieces_count ws k) g)).copied (ap closed is ∙ c) in
      rw (placed i g c) (record { inside = has.inside; width = has.width ∙ ap (λ (s : Shape). s.width) is })

  -- the nodes of the rewriting have their columns
  pub columns_there_lem : (n : ℕ) (d : Node) → n < length (new_plan ws)
      → columns_there (λ i. (shape_at (widths_of ws) (new_plan ws) i).width) [] (get_or (new_plan ws) n d) ≡ true
  unfolding rewritten
  columns_there_lem n d h = rw append-nil at (sound_at (widths_of ws) (built (nodes ws) (omega arith)).sound [] n d h)
