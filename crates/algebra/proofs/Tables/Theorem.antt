-- The rewriting of a well-formed plan has the plan's rows, in the same order, for every database.
use mathlib.Core.Path.{◌∙◌, ◌≡◌, ap, fun_ext, refl, subst, sym}
use mathlib.Core.Bool.{Bool, cond, false, true, true≢false}
use mathlib.Core.List.{List, [], ◌++◌, ◌∷◌, append_assoc, append-nil, map}
use Prim.Native.Nat.{◌+◌, ◌<◌, ◌≤◌, pred, suc, ℕ}
use native.Mathlib.Omega.{arith}
use lib.Dec.{ltb}
use lib.ListN.{get_or-append, get_or-map, get_or, length, length-append}
use lib.Seq.{get_or_at}
use borrow.Author.Tests.{ltb-true, ltb-false}
use Rattle.algebra.specs.Lists.{Every, done, is_empty, list_from}
use Rattle.algebra.specs.Plan.{width_of, Node, compute, dependent, group, groupjoin, join, project, scan, select}
use Rattle.algebra.specs.Meaning.{Database, Result, answer, empty, node_result, result_of}
use Rattle.algebra.specs.Columns.{Shape, shape_at, shape_of, shapeless}
use Rattle.algebra.specs.Rewriting.{Piece, Placed, State, add_piece, closed_node, closed_put, missing, open_under, piece_at, rewritten, step, steps}
use Rattle.algebra.specs.Statements.{Fine, FineFrom, Plain, WellFormed, Wide}
use Rattle.algebra.proofs.Lists.Keep.{map_append}
use Rattle.algebra.proofs.Lists.Entries.{entries_related, entries_snoc, entry_before, entry_last}
use Rattle.algebra.proofs.Tables.Agreement.{Respects, results_respect, node_agree}
use Rattle.algebra.proofs.Tables.Tidy.{Ordered, Tidy, no_node, one_more, ordered_closed, ordered_plain}
use Rattle.algebra.proofs.Tables.Placing.{Extends, extends_refl}
use Rattle.algebra.proofs.Tables.Nodes.{Good, closed_node_lem, good_closed, good_extends, open_node}

module _ (widths : List ℕ) (db : Database) where
  node_width : (at : ℕ → Result) (sh : ℕ → Shape) → ((i : ℕ) → (at i).width ≡ (sh i).width) → (n : Node) → (node_result widths db at n).width ≡ (shape_of widths sh n).width
  node_width at sh h n = ap (λ (w : ℕ → ℕ). width_of widths w n) (fun_ext h)

  -- a node's rows are as wide as its shape says
  pub width_is : (ns : List Node) (i : ℕ) → (result_of widths db ns i).width ≡ (shape_at widths ns i).width
  width_is = entries_related empty shapeless (node_result widths db) (shape_of widths) (λ r s. r.width ≡ s.width) refl node_width

  -- what is known after the nodes ns
  pub record Inv (ns : List Node) (s : State) : Type 0 where
    pub count : length s.pieces ≡ length ns
    pub shapes : map (λ p. p.shape) s.pieces ≡ list_from shapeless (shape_of widths) [] ns
    pub good : (i : ℕ) → i < length ns → Good widths db s.out (piece_at s i) (result_of widths db ns i)
    pub ordered : Ordered s.out
    pub last : (i : ℕ) → suc i ≡ length ns → is_empty (piece_at s i).shape.reads ≡ true → suc (piece_at s i).image ≡ length s.out

  pub shapes_are : (ns : List Node) (s : State) → Inv ns s → shape_at widths ns ≡ (λ i. (piece_at s i).shape)
  shapes_are ns s v = fun_ext (λ i. ap (λ (l : List Shape). get_or l i shapeless) (sym v.shapes) ∙ get_or-map (λ p. p.shape) s.pieces i missing)

  -- one more piece
  inv_snoc : (ns : List Node) (s : State) (n : Node) (x : Placed) (p : Piece) → Inv ns s → p.shape ≡ shape_of widths (λ i. (piece_at s i).shape) n → Extends s.out x.out
      → Good widths db x.out p (node_result widths db (result_of widths db ns) n) → (is_empty p.shape.reads ≡ true → suc p.image ≡ length x.out)
      → Inv (ns ++ (n ∷ [])) (record { out = x.out; pieces = s.pieces ++ (p ∷ []) })
  inv_snoc ns s n x p v e ex g l = record {
    count = simp length-append (omega (arith, v.count));
    shapes = map_append _ s.pieces (p ∷ []) ∙ rw (v.shapes, e, entries_snoc shapeless (shape_of widths) ns n) (ap (λ (q : ℕ → Shape). list_from shapeless (shape_of widths) [] ns ++ (shape_of widths q n ∷ [])) (sym (shapes_are ns s v)));
    good = λ i h. split i (ltb i (length ns)) refl (rw length-append at h);
    ordered = ex.keeps v.ordered;
    last = λ i h. let j : i ≡ length ns = omega (arith, rw length-append at h) in rw (j, here) l;
  }
    where
      here : get_or (s.pieces ++ (p ∷ [])) (length ns) missing ≡ p
      here = get_or_at s.pieces p [] missing (length ns) v.count

      split : (i : ℕ) (b : Bool) → ltb i (length ns) ≡ b → i < length ns + 1 → Good widths db x.out (get_or (s.pieces ++ (p ∷ [])) i missing) (result_of widths db (ns ++ (n ∷ [])) i)
      split i true t h =
          let q : i < length ns = ltb-true i (length ns) t in
          rw (get_or-append s.pieces (p ∷ []) missing i (omega (arith, v.count)), entry_before empty (node_result widths db) ns (n ∷ []) i q) (good_extends widths db ex (v.good i q))
      split i false t h =
          let q : length ns ≤ i = ltb-false i (length ns) t in
          let j : i ≡ length ns = omega arith in
          rw (j, here, entry_last empty (node_result widths db) ns n) g

  module _ (sound : (t : ℕ) → Wide (get_or widths t 0) (get_or db t [])) where
    inv_step : (ns : List Node) (s : State) (n : Node) → Inv ns s → Fine (shape_at widths ns) (length ns) n → Inv (ns ++ (n ∷ [])) (step widths s n)
    unfolding step
    inv_step ns s n v f = go (is_empty sh.reads) refl
      where
        at : ℕ → Piece
        at = piece_at s

        sh : Shape
        sh = shape_of widths (λ i. (at i).shape) n

        r : Result
        r = node_result widths db (result_of widths db ns) n

        fine : Fine (λ i. (at i).shape) (length ns) n
        fine = subst (λ (q : ℕ → Shape). Fine q (length ns) n) (shapes_are ns s v) f

        width : r.width ≡ sh.width
        width = subst (λ (q : ℕ → Shape). r.width ≡ (shape_of widths q n).width) (shapes_are ns s v) (node_width (result_of widths db ns) (shape_at widths ns) (width_is ns) n)

        respects : Respects sh.reads r.rows
        respects = subst (λ (q : ℕ → Shape). Respects (shape_of widths q n).reads r.rows) (shapes_are ns s v) (node_agree widths db (result_of widths db ns) (shape_at widths ns) (results_respect widths db ns) n)

        x : Placed
        x = closed_node at n s.out

        go : (b : Bool) → is_empty sh.reads ≡ b → Inv (ns ++ (n ∷ [])) (cond b (add_piece s sh x (closed_put x.at)) (add_piece s sh (record { out = s.out; at = 0 }) (open_under at n)))
        go true e =
            let c = closed_node_lem widths db sound s.out at (result_of widths db ns) (length ns) v.good n fine e in
            inv_snoc ns s n x _ v refl c.grows (good_closed widths db sound x.out sh x.at r e width respects c.stands) (λ t. c.last)
        go false e =
            inv_snoc ns s n (record { out = s.out; at = 0 }) _ v refl (extends_refl s.out)
            (record {
              width = width;
              respects = respects;
              copied = λ t. absurd (true≢false (sym t ∙ e));
              puts = λ D ds more ex sd. open_node widths db sound s.out at (result_of widths db ns) (length ns) v.good D ds more ex sd n fine e;
            })
            (λ t. absurd (true≢false (sym t ∙ e)))

    inv_steps : (ns ms : List Node) (s : State) → Inv ns s → FineFrom widths ns ms → Inv (ns ++ ms) (steps widths s ms)
    unfolding steps
    inv_steps ns [] s v f = rw append-nil v
    inv_steps ns (m ∷ ms) s v f = rw append_assoc at (inv_steps (ns ++ (m ∷ [])) ms (step widths s m) (inv_step ns s m v f.0) f.1)

    start : Inv [] (record { out = []; pieces = [] })
    start = record { count = refl; shapes = refl; good = λ i h. absurd (omega arith); ordered = no_node; last = λ i h. absurd (omega arith) }

    pub after : (ns : List Node) → WellFormed widths ns → Inv ns (steps widths (record { out = []; pieces = [] }) ns)
    after ns w = inv_steps [] ns _ start w.nodes

    module _ (ns : List Node) (w : WellFormed widths ns) (s : State) (v : Inv ns s) where
      root_closed : is_empty (piece_at s (pred (length ns))).shape.reads ≡ true
      root_closed = subst (λ (q : ℕ → Shape). is_empty (q (pred (length ns))).reads ≡ true) (shapes_are ns s v) w.root

      root_last : suc (piece_at s (pred (length ns))).image ≡ length s.out
      root_last = v.last (pred (length ns)) (omega (arith, w.some)) root_closed

    -- demand 3
    pub theorem : (ns : List Node) → WellFormed widths ns → answer widths db (rewritten widths ns) ≡ answer widths db ns
    unfolding answer rewritten
    theorem ns w =
        let s : State = steps widths (record { out = []; pieces = [] }) ns in
        let i : ℕ = pred (length ns) in
        let v : Inv ns s = after ns w in
        let c = root_closed ns w s v in
        let l = root_last ns w s v in
        let j : pred (length s.out) ≡ (piece_at s i).image = omega arith in
        ap (λ (k : ℕ). (result_of widths db s.out k).rows []) j ∙ ((v.good i (omega (arith, w.some))).copied c).rows

-- the rewriting is well formed itself, (has && no) dependent join
module _ (widths : List ℕ) where
  tidy_fine : (sh : ℕ → Shape) (c : ℕ) (n : Node) → Tidy c n → Fine sh c n
  tidy_fine sh c (scan t) h = tt
  tidy_fine sh c (select cs i) h = h.0
  tidy_fine sh c (compute e i) h = h.0
  tidy_fine sh c (project ps i) h = h
  tidy_fine sh c (join k cs l r) h = (h.0, h.1)
  tidy_fine sh c (group ks gs i) h = h
  tidy_fine sh c (groupjoin cs gs l r) h = (h.0, h.1)
  tidy_fine sh c (dependent k cs l r) h = absurd h

  fine_snoc : (before ms : List Node) (n : Node) → FineFrom widths before ms → Fine (shape_at widths (before ++ ms)) (length (before ++ ms)) n → FineFrom widths before (ms ++ (n ∷ []))
  fine_snoc before [] n f h = (subst (λ (l : List Node). Fine (shape_at widths l) (length l) n) (append-nil before) h, tt)
  fine_snoc before (m ∷ ms) n f h =
      (f.0, fine_snoc (before ++ (m ∷ [])) ms n f.1 (subst (λ (l : List Node). Fine (shape_at widths l) (length l) n) (sym (append_assoc before (m ∷ []) ms)) h))

  ordered_fine : {out : List Node} → Ordered out → FineFrom widths [] out
  ordered_fine no_node = tt
  ordered_fine (one_more out n t h) = fine_snoc [] out n (ordered_fine t) (tidy_fine (shape_at widths out) (length out) n h)

  in_order_lem : (ns : List Node) (w : WellFormed widths ns) → (Ordered (rewritten widths ns)) × (0 < length (rewritten widths ns))
  unfolding rewritten
  in_order_lem ns w =
      let s : State = steps widths (record { out = []; pieces = [] }) ns in
      let v : Inv widths [] ns s = after widths [] (λ t. done) ns w in
      (v.ordered, omega (arith, root_last widths [] (λ t. done) ns w s v))

  pub plain : (ns : List Node) → WellFormed widths ns → Every Plain (rewritten widths ns)
  plain ns w = ordered_plain (in_order_lem ns w).0

  pub well_formed : (ns : List Node) → WellFormed widths ns → WellFormed widths (rewritten widths ns)
  well_formed ns w = let o = in_order_lem ns w in record { some = o.1; nodes = ordered_fine o.0; root = ordered_closed widths o.0 _ }
