-- A node under a domain, by its words: fuel for the nodes below is enough.
use mathlib.Core.Path.{◌∙◌, ◌≡◌, ap, fun_ext, refl, sym}
use mathlib.Core.Bool.{Bool, cond, false, true, true≢false}
use mathlib.Core.List.{List, [], ◌++◌, ◌∷◌}
use Prim.Native.Nat.{◌<◌, ◌≤◌, suc, zero, ℕ}
use native.Mathlib.Omega.{arith}
use lib.Dec.{eqb}
use lib.ListN.{length}
use Rattle.algebra.specs.Lists.{any, is_empty}
use Rattle.algebra.specs.Plan.{Kind, inner}
use Rattle.algebra.specs.Plan.{Node, group, join}
use Rattle.algebra.specs.Columns.{Column, Shape, closed, reads_left, reads_of, shape_at}
use Rattle.algebra.specs.Domains.{Domain, domain_keys, inner_domain, inside}
use Rattle.algebra.specs.Rewriting.{Piece, Placed, closed_put, join_closed, join_open, join_under, open_under, unnest}
use Rattle.algebra.proofs.Lists.Every.{every_map}
use Rattle.plan.specs.Words.{Item, items_of, kind, left, nodes, operator, right}
use Rattle.plan.specs.Items.{aggregates_in, keys_in}
use Rattle.plan.specs.Plan.{kind_of, node_at, node_for, nodes_of, widths_of}
use Rattle.plan.specs.Verdict.{has_right}
use Rattle.plan.specs.Promise.{Formed}
use Rattle.plan.proofs.Laws.Formed.{NodeFacts, by_operator, facts_at, inputs_below, shape_of_lem}
use Rattle.rules.specs.Under.{over_input, piece, put, with_copy, with_inner, with_open}
use Rattle.rules.proofs.Laws.SamePieces.{open_alike}
use Rattle.rules.proofs.Laws.AppendedNodes.{Extends, extends_none, extends_then, extends_one, left_placed, left_behind, open_behind, AtEnd, emit_end, Inner, open_end}

-- ---- fuel

module _ (ws : List ℕ) (f : Formed ws) (images : ℕ → ℕ) where
  -- fuel for the nodes below is enough
  fuel : (a b n : ℕ) → n < nodes ws → n < a → n < b → put ws images a n ≡ put ws images b n
  unfolding put
  fuel zero b n h p q = absurd (omega arith)
  fuel (suc a) zero n h p q = absurd (omega arith)
  fuel (suc a) (suc b) n h p q =
      fun_ext
      (λ D.
      fun_ext
      (λ out.
      ap (λ (x : Placed). cond (closed (shape_at (widths_of ws) (nodes_of ws) n)) (closed_put (images n) D out) x)
      (open_alike (piece ws images a) (piece ws images b) (node_at ws n)
      (every_map (λ i g. record { shape = refl; image = λ t. refl; put = fuel a b i (omega arith) (omega arith) (omega arith) })
      (inputs_below ws f n h))
      D out)))

-- node i with just enough fuel
abbrev pub own : List ℕ → (ℕ → ℕ) → ℕ → Piece
own ws images i = piece ws images (suc i) i

module _ (ws : List ℕ) (f : Formed ws) (images : ℕ → ℕ) (n : ℕ) (h : n < nodes ws) (D : Domain) (out : List Node) where
  -- a closed node
  pub put_closed : closed (shape_at (widths_of ws) (nodes_of ws) n) ≡ true → put ws images (suc n) n D out ≡ closed_put (images n) D out
  unfolding put
  put_closed e = rw e

  -- an open node
  pub put_open : closed (shape_at (widths_of ws) (nodes_of ws) n) ≡ false
      → put ws images (suc n) n D out ≡ open_under (own ws images) (node_at ws n) D out
  unfolding put
  put_open e =
      rw e
      (open_alike (piece ws images n) (own ws images) (node_at ws n)
      (every_map (λ i g. record { shape = refl; image = λ t. refl; put = fuel ws f images n (suc i) i (omega arith) g (omega arith) })
      (inputs_below ws f n h))
      D out)

-- ---- what is put goes behind what is there

module _ (ws : List ℕ) (images : ℕ → ℕ) where
  -- a node under a domain
  pub put_behind : (fuel n : ℕ) (D : Domain) (out : List Node) → Extends out (put ws images fuel n D out).out
  unfolding put
  put_behind zero n D out = extends_none
  put_behind (suc fuel) n D out = go (closed (shape_at (widths_of ws) (nodes_of ws) n)) (put_behind fuel)
    where
      at : ℕ → Piece
      at = piece ws images fuel

      go : (b : Bool) → ((i : ℕ) (E : Domain) (more : List Node) → Extends more (put ws images fuel i E more).out)
          → Extends out (cond b (closed_put (images n) D out) (open_under at (node_at ws n) D out)).out
      go true adds = extends_one _ _
      go false adds = extends_then (left_behind at adds (node_at ws n) D out) (open_behind at adds (node_at ws n) D out)

-- ---- by the words of the node

-- for the operators that a law is not about
no : {A : Type 0} → false ≡ true → A
no e = absurd (true≢false (sym e))

module _ (l r : ℕ) (k : Kind) (xs : List Item) where
  abbrev node : ℕ → Node
  node o = node_for o l r k xs

  no_scan : (o : ℕ) → 1 ≤ o → o ≤ 8 → (o ≡ 1 → ⊥) → Inner (node o)
  unfolding node_for
  no_scan =
      by_operator (λ o. (o ≡ 1 → ⊥) → Inner (node o)) (λ q. q refl) (λ q. tt) (λ q. tt) (λ q. tt) (λ q. tt) (λ q. tt) (λ q. tt) (λ q. tt)

  -- a scan reads nothing outside
  scan_empty : (at : ℕ → List Column) (o : ℕ) → o ≡ 1 → is_empty (reads_of at (node o)) ≡ true
  unfolding node_for
  scan_empty at o e = rw e

  module _ (at : ℕ → Piece) (D : Domain) (out : List Node) where
    -- the left input under D
    abbrev x : Placed
    x = (at l).put D out

    left_first : (o : ℕ) → 1 ≤ o → o ≤ 8 → (o ≡ 1 → ⊥) → left_placed at (node o) D out ≡ x.out
    unfolding node_for
    left_first =
        by_operator (λ o. (o ≡ 1 → ⊥) → left_placed at (node o) D out ≡ x.out)
        (λ q. absurd (q refl)) (λ q. refl) (λ q. refl) (λ q. refl) (λ q. refl) (λ q. refl) (λ q. refl) (λ q. refl)

    -- select, map, project and group
    open_one : (o : ℕ) → 1 ≤ o → o ≤ 8 → (o ≡ 1 → ⊥) → has_right o ≡ false
        → (open_under at (node o) D out).out ≡ x.out ++ (over_input D x.at (node o) ∷ [])
    unfolding node_for open_under
    open_one =
        by_operator (λ o. (o ≡ 1 → ⊥) → has_right o ≡ false → (open_under at (node o) D out).out ≡ x.out ++ (over_input D x.at (node o) ∷ []))
        (λ q e. absurd (q refl))
        (λ q e. refl)
        (λ q e. refl)
        (λ q e. refl)
        (λ q e. no (sym e))
        (λ q e. grouped (keys_in xs))
        (λ q e. no (sym e))
        (λ q e. no (sym e))
      where
        grouped : (ks : List ℕ)
            → (open_under at (group ks (aggregates_in xs) l) D out).out ≡ x.out ++ (over_input D x.at (group ks (aggregates_in xs) l) ∷ [])
        grouped [] = refl
        grouped (q ∷ ks) = refl

    -- a closed right side
    module _ (c : closed (at r).shape ≡ true) where
      open_copy : (o : ℕ) → 1 ≤ o → o ≤ 8 → has_right o ≡ true
          → (open_under at (node o) D out).out ≡ x.out ++ (with_copy D x.at (at r).image (node o) ∷ [])
      unfolding node_for open_under join_under join_closed
      open_copy =
          by_operator (λ o. has_right o ≡ true → (open_under at (node o) D out).out ≡ x.out ++ (with_copy D x.at (at r).image (node o) ∷ []))
          no no no no (λ e. rw c) no (λ e. rw c) (λ e. rw (unread (at r).shape.reads c, c))
        where
          unread : (cs : List Column) → is_empty cs ≡ true → any (λ d. eqb d.level 0) cs ≡ false
          unread [] e = refl
          unread (d ∷ cs) e = no e

    -- an open right side that does not read its left row
    module _ (c : closed (at r).shape ≡ false) where
      abbrev y : ℕ → Placed
      y o = (at r).put (cond (eqb o 8) (inside D) D) x.out

      abbrev Both : ℕ → Type 0
      Both o =
          has_right o ≡ true → (o ≡ 8 → reads_left (at r).shape ≡ false)
          → (open_under at (node o) D out).out ≡ with_open D (at l).shape.width (at r).shape.width x.at (y o).at (node o) (y o).out

      open_both : (o : ℕ) → 1 ≤ o → o ≤ 8 → Both o
      unfolding node_for open_under join_under join_open
      open_both =
          by_operator Both
          (λ e u. no e)
          (λ e u. no e)
          (λ e u. no e)
          (λ e u. no e)
          (λ e u. rw c)
          (λ e u. no e)
          (λ e u. rw c)
          (λ e u. rw (u refl, c))

    -- a right side that reads its left row
    open_inner : reads_left (at r).shape ≡ true
        → (ks : List ℕ) → ks ≡ domain_keys D (at l).shape.width (at r).shape.reads → (y : Placed)
        → y ≡ (at r).put (inner_domain D (at l).shape.width (at r).shape.reads (length x.out)) (x.out ++ (group ks [] x.at ∷ []))
        → (open_under at (node 8) D out).out
        ≡ with_inner D ks (at l).shape.width (at r).shape.width x.at y.at (node 8) y.out
    unfolding node_for open_under unnest
    open_inner e ks f y g = rw (e, g, f)

-- ---- a node of a plan

module _ (ws : List ℕ) (f : Formed ws) (images : ℕ → ℕ) (n : ℕ) (h : n < nodes ws) where
  -- the shape of a node
  abbrev shape : ℕ → Shape
  shape i = shape_at (widths_of ws) (nodes_of ws) i

  -- a node under a domain
  abbrev puts : ℕ → Domain → List Node → Placed
  puts i D out = put ws images (suc i) i D out

  -- its kind and its items
  abbrev k : Kind
  k = kind_of (kind ws n)

  abbrev xs : List Item
  xs = items_of ws n

  facts : NodeFacts ws n
  facts = facts_at ws f n h

  -- there is no open scan
  pub not_scan : closed (shape n) ≡ false → operator ws n ≡ 1 → ⊥
  not_scan e q =
      let empty = ap closed (shape_of_lem ws f n h) ∙ scan_empty (left ws n) (right ws n) k xs (λ i. (shape i).reads) (operator ws n) q in
      true≢false (sym empty ∙ e)

  module _ (D : Domain) (out : List Node) where
    -- the last node is the one meant
    pub put_end : AtEnd (puts n D out)
    put_end = go (closed (shape n)) refl
      where
        go : (b : Bool) → closed (shape n) ≡ b → AtEnd (puts n D out)
        go true e = rw (put_closed ws f images n h D out e) (emit_end (join inner [] D.node (images n)) out)
        go false e =
            rw (put_open ws f images n h D out e)
            (open_end (own ws images) (node_at ws n)
            (no_scan (left ws n) (right ws n) k xs (operator ws n) facts.low facts.high (not_scan e)) D out)

    -- the left input under D
    abbrev first : Placed
    first = puts (left ws n) D out

    module _ (e : closed (shape n) ≡ false) where
      written : (puts n D out).out ≡ (open_under (own ws images) (node_at ws n) D out).out
      written = ap (λ (x : Placed). x.out) (put_open ws f images n h D out e)

      -- behind its left input
      pub put_left : Extends first.out (puts n D out).out
      put_left =
          rw written
          (rw (left_first (left ws n) (right ws n) k xs (own ws images) D out (operator ws n) facts.low facts.high (not_scan e)) at
          (open_behind (own ws images) (λ i. put_behind ws images (suc i) i) (node_at ws n) D out))

      -- select, map, project and group
      pub put_one : has_right (operator ws n) ≡ false → first.out ++ (over_input D first.at (node_at ws n) ∷ []) ≡ (puts n D out).out
      put_one q =
          sym
          (written
          ∙ open_one (left ws n) (right ws n) k xs (own ws images) D out (operator ws n) facts.low facts.high (not_scan e) q)

      module _ (q : has_right (operator ws n) ≡ true) where
        -- a closed right side
        pub put_copy : closed (shape (right ws n)) ≡ true
            → first.out ++ (with_copy D first.at (images (right ws n)) (node_at ws n) ∷ []) ≡ (puts n D out).out
        put_copy c =
            sym (written ∙ open_copy (left ws n) (right ws n) k xs (own ws images) D out c (operator ws n) facts.low facts.high q)

        -- an open one that does not read its left row
        pub put_both : closed (shape (right ws n)) ≡ false → (operator ws n ≡ 8 → reads_left (shape (right ws n)) ≡ false) → (y : Placed)
            → y ≡ puts (right ws n) (cond (eqb (operator ws n) 8) (inside D) D) first.out
            → with_open D (shape (left ws n)).width (shape (right ws n)).width first.at y.at (node_at ws n) y.out ≡ (puts n D out).out
        put_both c u y g =
            rw g
            (sym (written ∙ open_both (left ws n) (right ws n) k xs (own ws images) D out c (operator ws n) facts.low facts.high q u))

      -- a right side that reads its left row
      pub put_inner : operator ws n ≡ 8 → reads_left (shape (right ws n)) ≡ true
          → (ks : List ℕ) → ks ≡ domain_keys D (shape (left ws n)).width (shape (right ws n)).reads → (y : Placed)
          → y
          ≡ puts (right ws n) (inner_domain D (shape (left ws n)).width (shape (right ws n)).reads (length first.out))
          (first.out ++ (group ks [] first.at ∷ []))
          → with_inner D ks (shape (left ws n)).width (shape (right ws n)).width first.at y.at (node_at ws n) y.out ≡ (puts n D out).out
      put_inner o u ks g y p =
          ap (λ (m : ℕ). with_inner D ks (shape (left ws n)).width (shape (right ws n)).width first.at y.at (of m) y.out) o
          ∙ sym (open_inner (left ws n) (right ws n) k xs (own ws images) D out u ks g y p)
          ∙ ap (λ (m : ℕ). (open_under (own ws images) (of m) D out).out) (sym o)
          ∙ sym written
        where
          of : ℕ → Node
          of m = node_for m (left ws n) (right ws n) k xs
