-- If every node of a plan but the root is an input of a node, that holds of its rewriting too.
use mathlib.Core.Path.{◌∙◌, ◌≡◌, refl, subst, sym}
use mathlib.Core.Bool.{Bool, cond, false, true, true≢false}
use mathlib.Core.List.{List, [], ◌++◌, ◌∷◌, append_assoc, append-nil}
use Prim.Native.Nat.{◌+◌, ◌<◌, ◌≤◌, pred, suc, zero, ℕ}
use native.Mathlib.Omega.{arith}
use lib.Dec.{ltb}
use lib.ListN.{get_or-append, get_or, length, length-append}
use lib.Seq.{get_or_at}
use borrow.Author.Tests.{ltb-false, ltb-true}
use Rattle.algebra.specs.Lists.{Every, done, each}
use Rattle.algebra.specs.Plan.{Conjunct, Kind, Node, anti, compute, dependent, group, groupjoin, inner, inputs, join, left_outer, project, scan, select, semi}
use Rattle.algebra.specs.Columns.{Shape, closed, computation_reads, conjunct_reads, reads_left, shape_of}
use Rattle.algebra.specs.Domains.{Domain, domain_keys, inner_domain, inside, outside}
use Rattle.algebra.specs.Rewriting.{Piece, Placed, State, add_piece, closed_node, closed_put, dropping, emit, join_closed, join_open, join_under, missing, open_under, piece_at, rewritten, step, steps, unnest}
use Rattle.algebra.specs.Statements.{FineFrom, WellFormed, uses}
use Rattle.algebra.proofs.Lists.Every.{every_append, every_head, every_map, every_tail}
use Rattle.algebra.proofs.Lists.Keep.{each_append}
use Rattle.algebra.proofs.Lists.Entries.{Beside, beside_snoc, ended}
use Rattle.algebra.proofs.Lists.Sums.{occurs}
use Rattle.algebra.proofs.Lists.Standing.{Has, beside_inside, beyond_all, but_last, every_has, has_all, has_each, has_first, has_only, occurs_append}
use Rattle.algebra.proofs.Tables.Tidy.{closed_back, closed_front}
use Rattle.algebra.proofs.Tables.Fine.{fine_below}
use Rattle.algebra.proofs.Tables.Theorem.{Inv, after, shapes_are}

-- node j is an input
abbrev Used : List Node → ℕ → Type 0
Used out j = 0 < uses out j

uses_snoc : (out : List Node) (n : Node) (j : ℕ) → uses (out ++ (n ∷ [])) j ≡ uses out j + occurs j (inputs n)
uses_snoc out n j = rw (each_append inputs out (n ∷ []), append-nil, occurs_append)

-- it stays one when a node is added, and the inputs of that node are inputs
used_still : (out : List Node) (n : Node) (j : ℕ) → Used out j → Used (out ++ (n ∷ [])) j
used_still out n j u = rw (uses_snoc out n j) (omega arith)

used_here : (out : List Node) (n : Node) (j : ℕ) → Has j (inputs n) → Used (out ++ (n ∷ [])) j
used_here out n j h = rw (uses_snoc out n j) (omega arith)

-- x was written behind the nodes out: its last node is the one meant, the others behind out are inputs, and so are the nodes c
record Written (out : List Node) (x : Placed) (c : List ℕ) : Type 0 where
  keeps : (j : ℕ) → Used out j → Used x.out j
  between : (j : ℕ) → length out ≤ j → suc j < length x.out → Used x.out j
  last : suc x.at ≡ length x.out
  all : Every (Used x.out) c

-- one node
single : (out : List Node) (n : Node) (c : List ℕ) → Every (λ j. Has j (inputs n)) c → Written out (emit n out) c
single out n c t = record {
  keeps = used_still out n;
  between = λ j a b. absurd (omega (arith, rw length-append at b));
  last = rw length-append (omega arith);
  all = every_map (used_here out n) t;
}

module _ {out : List Node} where
  -- not speaking of one of them
  fewer : {x : Placed} {a : ℕ} {c : List ℕ} → Written out x (a ∷ c) → Written out x c
  fewer w = record { keeps = w.keeps; between = w.between; last = w.last; all = every_tail w.all }

  choice : (b : Bool) (x y : Placed) (c : List ℕ) → (b ≡ true → Written out x c) → (b ≡ false → Written out y c) → Written out (cond b x y) c
  choice true x y c f g = f refl
  choice false x y c f g = g refl

  -- more behind what was written, in which the node meant is an input
  further : {x y : Placed} {c d : List ℕ} → Written out x c → Written x.out y d → Used y.out x.at → Written out y (c ++ d)
  further {x} {y} v w u = record {
    keeps = λ j h. w.keeps j (v.keeps j h);
    between = λ j a b. go j a b (ltb j (length x.out)) refl;
    last = w.last;
    all = every_append (every_map w.keeps v.all) w.all;
  }
    where
      go : (j : ℕ) → length out ≤ j → suc j < length y.out → (b : Bool) → ltb j (length x.out) ≡ b → Used y.out j
      go j a b true t = but_last (Used y.out) x.at (length x.out) v.last u j (ltb-true j (length x.out) t) (λ h. w.keeps j (v.between j a h))
      go j a b false t = w.between j (ltb-false j (length x.out) t) b

  -- a node over the node meant
  over : {x : Placed} {c : List ℕ} (n : Node) (d : List ℕ) → Written out x c → Every (λ j. Has j (inputs n)) (x.at ∷ d) → Written out (emit n x.out) (c ++ d)
  over {x} n d w t = further w (single x.out n d (every_tail t)) (used_here x.out n x.at (every_head t))

  -- a project over it, or none
  dropping_written : {c : List ℕ} (k : Kind) (ps : List ℕ) (x : Placed) → Written out x c → Written out (dropping k ps x) c
  dropping_written inner ps x w = rw append-nil at (over (project ps x.at) [] w (has_all (x.at ∷ [])))
  dropping_written semi ps x w = w
  dropping_written anti ps x w = w
  dropping_written left_outer ps x w = rw append-nil at (over (project ps x.at) [] w (has_all (x.at ∷ [])))

-- under a domain a piece is written over the domain and the nodes c; for a closed one that is its copy
record Covers (p : Piece) (c : List ℕ) : Type 0 where
  copy : closed p.shape ≡ true → c ≡ p.image ∷ []
  put_written : (D : Domain) (out : List Node) → Written out (p.put D out) (D.node ∷ c)

-- a dependent join, over the group of its left
unnest_written : (k : Kind) (cs : List Conjunct) (l r : Piece) (D : Domain) (x : Placed) (out : List Node) (c d : List ℕ)
    → Written out (emit (group (domain_keys D l.shape.width r.shape.reads) [] x.at) x.out) c → Covers r d → Written out (unnest k cs l r D x) (c ++ (d ++ []))
unfolding unnest
unnest_written k cs l r D x out c d w h =
    let g : Placed = emit (group (domain_keys D l.shape.width r.shape.reads) [] x.at) x.out in
    let y : Placed = r.put (inner_domain D l.shape.width r.shape.reads g.at) g.out in
    let v : Written g.out y (g.at ∷ d) = h.put_written _ g.out in
    let z = over (join k _ x.at y.at) [] v (every_tail (has_all (x.at ∷ y.at ∷ []))) in
    dropping_written k _ _ (further w (fewer z) (every_head z.all))

-- a join of two sides under their domains
join_written : (k : Kind) (cs : List Conjunct) (l r : Piece) (D E : Domain) (out : List Node) (c d : List ℕ) → Covers l c → Covers r d
    → Written out (join_under k cs l r D E out) (D.node ∷ (c ++ (d ++ [])))
unfolding join_under join_closed join_open
join_written k cs l r D E out c d hl hr =
    let x : Placed = l.put D out in
    let y : Placed = r.put E x.out in
    let v : Written out x (D.node ∷ c) = hl.put_written D out in
    let w : Written x.out y d = fewer (hr.put_written E x.out) in
    choice (closed r.shape) _ _ _
    (λ e. rw (hr.copy e) (over (join k _ x.at r.image) (r.image ∷ []) v (has_all (x.at ∷ r.image ∷ []))))
    (λ e. dropping_written k _ _ (further v (over (join k _ x.at y.at) [] w (every_tail (has_all (x.at ∷ y.at ∷ [])))) (used_here y.out _ x.at (has_first x.at (y.at ∷ [])))))

module _ (widths : List ℕ) (at : ℕ → Piece) (c : ℕ → List ℕ) where
  -- an open node covers what its inputs cover
  open_written : (n : Node) → closed (shape_of widths (λ i. (at i).shape) n) ≡ false → Every (λ i. Covers (at i) (c i)) (inputs n) → (D : Domain) (out : List Node)
      → Written out (open_under at n D out) (D.node ∷ each c (inputs n))
  unfolding open_under
  open_written (scan t) e h D out = absurd (true≢false e)
  open_written (select cs i) e h D out = over _ [] ((every_head h).put_written D out) (has_all _)
  open_written (compute a i) e h D out = over _ [] ((every_head h).put_written D out) (has_all _)
  open_written (project ps i) e h D out = over _ [] ((every_head h).put_written D out) (has_all _)
  open_written (join k cs l r) e h D out = join_written k cs (at l) (at r) D D out (c l) (c r) (every_head h) (every_head (every_tail h))
  open_written (group [] gs i) e h D out = over _ [] ((every_head h).put_written D out) (every_tail (has_all _))
  open_written (group (k ∷ ks) gs i) e h D out = over _ [] ((every_head h).put_written D out) (has_all _)
  open_written (groupjoin cs gs l r) e h D out =
      let x : Placed = (at l).put D out in
      let y : Placed = (at r).put D x.out in
      let hr : Covers (at r) (c r) = every_head (every_tail h) in
      let v : Written out x (D.node ∷ c l) = (every_head h).put_written D out in
      let w : Written x.out y (c r) = fewer (hr.put_written D x.out) in
      choice (closed (at r).shape) _ _ _
      (λ q. rw (hr.copy q) (over _ ((at r).image ∷ []) v (has_all _)))
      (λ q. further v (over _ [] w (every_tail (has_all _))) (used_here y.out _ x.at (has_first x.at (y.at ∷ []))))
  open_written (dependent k cs l r) e h D out =
      let x : Placed = (at l).put D out in
      let hl : Covers (at l) (c l) = every_head h in
      let hr : Covers (at r) (c r) = every_head (every_tail h) in
      let g = over (group (domain_keys D (at l).shape.width (at r).shape.reads) [] x.at) [] (hl.put_written D out) (has_all (x.at ∷ [])) in
      choice (reads_left (at r).shape) _ _ _
      (λ q. unnest_written k cs (at l) (at r) D x out (D.node ∷ c l) (c r) (rw append-nil at g) hr)
      (λ q. join_written k cs (at l) (at r) D (inside D) out (c l) (c r) hl hr)

  -- a closed node is written over what its inputs cover
  closed_written : (n : Node) → closed (shape_of widths (λ i. (at i).shape) n) ≡ true → Every (λ i. Covers (at i) (c i)) (inputs n) → (out : List Node)
      → Written out (closed_node at n out) (each c (inputs n))
  unfolding closed_node
  closed_written (scan t) e h out = single out _ [] done
  closed_written (select cs i) e h out = rw ((every_head h).copy (closed_back (each conjunct_reads cs) _ e)) (single out _ _ (has_all _))
  closed_written (compute a i) e h out = rw ((every_head h).copy (closed_back (computation_reads a) _ e)) (single out _ _ (has_all _))
  closed_written (project ps i) e h out = rw ((every_head h).copy e) (single out _ _ (has_all _))
  closed_written (join k cs l r) e h out =
      let q = closed_back (each conjunct_reads cs) _ e in
      rw ((every_head h).copy (closed_front (at l).shape.reads _ q), (every_head (every_tail h)).copy (closed_back (at l).shape.reads _ q)) (single out _ _ (has_all _))
  closed_written (group ks gs i) e h out = rw ((every_head h).copy e) (single out _ _ (has_all _))
  closed_written (groupjoin cs gs l r) e h out =
      let q = closed_back (each conjunct_reads cs) _ e in
      rw ((every_head h).copy (closed_front (at l).shape.reads _ q), (every_head (every_tail h)).copy (closed_back (at l).shape.reads _ q)) (single out _ _ (has_all _))
  closed_written (dependent k cs l r) e h out =
      let hr : Covers (at r) (c r) = every_head (every_tail h) in
      rw ((every_head h).copy (closed_front (at l).shape.reads _ (closed_back (each conjunct_reads cs) _ e)))
      (choice (closed (at r).shape) _ _ _
      (λ q. rw (hr.copy q) (single out _ _ (has_all _)))
      (λ q. unnest_written k cs (at l) (at r) outside (record { out = out; at = (at l).image }) out ((at l).image ∷ []) (c r) (single out _ _ (has_all _)) hr))

-- after the nodes ns, node j of those written is an input, or a node of ns that is no input covers it
data Owed (ns out : List Node) (covers : List (List ℕ)) (j : ℕ) : Type 0 where
  used : Used out j → Owed ns out covers j
  owed : (i : ℕ) → i < length ns → uses ns i ≡ 0 → Has j (get_or covers i []) → Owed ns out covers j

-- after the nodes ns: what each of them covers, and what is owed
record Linked (ns : List Node) (s : State) : Type 0 where
  covers : List (List ℕ)
  cover : Beside Covers s.pieces covers
  count : length covers ≡ length ns
  below : Every (λ i. i < length ns) (each inputs ns)
  every_node : (j : ℕ) → j < length s.out → Owed ns s.out covers j

-- one more node, which covers c
module _ (ns : List Node) (s : State) (n : Node) (c : List ℕ) (v : Linked ns s) (b : Every (λ i. i < length ns) (inputs n)) where
  abbrev After : List Node → ℕ → Type 0
  After out j = Owed (ns ++ (n ∷ [])) out (v.covers ++ (c ∷ [])) j

  -- what its inputs cover
  abbrev taken : List ℕ
  taken = each (λ i. get_or v.covers i []) (inputs n)

  -- it is no input yet
  unused : uses (ns ++ (n ∷ [])) (length ns) ≡ 0
  unused = rw (uses_snoc ns n (length ns), beyond_all (length ns) v.below, beyond_all (length ns) b)

  owed_new : (out : List Node) (j : ℕ) → Has j c → After out j
  owed_new out j h = owed (length ns) (rw length-append (omega arith)) unused (rw (get_or_at v.covers c [] [] (length ns) v.count) h)

  owed_still : (out : List Node) (j : ℕ) → (Used s.out j → Used out j) → (Has j taken → After out j) → Owed ns s.out v.covers j → After out j
  owed_still out j k f (used u) = used (k u)
  owed_still out j k f (owed i h z m) = go (occurs i (inputs n)) refl
    where
      go : (a : ℕ) → occurs i (inputs n) ≡ a → After out j
      go zero e = owed i (rw length-append (omega arith)) (rw (uses_snoc ns n i, z, e)) (rw (get_or-append v.covers (c ∷ []) [] i (omega (arith, v.count))) m)
      go (suc a) e = f (has_each (λ q. get_or v.covers q []) i j (inputs n) (omega arith) m)

  -- the nodes so far, what the inputs cover, and the nodes written for the new one
  linked_snoc : (out : List Node) (p : Piece) → Covers p c → ((j : ℕ) → Used s.out j → Used out j) → ((j : ℕ) → Has j taken → After out j)
      → ((j : ℕ) → length s.out ≤ j → j < length out → After out j) → Linked (ns ++ (n ∷ [])) (record { out = out; pieces = s.pieces ++ (p ∷ []) })
  linked_snoc out p h k f g = record {
    covers = v.covers ++ (c ∷ []);
    cover = beside_snoc v.cover h;
    count = simp length-append (omega (arith, v.count));
    below = rw (each_append inputs ns (n ∷ []), append-nil, length-append) (every_map (λ i (q : i < length ns). omega arith) (every_append v.below b));
    every_node = λ j q. go j q (ltb j (length s.out)) refl;
  }
    where
      go : (j : ℕ) → j < length out → (a : Bool) → ltb j (length s.out) ≡ a → After out j
      go j q true t = owed_still out j (k j) (f j) (v.every_node j (ltb-true j (length s.out) t))
      go j q false t = g j (ltb-false j (length s.out) t) q

module _ (widths : List ℕ) where
  -- a closed node is written over what its inputs cover, an open one covers that itself
  linked_step : (ns : List Node) (s : State) (n : Node) → Linked ns s → Every (λ i. i < length ns) (inputs n) → Linked (ns ++ (n ∷ [])) (step widths s n)
  unfolding step
  linked_step ns s n v b = go (closed sh) refl
    where
      at : ℕ → Piece
      at = piece_at s

      sh : Shape
      sh = shape_of widths (λ i. (at i).shape) n

      x : Placed
      x = closed_node at n s.out

      c : ℕ → List ℕ
      c i = get_or v.covers i []

      h : Every (λ i. Covers (at i) (c i)) (inputs n)
      h = every_map (λ i (q : i < length ns). beside_inside missing [] v.cover i (omega (arith, v.count))) b

      go : (a : Bool) → closed sh ≡ a → Linked (ns ++ (n ∷ [])) (cond a (add_piece s sh x (closed_put x.at)) (add_piece s sh (record { out = s.out; at = 0 }) (open_under at n)))
      go true e =
          let w : Written s.out x (each c (inputs n)) = closed_written widths at c n e h s.out in
          let own : List ℕ = x.at ∷ [] in
          linked_snoc ns s n own v b x.out _ (record { copy = λ q. refl; put_written = λ D out. single out _ _ (has_all _) }) w.keeps (λ j m. used (every_has j w.all m))
          (λ j p q. but_last (After ns s n own v b x.out) x.at _ w.last (owed_new ns s n own v b x.out x.at (has_first x.at [])) j q (λ r. used (w.between j p r)))
      go false e =
          let all : List ℕ = each c (inputs n) in
          linked_snoc ns s n all v b s.out _ (record { copy = λ q. absurd (true≢false (sym q ∙ e)); put_written = open_written widths at c n e h }) (λ j u. u) (owed_new ns s n all v b s.out)
          (λ j p q. absurd (omega arith))

  -- all nodes, one after the other
  linked_steps : (ns ms : List Node) (s : State) → Linked ns s → FineFrom widths ns ms → Linked (ns ++ ms) (steps widths s ms)
  unfolding steps
  linked_steps ns [] s v f = rw append-nil v
  linked_steps ns (m ∷ ms) s v f = rw append_assoc at (linked_steps (ns ++ (m ∷ [])) ms (step widths s m) (linked_step ns s m v (fine_below _ (length ns) m f.0)) f.1)

-- only the root is no input, and it covers the last node written
all_linked : (widths : List ℕ) (ns : List Node) → WellFormed widths ns → ((i : ℕ) → suc i < length ns → 0 < uses ns i) → (s : State) → Linked ns s → Inv widths [] ns s
    → (j : ℕ) → suc j < length s.out → Used s.out j
all_linked widths ns f u s v inv j h = go (v.every_node j (omega arith))
  where
    go : Owed ns s.out v.covers j → Used s.out j
    go (used q) = q
    go (owed i q z m) =
        let no_other : ¬ (suc i < length ns) = λ r. omega (arith, u i r) in
        let root : i ≡ pred (length ns) = omega arith in
        let c : closed (piece_at s i).shape ≡ true = subst (λ (k : ℕ → Shape). closed (k i) ≡ true) (shapes_are widths [] ns s inv) (rw root f.root) in
        let p : Covers (piece_at s i) (get_or v.covers i []) = beside_inside missing [] v.cover i (omega (arith, v.count)) in
        let e : j ≡ (piece_at s i).image = has_only j _ (rw (p.copy c) at m) in
        absurd (omega (arith, inv.last i (omega arith) c))

-- every node of the rewriting but the last is an input
pub all_used : (widths : List ℕ) (ns : List Node) → WellFormed widths ns → ((i : ℕ) → suc i < length ns → 0 < uses ns i)
    → (j : ℕ) → suc j < length (rewritten widths ns) → 0 < uses (rewritten widths ns) j
unfolding rewritten
all_used widths ns f u =
    let start : Linked [] (record { out = []; pieces = [] }) = record { covers = []; cover = ended; count = refl; below = done; every_node = λ j h. absurd (omega arith) } in
    all_linked widths ns f u _ (linked_steps widths [] ns _ start f.nodes) (after widths [] (λ t. done) ns f)
