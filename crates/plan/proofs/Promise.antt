-- What an accepted slice promises: a well-formed plan, and what the algebra says of it.
use mathlib.Core.Path.{◌≡◌, refl, ap}
use mathlib.Core.Bool.{Bool, true, false, not, cond, ◌&&◌}
use mathlib.Core.List.{List, [], ◌∷◌, ◌++◌, append_assoc}
use Prim.Native.Nat.{ℕ, zero, suc, ◌+◌, ◌*◌, ◌≤◌, ◌<◌, pred}
use native.Mathlib.Omega.{arith}
use native.Mathlib.Nat.{add-zero, zero-add}
use lib.Dec.{ltb, eqb}
use lib.ListN.{length, get_or, length-append}
use borrow.Author.Tests.{ltb-true, ltb-false, lt-ltb, eqb-true, eqb-false, eq-eqb, not-false}
use Rattle.algebra.specs.Lists.{keep, any, all, each, is_empty, Every, done, more}
use Rattle.algebra.specs.Value.{Row}
use Rattle.algebra.specs.Plan.{Term, column, outer, constant, nothing, Conjunct, Computation, copy, add, subtract}
use Rattle.algebra.specs.Plan.{Node, scan, select, compute, project, join, group, groupjoin, dependent, inputs}
use Rattle.algebra.specs.Columns.{Column, term_reads, conjunct_reads, computation_reads, past, past_one, reads_of, Shape, shapeless, shape_of, shape_at, closed}
use Rattle.algebra.specs.Meaning.{Database, answer}
use Rattle.algebra.specs.Rewriting.{rewritten}
use Rattle.algebra.specs.Statements.{Fitting, times, InLeft, Fine, FineFrom, WellFormed, OpenOnce}
use Rattle.algebra.proofs.Lists.Same.{and_left, and_right}
use Rattle.algebra.proofs.Lists.Every.{every_head, every_tail, every_map, every_both, every_append, every_each, any_self}
use Rattle.algebra.proofs.Lists.Entries.{entry_before}
use Rattle.algebra.proofs.Statements.{equally_often, four_nodes_each}
use Rattle.plan.specs.Words.{nodes}
use Rattle.plan.specs.Plan.{node_at, widths_of, nodes_of}
use Rattle.plan.specs.Verdict.{Answer, lowest, header_right, limits_right, node_right, is_unused_node, is_too_wide, is_open, is_open_twice, uses_of}
use Rattle.plan.specs.Verdict.{width_at, term_there, conjunct_there, computation_there, columns_there, scope_of, columns_right, accepted, or_else, verdict}
use Rattle.plan.specs.Promise.{Formed, Accepted}
use Rattle.plan.proofs.Laws.Loops.{lowest_not}
use Rattle.plan.proofs.Laws.Formed.{mapped_at, limited, inputs_below, nodes_length, shape_of_lem}
use Rattle.plan.proofs.Laws.Users.{here_few, under, scope_of_input, scope_of_root}

-- ---- columns that exist in what stands around

-- every column exists in one of the rows around, whose widths are given, the nearest first
abbrev Inside : List ℕ → List Column → Type 0
Inside around cs = Every (λ c. c.position < get_or around c.level 0) cs

module _ (around : List ℕ) (w : ℕ) where
  -- what a term, two terms, conjuncts and a computation read
  term_inside : (t : Term) → term_there around w t ≡ true → Inside around (term_reads t)
  unfolding term_there
  term_inside (column p) e = done
  term_inside (outer l p) e = more (ltb-true p _ e) done
  term_inside (constant z) e = done
  term_inside nothing e = done

  two_inside : (a b : Term) → (term_there around w a && term_there around w b) ≡ true → Inside around (term_reads a ++ term_reads b)
  two_inside a b e = every_append (term_inside a (and_left (term_there around w a) _ e)) (term_inside b (and_right (term_there around w a) _ e))

  conjuncts_inside : (cs : List Conjunct) → all (conjunct_there around w) cs ≡ true → Inside around (each conjunct_reads cs)
  conjuncts_inside [] e = done
  conjuncts_inside (c ∷ cs) e =
      every_append (two_inside c.first c.second (and_left (conjunct_there around w c) _ e))
      (conjuncts_inside cs (and_right (conjunct_there around w c) _ e))

  computation_inside : (c : Computation) → computation_there around w c ≡ true → Inside around (computation_reads c)
  unfolding computation_there
  computation_inside (copy a) e = term_inside a e
  computation_inside (add a b) e = two_inside a b e
  computation_inside (subtract a b) e = two_inside a b e

module _ (v : ℕ) (around : List ℕ) where
  -- what the right side of a dependent join reads, seen from outside the join
  past_inside : {cs : List Column} → Inside (v ∷ around) cs → Inside around (past cs)
  past_inside t = every_each _ (every_map (λ c h. go c.level c.position h) t)
    where
      go : (l p : ℕ) → p < get_or (v ∷ around) l 0 → Inside around (past_one l p)
      go zero p h = done
      go (suc l) p h = more h done

  -- and what it reads of the left row
  in_left : {cs : List Column} → Inside (v ∷ around) cs → Every (λ e. InLeft v e.level e.position) cs
  in_left t = every_map (λ c h. go c.level c.position h) t
    where
      go : (l p : ℕ) → p < get_or (v ∷ around) l 0 → InLeft v l p
      go zero p h = h
      go (suc l) p h = tt

-- where nothing stands around nothing is read
none_inside : (cs : List Column) → Inside [] cs → is_empty cs ≡ true
none_inside [] t = refl
none_inside (c ∷ cs) t = absurd (omega (arith, every_head t))

-- ---- a node over its inputs

module _ (sh : ℕ → Shape) (around : List ℕ) where
  -- what the inputs read exists where the node puts them
  abbrev Sides : Node → Type 0
  Sides (scan t) = Unit {0}
  Sides (select cs i) = Inside around (sh i).reads
  Sides (compute c i) = Inside around (sh i).reads
  Sides (project ps i) = Inside around (sh i).reads
  Sides (join k cs l r) = Inside around (sh l).reads × Inside around (sh r).reads
  Sides (group ks gs i) = Inside around (sh i).reads
  Sides (groupjoin cs gs l r) = Inside around (sh l).reads × Inside around (sh r).reads
  Sides (dependent k cs l r) = Inside around (sh l).reads × Inside ((sh l).width ∷ around) (sh r).reads

  -- then so does what the node reads
  reads_inside : (n : Node) → columns_there (λ i. (sh i).width) around n ≡ true → Sides n → Inside around (reads_of (λ i. (sh i).reads) n)
  unfolding columns_there
  reads_inside (scan t) e s = done
  reads_inside (select cs i) e s = every_append (conjuncts_inside around _ cs e) s
  reads_inside (compute c i) e s = every_append (computation_inside around _ c e) s
  reads_inside (project ps i) e s = s
  reads_inside (join k cs l r) e s = every_append (conjuncts_inside around _ cs e) (every_append s.0 s.1)
  reads_inside (group ks gs i) e s = s
  reads_inside (groupjoin cs gs l r) e s =
      every_append (conjuncts_inside around _ cs (and_left (all (conjunct_there around _) cs) _ e)) (every_append s.0 s.1)
  reads_inside (dependent k cs l r) e s = every_append (conjuncts_inside around _ cs e) (every_append s.0 (past_inside _ around s.1))

  -- and the node may stand behind its inputs
  fine_node : (c : ℕ) (n : Node) → Every (λ j. j < c) (inputs n) → Sides n → Fine sh c n
  fine_node c (scan t) b s = tt
  fine_node c (select cs i) b s = every_head b
  fine_node c (compute e i) b s = every_head b
  fine_node c (project ps i) b s = every_head b
  fine_node c (join k cs l r) b s = (every_head b, every_head (every_tail b))
  fine_node c (group ks gs i) b s = every_head b
  fine_node c (groupjoin cs gs l r) b s = (every_head b, every_head (every_tail b))
  fine_node c (dependent k cs l r) b s = (every_head b, every_head (every_tail b), in_left _ around s.1)

  -- the sides of a node, where none that is open is both sides
  sides : (n : Node) → Every (λ i. Inside (under (λ j. (sh j).width) around n i) (sh i).reads) (inputs n)
      → Every (λ i. closed (sh i) ≡ false → length (keep (eqb i) (inputs n)) ≤ 1) (inputs n) → Sides n
  sides (scan t) b alone = tt
  sides (select cs i) b alone = every_head b
  sides (compute c i) b alone = every_head b
  sides (project ps i) b alone = every_head b
  sides (join k cs l r) b alone = (every_head b, every_head (every_tail b))
  sides (group ks gs i) b alone = every_head b
  sides (groupjoin cs gs l r) b alone = (every_head b, every_head (every_tail b))
  sides (dependent k cs l r) b alone = (go (sh l).reads refl (eqb r l) refl (every_head b), rw (eq-eqb r r refl) at (every_head (every_tail b)))
    where
      go : (xs : List Column) → (sh l).reads ≡ xs → (t : Bool) → eqb r l ≡ t → Inside (cond t ((sh l).width ∷ around) around) xs → Inside around xs
      go [] e t q h = done
      go (x ∷ xs) e false q h = h
      go (x ∷ xs) e true q h = absurd (omega (arith, rw (eqb-true r l q, eq-eqb l l refl) at (every_head alone (rw e))))

-- ---- a plan whose nodes are fine

module _ (widths : List ℕ) where
  -- a node looks only at the nodes before it
  fine_before : (front back : List Node) (n : Node) → Fine (shape_at widths (front ++ back)) (length front) n → Fine (shape_at widths front) (length front) n
  fine_before front back (scan t) f = f
  fine_before front back (select cs i) f = f
  fine_before front back (compute c i) f = f
  fine_before front back (project ps i) f = f
  fine_before front back (join k cs l r) f = f
  fine_before front back (group ks gs i) f = f
  fine_before front back (groupjoin cs gs l r) f = f
  fine_before front back (dependent k cs l r) f =
      (f.0, f.1, rw (entry_before shapeless (shape_of widths) front back l f.0, entry_before shapeless (shape_of widths) front back r f.1) at f.2)

  -- every node of ns may stand behind those of front
  fine_all : (d : Node) (front ns : List Node) → ((i : ℕ) → i < length ns → Fine (shape_at widths (front ++ ns)) (length front + i) (get_or ns i d))
      → FineFrom widths front ns
  fine_all d front [] h = tt
  fine_all d front (n ∷ ns) h =
      (fine_before front (n ∷ ns) n (rw add-zero at (h 0 (omega arith))), fine_all d (front ++ (n ∷ [])) ns (λ i l. next i (h (suc i) (omega arith))))
    where
      next : (i : ℕ) → Fine (shape_at widths (front ++ (n ∷ ns))) (length front + suc i) (get_or ns i d)
          → Fine (shape_at widths ((front ++ (n ∷ [])) ++ ns)) (length (front ++ (n ∷ [])) + i) (get_or ns i d)
      next i f =
          let q : length (front ++ (n ∷ [])) + i ≡ length front + suc i = rw length-append (omega arith) in
          rw (append_assoc front (n ∷ []) ns, q) f

-- ---- an accepted plan is well formed

module _ (ws : List ℕ) (f : Formed ws) (once : OpenOnce (widths_of ws) (nodes_of ws)) (columns : (n : ℕ) → n < nodes ws → columns_right ws n ≡ true) where
  -- the shapes of the nodes
  abbrev shapes : ℕ → Shape
  shapes = shape_at (widths_of ws) (nodes_of ws)

  -- an open node is used once
  used_once : (m : ℕ) → m < nodes ws → closed (shapes m) ≡ false → uses_of ws m ≤ 1
  used_once m h e = once m (rw (nodes_length ws) h) e

  -- what an input of node n reads exists where n puts it
  input_inside : (n m : ℕ) → n < nodes ws → m < n → any (eqb m) (inputs (node_at ws n)) ≡ true → Inside (scope_of ws m) (shapes m).reads
      → Inside (under (width_at ws) (scope_of ws n) (node_at ws n) m) (shapes m).reads
  input_inside n m h l t s = go (shapes m).reads refl s
    where
      go : (cs : List Column) → (shapes m).reads ≡ cs → Inside (scope_of ws m) cs → Inside (under (width_at ws) (scope_of ws n) (node_at ws n) m) cs
      go [] e g = done
      go (c ∷ cs) e g = rw (scope_of_input ws f n m h l (rw e) (used_once m (omega arith) (rw e)) t) at g

  -- so do all inputs, if it holds of the nodes below
  sides_at : (n : ℕ) → n < nodes ws → ((m : ℕ) → m < n → Inside (scope_of ws m) (shapes m).reads) → Sides shapes (scope_of ws n) (node_at ws n)
  sides_at n h before =
      sides shapes (scope_of ws n) (node_at ws n)
      (every_map (λ m g. input_inside n m h g.0 g.1 (before m g.0))
      (every_both (inputs_below ws f n h) (any_self eqb (λ m. eq-eqb m m refl) (inputs (node_at ws n)))))
      (every_map (λ m g e. omega (arith, here_few (node_at ws) m n (nodes ws) h, used_once m (omega arith) e)) (inputs_below ws f n h))

  -- what a node reads exists in what stands around it
  inside_at : (bound n : ℕ) → n < bound → n < nodes ws → Inside (scope_of ws n) (shapes n).reads
  unfolding columns_right
  inside_at zero n l h = absurd (omega arith)
  inside_at (suc bound) n l h =
      rw (shape_of_lem ws f n h)
      (reads_inside shapes (scope_of ws n) (node_at ws n) (columns n h) (sides_at n h (λ m g. inside_at bound m (omega arith) (omega arith))))

  -- the same without a bound
  all_inside : (n : ℕ) → n < nodes ws → Inside (scope_of ws n) (shapes n).reads
  all_inside n h = inside_at (suc n) n (omega arith) h

  -- every node may stand behind those before it
  node_fine : (n : ℕ) → n < nodes ws → Fine shapes n (node_at ws n)
  node_fine n h = fine_node shapes (scope_of ws n) n (node_at ws n) (inputs_below ws f n h) (sides_at n h (λ m g. all_inside m (omega arith)))

  -- nothing stands around the root
  root_closed : (m : ℕ) → suc m ≡ nodes ws → closed (shapes m) ≡ true
  root_closed m e = none_inside (shapes m).reads (rw (scope_of_root ws f m e) at (all_inside m (omega arith)))

  -- the plan is well formed
  well_formed : WellFormed (widths_of ws) (nodes_of ws)
  well_formed =
      let some = (limited ws f.sized).nodes_some in
      record {
        some = rw (nodes_length ws) some;
        nodes = fine_all (widths_of ws) (node_at ws 0) [] (nodes_of ws)
            (λ n h. rw (zero-add, mapped_at (node_at ws) (nodes ws) n 0 (rw (nodes_length ws) at h)) (node_fine n (rw (nodes_length ws) at h)));
        root = rw (nodes_length ws) (root_closed (pred (nodes ws)) (omega arith));
      }

-- ---- past each refusal

-- a refusal that is not the answer
not_refused : (k n : ℕ) (b : Bool) (rest : Answer) → 0 < k → cond b (record { number = k; node = n }) rest ≡ accepted → (b ≡ false) × (rest ≡ accepted)
not_refused k n true rest h e = let q : k ≡ 0 = ap (λ (a : Answer). a.number) e in absurd (omega arith)
not_refused k n false rest h e = (refl, e)

-- no node is at fault
no_fault : (k : ℕ) (fault : ℕ → Bool) (bound : ℕ) (rest : Answer) → 0 < k → or_else k fault bound rest ≡ accepted
    → ((n : ℕ) → n < bound → fault n ≡ false) × (rest ≡ accepted)
no_fault k fault bound rest h e =
    let r = not_refused k (lowest fault bound) (ltb (lowest fault bound) bound) rest h e in
    (lowest_not fault bound (ltb-false (lowest fault bound) bound r.0), r.1)

-- where the first holds the second does not
and_not : (a b : Bool) → (a && b) ≡ false → a ≡ true → b ≡ false
and_not a b e h = rw h at e

-- an accepted slice keeps the promise
pub promise : (ws : List ℕ) → verdict ws ≡ accepted → Accepted ws
unfolding verdict
promise ws e =
    let first = not_refused 1 0 (not (header_right ws)) _ (omega arith) e in
    let second = not_refused 2 0 (not (limits_right ws)) _ (omega arith) first.1 in
    let third = no_fault 3 (λ n. not (node_right ws n)) (nodes ws) _ (omega arith) second.1 in
    let fourth = no_fault 4 (is_unused_node ws) (nodes ws) _ (omega arith) third.1 in
    let fifth = no_fault 5 (is_too_wide ws) (nodes ws) _ (omega arith) fourth.1 in
    let sixth = no_fault 6 (is_open_twice ws) (nodes ws) _ (omega arith) fifth.1 in
    let seventh = no_fault 7 (λ n. not (columns_right ws n)) (nodes ws) _ (omega arith) sixth.1 in
    let formed : Formed ws = record {
      sized = record { header = not-false (header_right ws) first.0; limits = not-false (limits_right ws) second.0 };
      formed = λ n h. not-false (node_right ws n) (third.0 n h);
    } in
    let once : OpenOnce (widths_of ws) (nodes_of ws) =
    λ n h o. ltb-false 1 (uses_of ws n) (and_not (is_open ws n) _ (sixth.0 n (rw (nodes_length ws) at h)) (ap not o)) in
    let columns : (n : ℕ) → n < nodes ws → columns_right ws n ≡ true = λ n h. not-false (columns_right ws n) (seventh.0 n h) in
    record {
      formed = formed;
      used = λ n h. omega (
        arith,
        eqb-false (uses_of ws n) 0 (and_not (ltb (n + 1) (nodes ws)) _ (fourth.0 n (omega arith)) (lt-ltb (n + 1) (nodes ws) (omega arith))),
      );
      narrow = λ n h. ltb-false 64 (width_at ws n) (fifth.0 n h);
      once = once;
      columns = columns;
      plan = well_formed ws formed once columns;
    }

-- ---- what the algebra says of an accepted plan

module _ (ws : List ℕ) (e : verdict ws ≡ accepted) where
  -- "the same rows, each equally often"
  pub algebra_applies : (db : Database) → Fitting (widths_of ws) db → (r : Row)
      → times r (answer (widths_of ws) db (rewritten (widths_of ws) (nodes_of ws))) ≡ times r (answer (widths_of ws) db (nodes_of ws))
  algebra_applies db fits r = equally_often (widths_of ws) db fits (nodes_of ws) (promise ws e).plan r

  -- "at most four nodes for each original one"
  pub four_for_each : length (rewritten (widths_of ws) (nodes_of ws)) ≤ 4 * nodes ws
  four_for_each = let p = promise ws e in rw (nodes_length ws) at (four_nodes_each (widths_of ws) (nodes_of ws) p.plan p.once)
