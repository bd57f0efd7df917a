-- Nodes that may stand where they do, and whose inputs are before them.
use mathlib.Core.Path.{◌≡◌, ap, ◌∙◌}
use mathlib.Core.List.{List, [], ◌++◌, ◌∷◌, append_assoc, append-nil}
use Prim.Native.Nat.{◌+◌, ◌<◌, suc, zero, ℕ}
use native.Mathlib.Nat.{zero-add}
use native.Mathlib.Omega.{arith}
use lib.ListN.{drop, get_or, length, length-append, take, take-append-drop}
use lib.Seq.{length-take-le}
use Rattle.algebra.specs.Lists.{Every, done, more}
use Rattle.algebra.specs.Plan.{Node, compute, dependent, group, groupjoin, inputs, join, project, scan, select}
use Rattle.algebra.specs.Columns.{Shape, shape_at, shape_of, shapeless}
use Rattle.algebra.specs.Statements.{Fine, FineFrom}
use Rattle.algebra.proofs.Lists.Entries.{entry_before}

-- the inputs of a node that may stand at c are before it
pub fine_below : (sh : ℕ → Shape) (c : ℕ) (n : Node) → Fine sh c n → Every (λ j. j < c) (inputs n)
fine_below sh c (scan t) f = done
fine_below sh c (select cs i) f = more f done
fine_below sh c (compute e i) f = more f done
fine_below sh c (project ps i) f = more f done
fine_below sh c (join k cs l r) f = more f.0 (more f.1 done)
fine_below sh c (group ks gs i) f = more f done
fine_below sh c (groupjoin cs gs l r) f = more f.0 (more f.1 done)
fine_below sh c (dependent k cs l r) f = more f.0 (more f.1 done)

module _ (widths : List ℕ) where
  -- nodes behind change nothing
  fine_behind : (front back : List Node) (n : Node) → Fine (shape_at widths front) (length front) n → Fine (shape_at widths (front ++ back)) (length front) n
  fine_behind front back (scan t) f = f
  fine_behind front back (select cs i) f = f
  fine_behind front back (compute c i) f = f
  fine_behind front back (project ps i) f = f
  fine_behind front back (join k cs l r) f = f
  fine_behind front back (group ks gs i) f = f
  fine_behind front back (groupjoin cs gs l r) f = f
  fine_behind front back (dependent k cs l r) f =
      (f.0, f.1, rw (entry_before shapeless (shape_of widths) front back l f.0, entry_before shapeless (shape_of widths) front back r f.1) f.2)

  -- a node of a fine plan, behind the nodes before it
  pub fine_front : (d : Node) (front ns : List Node) → FineFrom widths front ns → (i : ℕ) → i < length ns → Fine (shape_at widths (front ++ take i ns)) (length (front ++ take i ns)) (get_or ns i d)
  fine_front d front [] f i h = absurd (omega arith)
  fine_front d front (n ∷ ns) f zero h = rw append-nil f.0
  fine_front d front (n ∷ ns) f (suc i) h = rw append_assoc at (fine_front d (front ++ (n ∷ [])) ns f.1 i (omega arith))

  -- and with those behind it
  pub fine_at : (d : Node) (front ns : List Node) → FineFrom widths front ns → (i : ℕ) → i < length ns → Fine (shape_at widths (front ++ ns)) (length front + i) (get_or ns i d)
  fine_at d front ns f i h = rw (whole, place) at (fine_behind (front ++ take i ns) (drop i ns) (get_or ns i d) (fine_front d front ns f i h))
    where
      whole : (front ++ take i ns) ++ drop i ns ≡ front ++ ns
      whole = append_assoc front (take i ns) (drop i ns) ∙ ap (λ (l : List Node). front ++ l) (take-append-drop i ns)

      place : length (front ++ take i ns) ≡ length front + i
      place = length-append front (take i ns) ∙ ap (λ (k : ℕ). length front + k) (length-take-le i ns (omega arith))

  -- its inputs are before it
  inputs_before : (d : Node) (front ns : List Node) → FineFrom widths front ns → (i : ℕ) → i < length ns → Every (λ j. j < length front + i) (inputs (get_or ns i d))
  inputs_before d front ns f i h = fine_below (shape_at widths (front ++ ns)) (length front + i) (get_or ns i d) (fine_at d front ns f i h)

  pub inputs_under : (d : Node) (ns : List Node) → FineFrom widths [] ns → (i : ℕ) → i < length ns → Every (λ j. j < i) (inputs (get_or ns i d))
  inputs_under d ns f i h = rw zero-add at (inputs_before d [] ns f i h)
