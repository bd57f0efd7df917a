-- The shape of a node is worked out from those of its inputs.
use mathlib.Core.Path.{◌≡◌, refl, sym, ap, ◌∙◌}
use mathlib.Core.List.{List, [], ◌∷◌, ◌++◌, append_assoc}
use Prim.Native.Nat.{ℕ, suc, ◌<◌}
use native.Mathlib.Omega.{arith}
use lib.ListN.{length, get_or, take, drop, length-append}
use lib.Seq.{split_at, length-take-le}
use Rattle.algebra.specs.Lists.{Every}
use Rattle.algebra.specs.Plan.{Node, scan, select, compute, project, join, group, groupjoin, dependent, inputs}
use Rattle.algebra.specs.Columns.{Shape, shapeless, shape_of, shape_at}
use Rattle.algebra.proofs.Lists.Every.{every_head, every_tail, every_map}
use Rattle.algebra.proofs.Lists.Entries.{entry_before, entry_last}

-- a node's shape looks only at its inputs
pub shape_same : (widths : List ℕ) (a b : ℕ → Shape) (n : Node) → Every (λ j. a j ≡ b j) (inputs n) → shape_of widths a n ≡ shape_of widths b n
shape_same widths a b (scan t) h = refl
shape_same widths a b (select cs i) h = rw (every_head h)
shape_same widths a b (compute c i) h = rw (every_head h)
shape_same widths a b (project ps i) h = rw (every_head h)
shape_same widths a b (join k cs l r) h = rw (every_head h, every_head (every_tail h))
shape_same widths a b (group ks gs i) h = rw (every_head h)
shape_same widths a b (groupjoin cs gs l r) h = rw (every_head h, every_head (every_tail h))
shape_same widths a b (dependent k cs l r) h = rw (every_head h, every_head (every_tail h))

-- node i of a plan, whose inputs stand before it
pub shape_at_lem : (widths : List ℕ) (ns : List Node) (i : ℕ) (d : Node) → i < length ns → Every (λ j. j < i) (inputs (get_or ns i d))
    → shape_at widths ns i ≡ shape_of widths (shape_at widths ns) (get_or ns i d)
shape_at_lem widths ns i d h below =
    let front : List Node = take i ns in
    let n : Node = get_or ns i d in
    let rest : List Node = drop (suc i) ns in
    let long : length front ≡ i = length-take-le i ns (omega arith) in
    let whole : ns ≡ front ++ (n ∷ rest) = split_at ns i d h in
    here front n rest ns i long whole
    ∙ shape_same widths (shape_at widths front) (shape_at widths ns) n (every_map (λ j (q : j < i). sym (ap (λ (l : List Node). shape_at widths l j) whole ∙ entry_before shapeless (shape_of widths) front (n ∷ rest) j (rw long q))) below)
  where
    here : (front : List Node) (n : Node) (rest ns : List Node) (i : ℕ) → length front ≡ i → ns ≡ front ++ (n ∷ rest) → shape_at widths ns i ≡ shape_of widths (shape_at widths front) n
    here front n rest ns i long whole =
        ap (λ (l : List Node). shape_at widths l i) (whole ∙ sym (append_assoc front (n ∷ []) rest))
        ∙ entry_before shapeless (shape_of widths) (front ++ (n ∷ [])) rest i (simp length-append (omega arith))
        ∙ rw (sym long) (entry_last shapeless (shape_of widths) front n)
