-- Lists worked out node by node: later nodes change nothing before them.
use mathlib.Core.Path.{◌∙◌, ◌≡◌, refl}
use mathlib.Core.List.{List, [], ◌++◌, ◌∷◌}
use Prim.Native.Nat.{◌+◌, ◌<◌, suc, zero, ℕ}
use native.Mathlib.Omega.{arith}
use lib.ListN.{get_or-append, get_or, length, length-append}
use lib.Seq.{get_or_at}
use Rattle.algebra.specs.Lists.{entry, list_from}

module _ {X N : Type 0} (z : X) (f : (ℕ → X) → N → X) where
  list_append : (xs : List X) (ns ms : List N) → list_from z f xs (ns ++ ms) ≡ list_from z f (list_from z f xs ns) ms
  list_append xs [] ms = refl
  list_append xs (n ∷ ns) ms = list_append (xs ++ (f (λ i. get_or xs i z) n ∷ [])) ns ms

  list_length : (xs : List X) (ns : List N) → length (list_from z f xs ns) ≡ length xs + length ns
  list_length xs [] = omega arith
  list_length xs (n ∷ ns) = rw (list_length (xs ++ (f (λ i. get_or xs i z) n ∷ [])) ns, length-append) (omega arith)

  list_front : (xs : List X) (ns : List N) (i : ℕ) → i < length xs → get_or (list_from z f xs ns) i z ≡ get_or xs i z
  list_front xs [] i h = refl
  list_front xs (n ∷ ns) i h =
      let x = f (λ j. get_or xs j z) n in list_front (xs ++ (x ∷ [])) ns i (rw length-append (omega arith)) ∙ get_or-append xs (x ∷ []) z i h

  pub entries_length : (ns : List N) → length (list_from z f [] ns) ≡ length ns
  entries_length ns = rw (list_length [] ns) (omega arith)

  -- one more node behind
  pub entries_snoc : (ns : List N) (n : N) → list_from z f [] (ns ++ (n ∷ [])) ≡ list_from z f [] ns ++ (f (entry z f ns) n ∷ [])
  entries_snoc ns n = list_append [] ns (n ∷ [])

  -- nodes behind change nothing
  pub entry_before : (ns ms : List N) (i : ℕ) → i < length ns → entry z f (ns ++ ms) i ≡ entry z f ns i
  entry_before ns ms i h = rw (list_append [] ns ms) (list_front (list_from z f [] ns) ms i (rw (entries_length ns) h))

  pub entry_last : (ns : List N) (n : N) → entry z f (ns ++ (n ∷ [])) (length ns) ≡ f (entry z f ns) n
  entry_last ns n = rw (entries_snoc ns n) (get_or_at (list_from z f [] ns) (f (entry z f ns) n) [] z (length ns) (entries_length ns))

-- ---- two lists worked out side by side

pub data Beside {X Y : Type 0} (Q : X → Y → Type 0) : List X → List Y → Type 0 where
  ended : Beside Q [] []
  beside : {x : X} {y : Y} {xs : List X} {ys : List Y} → Q x y → Beside Q xs ys → Beside Q (x ∷ xs) (y ∷ ys)

module _ {X Y : Type 0} {Q : X → Y → Type 0} where
  pub beside_snoc : {x : X} {y : Y} {xs : List X} {ys : List Y} → Beside Q xs ys → Q x y → Beside Q (xs ++ (x ∷ [])) (ys ++ (y ∷ []))
  beside_snoc ended q = beside q ended
  beside_snoc (beside h t) q = beside h (beside_snoc t q)

  pub beside_at : (a : X) (b : Y) {xs : List X} {ys : List Y} → Q a b → Beside Q xs ys → (i : ℕ) → Q (get_or xs i a) (get_or ys i b)
  beside_at a b q ended i = q
  beside_at a b q (beside h t) zero = h
  beside_at a b q (beside h t) (suc i) = beside_at a b q t i

module _ {X Y N : Type 0} (a : X) (b : Y) (f : (ℕ → X) → N → X) (g : (ℕ → Y) → N → Y) (Q : X → Y → Type 0) (base : Q a b)
    (step : (s : ℕ → X) (t : ℕ → Y) → ((i : ℕ) → Q (s i) (t i)) → (n : N) → Q (f s n) (g t n)) where
  lists_related : (xs : List X) (ys : List Y) (ns : List N) → Beside Q xs ys → Beside Q (list_from a f xs ns) (list_from b g ys ns)
  lists_related xs ys [] h = h
  lists_related xs ys (n ∷ ns) h = lists_related (xs ++ (f (λ i. get_or xs i a) n ∷ [])) (ys ++ (g (λ i. get_or ys i b) n ∷ [])) ns (beside_snoc h (step (λ i. get_or xs i a) (λ i. get_or ys i b) (beside_at a b base h) n))

  -- what holds of the entries of a node if it holds of those before it holds of all
  pub entries_related : (ns : List N) (i : ℕ) → Q (entry a f ns i) (entry b g ns i)
  entries_related ns = beside_at a b base (lists_related [] [] ns ended)
