-- The first number that passes, as a search of a range finds it.
use mathlib.Core.Path.{◌≡◌, refl, sym, ap}
use mathlib.Core.Bool.{Bool, true, false}
use mathlib.Core.List.{List, [], ◌∷◌}
use Prim.Native.Nat.{ℕ, ◌≤◌, ◌<◌}
use native.Mathlib.Omega.{arith}
use lib.Dec.{ltb}
use lib.ListN.{get_or}
use borrow.Author.Tests.{ltb-true, ltb-false}
use Rattle.std.proofs.Common.{Option, Some, None, MatchOption, slice_get}
use Rattle.algebra.specs.Lists.{keep, upto, Every, more}
use Rattle.algebra.proofs.Lists.Every.{every_map, every_keep}
use Rattle.algebra.proofs.Lists.Keep.{keep_none}
use Rattle.algebra.proofs.Domains.Keys.{upto_below}
use Rattle.plan.specs.Verdict.{lowest}
use Rattle.plan.specs.Passes.{first}
use Rattle.plan.proofs.Laws.Loops.{first_kept}

module _ (p : ℕ → Bool) where
  -- what none of the first numbers passes keeps none of them
  none_kept : (n : ℕ) → ((k : ℕ) → k < n → p k ≡ false) → keep p (upto n) ≡ []
  none_kept n h = keep_none p (every_map (λ q (l : q < n). h q l) (upto_below n))

  -- what a search of 0..m finds, where none from m on passes
  pub first_below : (m n : ℕ) (r : Option ℕ) → m ≤ n → ((k : ℕ) → m ≤ k → k < n → p k ≡ false)
      → MatchOption r ((k : ℕ) → 0 ≤ k → k < m → k < m → p k ≡ false) (λ i. (0 ≤ i) × (i < m) × (i < m → p i ≡ true) × ((k : ℕ) → 0 ≤ k → k < i → k < m → p k ≡ false))
      → r ≡ first p n
  first_below m n None h past d = sym (ap (λ (l : List ℕ). slice_get l 0) (none_kept n (λ k l. go k l (ltb k m) refl)))
    where
      go : (k : ℕ) → k < n → (b : Bool) → ltb k m ≡ b → p k ≡ false
      go k l true t = let e : k < m = ltb-true k m t in d k (omega arith) e e
      go k l false t = past k (ltb-false k m t) l
  first_below m n (Some i) h past d =
      sym (ap (λ (l : List ℕ). slice_get l 0) (first_kept p i n (none_kept i (λ k l. d.3 k (omega arith) l (omega (arith, d.1)))) (d.2 d.1) (omega (arith, d.1))).1)

  -- what a search of 0..n finds
  pub first_is : (m : ℕ) {n : ℕ} (r : Option ℕ) → m ≡ n
      → MatchOption r ((k : ℕ) → 0 ≤ k → k < m → k < m → p k ≡ false) (λ i. (0 ≤ i) × (i < m) × (i < m → p i ≡ true) × ((k : ℕ) → 0 ≤ k → k < i → k < m → p k ≡ false))
      → r ≡ first p n
  first_is m {n} r e d = first_below m n r (omega arith) (λ k g l. absurd (omega arith)) d

  -- the first number that passes is the lowest
  pub first_some : (n : ℕ) {i : ℕ} → Some i ≡ first p n → (i ≡ lowest p n) × (i < n)
  first_some n {i} = go (keep p (upto n)) (every_keep p (upto_below n))
    where
      go : (ks : List ℕ) → Every (λ k. k < n) ks → Some i ≡ slice_get ks 0 → (i ≡ get_or ks 0 n) × (i < n)
      go [] t e = absurd (cc)
      go (k ∷ ks) (more h t) e = let s : i ≡ k = cc in (s, omega arith)

  -- where there is none, the lowest is n
  pub first_none : (n : ℕ) → None ≡ first p n → n ≡ lowest p n
  first_none n = go (keep p (upto n))
    where
      go : (ks : List ℕ) → None ≡ slice_get ks 0 → n ≡ get_or ks 0 n
      go [] e = refl
      go (k ∷ ks) e = absurd (cc)
