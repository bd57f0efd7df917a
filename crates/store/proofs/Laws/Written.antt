-- What a write to a part of the cells leaves.
use mathlib.Core.Path.{◌≡◌, sym, ap, ◌∙◌}
use mathlib.Core.List.{List, [], ◌∷◌, ◌++◌, append-nil, append_assoc}
use Prim.Native.Nat.{ℕ, ◌+◌, ◌<◌, ◌≤◌}
use native.Mathlib.Numerals.{add-one}
use native.Mathlib.Omega.{arith}
use lib.IntN.{ℤ, pos}
use lib.ListN.{length, get_or, take, drop, set, replicate, length-drop, length-replicate, drop_of_length-le, get_or-append}
use lib.Seq.{drop-drop, length-take-le, take-suc, get_or-drop, get_or-take, paste}
use borrow.Rule.Slice.PartMut.{put_mid}
use Rattle.store.specs.Cells.{written}
use Rattle.store.proofs.Laws.Cells.{written_more}

-- k cells from a place on, which are now those of ds
pub part_written : (s : List ℤ) (at k : ℕ) {cs ds : List ℤ} → cs ≡ ds → length ds ≡ k → put_mid at k s cs ≡ written s at ds
unfolding written
part_written s at k {cs} {ds} e h =
    ap (put_mid at k s) e
    ∙ ap (λ (rest : List ℤ). take at s ++ (ds ++ rest)) (drop-drop k at s ∙ ap (λ (n : ℕ). drop (at + n) s) (sym h))

-- the same by `fill`
pub filled_part : (s : List ℤ) (at n : ℕ) {k : ℕ} (x : ℤ) {cs : List ℤ} → k ≡ n → at + n ≤ length s → cs ≡ replicate (length (take k (drop at s))) x
    → put_mid at k s cs ≡ written s at (replicate n x)
filled_part s at n {k} x e h f =
    let l : length (take k (drop at s)) ≡ n = rw e (length-take-le n (drop at s) (omega (arith, length-drop at s))) in
    part_written s at k (f ∙ ap (λ (j : ℕ). replicate j x) l) (length-replicate n x ∙ sym e)

-- every cell
pub filled_whole : (s₀ : List ℤ) (v : ℤ) → written s₀ 0 (replicate (length s₀) v) ≡ replicate (length s₀) v
unfolding written
filled_whole s₀ v =
    let h : length s₀ ≤ 0 + length (replicate (length s₀) v) = omega (arith, length-replicate (length s₀) v) in
    ap (λ (l : List ℤ). replicate (length s₀) v ++ l) (drop_of_length-le s₀ h) ∙ append-nil (replicate (length s₀) v)

-- the same by `copy_within`
pub paste_written : (s : List ℤ) (at n : ℕ) {k : ℕ} (ds : List ℤ) → k ≡ n → n ≤ length ds → paste s at ds k ≡ written s at (take n ds)
unfolding written
paste_written s at n ds e h =
    ap (paste s at ds) e
    ∙ append_assoc (take at s) (take n ds) (drop (at + n) s)
    ∙ ap (λ (j : ℕ). take at s ++ (take n ds ++ drop (at + j) s)) (sym (length-take-le n ds h))

-- ---- cells copied, one a turn

-- i cells of t from place at on stand from place to on
abbrev pub Copied : List ℤ → ℕ → List ℤ → ℕ → ℕ → List ℤ → Type 0
Copied t at s₀ to i s = s ≡ written s₀ to (take i (drop at t))

pub copied_more : (t : List ℤ) (at : ℕ) (s₀ : List ℤ) (to i : ℕ) (s : List ℤ) → at + i < length t → to + i < length s₀ → Copied t at s₀ to i s
    → (z : ℤ) → z ≡ get_or t (at + i) (pos 0) → Copied t at s₀ to (i + 1) (set s (to + i) z)
copied_more t at s₀ to i s inside room e z q =
    let l : length (take i (drop at t)) ≡ i = length-take-le i (drop at t) (omega (arith, length-drop at t)) in
    let p : to + length (take i (drop at t)) ≡ to + i = ap (λ (k : ℕ). to + k) l in
    ap (λ (k : ℕ). set s k z) (sym p)
    ∙ ap (λ (w : List ℤ). set w (to + length (take i (drop at t))) z) e
    ∙ written_more s₀ to (take i (drop at t)) z (rw p room)
    ∙ ap (written s₀ to)
    (ap (λ (x : ℤ). take i (drop at t) ++ (x ∷ [])) (q ∙ sym (get_or-drop at t i (pos 0)))
    ∙ sym (take-suc (drop at t) i (pos 0) (omega (arith, length-drop at t)))
    ∙ ap (λ (k : ℕ). take k (drop at t)) (sym (add-one i)))

-- a cell before the place is as it was
pub copied_before : (t : List ℤ) (at : ℕ) (s₀ : List ℤ) (to i : ℕ) (s : List ℤ) (k : ℕ) → Copied t at s₀ to i s → k < to → to ≤ length s₀
    → get_or s k (pos 0) ≡ get_or s₀ k (pos 0)
unfolding written
copied_before t at s₀ to i s k e h g =
    ap (λ (l : List ℤ). get_or l k (pos 0)) e
    ∙ get_or-append (take to s₀) _ (pos 0) k (omega (arith, length-take-le to s₀ g))
    ∙ get_or-take to s₀ k (pos 0) h
