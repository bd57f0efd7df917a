-- Words copied one by one.
use mathlib.Core.Path.{◌≡◌, ap, ◌∙◌}
use mathlib.Core.List.{List, ◌++◌, append-nil}
use Prim.Native.Nat.{ℕ, ◌+◌, ◌≤◌, ◌<◌}
use native.Mathlib.Omega.{arith}
use native.Mathlib.Numerals.{add-one}
use lib.ListN.{length, get_or, set, take, drop, drop_of_length-le}
use lib.Seq.{paste, paste-suc, take_all}

-- one word more
pub copy_more : (d s : List ℕ) (i : ℕ) (e : List ℕ) → length s ≤ length d → i < length s
    → e ≡ paste d 0 s i → set e i (get_or s i 0) ≡ paste d 0 s (i + 1)
copy_more d s i e h l q =
    let z : i ≡ 0 + i = omega arith in
    rw (q, add-one) (ap (λ (j : ℕ). set (paste d 0 s i) j (get_or s i 0)) z ∙ paste-suc d 0 s i 0 (omega arith) (omega arith))

-- all of them
pub copy_all : (d s : List ℕ) (i : ℕ) → length s ≤ i → length s ≡ length d → paste d 0 s i ≡ s
copy_all d s i l h =
    ap (λ (x : List ℕ). x ++ drop (0 + i) d) (take_all i s l)
    ∙ ap (λ (x : List ℕ). s ++ x) (drop_of_length-le d (omega arith))
    ∙ append-nil s
