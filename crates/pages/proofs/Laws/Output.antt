-- Parts of the output, one behind the other.
use mathlib.Core.Path.{◌≡◌, refl, sym, ap, ◌∙◌}
use mathlib.Core.List.{List, [], ◌∷◌, ◌++◌, append_assoc}
use Prim.Native.Nat.{ℕ, ◌+◌, ◌-◌, ◌*◌, ◌≤◌}
use native.Mathlib.Omega.{arith}
use borrow.Rule.Slice.PartMut.{put_mid}
use lib.ListN.{length, take, drop, length-append, length-drop}
use lib.Seq.{take_at, drop-append-add, drop-drop, length-take-le, take_all}
use Rattle.std.proofs.lemmas.Slice.{put_mid-paste}
use Rattle.std.specs.List.{flat_map}
use Rattle.algebra.specs.Lists.{each}
use Rattle.plan.specs.Words.{tables, total, header_of}
use Rattle.pages.specs.declared.page.Page.{Page}
use Rattle.pages.specs.Output.{table}

-- the front p of d is written: a part s behind it, up to e
behind : (d x p s : List ℕ) (at e : ℕ) → x ≡ p ++ drop at d → length p ≡ at → e ≡ at + length s → put_mid at (e - at) x s ≡ (p ++ s) ++ drop e d
behind d x p s at e q h l =
    put_mid-paste at (e - at) x s s (length s) refl (omega arith) refl
    ∙ (λ i. (front i ++ take_all (length s) s (omega arith) i) ++ rest i)
  where
    front : take at x ≡ p
    front = ap (take at) q ∙ take_at p (drop at d) at h

    rest : drop (at + length s) x ≡ drop e d
    rest =
        ap (drop (at + length s)) q
        ∙ ap (λ (k : ℕ). drop (k + length s) (p ++ drop at d)) (sym h)
        ∙ drop-append-add p (drop at d) (length s)
        ∙ drop-drop (length s) at d
        ∙ ap (λ (k : ℕ). drop k d) (sym l)

-- header, widths, nodes and items
four_parts : (out a b c d : List ℕ) (t n i : ℕ) → length a ≡ 8 → length b ≡ t → length c ≡ n → length d ≡ i
    → put_mid (8 + t + n) (8 + t + n + i - (8 + t + n)) (put_mid (8 + t) (8 + t + n - (8 + t)) (put_mid 8 (8 + t - 8) (a ++ drop 8 out) b) c) d
    ≡ (a ++ (b ++ (c ++ d))) ++ drop (8 + t + n + i) out
four_parts out a b c d t n i la lb lc ld =
    behind out _ ((a ++ b) ++ c) d (8 + t + n) (8 + t + n + i)
    (behind out _ (a ++ b) c (8 + t) (8 + t + n) (behind out _ a b 8 (8 + t) refl la (omega arith))
    (omega (arith, length-append a b)) (omega arith))
    (omega (arith, length-append a b, length-append (a ++ b) c)) (omega arith)
    ∙ ap (λ (l : List ℕ). l ++ drop (8 + t + n + i) out) (append_assoc (a ++ b) c d ∙ append_assoc a b (c ++ d))

-- arrays one behind the other
each_flat : (xs : List (List ℕ)) → flat_map (λ x. x) xs ≡ each (λ x. x) xs
each_flat [] = refl
each_flat (x ∷ xs) = rw (each_flat xs)

module _ (ws out : List ℕ) (page : Page) where
  abbrev n : ℕ
  n = page.node_count

  abbrev i : ℕ
  i = page.item_count

  module _ (many : n ≤ length page.nodes) (more : i ≤ length page.items) where
    pub written : (a b c d : List ℕ) (t : ℕ) → t ≡ tables ws → 8 + tables ws ≤ length ws → a ≡ header_of t n i → b ≡ take (8 + t - 8) (drop 8 ws)
        → c ≡ flat_map (λ x. x) (take n page.nodes) → length c ≡ length (take n page.nodes) * 6
        → d ≡ flat_map (λ x. x) (take i page.items) → length d ≡ length (take i page.items) * 7
        → put_mid (8 + t + 6 * n) (8 + t + 6 * n + 7 * i - (8 + t + 6 * n))
        (put_mid (8 + t) (8 + t + 6 * n - (8 + t)) (put_mid 8 (8 + t - 8) (a ++ drop 8 out) b) c) d
        ≡ table ws page ++ drop (total (tables ws) n i) out
    unfolding table
    written a b c d t et long ea eb ec lc ed ld =
        let k : 8 + t - 8 ≡ t = omega arith in
        four_parts out a b c d t (6 * n) (7 * i) (ap length ea)
        (ap length eb ∙ length-take-le (8 + t - 8) (drop 8 ws) (omega (arith, length-drop 8 ws)) ∙ k)
        (omega (arith, length-take-le n page.nodes many))
        (omega (arith, length-take-le i page.items more))
        ∙ rw (ea, eb, ec, ed, k, et, each_flat (take n page.nodes), each_flat (take i page.items))
