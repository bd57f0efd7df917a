-- The text of a table written to a slice, and what is answered.
use mathlib.Core.Path.{◌≡◌, sym, ap, ◌∙◌}
use mathlib.Core.Bool.{true, false}
use mathlib.Core.List.{List, [], ◌∷◌, ◌++◌}
use Prim.Native.Nat.{ℕ, suc, ◌+◌, ◌^◌, ◌<◌, ◌≤◌}
use native.Mathlib.Omega.{arith}
use borrow.Author.Tests.{lt-ltb, le-ltb, le-leb, leb-true, leb-false}
use lib.Dec.{leb}
use lib.ListN.{length, get_or, drop}
use lib.Seq.{sets-eq}
use Rattle.algebra.specs.Lists.{Every, done, more}
use Rattle.plan.specs.Words.{tables, nodes, items}
use Rattle.plan.specs.Verdict.{header_right, limits_right}
use Rattle.text.specs.Text.{text_of}
use Rattle.text.specs.Reading.{forms}
use Rattle.text.specs.Steps.{line_text, lines_text, WrittenTo}
use Rattle.text.specs.Answers.{refused, taken, writing, text_after}
use Rattle.text.proofs.Laws.Whole.{text_of_lem}
use Rattle.text.proofs.Laws.Longest.{longest}
use Rattle.text.proofs.Laws.Writing.{written_both}

-- ---- a table

module _ (ws : List ℕ) (h : header_right ws ≡ true) (g : limits_right ws ≡ true) (t n i : ℕ) (et : t ≡ tables ws) (en : n ≡ nodes ws) (ei : i ≡ items ws) where
  -- the first line and the lines behind it are its text
  pub table_written : (entry middle : List ℕ) (at : ℕ) (exit : List ℕ) (r : ℕ) → WrittenTo entry 0 (line_text false (t ∷ n ∷ i ∷ [])) middle at
      → WrittenTo middle at (lines_text (forms (record { tables = t; nodes = n; items = i })) (drop 8 ws)) exit r → WrittenTo entry 0 (text_of ws) exit r
  table_written entry middle at exit r a b =
      rw (text_of_lem ws h g, sym et, sym en, sym ei)
      (written_both entry 0 (line_text false (t ∷ n ∷ i ∷ [])) middle at (lines_text (forms (record { tables = t; nodes = n; items = i })) (drop 8 ws)) exit r a b)

-- ---- whether there is room for it

-- the words of a slice are u32 words
small_words : (ws : List ℕ) → ((i : ℕ) → get_or ws i 0 < 2 ^ 32) → Every (λ w. w < 2 ^ 32) ws
small_words [] f = done
small_words (w ∷ ws) f = more (f 0) (small_words ws (λ i. f (suc i)))

-- there is, where there is room for the longest
pub room_for_all : (ws : List ℕ) (room : ℕ) → ((i : ℕ) → get_or ws i 0 < 2 ^ 32) → header_right ws ≡ true → limits_right ws ≡ true → 170956 ≤ room → true ≡ leb (length (text_of ws)) room
room_for_all ws room f h g l =
    sym (le-leb (length (text_of ws)) room (omega (arith, longest ws (record { small = small_words ws f; header = h; limits = g }))))

-- ---- what is answered, and what stands in the slice then

module _ (ws text : List ℕ) where
  pub no_header : header_right ws ≡ false → (refused 1 0 ≡ writing ws (length text)) × (text ≡ text_after ws text)
  unfolding writing text_after
  no_header h = (rw h, rw h)

  module _ (h : header_right ws ≡ true) where
    pub no_limits : limits_right ws ≡ false → (refused 2 0 ≡ writing ws (length text)) × (text ≡ text_after ws text)
    unfolding writing text_after
    no_limits g = (rw (h, g), rw (h, g))

    module _ (g : limits_right ws ≡ true) where
      pub no_room : leb (length (text_of ws)) (length text) ≡ false → (refused 17 0 ≡ writing ws (length text)) × (text ≡ text_after ws text)
      unfolding writing text_after
      no_room r =
          let l = lt-ltb (length text) (length (text_of ws)) (leb-false (length (text_of ws)) (length text) r) in
          (rw (h, g, l), rw (h, g, l))

      pub all_written : leb (length (text_of ws)) (length text) ≡ true → (exit : List ℕ) (n : ℕ) → WrittenTo text 0 (text_of ws) exit n
          → (taken n ≡ writing ws (length text)) × (exit ≡ text_after ws text)
      unfolding writing text_after
      all_written r exit n f =
          let fits = leb-true (length (text_of ws)) (length text) r in
          let l = le-ltb (length text) (length (text_of ws)) fits in
          let m : n ≡ length (text_of ws) = omega (arith, f.1) in
          let z : 0 + length (text_of ws) ≡ length (text_of ws) = omega arith in
          (rw (h, g, l, m), rw (h, g, l) (f.0 ∙ sets-eq (text_of ws) text 0 (omega arith) ∙ ap (λ (k : ℕ). text_of ws ++ drop k text) z))
