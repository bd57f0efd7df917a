-- The first line, the whole text, and the reader's answer.
use mathlib.Core.Path.{◌≡◌, sym, ap, ◌∙◌}
use mathlib.Core.List.{List, ◌++◌}
use Prim.Native.Nat.{ℕ, ◌+◌, ◌<◌, ◌≤◌}
use native.Mathlib.Omega.{arith}
use borrow.Author.Tests.{lt-ltb, le-ltb}
use lib.ListN.{length, drop, drop_of_length-le}
use lib.Seq.{sets, sets-eq, drop-cons}
use Rattle.text.specs.Reading.{Counts, found, bad, word_in, head_in, forms, right, lines_in, header, Given, words, bad_line, table_in, read}
use Rattle.std.specs.Prelude.{Result, Ok, Err}
use Rattle.text.specs.Steps.{TableRead}
use Rattle.text.specs.Answers.{reading, words_after, taken, refused}
use Rattle.text.proofs.Laws.Places.{sets_append}

-- ---- the first line

module _ (text : List ℕ) where
  pub no_tables : word_in 1 16 32 (drop 0 text) ≡ bad → head_in text ≡ bad
  unfolding head_in
  no_tables h = rw h

  module _ (t a : ℕ) (tables : word_in 1 16 32 (drop 0 text) ≡ found t (drop a text)) where
    pub no_nodes : word_in 1 256 32 (drop a text) ≡ bad → head_in text ≡ bad
    unfolding head_in
    no_nodes h = rw (tables, h)

    module _ (n b : ℕ) (nodes : word_in 1 256 32 (drop a text) ≡ found n (drop b text)) where
      pub no_items : word_in 0 2000 10 (drop b text) ≡ bad → head_in text ≡ bad
      unfolding head_in
      no_items h = rw (tables, nodes, h)

      pub head_found : (i e : ℕ) → word_in 0 2000 10 (drop b text) ≡ found i (drop e text) → head_in text ≡ found (record { tables = t; nodes = n; items = i }) (drop e text)
      unfolding head_in
      head_found i e h = rw (tables, nodes, h)

-- ---- the whole text

module _ (text : List ℕ) (s : Counts) (at : ℕ) (head : head_in text ≡ found s (drop at text)) where
  module _ (ws : List ℕ) (next : ℕ) (body : lines_in (forms s) 2 (drop at text) ≡ right ws (drop next text)) where
    pub surplus : next < length text → table_in (head_in text) ≡ bad_line (3 + s.nodes + s.items)
    surplus h = rw (head, body, drop-cons text next 0 h)

    pub all_read : length text ≤ next → table_in (head_in text) ≡ words (header s ++ ws)
    all_read h = rw (head, body, drop_of_length-le text h)

pub table_stored : (s : Counts) (entry middle exit ws : List ℕ) → middle ≡ sets entry 0 (header s) → exit ≡ sets middle 8 ws → exit ≡ sets entry 0 (header s ++ ws)
table_stored s entry middle exit ws m e = e ∙ rw m (sym (sets_append entry 0 (header s) ws))

-- ---- the reader's answer

module _ (text : List ℕ) where
  pub too_long_answer : (old : List ℕ) → 262144 < length text → (refused 16 0 ≡ reading text (length old)) × (old ≡ words_after text old)
  unfolding reading words_after read
  too_long_answer old h = (rw (lt-ltb 262144 (length text) h), rw (lt-ltb 262144 (length text) h))

  module _ (short : length text ≤ 262144) where
    pub read_is : {g : Given} → table_in (head_in text) ≡ g → read text ≡ g
    unfolding read
    read_is h = rw (le-ltb 262144 (length text) short) h

    -- what the second leaves
    pub words_stored : (entry exit ws : List ℕ) (t : Result ℕ ℕ) → TableRead (table_in (head_in text)) entry exit t → read text ≡ words ws → exit ≡ sets entry 0 ws
    words_stored entry exit ws (Ok n) r q =
        let e : words r.1.0 ≡ words ws = sym (read_is r.1.2) ∙ q in
        let same : r.1.0 ≡ ws = cc in
        r.1.3 ∙ rw same
    words_stored entry exit ws (Err l) r q =
        let e : bad_line l ≡ words ws = sym (read_is r) ∙ q in
        cc

  pub line_answer : {l : ℕ} → read text ≡ bad_line l → (old : List ℕ) → (refused 16 l ≡ reading text (length old)) × (old ≡ words_after text old)
  unfolding reading words_after
  line_answer h old = (rw h, rw h)

  module _ {ws : List ℕ} (h : read text ≡ words ws) (old : List ℕ) where
    pub short_answer : length old < length ws → (refused 17 0 ≡ reading text (length old)) × (old ≡ words_after text old)
    unfolding reading words_after
    short_answer l = (rw (h, lt-ltb (length old) (length ws) l), rw (h, lt-ltb (length old) (length ws) l))

    pub words_answer : length ws ≤ length old → {n : ℕ} → n ≡ length ws → taken n ≡ reading text (length old)
    unfolding reading
    words_answer l e = rw (h, le-ltb (length old) (length ws) l, e)

    pub words_content : length ws ≤ length old → {exit : List ℕ} → exit ≡ sets old 0 ws → exit ≡ words_after text old
    unfolding words_after
    words_content l e = rw (h, le-ltb (length old) (length ws) l) (e ∙ sets-eq ws old 0 (omega arith) ∙ ap (λ (k : ℕ). ws ++ drop k old) {x = 0 + length ws} {y = length ws} (omega arith))
