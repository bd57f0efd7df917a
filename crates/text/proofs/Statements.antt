-- What is promised of the text of a plan table: "Reading what was written gives the same words."
use mathlib.Core.Path.{◌≡◌, refl, sym, ap, ◌∙◌}
use mathlib.Core.Bool.{Bool, true, false, cond}
use mathlib.Core.List.{List, [], ◌∷◌, ◌++◌, append-nil}
use Prim.Native.Nat.{ℕ, ◌+◌, ◌<◌, ◌≤◌}
use native.Mathlib.Omega.{arith}
use lib.Dec.{ltb}
use lib.ListN.{length, take, drop}
use lib.Seq.{take-take}
use borrow.Author.Tests.{ltb-true, ltb-false, lt-ltb, le-ltb}
use Rattle.text.specs.Reading.{Counts, Front, found, bad, head_in, forms, header, Lines, right, wrong, behind, lines_in, Given, words, bad_line, ended, table_in, read}
use Rattle.text.specs.Text.{text_of}
use Rattle.text.specs.Steps.{lines_text}
use Rattle.text.specs.Lines.{lines, Table, Agrees, FirstBad}
use Rattle.text.specs.Answers.{taken, onto, writing, text_after, reading, words_after}
use Rattle.plan.proofs.Laws.Header.{header_says, limits_say}
use Rattle.text.proofs.Laws.Fits.{BodyFits, Limited, sizes_of}
use Rattle.text.proofs.Laws.Whole.{text_of_lem, whole, limited_sizes, body_fits, table_of}
use Rattle.text.proofs.Laws.Longest.{longest}
use Rattle.text.proofs.Laws.Rows.{head_text, head_read, head_is, body_read, body_is}
use Rattle.text.proofs.Laws.Named.{table_text, named}

-- ---- texts that are short enough

short : (text : List ℕ) → length text ≤ 262144 → read text ≡ table_in (head_in text)
unfolding read
short text h = rw (le-ltb 262144 (length text) h)

-- "text length beyond 262,144 being line 0"
pub too_long : (text : List ℕ) → 262144 < length text → read text ≡ bad_line 0
unfolding read
too_long text h = rw (lt-ltb 262144 (length text) h)

-- ---- what was written

table_read : (s : Counts) (body : List ℕ) → Limited s → BodyFits (forms s) body → table_in (head_in (head_text s ++ lines_text (forms s) body)) ≡ words (header s ++ body)
table_read s body f t =
    let e : lines_in (forms s) 2 (lines_text (forms s) body) ≡ right body [] = rw append-nil at (body_read (forms s) 2 body [] t) in
    rw (head_read s (lines_text (forms s) body) f, e)

-- "Reading what was written gives the same words."
pub read_written : (ws : List ℕ) → Table ws → read (text_of ws) ≡ words ws
read_written ws t =
    short (text_of ws) (omega (arith, longest ws t))
    ∙ ap (λ (bs : List ℕ). table_in (head_in bs)) (text_of_lem ws t.header t.limits)
    ∙ table_read (sizes_of ws) (drop 8 ws) (limited_sizes ws t.limits) (body_fits ws t)
    ∙ ap words (sym (whole ws t.header))

-- a table has one text, and a text one table
pub one_table : (ws vs : List ℕ) → Table ws → Table vs → text_of ws ≡ text_of vs → ws ≡ vs
one_table ws vs t u e =
    let a = read_written ws t in
    let b = read_written vs u in
    let c : read (text_of ws) ≡ read (text_of vs) = ap read e in
    cc

-- ---- what was accepted

-- "each accepted text is the one the writer would give"
pub accepted_is_written : (text ws : List ℕ) → read text ≡ words ws → Table ws × (text ≡ text_of ws)
unfolding read
accepted_is_written text ws q = go (ltb 262144 (length text)) q
  where
    body : (s : Counts) (rest : List ℕ) → Limited s × (text ≡ head_text s ++ rest) → (r : Lines) → lines_in (forms s) 2 rest ≡ r
        → ended (3 + s.nodes + s.items) (behind (header s) r) ≡ words ws → Table ws × (text ≡ text_of ws)
    body s rest h (wrong l) e d = let z : ◌≡◌ {A = ℕ} 0 1 = cc in absurd (omega arith)
    body s rest h (right vs (b ∷ bs)) e d = let z : ◌≡◌ {A = ℕ} 0 1 = cc in absurd (omega arith)
    body s rest h (right vs []) e d =
        let p : header s ++ vs ≡ ws = cc in
        let b = body_is (forms s) 2 rest vs [] e in
        let written : text ≡ text_of (header s ++ vs) =
        h.1 ∙ ap (λ (bs : List ℕ). head_text s ++ bs) (b.1 ∙ append-nil (lines_text (forms s) vs)) ∙ sym (table_text s vs h.0 b.0) in
        let r : Table (header s ++ vs) × (text ≡ text_of (header s ++ vs)) = (table_of s vs h.0 b.0, written) in
        rw p at r

    head : (f : Front Counts) → head_in text ≡ f → table_in f ≡ words ws → Table ws × (text ≡ text_of ws)
    head bad e d = let z : ◌≡◌ {A = ℕ} 0 1 = cc in absurd (omega arith)
    head (found s rest) e d = body s rest (head_is text s rest e) (lines_in (forms s) 2 rest) refl d

    go : (long : Bool) → cond long (bad_line 0) (table_in (head_in text)) ≡ words ws → Table ws × (text ≡ text_of ws)
    go true e = let z : ◌≡◌ {A = ℕ} 0 1 = cc in absurd (omega arith)
    go false e = head (head_in text) refl e

-- ---- the line that is named

-- "the reader gives up at the first bad, missing or surplus line"
pub line_named : (text : List ℕ) (k : ℕ) → length text ≤ 262144 → read text ≡ bad_line k → FirstBad text k
line_named text k h q = named text k (sym (short text h) ∙ q)

-- line 0 is named for nothing else
pub line_zero : (text : List ℕ) → read text ≡ bad_line 0 → 262144 < length text
line_zero text q = go (ltb 262144 (length text)) refl
  where
    go : (long : Bool) → ltb 262144 (length text) ≡ long → 262144 < length text
    go true e = ltb-true 262144 (length text) e
    go false e = let b = line_named text 0 (ltb-false 262144 (length text) e) q in absurd (omega (arith, b.next))

-- fewer lines agree too
fewer : (text : List ℕ) (k m : ℕ) → k ≤ m → Agrees text m → Agrees text k
fewer text k m h a =
    record {
      table = a.table;
      passes = a.passes;
      same = sym (take-take k m (lines text) h) ∙ ap (take k) a.same ∙ take-take k m (lines (text_of a.table)) h;
    }

earlier : (text : List ℕ) (k m : ℕ) → FirstBad text k → FirstBad text m → k < m → ⊥
earlier text k m f g h = f.wrong_here (fewer text k g.before (omega (arith, g.next)) g.right_before)

-- there is one such line: a reader that names another is wrong
pub one_line : (text : List ℕ) (k m : ℕ) → FirstBad text k → FirstBad text m → k ≡ m
one_line text k m f g = go (ltb k m) refl (ltb m k) refl
  where
    go : (a : Bool) → ltb k m ≡ a → (b : Bool) → ltb m k ≡ b → k ≡ m
    go true e b d = absurd (earlier text k m f g (ltb-true k m e))
    go false e true d = absurd (earlier text m k g f (ltb-true m k d))
    go false e false d = omega (arith, ltb-false k m e, ltb-false m k d)

-- where there is one, it is named
pub bad_named : (text : List ℕ) (k : ℕ) → length text ≤ 262144 → FirstBad text k → read text ≡ bad_line k
bad_named text k h f = go (read text) refl
  where
    go : (g : Given) → read text ≡ g → read text ≡ bad_line k
    go (words ws) e =
        let a = accepted_is_written text ws e in
        absurd (f.wrong_here (record { table = ws; passes = a.0; same = ap (λ (bs : List ℕ). take k (lines bs)) a.1 }))
    go (bad_line m) e = e ∙ ap bad_line (one_line text m k (line_named text m h e) f)

-- ---- how much room is enough

-- a slice of 170,956 bytes has room for every table's text
pub room_enough : (ws : List ℕ) (room : ℕ) → Table ws → 170956 ≤ room → writing ws room ≡ taken (length (text_of ws))
unfolding writing
room_enough ws room t h = rw (t.header, t.limits, le-ltb room (length (text_of ws)) (omega (arith, longest ws t)))

-- a slice of 15,560 words has room for every text's words
pub words_enough : (text ws : List ℕ) (room : ℕ) → read text ≡ words ws → 15560 ≤ room → reading text room ≡ taken (length ws)
unfolding reading
words_enough text ws room q h =
    let t = (accepted_is_written text ws q).0 in
    let d = header_says ws t.header in
    let l = limits_say ws t.limits in
    rw (q, le-ltb room (length ws) (omega (arith, d.total, d.whole, l.tables_few, l.nodes_few, l.items_few)))

-- the two calls one after the other: what was written is read as the same words
pub written_then_read : (ws text old : List ℕ) → Table ws → length (text_of ws) ≤ length text → length ws ≤ length old
    → (text_after ws text ≡ onto (text_of ws) text) × (words_after (text_of ws) old ≡ onto ws old)
unfolding writing text_after words_after
written_then_read ws text old t h g = (
  rw (t.header, t.limits, le-ltb (length text) (length (text_of ws)) h),
  rw (read_written ws t, le-ltb (length old) (length ws) g),
)
