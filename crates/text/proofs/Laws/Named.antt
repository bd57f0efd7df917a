-- The line of a text that is the first at which it is no table's.
use mathlib.Core.Path.{◌≡◌, refl, ap, ◌∙◌, subst}
use mathlib.Core.Bool.{false}
use mathlib.Core.List.{List, [], ◌∷◌, ◌++◌, head-eq_of_cons-eq, tail-eq_of_cons-eq}
use Prim.Native.Nat.{ℕ, suc, ◌+◌}
use native.Mathlib.Omega.{arith}
use lib.ListN.{length, take, drop, length-append, length-replicate}
use Rattle.plan.specs.Words.{word}
use Rattle.text.specs.Reading.{Counts, Front, found, bad, head_in, forms, header, Lines, right, wrong, behind, lines_in, bad_line, ended, table_in}
use Rattle.text.specs.Text.{text_of}
use Rattle.text.specs.Steps.{lines_text}
use Rattle.text.specs.Lines.{lines, Table, Agrees, FirstBad}
use Rattle.text.proofs.Laws.Fits.{BodyFits, Limited, sizes_of}
use Rattle.text.proofs.Laws.Whole.{text_of_lem, limited_sizes, body_fits, table_of}
use Rattle.text.proofs.Laws.Rows.{head_text, head_read, head_is}
use Rattle.text.proofs.Laws.Split.{first_line, fields_lines}
use Rattle.text.proofs.Laws.FirstBad.{some_body, forms_able, Fails, fails_at, fails_end}

-- ---- the text of a table

-- from its sizes and its body
pub table_text : (s : Counts) (body : List ℕ) → Limited s → BodyFits (forms s) body → text_of (header s ++ body) ≡ head_text s ++ lines_text (forms s) body
unfolding word
table_text s body f t = let p = table_of s body f t in text_of_lem (header s ++ body) p.header p.limits

-- its first line, and those behind it
pub head_lines : (s : Counts) (rest : List ℕ) → lines (head_text s ++ rest) ≡ head_text s ∷ lines rest
head_lines s rest = fields_lines false [] (s.tables ∷ s.nodes ∷ s.items ∷ []) rest (omega arith)

-- the same of words that are a table
pub table_lines : (ws : List ℕ) → Table ws → lines (text_of ws) ≡ head_text (sizes_of ws) ∷ lines (lines_text (forms (sizes_of ws)) (drop 8 ws))
table_lines ws t = ap lines (text_of_lem ws t.header t.limits) ∙ head_lines (sizes_of ws) (lines_text (forms (sizes_of ws)) (drop 8 ws))

-- the first line says T, N and I
pub head_same : (s r : Counts) → Limited s → Limited r → head_text s ≡ head_text r → s ≡ r
head_same s r f g e =
    let a : head_in (head_text s ++ []) ≡ found s [] = head_read s [] f in
    let b : head_in (head_text r ++ []) ≡ found r [] = head_read r [] g in
    let c : head_in (head_text s ++ []) ≡ head_in (head_text r ++ []) = ap (λ (bs : List ℕ). head_in (bs ++ [])) e in
    cc

-- ---- the first line is bad

some_table : (s : Counts) → Limited s → (ws : List ℕ) × Table ws
some_table s f = let b = some_body (forms_able s f) in (header s ++ b.0, table_of s b.0 f b.1)

pub head_fails : (text : List ℕ) → head_in text ≡ bad → FirstBad text 1
head_fails text q =
    let t = some_table (record { tables = 1; nodes = 1; items = 0 })
    (record { tables_some = omega arith; tables_few = omega arith; nodes_some = omega arith; nodes_few = omega arith; items_few = omega arith }) in
    record { before = 0; next = refl; right_before = record { table = t.0; passes = t.1; same = refl }; wrong_here = other }
  where
    other : Agrees text 1 → ⊥
    other a =
        let s : Counts = sizes_of a.table in
        let rest : List ℕ = lines_text (forms s) (drop 8 a.table) in
        let r = first_line text (head_text s) (lines rest) (rw (table_lines a.table a.passes) at a.same) in
        let e : head_in text ≡ found s r.0 = ap head_in r.1 ∙ head_read s r.0 (limited_sizes a.table a.passes.limits) in
        let z : ◌≡◌ {A = ℕ} 0 1 = cc in
        omega arith

-- ---- a line behind the first is bad, missing or surplus

pub body_fails : (s : Counts) (text rest : List ℕ) (m : ℕ) → Limited s → text ≡ head_text s ++ rest → Fails (forms s) rest m → FirstBad text (suc (suc m))
body_fails s text rest m f e t =
    record {
      before = suc m;
      next = refl;
      right_before = record {
        table = header s ++ t.body;
        passes = table_of s t.body f t.fits;
        same = rw (here, table_text s t.body f t.fits, head_lines s (lines_text (forms s) t.body)) (ap (λ (ls : List (List ℕ)). head_text s ∷ ls) t.same);
      };
      wrong_here = other;
    }
  where
    here : lines text ≡ head_text s ∷ lines rest
    here = ap lines e ∙ head_lines s rest

    behind_head : (r : Counts) (vs : List ℕ) → s ≡ r → BodyFits (forms r) vs → take (suc m) (lines rest) ≡ take (suc m) (lines (lines_text (forms r) vs)) → ⊥
    behind_head r vs q g h = t.other vs (rw q g) (rw q h)

    other : Agrees text (suc (suc m)) → ⊥
    other a =
        let r : Counts = sizes_of a.table in
        let vs : List ℕ = drop 8 a.table in
        let h : head_text s ∷ take (suc m) (lines rest) ≡ head_text r ∷ take (suc m) (lines (lines_text (forms r) vs)) =
        rw (here, table_lines a.table a.passes) at a.same in
        behind_head r vs (head_same s r f (limited_sizes a.table a.passes.limits) (head-eq_of_cons-eq h)) (body_fits a.table a.passes) (tail-eq_of_cons-eq h)

-- ---- the line that is named

forms_length : (s : Counts) → length (forms s) ≡ suc (s.nodes + s.items)
unfolding forms
forms_length s = simp (length-append, length-replicate)

pub named : (text : List ℕ) (k : ℕ) → table_in (head_in text) ≡ bad_line k → FirstBad text k
named text k q = go (head_in text) refl q
  where
    body : (s : Counts) (rest : List ℕ) → Limited s × (text ≡ head_text s ++ rest) → (r : Lines) → lines_in (forms s) 2 rest ≡ r
        → ended (3 + s.nodes + s.items) (behind (header s) r) ≡ bad_line k → FirstBad text k
    body s rest h (wrong l) e d =
        let f = fails_at (forms_able s h.0) 2 rest l e in
        let c : l ≡ k = cc in
        let p : k ≡ suc (suc f.0) = omega (arith, f.1) in
        rw p (body_fails s text rest f.0 h.0 h.1 f.2)
    body s rest h (right ws []) e d = let z : ◌≡◌ {A = ℕ} 0 1 = cc in absurd (omega arith)
    body s rest h (right ws (b ∷ bs)) e d =
        let f = fails_end (forms_able s h.0) 2 rest ws b bs e in
        let c : 3 + s.nodes + s.items ≡ k = cc in
        let p : k ≡ suc (suc (length (forms s))) = omega (arith, forms_length s) in
        rw p (body_fails s text rest (length (forms s)) h.0 h.1 f)

    go : (f : Front Counts) → head_in text ≡ f → table_in f ≡ bad_line k → FirstBad text k
    go bad e d = let p : 1 ≡ k = cc in subst (FirstBad text) p (head_fails text e)
    go (found s rest) e d = body s rest (head_is text s rest e) (lines_in (forms s) 2 rest) refl d
