-- Lines of which one is the first that is bad, missing or surplus.
use mathlib.Core.Path.{◌≡◌, refl, ap, ◌∙◌}
use mathlib.Core.Bool.{Bool, true, false, ◌&&◌}
use mathlib.Core.List.{List, [], ◌∷◌, ◌++◌, tail-eq_of_cons-eq}
use Prim.Native.Nat.{ℕ, zero, suc, ◌+◌, ◌^◌, ◌<◌, ◌≤◌}
use native.Mathlib.Omega.{arith}
use lib.ListN.{length, take, replicate, length-replicate}
use Rattle.algebra.specs.Lists.{Every, done, more}
use Rattle.algebra.proofs.Lists.Every.{every_head, every_append}
use Rattle.text.specs.declared.form.Form.{Form}
use Rattle.text.specs.Reading.{Counts, Front, found, bad, constant_next, line_in, widths_form, node_form, item_form, forms, Lines, right, wrong, behind, line_then, lines_in}
use Rattle.text.specs.Steps.{line_text, lines_text}
use Rattle.text.specs.Lines.{lines}
use Rattle.text.proofs.Laws.Fits.{Allowed, WordsFit, none_left, one_more, BodyFits, no_row, one_row, Limited}
use Rattle.text.proofs.Laws.Rows.{LineIs, line_read, line_is, line_first}
use Rattle.text.proofs.Laws.Split.{some_line, first_line, fields_lines}

-- ---- lines that stand for any others

-- a line of this form has a word, and there is a number for it
pub record Able (form : Form) : Type 0 where
  pub some : 1 ≤ form.count
  pub range : form.low ≤ form.high
  pub small : form.low < 2 ^ 32

lowest_allowed : (constant : Bool) (form : Form) → Able form → Allowed constant form form.low
lowest_allowed true form a = a.small
lowest_allowed false form a = (omega arith, a.range)

-- the lowest number, so many times
lowest_fit : (form : Form) → Able form → (n : ℕ) (xs : List ℕ) → WordsFit form xs (replicate n form.low)
lowest_fit form a zero xs = none_left
lowest_fit form a (suc n) xs = one_more (lowest_allowed (form.item && constant_next xs) form a) (lowest_fit form a n (xs ++ (form.low ∷ [])))

-- lines of these forms can be written
pub some_body : {fs : List Form} → Every Able fs → (ws : List ℕ) × BodyFits fs ws
some_body done = ([], no_row)
some_body (more {x = form} a t) =
    let r = some_body t in
    (replicate form.count form.low ++ r.0, one_row (length-replicate form.count form.low) (lowest_fit form a form.count []) r.1)

-- the lines of a table's text can be written
replicated : (form : Form) → Able form → (n : ℕ) → Every Able (replicate n form)
replicated form a zero = done
replicated form a (suc n) = more a (replicated form a n)

pub forms_able : (s : Counts) → Limited s → Every Able (forms s)
unfolding forms
forms_able s f = more widths (every_append (replicated node_form node s.nodes) (replicated item_form item s.items))
  where
    widths : Able (widths_form s.tables)
    widths = record { some = f.tables_some; range = omega arith; small = omega arith }

    node : Able node_form
    node = record { some = omega arith; range = omega arith; small = omega arith }

    item : Able item_form
    item = record { some = omega arith; range = omega arith; small = omega arith }

-- ---- the lines of a body

-- the words of the first line, and those behind it
pub record Cut (form : Form) (fs : List Form) (ws : List ℕ) : Type 0 where
  pub front : List ℕ
  pub back : List ℕ
  pub is : ws ≡ front ++ back
  pub many : length front ≡ form.count
  pub fit : WordsFit form [] front
  pub fits : BodyFits fs back

pub cut : {form : Form} {fs : List Form} {ws : List ℕ} → BodyFits (form ∷ fs) ws → Cut form fs ws
cut (one_row {xs} {ws = vs} n f t) = record { front = xs; back = vs; is = refl; many = n; fit = f; fits = t }

-- the first line
pub body_lines : (form : Form) (fs : List Form) (xs ws : List ℕ) → Able form → length xs ≡ form.count
    → lines (lines_text (form ∷ fs) (xs ++ ws)) ≡ line_text form.item xs ∷ lines (lines_text fs ws)
body_lines form fs xs ws a n = rw (line_first form fs xs ws n) (fields_lines form.item [] xs (lines_text fs ws) (omega (arith, a.some)))

pub cut_lines : (form : Form) (fs : List Form) (ws : List ℕ) → Able form → (c : Cut form fs ws)
    → lines (lines_text (form ∷ fs) ws) ≡ line_text form.item c.front ∷ lines (lines_text fs c.back)
cut_lines form fs ws a c = ap (λ (vs : List ℕ). lines (lines_text (form ∷ fs) vs)) c.is ∙ body_lines form fs c.front c.back a c.many

-- the lines of the bytes are those of a body up to line m, and those of none up to the line behind it
pub record Fails (fs : List Form) (bs : List ℕ) (m : ℕ) : Type 0 where
  pub body : List ℕ
  pub fits : BodyFits fs body
  pub same : take m (lines bs) ≡ take m (lines (lines_text fs body))
  pub other : (vs : List ℕ) → BodyFits fs vs → take (suc m) (lines bs) ≡ take (suc m) (lines (lines_text fs vs)) → ⊥

-- the first line is not of its form
fails_here : (form : Form) (fs : List Form) (bs : List ℕ) → Every Able (form ∷ fs) → line_in form bs ≡ bad → Fails (form ∷ fs) bs 0
fails_here form fs bs t q = let b = some_body t in record { body = b.0; fits = b.1; same = refl; other = other }
  where
    other : (vs : List ℕ) → BodyFits (form ∷ fs) vs → take 1 (lines bs) ≡ take 1 (lines (lines_text (form ∷ fs) vs)) → ⊥
    other vs f e =
        let c = cut f in
        let l = cut_lines form fs vs (every_head t) c in
        let r = first_line bs (line_text form.item c.front) (lines (lines_text fs c.back)) (rw l at e) in
        let g : line_in form bs ≡ found c.front r.0 = ap (line_in form) r.1 ∙ line_read form c.front r.0 c.many c.fit in
        let z : ◌≡◌ {A = ℕ} 0 1 = cc in
        omega arith

-- one line more in front
fails_later : (form : Form) (fs : List Form) (bs xs rest : List ℕ) (m : ℕ) → Able form → LineIs form bs xs rest → Fails fs rest m → Fails (form ∷ fs) bs (suc m)
fails_later form fs bs xs rest m a l f =
    record {
      body = xs ++ f.body;
      fits = one_row l.many l.fit f.fits;
      same = rw (here, body_lines form fs xs f.body a l.many) (ap (λ (ls : List (List ℕ)). line_text form.item xs ∷ ls) f.same);
      other = other;
    }
  where
    here : lines bs ≡ line_text form.item xs ∷ lines rest
    here = rw l.written (fields_lines form.item [] xs rest (omega (arith, a.some, l.many)))

    other : (vs : List ℕ) → BodyFits (form ∷ fs) vs → take (suc (suc m)) (lines bs) ≡ take (suc (suc m)) (lines (lines_text (form ∷ fs) vs)) → ⊥
    other vs t e =
        let c = cut t in
        let k = cut_lines form fs vs a c in
        f.other c.back c.fits (tail-eq_of_cons-eq (rw (here, k) at e))

-- bytes behind the last line
fails_behind : (b : ℕ) (bs : List ℕ) → Fails [] (b ∷ bs) 0
unfolding lines lines_text
fails_behind b bs = record { body = []; fits = no_row; same = refl; other = other }
  where
    go : (ls : List (List ℕ)) → 1 ≤ length ls → take 1 ls ≡ [] → ⊥
    go [] h e = omega arith
    go (l ∷ ls) h e = let z : ◌≡◌ {A = ℕ} 0 1 = cc in omega arith

    other : (vs : List ℕ) → BodyFits [] vs → take 1 (lines (b ∷ bs)) ≡ take 1 (lines (lines_text [] vs)) → ⊥
    other vs t e = go (lines (b ∷ bs)) (some_line b bs) e

-- ---- where reading ends

-- words in front do not change which line is wrong
behind_wrong : (xs : List ℕ) (r : Lines) (k : ℕ) → behind xs r ≡ wrong k → r ≡ wrong k
behind_wrong xs (right ws rest) k e = cc
behind_wrong xs (wrong l) k e = e

-- a line that is not of its form
pub fails_at : {fs : List Form} → Every Able fs → (l : ℕ) (bs : List ℕ) (k : ℕ) → lines_in fs l bs ≡ wrong k → (m : ℕ) × (k ≡ l + m) × Fails fs bs m
unfolding lines_in
fails_at done l bs k q = let z : ◌≡◌ {A = ℕ} 0 1 = cc in absurd (omega arith)
fails_at (more {x = form} {xs = fs} a t) l bs k q = go (line_in form bs) refl q (λ ds. fails_at t (suc l) ds k)
  where
    go : (f : Front (List ℕ)) → line_in form bs ≡ f → line_then l f (λ ds. lines_in fs (suc l) ds) ≡ wrong k
        → ((ds : List ℕ) → lines_in fs (suc l) ds ≡ wrong k → (m : ℕ) × (k ≡ suc l + m) × Fails fs ds m)
        → (m : ℕ) × (k ≡ l + m) × Fails (form ∷ fs) bs m
    go bad e h left = let d : l ≡ k = cc in (0, omega arith, fails_here form fs bs (more a t) e)
    go (found xs ds) e h left =
        let r = left ds (behind_wrong xs (lines_in fs (suc l) ds) k h) in
        (suc r.0, omega (arith, r.1), fails_later form fs bs xs ds r.0 a (line_is form bs xs ds e) r.2)

-- bytes behind the lines
pub fails_end : {fs : List Form} → Every Able fs → (l : ℕ) (bs ws : List ℕ) (b : ℕ) (rest : List ℕ) → lines_in fs l bs ≡ right ws (b ∷ rest) → Fails fs bs (length fs)
unfolding lines_in
fails_end done l bs ws b rest q = let e : bs ≡ b ∷ rest = cc in rw e (fails_behind b rest)
fails_end (more {x = form} {xs = fs} a t) l bs ws b rest q = go (line_in form bs) refl q (λ ds vs. fails_end t (suc l) ds vs b rest)
  where
    next : (xs ds : List ℕ) → line_in form bs ≡ found xs ds → (r : Lines) → lines_in fs (suc l) ds ≡ r → behind xs r ≡ right ws (b ∷ rest)
        → ((vs : List ℕ) → lines_in fs (suc l) ds ≡ right vs (b ∷ rest) → Fails fs ds (length fs)) → Fails (form ∷ fs) bs (suc (length fs))
    next xs ds e (wrong k) g h left = let z : ◌≡◌ {A = ℕ} 0 1 = cc in absurd (omega arith)
    next xs ds e (right vs left_over) g h left =
        let d : left_over ≡ b ∷ rest = cc in
        fails_later form fs bs xs ds (length fs) a (line_is form bs xs ds e) (left vs (rw d at g))

    go : (f : Front (List ℕ)) → line_in form bs ≡ f → line_then l f (λ ds. lines_in fs (suc l) ds) ≡ right ws (b ∷ rest)
        → ((ds vs : List ℕ) → lines_in fs (suc l) ds ≡ right vs (b ∷ rest) → Fails fs ds (length fs)) → Fails (form ∷ fs) bs (suc (length fs))
    go bad e h left = let z : ◌≡◌ {A = ℕ} 0 1 = cc in absurd (omega arith)
    go (found xs ds) e h left = next xs ds e (lines_in fs (suc l) ds) refl h (left ds)
