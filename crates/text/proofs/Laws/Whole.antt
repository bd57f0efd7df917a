-- The text of a table, line by line over the words behind its header.
use mathlib.Core.Path.{◌≡◌, refl, sym, ap, subst, ◌∙◌}
use mathlib.Core.Bool.{Bool, true, false, ◌&&◌}
use mathlib.Core.List.{List, [], ◌∷◌, ◌++◌, map, append_assoc, append-nil}
use Prim.Native.Nat.{ℕ, zero, suc, ◌+◌, ◌-◌, ◌*◌, ◌^◌, ◌<◌, ◌≤◌}
use native.Mathlib.Nat.{mul-suc}
use native.Mathlib.Omega.{arith}
use lib.ListN.{length, get_or, take, drop, replicate, length-append, length-drop, take-append-drop, drop_of_length-le}
use lib.Seq.{length-take-le, get_or-take, get_or-drop, drop-drop, take_at, drop_at}
use Rattle.algebra.specs.Lists.{all, each, upto, Every, done, more}
use Rattle.algebra.proofs.Lists.Every.{every_map, every_append, every_front, every_back}
use Rattle.algebra.proofs.Lists.Keep.{map_map}
use Rattle.plan.specs.Words.{Item, word, tables, nodes, items, table_width, item_at}
use Rattle.plan.specs.Items.{between}
use Rattle.plan.specs.Verdict.{header_right, limits_right}
use Rattle.plan.proofs.Laws.Loops.{all_of}
use Rattle.plan.proofs.Laws.Header.{header_says, header_last, between_holds, between_says, widths_right, widths_mapped, limits_say, limits_last}
use Rattle.plan.proofs.Laws.Numbered.{upto_first, numbered, every_all}
use Rattle.plan.proofs.Laws.Written.{item_words}
use Rattle.text.specs.declared.form.Form.{Form}
use Rattle.text.specs.Reading.{Counts, constant_next, widths_form, node_form, item_form, forms, header}
use Rattle.text.specs.Numbers.{decimal}
use Rattle.text.specs.Text.{line, item_line, node_line, text_of}
use Rattle.text.specs.Lines.{Table}
use Rattle.text.specs.Steps.{fields_text, line_text, lines_text}
use Rattle.text.proofs.Laws.Forms.{total, total_more}
use Rattle.text.proofs.Laws.Fits.{Allowed, WordsFit, none_left, one_more, BodyFits, no_row, one_row, Limited, sizes_of}

-- ---- a line

-- a line of numbers, behind any words
line_behind : (xs : List ℕ) (w : ℕ) (ws : List ℕ) → line (map decimal (w ∷ ws)) ≡ fields_text false xs (w ∷ ws)
unfolding line fields_text
line_behind xs w [] = refl
line_behind xs w (v ∷ ws) = ap (λ (l : List ℕ). decimal w ++ (32 ∷ l)) (line_behind (xs ++ (w ∷ [])) v ws)

-- a line of numbers is the text of its words
pub line_text_lem : (x : ℕ) (xs : List ℕ) → line (map decimal (x ∷ xs)) ≡ line_text false (x ∷ xs)
line_text_lem x xs = line_behind [] x xs

-- the line of an item is the text of its seven words
pub item_text : (x : Item) → item_line x ≡ line_text true (item_words x)
unfolding line fields_text constant_next
item_text x = refl

-- the same of as many words as are there
line_texts : (xs : List ℕ) → 1 ≤ length xs → line (map decimal xs) ≡ line_text false xs
line_texts [] h = absurd (omega arith)
line_texts (x ∷ xs) h = line_text_lem x xs

-- ---- words at a place

-- n words from word a on
pub words_at : (ws : List ℕ) (a n : ℕ) → a + n ≤ length ws → map (λ k. word ws (a + k)) (upto n) ≡ take n (drop a ws)
unfolding word
words_at ws a n h =
    subst (λ (m : ℕ). map (λ k. get_or ws (a + k) 0) (upto m) ≡ part) long
    (numbered (λ k. get_or ws (a + k) 0) part 0 (λ i l. sym (get_or-take n (drop a ws) i 0 (omega (arith, long)) ∙ get_or-drop a ws i 0)))
  where
    part : List ℕ
    part = take n (drop a ws)

    long : length part ≡ n
    long = length-take-le n (drop a ws) (omega (arith, length-drop a ws))

-- ---- lines

-- behind one line more
drop_more : (c j : ℕ) (vs : List ℕ) → drop (c * suc j) vs ≡ drop (c * j) (drop c vs)
drop_more c j vs = let p : c * suc j ≡ c + c * j = omega (arith, mul-suc c j) in rw p (sym (drop-drop (c * j) c vs))

-- what each of many gives, where those are worked out of others
each_map : {A B : Type 0} (f : B → List ℕ) (g : A → B) (xs : List A) → each f (map g xs) ≡ each (λ x. f (g x)) xs
each_map f g [] = refl
each_map f g (x ∷ xs) = ap (λ (l : List ℕ). f (g x) ++ l) (each_map f g xs)

-- n lines of one form, and lines of other forms behind them
lines_each : (form : Form) (fs : List Form) (n : ℕ) (f : ℕ → List ℕ) (vs : List ℕ)
    → ((j : ℕ) → j < n → f j ≡ line_text form.item (take form.count (drop (form.count * j) vs)))
    → each f (upto n) ++ lines_text fs (drop (form.count * n) vs) ≡ lines_text (replicate n form ++ fs) vs
unfolding lines_text
lines_each form fs zero f vs h = let p : form.count * 0 ≡ 0 = omega arith in rw p
lines_each form fs (suc n) f vs h =
    ap (λ (l : List ℕ). each f l ++ lines_text fs (drop (c * suc n) vs)) (upto_first n)
    ∙ ap (λ (l : List ℕ). f 0 ++ l ++ lines_text fs (drop (c * suc n) vs)) (each_map f suc (upto n))
    ∙ append_assoc (f 0) (each (λ j. f (suc j)) (upto n)) (lines_text fs (drop (c * suc n) vs))
    ∙ (λ i. first i ++ (each (λ j. f (suc j)) (upto n) ++ lines_text fs (drop_more c n vs i)))
    ∙ ap (λ (l : List ℕ). line_text form.item (take c vs) ++ l) (lines_each form fs n (λ j. f (suc j)) (drop c vs) later)
  where
    c : ℕ
    c = form.count

    first : f 0 ≡ line_text form.item (take c vs)
    first =
        let p : c * 0 ≡ 0 = omega arith in
        h 0 (omega arith) ∙ ap (λ (k : ℕ). line_text form.item (take c (drop k vs))) p

    later : (j : ℕ) → j < n → f (suc j) ≡ line_text form.item (take c (drop (c * j) (drop c vs)))
    later j l = h (suc j) (omega arith) ∙ ap (λ (v : List ℕ). line_text form.item (take c v)) (drop_more c j vs)

-- ---- the text of a table

module _ (ws : List ℕ) (e : header_right ws ≡ true) (g : limits_right ws ≡ true) where
  -- the words of the nodes and items
  behind_widths : List ℕ
  behind_widths = drop (tables ws) (drop 8 ws)

  -- the line of the widths
  widths_line_lem : line (map (λ t. decimal (table_width ws t)) (upto (tables ws))) ≡ line_text false (take (tables ws) (drop 8 ws))
  widths_line_lem =
      let d = header_says ws e in
      let m = limits_say ws g in
      let long : length (take (tables ws) (drop 8 ws)) ≡ tables ws = length-take-le (tables ws) (drop 8 ws) (omega (arith, length-drop 8 ws)) in
      ap line (sym (map_map decimal (table_width ws) (upto (tables ws))) ∙ ap (map decimal) (words_at ws 8 (tables ws) (omega arith)))
      ∙ line_texts (take (tables ws) (drop 8 ws)) (omega arith)

  -- the line of a node
  node_line_lem : (n : ℕ) → n < nodes ws → node_line ws n ≡ line_text false (take 6 (drop (6 * n) behind_widths))
  unfolding behind_widths
  node_line_lem n h =
      let d = header_says ws e in
      let a : ℕ = 8 + tables ws + 6 * n in
      line_text_lem (word ws (a + 0)) (word ws (a + 1) ∷ word ws (a + 2) ∷ word ws (a + 3) ∷ word ws (a + 4) ∷ word ws (a + 5) ∷ [])
      ∙ ap (line_text false) (words_at ws a 6 (omega arith))
      ∙ ap (λ (v : List ℕ). line_text false (take 6 v)) (sym (drop-drop (6 * n) (8 + tables ws) ws) ∙ ap (drop (6 * n)) (sym (drop-drop (tables ws) 8 ws)))

  -- the line of an item
  item_line_lem : (j : ℕ) → j < items ws → item_line (item_at ws j) ≡ line_text true (take 7 (drop (7 * j) (drop (6 * nodes ws) behind_widths)))
  unfolding behind_widths
  item_line_lem j h =
      let d = header_says ws e in
      let a : ℕ = 8 + tables ws + 6 * nodes ws in
      let back : drop a ws ≡ drop (6 * nodes ws) (drop (tables ws) (drop 8 ws)) =
      sym (drop-drop (6 * nodes ws) (8 + tables ws) ws) ∙ ap (drop (6 * nodes ws)) (sym (drop-drop (tables ws) 8 ws)) in
      item_text (item_at ws j)
      ∙ ap (line_text true) (words_at ws (a + 7 * j) 7 (omega arith))
      ∙ ap (λ (v : List ℕ). line_text true (take 7 v)) (sym (drop-drop (7 * j) a ws) ∙ ap (drop (7 * j)) back)

  -- the lines of the nodes and items
  lines_behind : each (node_line ws) (upto (nodes ws)) ++ each (λ j. item_line (item_at ws j)) (upto (items ws))
      ≡ lines_text (replicate (nodes ws) node_form ++ replicate (items ws) item_form) behind_widths
  unfolding lines_text
  lines_behind =
      ap (λ (l : List ℕ). each (node_line ws) (upto (nodes ws)) ++ l)
      (sym (append-nil (each (λ j. item_line (item_at ws j)) (upto (items ws))))
      ∙ lines_each item_form [] (items ws) (λ j. item_line (item_at ws j)) (drop (6 * nodes ws) behind_widths) item_line_lem
      ∙ ap (λ (fs : List Form). lines_text fs (drop (6 * nodes ws) behind_widths)) (append-nil (replicate (items ws) item_form)))
      ∙ lines_each node_form (replicate (items ws) item_form) (nodes ws) (node_line ws) behind_widths node_line_lem

  -- the text is the first line and the lines of the words behind the header
  pub text_of_lem : text_of ws ≡ line_text false (tables ws ∷ nodes ws ∷ items ws ∷ []) ++ lines_text (forms (sizes_of ws)) (drop 8 ws)
  unfolding text_of forms lines_text behind_widths
  text_of_lem = λ i. line_text_lem (tables ws) (nodes ws ∷ items ws ∷ []) i ++ (widths_line_lem i ++ lines_behind i)

-- ---- the header and the limits

-- a table is its header and the words behind it
pub whole : (ws : List ℕ) → header_right ws ≡ true → ws ≡ header (sizes_of ws) ++ drop 8 ws
whole ws e =
    let d = header_says ws e in
    let front : word ws 0 ∷ tables ws ∷ word ws 2 ∷ nodes ws ∷ word ws 4 ∷ items ws ∷ word ws 6 ∷ word ws 7 ∷ [] ≡ take 8 ws = words_at ws 0 8 (omega arith) in
    let same : word ws 0 ∷ tables ws ∷ word ws 2 ∷ nodes ws ∷ word ws 4 ∷ items ws ∷ word ws 6 ∷ word ws 7 ∷ [] ≡ header (sizes_of ws) =
    λ i. d.whole i ∷ tables ws ∷ d.widths_offset i ∷ nodes ws ∷ d.nodes_offset i ∷ items ws ∷ d.items_offset i ∷ d.last i ∷ [] in
    sym (take-append-drop 8 ws) ∙ ap (λ (l : List ℕ). l ++ drop 8 ws) (sym front ∙ same)

-- its sizes are within their limits
pub limited_sizes : (ws : List ℕ) → limits_right ws ≡ true → Limited (sizes_of ws)
limited_sizes ws g =
    let m = limits_say ws g in
    record {
      tables_some = m.tables_some;
      tables_few = m.tables_few;
      nodes_some = m.nodes_some;
      nodes_few = m.nodes_few;
      items_few = m.items_few;
    }

-- ---- the words of a table fit their lines

-- a u32 word
abbrev pub Small : ℕ → Type 0
Small w = w < 2 ^ 32

-- what every word is, those in front are
every_take : {P : ℕ → Type 0} (n : ℕ) (ws : List ℕ) → Every P ws → Every P (take n ws)
every_take {P} n ws t = every_front (take n ws) (drop n ws) (subst (Every P) (sym (take-append-drop n ws)) t)

-- and those behind them
every_drop : {P : ℕ → Type 0} (n : ℕ) (ws : List ℕ) → Every P ws → Every P (drop n ws)
every_drop {P} n ws t = every_back (take n ws) (drop n ws) (subst (Every P) (sym (take-append-drop n ws)) t)

-- a u32 word within its line's range is allowed, as a constant or not
allowed : (b : Bool) (form : Form) (w : ℕ) → (form.low ≤ w) × (w ≤ form.high) → Small w → Allowed b form w
allowed true form w r h = h
allowed false form w r h = r

-- u32 words within their line's range fit it, behind any words
words_fit : (form : Form) {ws : List ℕ} → Every (λ w. (form.low ≤ w) × (w ≤ form.high)) ws → Every Small ws → (xs : List ℕ) → WordsFit form xs ws
words_fit form done s xs = none_left
words_fit form (more {x = w} r t) (more h s) xs = one_more (allowed (form.item && constant_next xs) form w r h) (words_fit form t s (xs ++ (w ∷ [])))

-- u32 words one behind the other fit lines whose numbers are any u32 words
lines_fit : (form : Form) → ((w : ℕ) → Small w → (form.low ≤ w) × (w ≤ form.high)) → (fs : List Form) (n : ℕ) (vs : List ℕ) → Every Small vs
    → form.count * n ≤ length vs → BodyFits fs (drop (form.count * n) vs) → BodyFits (replicate n form ++ fs) vs
lines_fit form r fs zero vs s h b = let p : form.count * 0 ≡ 0 = omega arith in rw p at b
lines_fit form r fs (suc n) vs s h b =
    let c : ℕ = form.count in
    let p : c * suc n ≡ c + c * n = omega (arith, mul-suc c n) in
    let front : Every Small (take c vs) = every_take c vs s in
    subst (BodyFits (form ∷ (replicate n form ++ fs))) (take-append-drop c vs)
    (one_row (length-take-le c vs (omega arith)) (words_fit form (every_map r front) front [])
    (lines_fit form r fs n (drop c vs) (every_drop c vs s) (omega (arith, length-drop c vs)) (rw (drop_more c n vs) at b)))

-- the words behind the header fit the lines
pub body_fits : (ws : List ℕ) → Table ws → BodyFits (forms (sizes_of ws)) (drop 8 ws)
unfolding forms
body_fits ws t =
    let d = header_says ws t.header in
    subst (BodyFits (forms (sizes_of ws))) (take-append-drop T vs)
    (one_row (length-take-le T vs (omega (arith, length-drop 8 ws))) (words_fit (widths_form T) widths (every_take T vs small) [])
    (lines_fit node_form any (replicate I item_form) N (drop T vs) (every_drop T vs small) (omega (arith, length-drop 8 ws, length-drop T vs))
    (rw append-nil at (lines_fit item_form any [] I (drop (6 * N) (drop T vs)) (every_drop (6 * N) (drop T vs) (every_drop T vs small)) (omega (arith, long)) ended))))
  where
    T : ℕ
    T = tables ws

    N : ℕ
    N = nodes ws

    I : ℕ
    I = items ws

    vs : List ℕ
    vs = drop 8 ws

    small : Every Small vs
    small = every_drop 8 ws t.small

    any : (w : ℕ) → Small w → (0 ≤ w) × (w ≤ 2 ^ 32 - 1)
    any w h = omega arith

    long : length (drop (6 * N) (drop T vs)) ≡ 7 * I
    long = let d = header_says ws t.header in omega (arith, length-drop 8 ws, length-drop T vs, length-drop (6 * N) (drop T vs))

    ended : BodyFits [] (drop (7 * I) (drop (6 * N) (drop T vs)))
    ended = rw (drop_of_length-le (drop (6 * N) (drop T vs)) {i = 7 * I} (omega (arith, long))) no_row

    widths : Every (λ w. (1 ≤ w) × (w ≤ 64)) (take T vs)
    widths =
        let d = header_says ws t.header in
        every_map (λ w. between_says 1 64 w)
        (every_all (between 1 64) (take T vs)
        (ap (all (between 1 64)) (sym (words_at ws 8 T (omega arith))) ∙ widths_mapped ws T ∙ (limits_say ws t.limits).widths))

-- ---- words that fit their lines are a table's

-- words that fit their lines are as many
fitting_length : {fs : List Form} {ws : List ℕ} → BodyFits fs ws → length ws ≡ total fs
unfolding total
fitting_length no_row = refl
fitting_length (one_row {xs = xs} {ws = ws} e w b) = omega (arith, length-append xs ws, fitting_length b)

-- what is allowed is a u32 word where the line's range is
allowed_small : (b : Bool) (form : Form) (w : ℕ) → Small form.high → Allowed b form w → Small w
allowed_small true form w h a = a
allowed_small false form w h a = omega arith

-- and so are all words of such lines
pub fitting_small : (form : Form) → Small form.high → {xs ws : List ℕ} → WordsFit form xs ws → Every Small ws
fitting_small form h none_left = done
fitting_small form h (one_more {xs = xs} {w = w} a f) = more (allowed_small (form.item && constant_next xs) form w h a) (fitting_small form h f)

lines_small : {fs : List Form} {ws : List ℕ} → Every (λ form. Small form.high) fs → BodyFits fs ws → Every Small ws
lines_small t no_row = done
lines_small (more h t) (one_row {form = form} e w b) = every_append (fitting_small form h w) (lines_small t b)

-- what holds of one element holds of it many times
every_replicate : {A : Type 0} {P : A → Type 0} (x : A) → P x → (n : ℕ) → Every P (replicate n x)
every_replicate x h zero = done
every_replicate x h (suc n) = more h (every_replicate x h n)

-- where a line has no constants every word is within its range
pub fitting_range : (form : Form) → form.item ≡ false → {xs ws : List ℕ} → WordsFit form xs ws → Every (λ w. (form.low ≤ w) × (w ≤ form.high)) ws
fitting_range form e none_left = done
fitting_range form e (one_more {xs = xs} {w = w} a f) =
    more (subst (λ (b : Bool). Allowed (b && constant_next xs) form w) e a) (fitting_range form e f)

-- the words of the first line
pub first_fits : {form : Form} {fs : List Form} {vs : List ℕ} → BodyFits (form ∷ fs) vs
    → (length (take form.count vs) ≡ form.count) × WordsFit form [] (take form.count vs) × BodyFits fs (drop form.count vs)
first_fits {form} {fs} (one_row {xs = xs} {ws = ws} e w b) =
    let p : take form.count (xs ++ ws) ≡ xs = take_at xs ws form.count e in
    (ap length p ∙ e, subst (WordsFit form []) (sym p) w, subst (BodyFits fs) (sym (drop_at xs ws form.count e)) b)

-- a header in front of words that fit the lines it says makes a table
pub table_of : (s : Counts) (body : List ℕ) → Limited s → BodyFits (forms s) body → Table (header s ++ body)
unfolding word forms total
table_of s body m b = record {
  small = every_append words_small (lines_small forms_small b);
  header = sym (header_last table (omega arith) (sym long) refl refl refl refl 0 refl);
  limits = sym (limits_last table m.tables_some m.tables_few m.nodes_some m.nodes_few m.items_few T refl true (sym widths));
}
  where
    T : ℕ
    T = s.tables

    N : ℕ
    N = s.nodes

    I : ℕ
    I = s.items

    table : List ℕ
    table = header s ++ body

    long : length table ≡ 8 + T + 6 * N + 7 * I
    long =
        let last : total (replicate I item_form) ≡ 7 * I =
        ap total (sym (append-nil (replicate I item_form))) ∙ total_more item_form I [] ∙ omega arith in
        omega (arith, fitting_length b, total_more node_form N (replicate I item_form))

    words_small : Every Small (header s)
    words_small =
        more {x = 8 + T + 6 * N + 7 * I} (omega arith)
        (more {x = T} (omega arith)
        (more {x = 8} (omega arith)
        (more {x = N} (omega arith)
        (more {x = 8 + T} (omega arith)
        (more {x = I} (omega arith) (more {x = 8 + T + 6 * N} (omega arith) (more {x = 0} (omega arith) done)))))))

    forms_small : Every (λ form. Small form.high) (forms s)
    forms_small = more {x = widths_form T} (omega arith) (every_append (every_replicate node_form (omega arith) N) (every_replicate item_form (omega arith) I))

    widths : widths_right table T ≡ true
    widths =
        let f = first_fits b in
        sym (widths_mapped table T)
        ∙ ap (all (between 1 64)) (words_at table 8 T (omega (arith, long)))
        ∙ all_of (between 1 64) (every_map (λ w (h : (1 ≤ w) × (w ≤ 64)). between_holds 1 64 w h.0 h.1) (fitting_range (widths_form T) refl f.1))
