-- The longest text of a table: 12 bytes for the first line, 48 for the widths, 66 for each node, 77 for each item.
use mathlib.Core.Path.{◌≡◌, refl, ap, subst, ◌∙◌}
use mathlib.Core.Bool.{Bool, true, false}
use mathlib.Core.List.{List, [], ◌∷◌, ◌++◌, map, append-nil}
use Prim.Native.Nat.{ℕ, zero, suc, ◌+◌, ◌-◌, ◌*◌, ◌^◌, ◌<◌, ◌≤◌}
use native.Mathlib.Nat.{mul-suc}
use native.Mathlib.Omega.{arith}
use lib.Dec.{ltb, eqb}
use lib.ListN.{length, get_or, take, drop, replicate, length-append}
use borrow.Author.Tests.{ltb-false, eqb-true}
use Rattle.algebra.specs.Lists.{upto, Every, done, more}
use Rattle.algebra.proofs.Lists.Every.{every_map, every_in}
use Rattle.plan.specs.Words.{tables, nodes, items}
use Rattle.plan.proofs.Laws.Header.{limits_say}
use Rattle.plan.proofs.Laws.Numbered.{numbered}
use Rattle.text.specs.declared.form.Form.{Form}
use Rattle.text.specs.Numbers.{decimal, signed}
use Rattle.text.specs.Text.{text_of}
use Rattle.text.specs.Reading.{constant_next, widths_form, node_form, item_form, forms}
use Rattle.text.specs.Lines.{Table}
use Rattle.text.specs.Steps.{number, fields_text, line_text, lines_text}
use Rattle.text.proofs.Laws.Fits.{WordsFit, BodyFits}
use Rattle.text.proofs.Laws.Decimal.{decimal_digit, decimal_short, decimal_two, decimal_three, decimal_four}
use Rattle.text.proofs.Laws.Whole.{Small, text_of_lem, body_fits, first_fits, fitting_small, fitting_range}

-- ---- a line

-- a line of numbers of at most so many digits, with a byte behind each
numbers_few : (most : ℕ) {ws : List ℕ} → Every (λ w. length (decimal w) ≤ most) ws → (xs : List ℕ) → length (fields_text false xs ws) ≤ (most + 1) * length ws
unfolding fields_text
numbers_few most done xs = omega arith
numbers_few most (more {x = w} {xs = ws} h t) xs =
    let r = numbers_few most t (xs ++ (w ∷ [])) in
    rw (length-append, mul-suc) (omega arith)

-- the first line
head_few : (t n i : ℕ) → t ≤ 16 → n ≤ 256 → i ≤ 2000 → length (line_text false (t ∷ n ∷ i ∷ [])) ≤ 12
unfolding fields_text
head_few t n i a b c = simp length-append (omega (arith, decimal_two t (omega arith), decimal_three n (omega arith), decimal_four i (omega arith)))

-- the line of the widths
widths_few : (t : ℕ) (xs : List ℕ) → length xs ≡ t → t ≤ 16 → WordsFit (widths_form t) [] xs → length (line_text false xs) ≤ 48
widths_few t xs e l f =
    let r = numbers_few 2 (every_map (λ w (h : (1 ≤ w) × (w ≤ 64)). decimal_two w (omega arith)) (fitting_range (widths_form t) refl f)) [] in
    omega arith

-- the line of a node
node_few : (xs : List ℕ) → length xs ≡ 6 → WordsFit node_form [] xs → length (line_text false xs) ≤ 66
node_few xs e f =
    let r = numbers_few 10 (every_map (λ w (h : Small w). decimal_short w h) (fitting_small node_form (omega arith) f)) [] in
    omega arith

-- a constant
signed_few : (w : ℕ) → Small w → length (signed w) ≤ 11
unfolding signed
signed_few w h = go (ltb w (2 ^ 31)) refl
  where
    go : (b : Bool) → ltb w (2 ^ 31) ≡ b → length (signed w) ≤ 11
    go true e = rw e (omega (arith, decimal_short w h))
    go false e = rw e (omega (arith, decimal_short (2 ^ 32 - w) (omega (arith, ltb-false w (2 ^ 31) e))))

-- the code and the value of a term together
term_few : (code w : ℕ) → Small code → Small w → length (decimal code) + length (number (eqb code 2) w) ≤ 20
term_few code w g h = go (eqb code 2) refl
  where
    go : (b : Bool) → eqb code 2 ≡ b → length (decimal code) + length (number b w) ≤ 20
    go true e = omega (arith, ap (λ (c : ℕ). length (decimal c)) (eqb-true code 2 e) ∙ ap length (decimal_digit 2 (omega arith)), signed_few w h)
    go false e = omega (arith, decimal_short code g, decimal_short w h)

-- the line of an item, by its seven words
seven_few : (a b c d e f g : ℕ) → Small a → Small b → Small c → Small d → Small e → Small f → Small g
    → length (line_text true (a ∷ b ∷ c ∷ d ∷ e ∷ f ∷ g ∷ [])) ≤ 77
unfolding fields_text constant_next
seven_few a b c d e f g ha hb hc hd he hf hg =
    simp length-append (omega (arith, decimal_short a ha, term_few b d hb hd, decimal_short c hc, term_few e g he hg, decimal_short f hf))

-- seven words are their first to their seventh
seven : (xs : List ℕ) → length xs ≡ 7 → get_or xs 0 0 ∷ get_or xs 1 0 ∷ get_or xs 2 0 ∷ get_or xs 3 0 ∷ get_or xs 4 0 ∷ get_or xs 5 0 ∷ get_or xs 6 0 ∷ [] ≡ xs
seven xs e = subst (λ (n : ℕ). map (λ k. get_or xs k 0) (upto n) ≡ xs) e (numbered (λ k. get_or xs k 0) xs 0 (λ i l. refl))

-- the line of an item
item_few : (xs : List ℕ) → length xs ≡ 7 → WordsFit item_form [] xs → length (line_text true xs) ≤ 77
item_few xs e f =
    subst (λ (l : List ℕ). length (line_text true l) ≤ 77) (seven xs e)
    (seven_few _ _ _ _ _ _ _ (at 0 (omega arith)) (at 1 (omega arith)) (at 2 (omega arith)) (at 3 (omega arith)) (at 4 (omega arith)) (at 5 (omega arith)) (at 6 (omega arith)))
  where
    at : (i : ℕ) → i < 7 → Small (get_or xs i 0)
    at i l = every_in {P = Small} 0 (fitting_small item_form (omega arith) f) i (omega arith)

-- ---- all lines

-- n lines of one form, and the lines behind them
module _ (form : Form) (most : ℕ) (few : (xs : List ℕ) → length xs ≡ form.count → WordsFit form [] xs → length (line_text form.item xs) ≤ most)
    (fs : List Form) (rest : ℕ) (others : (vs : List ℕ) → BodyFits fs vs → length (lines_text fs vs) ≤ rest) where
  lines_few : (n : ℕ) (vs : List ℕ) → BodyFits (replicate n form ++ fs) vs → length (lines_text (replicate n form ++ fs) vs) ≤ most * n + rest
  unfolding lines_text
  lines_few zero vs b = omega (arith, others vs b)
  lines_few (suc n) vs b =
      let f = first_fits b in
      let h = few (take form.count vs) f.0 f.1 in
      let t = lines_few n (drop form.count vs) f.2 in
      rw length-append (omega (arith, mul-suc most n))

-- no line
none_few : (vs : List ℕ) → BodyFits [] vs → length (lines_text [] vs) ≤ 0
unfolding lines_text
none_few vs b = omega arith

-- the lines of the items
items_few : (n : ℕ) (vs : List ℕ) → BodyFits (replicate n item_form) vs → length (lines_text (replicate n item_form) vs) ≤ 77 * n
items_few n vs b =
    let p : replicate n item_form ++ [] ≡ replicate n item_form = append-nil (replicate n item_form) in
    let h : length (lines_text (replicate n item_form ++ []) vs) ≤ 77 * n + 0 = lines_few item_form 77 item_few [] 0 none_few n vs (rw p b) in
    omega (arith, rw p at h)

-- the text of a table has at most so many bytes
pub longest : (ws : List ℕ) → Table ws → length (text_of ws) ≤ 170956
unfolding forms lines_text
longest ws t =
    let m = limits_say ws t.limits in
    let T : ℕ = tables ws in
    let vs : List ℕ = drop 8 ws in
    let f = first_fits (body_fits ws t) in
    let h = head_few T (nodes ws) (items ws) m.tables_few m.nodes_few m.items_few in
    let w = widths_few T (take T vs) f.0 m.tables_few f.1 in
    let n = lines_few node_form 66 node_few (replicate (items ws) item_form) (77 * items ws) (items_few (items ws)) (nodes ws) (drop T vs) f.2 in
    rw (text_of_lem ws t.header t.limits) (simp length-append (omega arith))
