-- Lines written to a slice, number by number and line by line.
use mathlib.Core.Path.{◌≡◌, refl, sym, ap, ◌∙◌}
use mathlib.Core.Bool.{Bool, true, false, cond, ◌&&◌, ◌||◌}
use mathlib.Core.List.{List, [], ◌∷◌, ◌++◌, append_assoc}
use Prim.Native.Nat.{ℕ, suc, ◌+◌, ◌-◌, ◌*◌, ◌<◌, ◌≤◌}
use native.Mathlib.Omega.{arith}
use native.Mathlib.Numerals.{add-one}
use borrow.Author.Tests.{eqb-true, eqb-false}
use lib.Dec.{eqb}
use lib.ListN.{length, get_or, take, drop, set, length-drop, drop_of_length-le}
use lib.Seq.{length-take-le, take-suc, drop-cons, get_or-take, drop-drop}
use Rattle.algebra.specs.Lists.{is_empty}
use Rattle.text.specs.declared.form.Form.{Form}
use Rattle.text.specs.Reading.{Counts, constant_next, node_form, forms}
use Rattle.text.specs.Steps.{number, fields_text, line_text, lines_text, WrittenTo}
use Rattle.text.proofs.Laws.Forms.{total, total_forms, forms_count, form_next, narrow_form, constant_here}
use Rattle.text.proofs.Laws.Writing.{Part, part_none, part_more, part_all, written_both, written_byte}

-- ---- a number of a line

-- no word is left behind the last
left_behind : (row : List ℕ) (j : ℕ) → j < length row → is_empty (drop (suc j) row) ≡ eqb (j + 1) (length row)
left_behind row j h = go (eqb (j + 1) (length row)) refl
  where
    go : (b : Bool) → eqb (j + 1) (length row) ≡ b → is_empty (drop (suc j) row) ≡ b
    go true q = let p = eqb-true (j + 1) (length row) q in ap is_empty (drop_of_length-le row {i = suc j} (omega arith))
    go false q =
        let l : suc j < length row = omega (arith, eqb-false (j + 1) (length row) q) in
        ap is_empty (drop-cons row (suc j) 0 l)

-- the words just before place j of a row
pub record Before (row : List ℕ) (j last before : ℕ) : Type 0 where
  pub one : 1 ≤ j → last ≡ get_or row (j - 1) 0
  pub two : 2 ≤ j → before ≡ get_or row (j - 2) 0

before_more : (row : List ℕ) (j last before w : ℕ) → w ≡ get_or row j 0 → Before row j last before → Before row (j + 1) w last
before_more row j last before w e b =
    let p : j + 1 - 1 ≡ j = omega arith in
    let q : j + 1 - 2 ≡ j - 1 = omega arith in
    record { one = λ h. rw p e; two = λ h. rw q (b.one (omega arith)) }

-- whether the word at place j is a constant
constant_at : (row : List ℕ) (j last before : ℕ) → j ≤ length row → Before row j last before → constant_next (take j row) ≡ ((eqb j 3 || eqb j 6) && eqb before 2)
constant_at row j last before h b =
    constant_here (take j row) j before (length-take-le j row h) (λ l. b.two l ∙ sym (get_or-take j row (j - 2) 0 (omega arith)))

-- the words of a line from place j on: that one, the byte behind it, and the others
fields_next : (item : Bool) (row : List ℕ) (j w : ℕ) → j < length row → w ≡ get_or row j 0
    → fields_text item (take j row) (drop j row)
    ≡ (number (item && constant_next (take j row)) w ++ (cond (eqb (j + 1) (length row)) 10 32 ∷ [])) ++ fields_text item (take (j + 1) row) (drop (j + 1) row)
unfolding fields_text
fields_next item row j w h e =
    ap (fields_text item (take j row)) (drop-cons row j 0 h)
    ∙ (λ i. number (item && constant_next (take j row)) (sym e i) ++ (cond (left_behind row j h i) 10 32 ∷ fields_text item (sym (take-suc row j 0 h) i) (drop (suc j) row)))
    ∙ ap (λ (k : ℕ). number (item && constant_next (take j row)) w ++ (end ∷ fields_text item (take k row) (drop k row))) (sym (add-one j))
    ∙ sym (append_assoc (number (item && constant_next (take j row)) w) (end ∷ []) (fields_text item (take (j + 1) row) (drop (j + 1) row)))
  where
    end : ℕ
    end = cond (eqb (j + 1) (length row)) 10 32

-- ---- a line

-- a line written up to its word j
pub record Upto (item : Bool) (row entry : List ℕ) (at : ℕ) (now : List ℕ) (j next last before : ℕ) : Type 0 where
  pub part : Part (line_text item row) (fields_text item (take j row) (drop j row)) entry at now next
  pub words : Before row j last before

pub line_more : (item : Bool) (row entry : List ℕ) (at : ℕ) (now : List ℕ) (j next last before w : ℕ) (constant : Bool) (middle : List ℕ) (n b : ℕ) (exit : List ℕ)
    → j < length row → w ≡ get_or row j 0 → constant ≡ (item && ((eqb j 3 || eqb j 6) && eqb before 2)) → b ≡ cond (eqb (j + 1) (length row)) 10 32
    → Upto item row entry at now j next last before → WrittenTo now next (number constant w) middle n → exit ≡ set middle n b
    → Upto item row entry at exit (j + 1) (n + 1) w last
line_more item row entry at now j next last before w constant middle n b exit h e k d u f s =
    let here : Bool = item && constant_next (take j row) in
    let end : ℕ = cond (eqb (j + 1) (length row)) 10 32 in
    let p : constant ≡ here = k ∙ ap (λ (t : Bool). item && t) (sym (constant_at row j last before (omega arith) u.words)) in
    let one : WrittenTo now next (number here w) middle n = rw p at f in
    let both : WrittenTo now next (number here w ++ (end ∷ [])) exit (n + 1) =
    written_both now next (number here w) middle n (end ∷ []) exit (n + 1) one (written_byte middle n end exit (s ∙ ap (set middle n) d)) in
    record {
      part = part_more (number here w ++ (end ∷ [])) (fields_text item (take (j + 1) row) (drop (j + 1) row)) exit (n + 1) u.part (fields_next item row j w h e) both;
      words = before_more row j last before w e u.words;
    }

pub line_all : (item : Bool) (row entry : List ℕ) (at : ℕ) (now : List ℕ) (j next last before : ℕ) → length row ≤ j
    → Upto item row entry at now j next last before → WrittenTo entry at (line_text item row) now next
unfolding fields_text
line_all item row entry at now j next last before h u = part_all u.part (rw (drop_of_length-le row {i = j} h))

-- ---- the lines behind the first

-- lines written up to line k, whose words begin at word from
pub record Lined (s : Counts) (ws entry : List ℕ) (at : ℕ) (now : List ℕ) (k next from : ℕ) : Type 0 where
  pub part : Part (lines_text (forms s) (drop 8 ws)) (lines_text (drop k (forms s)) (drop from ws)) entry at now next
  pub room : from + total (drop k (forms s)) ≤ length ws

pub lines_none : (s : Counts) (ws entry : List ℕ) (at : ℕ) → 8 + s.tables + 6 * s.nodes + 7 * s.items ≤ length ws → Lined s ws entry at entry 0 at 8
lines_none s ws entry at h = record { part = part_none (lines_text (forms s) (drop 8 ws)) entry at; room = omega (arith, total_forms s) }

-- line k: its words are there, they are few, and it is written
module _ (s : Counts) (ws entry : List ℕ) (at : ℕ) (now : List ℕ) (k next from : ℕ) (form : Form)
    (h : k < 1 + s.nodes + s.items) (e : form ≡ get_or (forms s) k node_form) (l : Lined s ws entry at now k next from) where
  -- the forms from line k on
  those : drop k (forms s) ≡ form ∷ drop (k + 1) (forms s)
  those = form_next s k form e h

  pub lines_room : from + form.count ≤ length ws
  unfolding total
  lines_room = omega (arith, l.room, ap total those)

  pub lines_narrow : s.tables ≤ 16 → length (take (from + form.count - from) (drop from ws)) ≤ 16
  lines_narrow t =
      let n : from + form.count - from ≤ length (drop from ws) = omega (arith, lines_room, length-drop from ws) in
      omega (arith, length-take-le (from + form.count - from) (drop from ws) n, narrow_form s t k form e h)

  pub lines_more : (exit : List ℕ) (r : ℕ) → WrittenTo now next (line_text form.item (take (from + form.count - from) (drop from ws))) exit r → Lined s ws entry at exit (k + 1) r (from + form.count)
  unfolding total lines_text
  lines_more exit r f =
      let fs : List Form = drop (k + 1) (forms s) in
      let c : from + form.count - from ≡ form.count = omega arith in
      let g : WrittenTo now next (line_text form.item (take form.count (drop from ws))) exit r = rw c at f in
      let left : lines_text (drop k (forms s)) (drop from ws) ≡ line_text form.item (take form.count (drop from ws)) ++ lines_text fs (drop (from + form.count) ws) =
      ap (λ (gs : List Form). lines_text gs (drop from ws)) those
      ∙ ap (λ (vs : List ℕ). line_text form.item (take form.count (drop from ws)) ++ lines_text fs vs) (drop-drop form.count from ws) in
      record {
        part = part_more (line_text form.item (take form.count (drop from ws))) (lines_text fs (drop (from + form.count) ws)) exit r l.part left g;
        room = omega (arith, l.room, ap total those);
      }

pub lines_all : (s : Counts) (ws entry : List ℕ) (at : ℕ) (now : List ℕ) (k next from : ℕ) → 1 + s.nodes + s.items ≤ k
    → Lined s ws entry at now k next from → WrittenTo entry at (lines_text (forms s) (drop 8 ws)) now next
unfolding lines_text
lines_all s ws entry at now k next from h l = part_all l.part (rw (drop_of_length-le (forms s) {i = k} (rw (forms_count s) h)))
