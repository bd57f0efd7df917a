-- What the functions inside hand on: the answers of the reader's steps, and the text of words one behind the other.
use Rattle.std.specs.Prelude.{◌≡◌, Bool, cond, ◌&&◌, List, [], ◌∷◌, ◌++◌, ℕ, ◌+◌, ◌<◌, ◌≤◌, length, take, drop, Option, Some, None, Result, Ok, Err}
use Rattle.std.proofs.lemmas.List.Edits.{sets}
use Rattle.algebra.specs.Lists.{is_empty}
use Rattle.text.specs.declared.form.Form.{Form}
use Rattle.text.specs.declared.form.Sizes.{Sizes}
use Rattle.text.specs.declared.numbers.Digits.{Digits}
use Rattle.text.specs.declared.numbers.Field.{Field}
use Rattle.text.specs.Numbers.{decimal, signed}
use Rattle.text.specs.Reading.{Counts, Front, found, bad, ended_by, constant_next, line_in, head_in, forms, right, wrong, lines_in, header, Given, words, bad_line}

-- T, N and I without what the code knows of them
abbrev pub counts : Sizes → Counts
counts s = record { tables = s.tables; nodes = s.nodes; items = s.items }

-- ---- reading

-- digits that say as much, or too much as well, as what a front says
abbrev pub SaysUpTo : List ℕ → ℕ → Digits → Front ℕ → Type 0
SaysUpTo text high d front = (low e : ℕ) → ended_by low high e (found d.value (drop d.next text)) ≡ ended_by low high e front

-- such digits, or no number
abbrev pub NumberRead : List ℕ → ℕ → Front ℕ → Option Digits → Type 0
NumberRead text high front (Some d) = SaysUpTo text high d front
NumberRead text high front None = front ≡ bad

-- a word with the byte behind it, or none
abbrev pub FieldRead : List ℕ → Front ℕ → Option Field → Type 0
FieldRead text front (Some f) = (front ≡ found f.word (drop f.next text)) × (f.next ≤ length text)
FieldRead text front None = front ≡ bad

-- a line from a place on, its words stored from place to on
abbrev pub LineRead : List ℕ → ℕ → Form → List ℕ → ℕ → List ℕ → Option ℕ → Type 0
LineRead text at form entry to exit (Some next) =
    (next ≤ length text) × ((xs : List ℕ) × (length xs ≡ form.count) × (line_in form (drop at text) ≡ found xs (drop next text)) × (exit ≡ sets entry to xs))
LineRead text at form entry to exit None = line_in form (drop at text) ≡ bad

-- the lines behind the first, their words stored from place 8 on: the places behind them and behind the words, or the number of a line
abbrev pub BodyRead : List ℕ → ℕ → Counts → List ℕ → List ℕ → Result (ℕ × ℕ) ℕ → Type 0
BodyRead text at s entry exit (Ok b) =
    (b.0 ≤ length text) × (b.1 < 65536)
    × ((ws : List ℕ) × (b.1 ≡ length (header s ++ ws)) × (lines_in (forms s) 2 (drop at text) ≡ right ws (drop b.0 text)) × (exit ≡ sets entry 8 ws))
BodyRead text at s entry exit (Err l) = lines_in (forms s) 2 (drop at text) ≡ wrong l

abbrev pub HeadRead : List ℕ → Option (Sizes × ℕ) → Type 0
HeadRead text (Some h) = (head_in text ≡ found (counts h.0) (drop h.1 text)) × (h.1 ≤ length text)
HeadRead text None = head_in text ≡ bad

abbrev pub TableRead : Given → List ℕ → List ℕ → Result ℕ ℕ → Type 0
TableRead given entry exit (Ok count) = (count < 65536) × ((ws : List ℕ) × (count ≡ length ws) × (given ≡ words ws) × (exit ≡ sets entry 0 ws))
TableRead given entry exit (Err l) = given ≡ bad_line l

-- ---- writing

abbrev pub number : Bool → ℕ → List ℕ
number constant w = cond constant (signed w) (decimal w)

-- the words ws of a line behind its words xs
unfoldable pub fields_text : Bool → List ℕ → List ℕ → List ℕ
fields_text item xs [] = []
fields_text item xs (w ∷ ws) = number (item && constant_next xs) w ++ (cond (is_empty ws) 10 32 ∷ fields_text item (xs ++ (w ∷ [])) ws)

abbrev pub line_text : Bool → List ℕ → List ℕ
line_text item ws = fields_text item [] ws

-- words one behind the other, as lines of these forms
unfoldable pub lines_text : List Form → List ℕ → List ℕ
lines_text [] ws = []
lines_text (form ∷ fs) ws = line_text form.item (take form.count ws) ++ lines_text fs (drop form.count ws)

-- a slice written from a place on, up to the place next
abbrev pub WrittenTo : List ℕ → ℕ → List ℕ → List ℕ → ℕ → Type 0
WrittenTo entry at new exit next = (exit ≡ sets entry at new) × (next ≡ at + length new)
