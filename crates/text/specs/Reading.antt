-- What a text gives: "the reader gives up at the first bad, missing or surplus line".
use Rattle.std.specs.Prelude.{Bool, true, false, cond, ◌&&◌, ◌||◌, List, [], ◌∷◌, ◌++◌, ℕ, zero, suc, ◌+◌, ◌-◌, ◌*◌, ◌^◌, ltb, eqb, length, get_or, replicate}
use Rattle.plan.specs.Words.{header_of}
use Rattle.plan.specs.Items.{between}
use Rattle.text.specs.declared.form.Form.{Form}

-- T, N and I
pub record Counts : Type 0 where
  pub tables : ℕ
  pub nodes : ℕ
  pub items : ℕ

-- what stands in front of a text, and the bytes behind it; or the front is not of the form
pub data Front (A : Type 0) : Type 0 where
  found : A → List ℕ → Front A
  bad : Front A

abbrev pub and_then : {A B : Type 0} → Front A → (A → List ℕ → Front B) → Front B
and_then bad next = bad
and_then (found x bs) next = next x bs

-- ---- numbers

-- the digits in front, behind digits that say v
unfoldable pub digits_on : ℕ → List ℕ → Front ℕ
digits_on v [] = found v []
digits_on v (b ∷ bs) = cond (between 48 57 b) (digits_on (10 * v + (b - 48)) bs) (found v (b ∷ bs))

-- "in decimal", "no leading zeros": 0, or digits that begin with another
unfoldable pub number_in : List ℕ → Front ℕ
number_in [] = bad
number_in (b ∷ bs) = cond (eqb b 48) (found 0 bs) (cond (between 49 57 b) (digits_on (b - 48) bs) bad)

-- a number from low to high and the byte e behind it
unfoldable pub ended_by : ℕ → ℕ → ℕ → Front ℕ → Front ℕ
ended_by low high e bad = bad
ended_by low high e (found v []) = bad
ended_by low high e (found v (b ∷ bs)) = cond (between low high v && eqb b e) (found v bs) bad

abbrev pub word_in : ℕ → ℕ → ℕ → List ℕ → Front ℕ
word_in low high e bs = ended_by low high e (number_in bs)

-- a constant: "a minus before negative constants, no other sign"
unfoldable pub constant_in : ℕ → List ℕ → Front ℕ
constant_in e [] = bad
constant_in e (b ∷ bs) = cond (eqb b 45) (and_then (word_in 1 (2 ^ 31) e bs) (λ v rest. found (2 ^ 32 - v) rest)) (word_in 0 (2 ^ 31 - 1) e (b ∷ bs))

-- ---- lines

-- "A constant is a third word whose term starts with 2": one stands behind the words xs of an item's line
unfoldable pub constant_next : List ℕ → Bool
constant_next xs = (eqb (length xs) 3 || eqb (length xs) 6) && eqb (get_or xs (length xs - 2) 0) 2

-- the word behind the words xs of a line, with the byte e
unfoldable pub field_in : Form → List ℕ → ℕ → List ℕ → Front ℕ
field_in form xs e bs = cond (form.item && constant_next xs) (constant_in e bs) (word_in form.low form.high e bs)

-- so many words more, behind the words xs: "single spaces, each line ended by a newline"
unfoldable pub words_in : Form → ℕ → List ℕ → List ℕ → Front (List ℕ)
words_in form zero xs bs = found xs bs
words_in form (suc more) xs bs = and_then (field_in form xs (cond (eqb more 0) 10 32) bs) (λ w rest. words_in form more (xs ++ (w ∷ [])) rest)

abbrev pub line_in : Form → List ℕ → Front (List ℕ)
line_in form bs = words_in form form.count [] bs

-- the first line: "T is 1..16, N 1..256, I 0..2,000"
unfoldable pub head_in : List ℕ → Front Counts
head_in bs =
    and_then (word_in 1 16 32 bs) (λ t behind_t.
    and_then (word_in 1 256 32 behind_t) (λ n behind_n.
    and_then (word_in 0 2000 10 behind_n) (λ i rest. found (record { tables = t; nodes = n; items = i }) rest)))

-- the lines behind the first: widths, "a table's width 1..64", nodes of six words, items of seven
abbrev pub widths_form : ℕ → Form
widths_form t = record { count = t; low = 1; high = 64; item = false }

abbrev pub node_form : Form
node_form = record { count = 6; low = 0; high = 2 ^ 32 - 1; item = false }

abbrev pub item_form : Form
item_form = record { count = 7; low = 0; high = 2 ^ 32 - 1; item = true }

unfoldable pub forms : Counts → List Form
forms s = widths_form s.tables ∷ (replicate s.nodes node_form ++ replicate s.items item_form)

-- ---- texts

-- words and the bytes behind them, or the number of the first line that is not of its form
pub data Lines : Type 0 where
  right : List ℕ → List ℕ → Lines
  wrong : ℕ → Lines

-- the words xs in front
abbrev pub behind : List ℕ → Lines → Lines
behind xs (right ws rest) = right (xs ++ ws) rest
behind xs (wrong l) = wrong l

-- line l, and what is behind it
abbrev pub line_then : ℕ → Front (List ℕ) → (List ℕ → Lines) → Lines
line_then l bad next = wrong l
line_then l (found xs rest) next = behind xs (next rest)

-- lines of these forms, the first of them line l; a line that is missing is not of its form
unfoldable pub lines_in : List Form → ℕ → List ℕ → Lines
lines_in [] l bs = right [] bs
lines_in (form ∷ fs) l bs = line_then l (line_in form bs) (λ rest. lines_in fs (suc l) rest)

-- the header that T, N and I make
abbrev pub header : Counts → List ℕ
header s = header_of s.tables s.nodes s.items

-- what a text gives: words, or the number of a line
pub data Given : Type 0 where
  words : List ℕ → Given
  bad_line : ℕ → Given

-- line l is surplus
abbrev pub ended : ℕ → Lines → Given
ended l (wrong k) = bad_line k
ended l (right ws []) = words ws
ended l (right ws (b ∷ bs)) = bad_line l

abbrev pub table_in : Front Counts → Given
table_in bad = bad_line 1
table_in (found s rest) = ended (3 + s.nodes + s.items) (behind (header s) (lines_in (forms s) 2 rest))

-- "text length beyond 262,144 being line 0"
unfoldable pub read : List ℕ → Given
read text = cond (ltb 262144 (length text)) (bad_line 0) (table_in (head_in text))
