-- What the writer and the reader answer, and what stands in the lent slice then: "all leave the slice".
use Rattle.std.specs.Prelude.{not, cond, List, ◌++◌, ℕ, ltb, eqb, length, drop, Result, Ok, Err}
use Rattle.plan.specs.Verdict.{CountedAnswer, header_right, limits_right}
use Rattle.text.specs.declared.WriteRefusal.{WriteRefusal}
use Rattle.text.specs.declared.WriteRefusal.TheVariants.{Header, Limits, NoRoom}
use Rattle.text.specs.declared.ReadRefusal.{ReadRefusal}
use Rattle.text.specs.declared.ReadRefusal.TheVariants.{BadLine, TooShort}
use Rattle.text.specs.Text.{text_of}
use Rattle.text.specs.Reading.{Given, words, bad_line, read}

abbrev pub refused : ℕ → ℕ → CountedAnswer
refused number node = record { number = number; node = node; count = 0 }

abbrev pub taken : ℕ → CountedAnswer
taken count = record { number = 0; node = 0; count = count }

-- new content at the front of a slice, the rest as it was
abbrev pub onto : List ℕ → List ℕ → List ℕ
onto new old = new ++ drop (length new) old

-- ---- the writer: "1, 2, then 17"

unfoldable pub writing : List ℕ → ℕ → CountedAnswer
writing ws room =
    cond (not (header_right ws)) (refused 1 0)
    (cond (not (limits_right ws)) (refused 2 0)
    (cond (ltb room (length (text_of ws))) (refused 17 0)
    (taken (length (text_of ws)))))

unfoldable pub text_after : List ℕ → List ℕ → List ℕ
text_after ws text = cond (eqb (writing ws (length text)).number 0) (onto (text_of ws) text) text

abbrev pub write_refusal_number : WriteRefusal → ℕ
write_refusal_number Header = 1
write_refusal_number Limits = 2
write_refusal_number NoRoom = 17

abbrev pub written_of : Result ℕ WriteRefusal → CountedAnswer
written_of (Ok n) = taken n
written_of (Err r) = refused (write_refusal_number r) 0

-- ---- the reader: "16, .. with the line number from 1", "17, with 0, slice too short, after 16"

abbrev pub answer_to : Given → ℕ → CountedAnswer
answer_to (bad_line l) room = refused 16 l
answer_to (words ws) room = cond (ltb room (length ws)) (refused 17 0) (taken (length ws))

abbrev pub content_of : Given → List ℕ → List ℕ
content_of (bad_line l) old = old
content_of (words ws) old = cond (ltb (length old) (length ws)) old (onto ws old)

unfoldable pub reading : List ℕ → ℕ → CountedAnswer
reading text room = answer_to (read text) room

unfoldable pub words_after : List ℕ → List ℕ → List ℕ
words_after text old = content_of (read text) old

abbrev pub read_refusal_number : ReadRefusal → ℕ
read_refusal_number (BadLine l) = 16
read_refusal_number TooShort = 17

abbrev pub read_refusal_line : ReadRefusal → ℕ
read_refusal_line (BadLine l) = l
read_refusal_line TooShort = 0

abbrev pub read_of : Result ℕ ReadRefusal → CountedAnswer
read_of (Ok n) = taken n
read_of (Err r) = refused (read_refusal_number r) (read_refusal_line r)
