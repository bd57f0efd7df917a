-- Two answers with the same number, node and count are equal.
use mathlib.Core.Path.{◌≡◌, refl, sym, ap, ◌∙◌}
use mathlib.Core.Bool.{cond}
use lib.Dec.{eqb}
use Rattle.plan.specs.Verdict.{CountedAnswer}
use Rattle.std.specs.Prelude.{Result, Ok, Err}
use Rattle.text.specs.declared.WriteRefusal.{WriteRefusal}
use Rattle.text.specs.declared.WriteRefusal.TheVariants.{Header, Limits, NoRoom}
use Rattle.text.specs.declared.ReadRefusal.{ReadRefusal}
use Rattle.text.specs.declared.ReadRefusal.TheVariants.{BadLine, TooShort}
use Rattle.text.specs.Answers.{written_of, read_of}
use Prim.Native.Nat.{ℕ}

-- the answer that a number, a node and a count name
abbrev written_from : CountedAnswer → Result ℕ WriteRefusal
written_from a = cond (eqb a.number 0) (Ok a.count) (Err (cond (eqb a.number 1) Header (cond (eqb a.number 2) Limits NoRoom)))

abbrev read_from : CountedAnswer → Result ℕ ReadRefusal
read_from a = cond (eqb a.number 0) (Ok a.count) (Err (cond (eqb a.number 16) (BadLine a.node) TooShort))

written_named : (r : Result ℕ WriteRefusal) → written_from (written_of r) ≡ r
written_named (Ok n) = refl
written_named (Err Header) = refl
written_named (Err Limits) = refl
written_named (Err NoRoom) = refl

read_named : (r : Result ℕ ReadRefusal) → read_from (read_of r) ≡ r
read_named (Ok n) = refl
read_named (Err (BadLine l)) = refl
read_named (Err TooShort) = refl

pub one_writing : (r s : Result ℕ WriteRefusal) → written_of r ≡ written_of s → r ≡ s
one_writing r s e = sym (written_named r) ∙ ap written_from e ∙ written_named s

pub one_reading : (r s : Result ℕ ReadRefusal) → read_of r ≡ read_of s → r ≡ s
one_reading r s e = sym (read_named r) ∙ ap read_from e ∙ read_named s
