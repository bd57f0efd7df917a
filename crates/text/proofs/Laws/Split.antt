-- The lines of a text.
use mathlib.Core.Path.{◌≡◌, refl, sym, ap, ◌∙◌}
use mathlib.Core.Bool.{Bool, true, false, cond, ◌&&◌}
use mathlib.Core.List.{List, [], ◌∷◌, ◌++◌, append_assoc}
use Prim.Native.Nat.{ℕ, ◌≤◌}
use native.Mathlib.Omega.{arith}
use lib.Dec.{eqb}
use lib.ListN.{length, take}
use borrow.Author.Tests.{ne_eqb, eqb-true}
use Rattle.algebra.specs.Lists.{each, Every, done, more}
use Rattle.algebra.proofs.Lists.Every.{every_append}
use Rattle.text.specs.Steps.{number, fields_text}
use Rattle.text.specs.Reading.{constant_next}
use Rattle.text.specs.Lines.{on_first, lines}
use Rattle.text.proofs.Laws.Fields.{no_newline}

-- ---- any bytes

-- the lines one behind the other
abbrev pub unsplit : List (List ℕ) → List ℕ
unsplit ls = each (λ l. l) ls

on_first_lem : (b : ℕ) (ls : List (List ℕ)) → unsplit (on_first b ls) ≡ b ∷ unsplit ls
on_first_lem b [] = refl
on_first_lem b (l ∷ ls) = refl

-- nothing of a text is lost
pub unsplit_lines : (bs : List ℕ) → unsplit (lines bs) ≡ bs
unfolding lines
unsplit_lines [] = refl
unsplit_lines (b ∷ bs) = go (eqb b 10) refl (unsplit_lines bs)
  where
    go : (t : Bool) → eqb b 10 ≡ t → unsplit (lines bs) ≡ bs → unsplit (cond t ((10 ∷ []) ∷ lines bs) (on_first b (lines bs))) ≡ b ∷ bs
    go true e h = rw (h, eqb-true b 10 e)
    go false e h = on_first_lem b (lines bs) ∙ ap (λ (ds : List ℕ). b ∷ ds) h

-- a text that is not empty has a line
pub some_line : (b : ℕ) (bs : List ℕ) → 1 ≤ length (lines (b ∷ bs))
unfolding lines
some_line b bs = go (eqb b 10) (lines bs)
  where
    first : (ls : List (List ℕ)) → 1 ≤ length (on_first b ls)
    first [] = omega arith
    first (l ∷ ls) = omega arith

    go : (t : Bool) (ls : List (List ℕ)) → 1 ≤ length (cond t ((10 ∷ []) ∷ ls) (on_first b ls))
    go true ls = omega arith
    go false ls = first ls

-- bytes that are no newline, and a newline, are one line
pub line_ended : {ds : List ℕ} (rest : List ℕ) → Every (λ b. b ≡ 10 → ⊥) ds → lines (ds ++ (10 ∷ rest)) ≡ (ds ++ (10 ∷ [])) ∷ lines rest
unfolding lines
line_ended rest done = refl
line_ended rest (more {x} h t) = rw (ne_eqb x 10 h, line_ended rest t)

-- a text that begins with a line of another is that line and the rest
pub first_line : (bs l : List ℕ) (ls : List (List ℕ)) → take 1 (lines bs) ≡ take 1 (l ∷ ls) → (rest : List ℕ) × (bs ≡ l ++ rest)
first_line bs l ls e = go (lines bs) refl e
  where
    go : (ks : List (List ℕ)) → lines bs ≡ ks → take 1 ks ≡ take 1 (l ∷ ls) → (rest : List ℕ) × (bs ≡ l ++ rest)
    go [] q h = let z : ◌≡◌ {A = ℕ} 0 1 = cc in absurd (omega arith)
    go (k ∷ ks) q h =
        let s : k ≡ l = cc in
        (unsplit ks, sym (unsplit_lines bs) ∙ rw (q, s))

-- ---- the text of words

-- bytes that are no newline, and a newline
pub record Ended (bs : List ℕ) : Type 0 where
  pub front : List ℕ
  pub clean : Every (λ b. b ≡ 10 → ⊥) front
  pub whole : bs ≡ front ++ (10 ∷ [])

pub fields_ended : (item : Bool) (xs : List ℕ) (w : ℕ) (ws : List ℕ) → Ended (fields_text item xs (w ∷ ws))
unfolding fields_text
fields_ended item xs w [] = record { front = number (item && constant_next xs) w; clean = no_newline (item && constant_next xs) w; whole = refl }
fields_ended item xs w (v ∷ vs) =
    let n : List ℕ = number (item && constant_next xs) w in
    let r = fields_ended item (xs ++ (w ∷ [])) v vs in
    record {
      front = n ++ (32 ∷ r.front);
      clean = every_append (no_newline (item && constant_next xs) w) (more (λ q. omega arith) r.clean);
      whole = rw (append_assoc n (32 ∷ r.front) (10 ∷ [])) (ap (λ (ds : List ℕ). n ++ (32 ∷ ds)) r.whole);
    }

-- a line in front of bytes is a line in front of their lines
pub ended_lines : (bs rest : List ℕ) → Ended bs → lines (bs ++ rest) ≡ bs ∷ lines rest
ended_lines bs rest e =
    rw (e.whole, append_assoc e.front (10 ∷ []) rest) (line_ended rest e.clean)

pub fields_lines : (item : Bool) (xs ws rest : List ℕ) → 1 ≤ length ws → lines (fields_text item xs ws ++ rest) ≡ fields_text item xs ws ∷ lines rest
fields_lines item xs [] rest h = absurd (omega arith)
fields_lines item xs (w ∷ ws) rest h = ended_lines (fields_text item xs (w ∷ ws)) rest (fields_ended item xs w ws)
