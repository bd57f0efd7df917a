-- The tables: their cells one after the other, and what a right database says.
use mathlib.Core.Path.{◌≡◌, refl, sym, ◌∙◌}
use mathlib.Core.Bool.{Bool, true, false, not, true≢false}
use mathlib.Core.List.{List, []}
use Prim.Native.Nat.{ℕ, zero, suc, ◌+◌, ◌-◌, ◌*◌, ◌<◌, ◌≤◌}
use native.Mathlib.Omega.{arith}
use native.Mathlib.Numerals.{add-one}
use native.Mathlib.Nat.{add-zero, add-suc, mul-le-mul}
use lib.IntN.{ℤ}
use lib.Dec.{leb, eqb}
use lib.ListN.{length, get_or}
use borrow.Author.Tests.{leb-true, eqb-true, eq-eqb, not-true, not-false}
use Rattle.algebra.specs.Lists.{all, upto}
use Rattle.algebra.proofs.Lists.Every.{every_at, every_mapped, every_of}
use Rattle.algebra.proofs.Domains.Keys.{upto_all}
use Rattle.plan.specs.Words.{tables, table_width}
use Rattle.plan.specs.Items.{between}
use Rattle.plan.specs.Promise.{Sized}
use Rattle.plan.proofs.Laws.Loops.{all_of}
use Rattle.plan.proofs.Laws.Numbered.{every_all, numbered_at}
use Rattle.plan.proofs.Laws.Formed.{limited, between_high}
use Rattle.plan.proofs.Laws.Header.{both, refuted}
use Rattle.store.specs.Cells.{value, in_range, row_in, rows_in}
use Rattle.store.specs.Database.{table_start, database_right, database_of}
use Rattle.store.proofs.Laws.Cells.{every_take, every_drop}

-- ---- row counts and widths

count_few : (counts : List ℕ) → all (λ c. leb c 4096) counts ≡ true → (t : ℕ) → get_or counts t 0 ≤ 4096
count_few counts e t = leb-true _ _ (every_at {P = λ c. leb c 4096 ≡ true} 0 refl (every_all (λ c. leb c 4096) counts e) t)

table_narrow : (ws : List ℕ) → Sized ws → (t : ℕ) → t < tables ws → table_width ws t ≤ 64
table_narrow ws s t h =
    between_high 1 64 (table_width ws t)
    (upto_all (tables ws) (every_all (λ k. between 1 64 (table_width ws k)) (upto (tables ws)) (limited ws s).widths) t h)

-- ---- where a table begins

pub start_none : (ws counts : List ℕ) → 0 ≡ table_start ws counts 0
unfolding table_start
start_none ws counts = refl

start_next : (ws counts : List ℕ) (t : ℕ) → table_start ws counts (suc t) ≡ table_start ws counts t + get_or counts t 0 * table_width ws t
unfolding table_start
start_next ws counts t = refl

-- the loop ended
pub start_end : (ws counts : List ℕ) {at i t : ℕ} → at ≡ table_start ws counts i → t ≤ i → i ≤ t → at ≡ table_start ws counts t
start_end ws counts {at} {i} {t} e g h = let q : i ≡ t = omega arith in rw q at e

-- a table stands before those behind it
start_before : (ws counts : List ℕ) (t d : ℕ) → table_start ws counts t ≤ table_start ws counts (t + d)
start_before ws counts t zero = rw (add-zero t) (omega arith)
start_before ws counts t (suc d) = rw (add-suc t d) (omega (arith, start_next ws counts (t + d), start_before ws counts t d))

-- one table more, as the code reads it
module _ (ws counts : List ℕ) (i : ℕ) {w : ℕ} (ew : w ≡ table_width ws i) where
  pub start_more : {at : ℕ} → at ≡ table_start ws counts i → at + get_or counts i 0 * w ≡ table_start ws counts (i + 1)
  start_more ea = rw (add-one i, start_next ws counts i, ea, ew)

  -- no table has more than 64×4096 cells
  pub table_small : all (λ c. leb c 4096) counts ≡ true → Sized ws → i < tables ws → get_or counts i 0 * w ≤ 262144
  table_small e s h = rw ew (mul-le-mul (count_few counts e i) (table_narrow ws s i h))

-- ---- refusal 10

-- what a right database says
pub record Right (ws counts : List ℕ) (cells : List ℤ) : Type 0 where
  pub long : length counts ≡ tables ws
  pub few : all (λ c. leb c 4096) counts ≡ true
  pub whole : length cells ≡ table_start ws counts (tables ws)
  pub ranged : all (λ z. in_range (value z)) cells ≡ true

pub database_says : (ws counts : List ℕ) (cells : List ℤ) → database_right ws counts cells ≡ true → Right ws counts cells
unfolding database_right
database_says ws counts cells e =
    let a = both (eqb (length counts) (tables ws)) _ e in
    let b = both (all (λ c. leb c 4096) counts) _ a.1 in
    let d = both (eqb (length cells) (table_start ws counts (tables ws))) _ b.1 in
    record { long = eqb-true _ _ a.0; few = b.0; whole = eqb-true _ _ d.0; ranged = d.1 }

-- what the code finds, one part after the other
module _ (ws counts : List ℕ) (cells : List ℤ) where
  database_fails : (Right ws counts cells → ⊥) → false ≡ database_right ws counts cells
  database_fails f = refuted (database_right ws counts cells) (λ e. f (database_says ws counts cells e))

  pub counts_wrong : {m : ℕ} → m ≡ tables ws → (length counts ≡ m → ⊥) → false ≡ database_right ws counts cells
  counts_wrong em h = database_fails (λ r. h (r.long ∙ sym em))

  pub counts_high : {r : Bool} → r ≡ all (λ c. leb c 4096) counts → not r ≡ true → false ≡ database_right ws counts cells
  counts_high {r} er h = database_fails (λ a. true≢false (sym (er ∙ a.few) ∙ not-true r h))

  pub cells_wrong : {k s : ℕ} → k ≡ tables ws → s ≡ table_start ws counts k → (length cells ≡ s → ⊥) → false ≡ database_right ws counts cells
  cells_wrong ek es h = database_fails (λ a. h (a.whole ∙ sym (rw ek at es)))

  pub cells_decide : {m : ℕ} → m ≡ tables ws → length counts ≡ m → {r : Bool} → r ≡ all (λ c. leb c 4096) counts → not r ≡ false
      → {k s : ℕ} → k ≡ tables ws → s ≡ table_start ws counts k → length cells ≡ s → {a : Bool} → a ≡ all (λ z. in_range (value z)) cells → a ≡ database_right
      ws counts cells
  unfolding database_right
  cells_decide em l {r} er hr ek es h ea =
      sym (rw
      (eq-eqb (length counts) (tables ws) (l ∙ em), sym er, not-false r hr, eq-eqb (length cells) (table_start ws counts (tables ws)) (h ∙ (rw ek at es)))
      (sym ea))

-- ---- the rows of a table

pub cells_ranged : (cells : List ℤ) → all (λ z. in_range (value z)) cells ≡ true → (from w count : ℕ) → all (all in_range) (rows_in cells from w count) ≡ true
unfolding rows_in
cells_ranged cells e from w count =
    all_of (all in_range) (every_mapped (λ i. row_in cells (from + i * w) w)
    (every_of (λ i. all_of in_range (every_mapped value (every_take w (every_drop (from + i * w) (every_all (λ z. in_range (value z)) cells e))))) (upto count)))

module _ (ws counts : List ℕ) (cells : List ℤ) (right : Right ws counts cells) (t : ℕ) (h : t < tables ws) where
  pub table_there : table_start ws counts t + get_or counts t 0 * table_width ws t ≤ length cells
  table_there =
      let q : suc t + (tables ws - suc t) ≡ tables ws = omega arith in
      omega (arith, start_next ws counts t, right.whole, rw q at (start_before ws counts (suc t) (tables ws - suc t)))

  pub table_rows : get_or (database_of ws counts cells) t [] ≡ rows_in cells (table_start ws counts t) (table_width ws t) (get_or counts t 0)
  unfolding database_of
  table_rows = numbered_at (λ k. rows_in cells (table_start ws counts k) (table_width ws k) (get_or counts k 0)) (tables ws) t [] h

  pub table_ranged : all (all in_range) (rows_in cells (table_start ws counts t) (table_width ws t) (get_or counts t 0)) ≡ true
  table_ranged = cells_ranged cells right.ranged (table_start ws counts t) (table_width ws t) (get_or counts t 0)
