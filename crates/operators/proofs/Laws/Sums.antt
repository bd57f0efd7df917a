-- The better of two cells, and the sum and the best of a column, from the last chosen row to the first.
use mathlib.Core.Path.{◌≡◌, refl, sym, ap, ◌∙◌}
use mathlib.Core.Bool.{Bool, true, false, cond}
use mathlib.Core.List.{List, [], ◌∷◌}
use Prim.Native.Nat.{ℕ, zero, suc, ◌+◌, ◌-◌, ◌*◌, ◌^◌, ◌<◌, ◌≤◌}
use native.Mathlib.Omega.{arith}
use lib.IntN.{ℤ, pos, nat_abs, ◌+ℤ◌, +ℤ_comm}
use lib.ListN.{length, get_or, take, drop, length-map, length-take, length-drop, drop_of_length-le, get_or-eq_default}
use lib.Seq.{drop-cons}
use lib.Signed.{lt_z}
use mir.Syntax.{w64}
use mir.Val.{SFits, to_z, of_z}
use mir.ValLaws.{to_z-of_z}
use Rattle.std.specs.Int.{int_min, int_max}
use Rattle.std.specs.Prelude.{Option, Some, None, unwrap_or}
use Rattle.algebra.specs.Lists.{any, all, Every, done, more}
use Rattle.algebra.specs.Value.{Value, null, num, Row}
use Rattle.algebra.specs.Operators.{better, best, is_number, add_up, summed, column_of}
use Rattle.algebra.proofs.Lists.Every.{every_in, every_head, every_tail, every_map, every_of, every_mapped}
use Rattle.algebra.proofs.Aggregates.{summed_none, summed_some, sum_of_nothing}
use Rattle.plan.proofs.Laws.Numbered.{every_all}
use Rattle.store.specs.Cells.{null_cell, value, in_range}
use Rattle.operators.specs.declared.aggregate.Order.{Order}
use Rattle.operators.specs.declared.aggregate.Order.TheVariants.{Least, Greatest}
use Rattle.operators.specs.Choice.{There, Ranged, row_at, chosen, in_order}
use Rattle.store.proofs.Laws.Cells.{every_drop}
use Rattle.store.proofs.Laws.Bits.{bits_null, bits_number}
use Rattle.store.proofs.Laws.Ranges.{abs_sum, fits_size, small_number, small, entry_ranged}
use Rattle.operators.proofs.Laws.Operands.{row_column}

-- ---- the better of two cells

module _ (a b : ℤ) (order : Order) (fits-a : SFits w64 a) (fits-b : SFits w64 b) where
  -- a null gives way
  pub better_of_null : of_z w64 a ≡ 2 ^ 63 → value (to_z w64 (of_z w64 b)) ≡ better (in_order order) (value a) (value b)
  better_of_null e = rw (bits_null fits-a e, to_z-of_z w64 b fits-b)

  pub better_than_null : (of_z w64 a ≡ 2 ^ 63 → ⊥) → of_z w64 b ≡ 2 ^ 63 → value (to_z w64 (of_z w64 a)) ≡ better (in_order order) (value a) (value b)
  better_than_null f e = rw (to_z-of_z w64 a fits-a, bits_null fits-b e, bits_number f)

module _ (a b : ℤ) (f : of_z w64 a ≡ 2 ^ 63 → ⊥) (g : of_z w64 b ≡ 2 ^ 63 → ⊥) where
  -- the least of two numbers
  pub better_least : value (int_min a b) ≡ better (in_order Least) (value a) (value b)
  better_least = go (lt_z b a) refl
    where
      go : (t : Bool) → lt_z b a ≡ t → value (cond t b a) ≡ better (in_order Least) (value a) (value b)
      go true e = rw (bits_number {a = a} f, bits_number {a = b} g, e)
      go false e = rw (bits_number {a = b} g, bits_number {a = a} f, e)

  -- the greatest
  pub better_greatest : value (int_max b a) ≡ better (in_order Greatest) (value a) (value b)
  better_greatest = go (lt_z a b) refl
    where
      go : (t : Bool) → lt_z a b ≡ t → value (cond t b a) ≡ better (in_order Greatest) (value a) (value b)
      go true e = rw (bits_number {a = a} f, bits_number {a = b} g, e)
      go false e = rw (bits_number {a = b} g, bits_number {a = a} f, e)

-- ---- a column of chosen rows

-- past the width there are nulls
cell_past : (rows : List ℤ) (width k p : ℕ) → width ≤ p → get_or (row_at rows width k) p null ≡ null
cell_past rows width k p h =
    get_or-eq_default (row_at rows width k) null
    (omega (arith, length-map (take width (drop (k * width) rows)) value, length-take width (drop (k * width) rows)))

column_entry : (rows : List ℤ) (width p : ℕ) {is : List ℕ} → There rows width is → p < width → (i : ℕ) → i < length is
    → get_or (column_of p (chosen rows width is)) i null ≡ value (get_or rows (get_or is i 0 * width + p) (pos 0))
column_entry rows width p done l i h = absurd (omega arith)
column_entry rows width p (more {x} g t) l zero h = row_column rows (x * width) width p l g
column_entry rows width p (more g t) l (suc i) h = column_entry rows width p t l i (omega arith)

column_length : (rows : List ℤ) (width p : ℕ) (is : List ℕ) → length (column_of p (chosen rows width is)) ≡ length is
column_length rows width p is = length-map (chosen rows width is) (λ r. get_or r p null) ∙ length-map is (row_at rows width)

-- a column past the width: there is no number, so no sum and no best
pub sum_past : (rows : List ℤ) (width p : ℕ) (is : List ℕ) → width ≤ p → value null_cell ≡ summed (column_of p (chosen rows width is))
unfolding value
sum_past rows width p is h =
    sym (sum_of_nothing p (chosen rows width is) (every_mapped (row_at rows width) (every_of (λ k. cell_past rows width k p h) is)))

pub best_past : (rows : List ℤ) (width p : ℕ) (is : List ℕ) (before : Value → Value → Bool) → width ≤ p
    → value null_cell ≡ best before (column_of p (chosen rows width is))
unfolding value
best_past rows width p [] before h = refl
best_past rows width p (k ∷ is) before h = rw (cell_past rows width k p h) (best_past rows width p is before h)

-- ---- bounds, by the absolute value

-- a value in range
abbrev InRange : Value → Type 0
InRange v = in_range v ≡ true

sum_abs : (vs : List Value) → Every InRange vs → nat_abs (add_up vs) ≤ length vs * 2 ^ 47
sum_abs [] t = omega arith
sum_abs (null ∷ vs) t = omega (arith, sum_abs vs (every_tail t))
sum_abs (num z ∷ vs) t = omega (arith, sum_abs vs (every_tail t), small z (every_head t), abs_sum z (add_up vs))

column_light : (p : ℕ) (rs : List Row) → all (all in_range) rs ≡ true → Every InRange (column_of p rs)
column_light p rs e = every_mapped (λ r. get_or r p null) (every_map (λ r h. entry_ranged r p h) (every_all (all in_range) rs e))

-- ---- one row more, from the last to the first

-- the sum so far, or none of no numbers: where the code stands in some values
abbrev pub Running : Option ℤ → List Value → Type 0
Running s vs = s ≡ cond (any is_number vs) (Some (add_up vs)) None

sum_read : (vs : List Value) → unwrap_or (cond (any is_number vs) (Some (add_up vs)) None) (pos 0) ≡ add_up vs
sum_read [] = refl
sum_read (null ∷ vs) = sum_read vs
sum_read (num z ∷ vs) = refl

module _ (rows : List ℤ) (width p : ℕ) (is : List ℕ) where
  abbrev vs : List Value
  vs = column_of p (chosen rows width is)

  long : length vs ≡ length is
  long = column_length rows width p is

  -- no rows yet
  none : drop (length is) vs ≡ []
  none = drop_of_length-le vs {i = length is} (omega (arith, long))

  pub sum_none : Running None (drop (length is) vs)
  sum_none = rw none

  pub best_none : (before : Value → Value → Bool) → value null_cell ≡ best before (drop (length is) vs)
  unfolding value
  best_none before = rw none

  -- the sum fits
  module _ (most : length is ≤ 4096) (ranged : Ranged rows width is) where
    sum_small : (j : ℕ) → nat_abs (add_up (drop j vs)) ≤ 2 ^ 59
    sum_small j = omega (arith, sum_abs (drop j vs) (every_drop j (column_light p (chosen rows width is) ranged)), length-drop j vs, long)

    sum_fits : (j : ℕ) → SFits w64 (add_up (drop j vs))
    sum_fits j = fits_size (add_up (drop j vs)) (omega (arith, sum_small j))

  module _ (i : ℕ) {k : ℕ} (there : There rows width is) (inside : p < width) (some : 0 < i) (below : i ≤ length is) (read : k ≡ get_or is (i - 1) 0)
    where
      next : drop (i - 1) vs ≡ value (get_or rows (k * width + p) (pos 0)) ∷ drop i vs
      next =
          let q : suc (i - 1) ≡ i = omega arith in
          drop-cons vs (i - 1) null (omega (arith, long)) ∙ rw (q, column_entry rows width p there inside (i - 1) (omega arith), ← read)

      -- a null changes nothing
      pub sum_null : (s : Option ℤ) → SFits w64 (get_or rows (k * width + p) (pos 0)) → of_z w64 (get_or rows (k * width + p) (pos 0)) ≡ 2 ^ 63
          → Running s (drop i vs) → Running s (drop (i - 1) vs)
      sum_null s h z e = rw (next, bits_null h z) e

      module _ (most : length is ≤ 4096) (ranged : Ranged rows width is)
          (f : of_z w64 (get_or rows (k * width + p) (pos 0)) ≡ 2 ^ 63 → ⊥) {s : Option ℤ} (e : Running s (drop i vs)) where
        sum_step : unwrap_or s (pos 0) +ℤ get_or rows (k * width + p) (pos 0) ≡ add_up (drop (i - 1) vs)
        sum_step =
            let z : ℤ = get_or rows (k * width + p) (pos 0) in
            ap (λ (x : ℤ). x +ℤ z) (ap (λ (o : Option ℤ). unwrap_or o (pos 0)) e ∙ sum_read (drop i vs))
            ∙ +ℤ_comm (add_up (drop i vs)) z
            ∙ rw (next, bits_number f)

        pub sum_add_fits : SFits w64 (unwrap_or s (pos 0) +ℤ get_or rows (k * width + p) (pos 0))
        sum_add_fits = rw sum_step (sum_fits most ranged (i - 1))

        pub sum_turn : Running (Some (unwrap_or s (pos 0) +ℤ get_or rows (k * width + p) (pos 0))) (drop (i - 1) vs)
        sum_turn = ap Some sum_step ∙ rw (next, bits_number f)

      pub best_turn : (before : Value → Value → Bool) (r z a : ℤ) → value r ≡ better before (value z) (value a) → z ≡ get_or rows (k * width + p) (pos 0)
          → value a ≡ best before (drop i vs) → value r ≡ best before (drop (i - 1) vs)
      best_turn before r z a e q h = e ∙ rw (next, q, h)

  pub sum_end : {s : Option ℤ} → Running s vs → length is ≤ 4096 → Ranged rows width is → value (unwrap_or s null_cell) ≡ summed vs
  unfolding value
  sum_end {s} e most ranged = rw e (go (any is_number vs) refl)
    where
      go : (t : Bool) → any is_number vs ≡ t → value (unwrap_or (cond t (Some (add_up vs)) None) null_cell) ≡ summed vs
      go true h = small_number (add_up vs) (omega (arith, sum_small most ranged 0)) ∙ sym (summed_some vs h)
      go false h = sym (summed_none vs h)

  -- no number was met
  pub sum_nothing : Running None vs → value null_cell ≡ summed vs
  unfolding value
  sum_nothing e = go (any is_number vs) refl e
    where
      go : (t : Bool) → any is_number vs ≡ t → None ≡ cond t (Some (add_up vs)) None → value null_cell ≡ summed vs
      go true h q = absurd (cc)
      go false h q = sym (summed_none vs h)

-- a column's cell, which the code reads, is there
pub column_inside : (rows : List ℤ) (width p : ℕ) (is : List ℕ) (i : ℕ) → There rows width is → p < width → i < length is
    → get_or is i 0 * width + p < length rows
column_inside rows width p is i there inside l = omega (arith, every_in 0 there i l)
