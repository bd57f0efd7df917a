-- Cells and values, rows in cells, and cells written over others.
use mathlib.Core.Path.{◌≡◌, refl, sym, ap, ◌∙◌}
use mathlib.Core.Bool.{Bool, true, false, cond}
use mathlib.Core.List.{List, [], ◌∷◌, ◌++◌, map, append_assoc}
use Prim.Native.Nat.{ℕ, zero, suc, ◌+◌, ◌-◌, ◌*◌, ◌^◌, ◌<◌, ◌≤◌}
use native.Mathlib.Nat.{mul-le-mul_right}
use native.Mathlib.Omega.{arith}
use native.Mathlib.Numerals.{add-one}
use lib.IntN.{ℤ, pos, negsuc}
use lib.Dec.{eqb}
use lib.ListN.{length, get_or, take, drop, set, length-append, length-drop, length-map, take-append-drop}
use lib.Seq.{length-take-le, drop-cons, append_snoc, take-append-le, drop-append-le, take-take, take-add, drop-drop, set_at, take_at, drop_at}
use borrow.Author.Tests.{ltb-true, eqb-true}
use Rattle.algebra.specs.Lists.{all, upto, Every, done, more}
use Rattle.algebra.specs.Value.{Value, null, num, Row, eq_z}
use Rattle.algebra.specs.Statements.{Wide}
use Rattle.algebra.proofs.Lists.Keep.{map_map, map_cong, map_id, each_append, map_append}
use Rattle.algebra.proofs.Lists.Every.{every_of, every_map, every_mapped}
use Rattle.algebra.proofs.Lists.Same.{and_left, and_right, eq_z_eq}
use Rattle.algebra.proofs.Domains.Keys.{upto_below}
use Rattle.plan.proofs.Laws.Numbered.{numbered_at, numbered_length, numbered_add, each_more, every_all}
use Rattle.store.specs.Cells.{null_cell, value, cell, in_range, row_in, rows_in, cells_of, written}

-- ---- one cell

pub cell_value : (z : ℤ) → cell (value z) ≡ z
unfolding cell value
cell_value z = go (eq_z z null_cell) refl
  where
    go : (b : Bool) → eq_z z null_cell ≡ b → cell (cond b null (num z)) ≡ z
    go true e = sym (eq_z_eq z null_cell e)
    go false e = refl

pub value_cell : (v : Value) → in_range v ≡ true → value (cell v) ≡ v
unfolding cell value in_range
value_cell null h = refl
value_cell (num (pos n)) h = refl
value_cell (num (negsuc n)) h = go (eqb n (2 ^ 63 - 1)) refl
  where
    go : (b : Bool) → eqb n (2 ^ 63 - 1) ≡ b → cond b null (num (negsuc n)) ≡ num (negsuc n)
    go true e = absurd (omega (arith, eqb-true n (2 ^ 63 - 1) e, ltb-true n (2 ^ 47 - 1) h))
    go false e = refl

pub cells_values : (zs : List ℤ) → map cell (map value zs) ≡ zs
cells_values zs = map_map cell value zs ∙ map_id (λ z. cell (value z)) (every_of cell_value zs)

pub values_cells : (r : Row) → all in_range r ≡ true → map value (map cell r) ≡ r
values_cells r h = map_map value cell r ∙ map_id (λ v. value (cell v)) (every_map value_cell (every_all in_range r h))

-- ---- parts of a list

module _ {A : Type 0} where
  -- a part of the front
  pub part_of_front : (w k n : ℕ) (l : List A) → k + w ≤ n → take w (drop k (take n l)) ≡ take w (drop k l)
  part_of_front w zero n l h = take-take w n l (omega arith)
  part_of_front w (suc k) zero l h = absurd (omega arith)
  part_of_front w (suc k) (suc n) [] h = refl
  part_of_front w (suc k) (suc n) (x ∷ l) h = part_of_front w k n l (omega arith)

  -- a part of the first of two lists
  pub part_of_first : (w k : ℕ) (p q : List A) → k + w ≤ length p → take w (drop k (p ++ q)) ≡ take w (drop k p)
  part_of_first w k p q h = rw (drop-append-le k p q (omega arith)) (take-append-le w (drop k p) q (omega (arith, length-drop k p)))

  -- a property of every element
  pub every_take : {P : A → Type 0} (n : ℕ) {xs : List A} → Every P xs → Every P (take n xs)
  every_take zero t = done
  every_take (suc n) done = done
  every_take (suc n) (more h t) = more h (every_take n t)

  pub every_drop : {P : A → Type 0} (n : ℕ) {xs : List A} → Every P xs → Every P (drop n xs)
  every_drop zero t = t
  every_drop (suc n) done = done
  every_drop (suc n) (more h t) = every_drop n t

-- the cells that were read are as many as the rows ask
pub read_long : (s : List ℤ) (from size : ℕ) {part : List ℤ} → part ≡ take size (drop from s) → from + size ≤ length s → length part ≡ size
read_long s from size e h = rw e (length-take-le size (drop from s) (omega (arith, length-drop from s)))

-- ---- written

-- what stands in front of the rest
front_length : (s : List ℤ) (at : ℕ) (cs : List ℤ) → at ≤ length s → length (take at s ++ cs) ≡ at + length cs
front_length s at cs h = length-append (take at s) cs ∙ ap (λ (k : ℕ). k + length cs) (length-take-le at s h)

split : (s : List ℤ) (at : ℕ) (cs : List ℤ) → written s at cs ≡ (take at s ++ cs) ++ drop (at + length cs) s
unfolding written
split s at cs = sym (append_assoc (take at s) cs (drop (at + length cs) s))

pub written_length : (s : List ℤ) (at : ℕ) (cs : List ℤ) → at + length cs ≤ length s → length (written s at cs) ≡ length s
written_length s at cs h =
    rw (split s at cs)
    (length-append (take at s ++ cs) (drop (at + length cs) s) ∙ omega (arith, front_length s at cs (omega arith), length-drop (at + length cs) s))

pub written_nothing : (s : List ℤ) (at : ℕ) → written s at [] ≡ s
unfolding written
written_nothing s at = let e : at + 0 ≡ at = omega arith in rw e (take-append-drop at s)

-- the part in front, with what was written, and the part behind
written_front : (s : List ℤ) (at : ℕ) (cs : List ℤ) → at ≤ length s → take (at + length cs) (written s at cs) ≡ take at s ++ cs
written_front s at cs h = rw (split s at cs) (take_at (take at s ++ cs) (drop (at + length cs) s) (at + length cs) (front_length s at cs h))

written_rest : (s : List ℤ) (at : ℕ) (cs : List ℤ) → at ≤ length s → drop (at + length cs) (written s at cs) ≡ drop (at + length cs) s
written_rest s at cs h = rw (split s at cs) (drop_at (take at s ++ cs) (drop (at + length cs) s) (at + length cs) (front_length s at cs h))

-- one cell more
pub written_more : (s : List ℤ) (at : ℕ) (cs : List ℤ) (z : ℤ) → at + length cs < length s
    → set (written s at cs) (at + length cs) z ≡ written s at (cs ++ (z ∷ []))
unfolding written
written_more s at cs z h =
    let n : ℕ = at + length cs in
    let p : List ℤ = take at s ++ cs in
    let e : at + length (cs ++ (z ∷ [])) ≡ suc n = ap (λ (k : ℕ). at + k) (length-append cs (z ∷ [])) ∙ omega arith in
    rw (split s at cs, drop-cons s n (pos 0) h)
    (set_at p (get_or s n (pos 0)) (drop (suc n) s) z n (front_length s at cs (omega arith))
    ∙ sym (append_snoc p z (drop (suc n) s))
    ∙ ap (λ (l : List ℤ). l ++ drop (suc n) s) (append_assoc (take at s) cs (z ∷ []))
    ∙ append_assoc (take at s) (cs ++ (z ∷ [])) (drop (suc n) s)
    ∙ ap (λ (k : ℕ). take at s ++ ((cs ++ (z ∷ [])) ++ drop k s)) (sym e))

-- behind what was written
pub written_behind : (s : List ℤ) (at : ℕ) (cs ds : List ℤ) → at + length cs + length ds ≤ length s
    → written (written s at cs) (at + length cs) ds ≡ written s at (cs ++ ds)
unfolding written
written_behind s at cs ds h =
    let n : ℕ = at + length cs in
    let w : List ℤ = written s at cs in
    let e : at + length (cs ++ ds) ≡ n + length ds = ap (λ (k : ℕ). at + k) (length-append cs ds) ∙ omega arith in
    ap (λ (l : List ℤ). l ++ (ds ++ drop (n + length ds) w)) (written_front s at cs (omega arith))
    ∙ ap (λ (l : List ℤ). (take at s ++ cs) ++ (ds ++ l))
    (sym (drop-drop (length ds) n w) ∙ ap (drop (length ds)) (written_rest s at cs (omega arith)) ∙ drop-drop (length ds) n s)
    ∙ append_assoc (take at s) cs (ds ++ drop (n + length ds) s)
    ∙ ap (λ (l : List ℤ). take at s ++ l) (sym (append_assoc cs ds (drop (n + length ds) s)))
    ∙ ap (λ (k : ℕ). take at s ++ ((cs ++ ds) ++ drop k s)) (sym e)

-- ---- a row in cells

pub row_long : (s : List ℤ) (from w : ℕ) → from + w ≤ length s → length (row_in s from w) ≡ w
row_long s from w h = length-map (take w (drop from s)) value ∙ read_long s from w refl h

pub row_before : (s : List ℤ) (at : ℕ) (cs : List ℤ) (from w : ℕ) → from + w ≤ at → at + length cs ≤ length s
    → row_in (written s at cs) from w ≡ row_in s from w
unfolding written
row_before s at cs from w h g =
    ap (map value)
    (part_of_first w from (take at s) (cs ++ drop (at + length cs) s) (omega (arith, length-take-le at s (omega arith))) ∙ part_of_front w from at s h)

pub row_behind : (s : List ℤ) (at : ℕ) (cs : List ℤ) (from w : ℕ) → at + length cs ≤ from → at + length cs ≤ length s
    → row_in (written s at cs) from w ≡ row_in s from w
row_behind s at cs from w h g =
    let n : ℕ = at + length cs in
    let e : from ≡ n + (from - n) = omega arith in
    ap (λ (l : List ℤ). map value (take w l))
    (ap (λ (k : ℕ). drop k (written s at cs)) e
    ∙ sym (drop-drop (from - n) n (written s at cs))
    ∙ ap (drop (from - n)) (written_rest s at cs (omega arith))
    ∙ drop-drop (from - n) n s
    ∙ ap (λ (k : ℕ). drop k s) (sym e))

-- a row of a part of the cells
pub row_of_part : (s : List ℤ) (from w count i : ℕ) → i < count → row_in (take (count * w) (drop from s)) (i * w) w ≡ row_in s (from + i * w) w
row_of_part s from w count i h =
    ap (map value)
    (part_of_front w (i * w) (count * w) (drop from s) (omega (arith, mul-le-mul_right w h)) ∙ ap (take w) (drop-drop (i * w) from s))

-- ---- rows in cells

pub rows_length : (s : List ℤ) (from w count : ℕ) → length (rows_in s from w count) ≡ count
unfolding rows_in
rows_length s from w count = numbered_length (λ i. row_in s (from + i * w) w) count

pub rows_at : (s : List ℤ) (from w count i : ℕ) → i < count → get_or (rows_in s from w count) i [] ≡ row_in s (from + i * w) w
unfolding rows_in
rows_at s from w count i h = numbered_at (λ i. row_in s (from + i * w) w) count i [] h

-- two lists of cells with the same rows
same_rows : (s t : List ℤ) (from at w count : ℕ) → ((i : ℕ) → i < count → row_in s (from + i * w) w ≡ row_in t (at + i * w) w)
    → rows_in s from w count ≡ rows_in t at w count
unfolding rows_in
same_rows s t from at w count f = map_cong (λ i. row_in s (from + i * w) w) (λ i. row_in t (at + i * w) w) (every_map f (upto_below count))

pub rows_wide : (s : List ℤ) (from w count : ℕ) → from + count * w ≤ length s → Wide w (rows_in s from w count)
unfolding rows_in
rows_wide s from w count h =
    every_mapped {P = λ r. length r ≡ w} (λ i. row_in s (from + i * w) w)
    (every_map (λ i (l : i < count). row_long s (from + i * w) w (omega (arith, mul-le-mul_right w l))) (upto_below count))

pub rows_none : (s : List ℤ) (from w : ℕ) → rows_in s from w 0 ≡ []
unfolding rows_in
rows_none s from w = refl

next_place : (from w a i : ℕ) → from + (a + i) * w ≡ from + a * w + i * w
next_place from w a i = omega arith

pub rows_split : (s : List ℤ) (from w a b : ℕ) → rows_in s from w (a + b) ≡ rows_in s from w a ++ rows_in s (from + a * w) w b
unfolding rows_in
rows_split s from w a b =
    numbered_add (λ i. row_in s (from + i * w) w) a b
    ∙ ap (λ (l : List Row). map (λ i. row_in s (from + i * w) w) (upto a) ++ l)
    (map_cong (λ i. row_in s (from + (a + i) * w) w) (λ i. row_in s (from + a * w + i * w) w)
    (every_of (λ i. ap (λ (k : ℕ). row_in s k w) (next_place from w a i)) (upto b)))

-- one row more
pub rows_next : (s : List ℤ) (from w i : ℕ) → rows_in s from w (i + 1) ≡ rows_in s from w i ++ (row_in s (from + i * w) w ∷ [])
unfolding rows_in
rows_next s from w i = rw (add-one i) (map_append (λ k. row_in s (from + k * w) w) (upto i) (i ∷ []))

pub rows_before : (s : List ℤ) (at : ℕ) (cs : List ℤ) (from w count : ℕ) → from + count * w ≤ at → at + length cs ≤ length s
    → rows_in (written s at cs) from w count ≡ rows_in s from w count
rows_before s at cs from w count h g =
    same_rows (written s at cs) s from from w count (λ i l. row_before s at cs (from + i * w) w (omega (arith, mul-le-mul_right w l)) g)

pub rows_behind : (s : List ℤ) (at : ℕ) (cs : List ℤ) (from w count : ℕ) → at + length cs ≤ from → at + length cs ≤ length s
    → rows_in (written s at cs) from w count ≡ rows_in s from w count
rows_behind s at cs from w count h g =
    same_rows (written s at cs) s from from w count (λ i l. row_behind s at cs (from + i * w) w (omega arith) g)

-- rows of a part of the cells, chosen by number
pub chosen_of_part : (s : List ℤ) (from w count : ℕ) {is : List ℕ} → Every (λ i. i < count) is
    → map (λ i. row_in (take (count * w) (drop from s)) (i * w) w) is ≡ map (λ i. row_in s (from + i * w) w) is
chosen_of_part s from w count h =
    map_cong (λ i. row_in (take (count * w) (drop from s)) (i * w) w) (λ i. row_in s (from + i * w) w) (every_map (row_of_part s from w count) h)

-- ---- rows as cells

pub cells_length : (w : ℕ) (rows : List Row) → Wide w rows → length (cells_of rows) ≡ length rows * w
cells_length w rows done = omega arith
cells_length w rows (more {x = r} {xs = rs} e t) =
    length-append (map cell r) (cells_of rs) ∙ omega (arith, length-map r cell, e, cells_length w rs t)

pub cells_append : (xs ys : List Row) → cells_of (xs ++ ys) ≡ cells_of xs ++ cells_of ys
cells_append xs ys = each_append (map cell) xs ys

pub cells_of_rows : (s : List ℤ) (from w count : ℕ) → from + count * w ≤ length s → cells_of (rows_in s from w count) ≡ take (count * w) (drop from s)
unfolding rows_in
cells_of_rows s from w zero h = let e : 0 * w ≡ 0 = omega arith in rw e
cells_of_rows s from w (suc count) h =
    let e : suc count * w ≡ count * w + w = omega arith in
    each_more (map cell) (λ i. row_in s (from + i * w) w) count
    ∙ ap (λ (l : List ℤ). cells_of (rows_in s from w count) ++ l) (cells_values (take w (drop (from + count * w) s)))
    ∙ ap (λ (l : List ℤ). l ++ take w (drop (from + count * w) s)) (cells_of_rows s from w count (omega arith))
    ∙ ap (λ (l : List ℤ). take (count * w) (drop from s) ++ take w l) (sym (drop-drop (count * w) from s))
    ∙ sym (take-add (count * w) w (drop from s))
    ∙ ap (λ (k : ℕ). take k (drop from s)) (sym e)

-- a row between other cells
row_amid : (w : ℕ) (p : List ℤ) (r : Row) (q : List ℤ) → length r ≡ w → all in_range r ≡ true → rows_in (p ++ (map cell r ++ q)) (length p) w 1 ≡ r ∷ []
unfolding rows_in
row_amid w p r q e h =
    let n : length (map cell r) ≡ w = length-map r cell ∙ e in
    let z : length p + 0 * w ≡ length p = omega arith in
    ap (λ (x : Row). x ∷ [])
    (ap (λ (k : ℕ). row_in (p ++ (map cell r ++ q)) k w) z
    ∙ ap (λ (l : List ℤ). map value (take w l)) (drop_at p (map cell r ++ q) (length p) refl)
    ∙ ap (map value) (take_at (map cell r) q w n)
    ∙ values_cells r h)

-- rows between other cells
rows_amid : (w : ℕ) (p : List ℤ) (rows : List Row) (q : List ℤ) → Wide w rows → all (all in_range) rows ≡ true
    → rows_in (p ++ (cells_of rows ++ q)) (length p) w (length rows) ≡ rows
rows_amid w p rows q done h = rows_none (p ++ q) (length p) w
rows_amid w p rows q (more {x = r} {xs = rs} e t) h =
    let s : List ℤ = p ++ ((map cell r ++ cells_of rs) ++ q) in
    let n : length (map cell r) ≡ w = length-map r cell ∙ e in
    let again : s ≡ (p ++ map cell r) ++ (cells_of rs ++ q) =
    ap (λ (l : List ℤ). p ++ l) (append_assoc (map cell r) (cells_of rs) q) ∙ sym (append_assoc p (map cell r) (cells_of rs ++ q)) in
    let place : length p + 1 * w ≡ length (p ++ map cell r) = sym (length-append p (map cell r) ∙ omega arith) in
    let inside : s ≡ p ++ (map cell r ++ (cells_of rs ++ q)) = ap (λ (l : List ℤ). p ++ l) (append_assoc (map cell r) (cells_of rs) q) in
    let first : rows_in s (length p) w 1 ≡ r ∷ [] = rw inside (row_amid w p r (cells_of rs ++ q) e (and_left (all in_range r) (all (all in_range) rs) h)) in
    let rest : rows_in s (length p + 1 * w) w (length rs) ≡ rs =
    rw (again, place) (rows_amid w (p ++ map cell r) rs q t (and_right (all in_range r) (all (all in_range) rs) h)) in
    let count : suc (length rs) ≡ 1 + length rs = omega arith in
    ap (rows_in s (length p) w) count ∙ rows_split s (length p) w 1 (length rs) ∙ rw (first, rest)

-- what was written is read back
pub rows_written : (s : List ℤ) (at w : ℕ) (rows : List Row) → Wide w rows → all (all in_range) rows ≡ true → at + length rows * w ≤ length s
    → rows_in (written s at (cells_of rows)) at w (length rows) ≡ rows
unfolding written
rows_written s at w rows wide h g =
    let e : length (take at s) ≡ at = length-take-le at s (omega arith) in
    ap (λ (k : ℕ). rows_in (written s at (cells_of rows)) k w (length rows)) (sym e)
    ∙ rows_amid w (take at s) rows (drop (at + length (cells_of rows)) s) wide h
