-- The form of each line, and what stands in it.
use mathlib.Core.Path.{◌≡◌, refl, sym, ap, ◌∙◌}
use mathlib.Core.Bool.{Bool, true, false, ◌&&◌, ◌||◌}
use mathlib.Core.List.{List, [], ◌∷◌, ◌++◌, append-nil}
use Prim.Native.Nat.{ℕ, zero, suc, ◌+◌, ◌-◌, ◌*◌, ◌<◌, ◌≤◌}
use native.Mathlib.Nat.{mul-suc}
use native.Mathlib.Omega.{arith}
use native.Mathlib.Numerals.{add-one}
use borrow.Author.Tests.{eqb-true, eqb-false, leb-true, leb-false}
use lib.Dec.{leb, eqb}
use lib.ListN.{length, get_or, drop, replicate, length-append, length-replicate, get_or-replicate, get_or-append}
use lib.Seq.{get_or-append-add, drop-cons}
use Rattle.text.specs.declared.form.Form.{Form}
use Rattle.text.specs.Reading.{Counts, constant_next, widths_form, node_form, item_form, forms}

-- a constant's place, by the words before it
pub constant_here : (xs : List ℕ) (j before : ℕ) → length xs ≡ j → (2 ≤ j → before ≡ get_or xs (j - 2) 0) → constant_next xs ≡ ((eqb j 3 || eqb j 6) && eqb before 2)
unfolding constant_next
constant_here xs j before e h = rw e (by_place (eqb j 3) refl (eqb j 6) refl)
  where
    by_place : (a : Bool) → eqb j 3 ≡ a → (b : Bool) → eqb j 6 ≡ b → ((a || b) && eqb (get_or xs (j - 2) 0) 2) ≡ ((a || b) && eqb before 2)
    by_place true q b r = rw (h (omega (arith, eqb-true j 3 q)))
    by_place false q true r = rw (h (omega (arith, eqb-true j 6 r)))
    by_place false q false r = refl

-- ---- the forms of the lines behind the first

-- how many words lines of these forms have
unfoldable pub total : List Form → ℕ
total [] = 0
total (form ∷ fs) = form.count + total fs

-- n lines of one form more
pub total_more : (form : Form) (n : ℕ) (fs : List Form) → total (replicate n form ++ fs) ≡ form.count * n + total fs
unfolding total
total_more form zero fs = omega arith
total_more form (suc n) fs = omega (arith, total_more form n fs, mul-suc form.count n)

pub total_forms : (s : Counts) → total (forms s) ≡ s.tables + 6 * s.nodes + 7 * s.items
unfolding total forms
total_forms s =
    let i : total (replicate s.items item_form ++ []) ≡ 7 * s.items + 0 = total_more item_form s.items [] in
    omega (arith, rw append-nil at i, total_more node_form s.nodes (replicate s.items item_form))

module _ (s : Counts) where
  pub forms_count : length (forms s) ≡ 1 + s.nodes + s.items
  unfolding forms
  forms_count =
      omega (arith, length-append (replicate s.nodes node_form) (replicate s.items item_form), length-replicate s.nodes node_form, length-replicate s.items item_form)

  pub widths_at : (k : ℕ) → k ≡ 0 → widths_form s.tables ≡ get_or (forms s) k node_form
  unfolding forms
  widths_at k h = rw h

  pub nodes_at : (k : ℕ) → (k ≡ 0 → ⊥) → k ≤ s.nodes → node_form ≡ get_or (forms s) k node_form
  unfolding forms
  nodes_at zero n h = absurd (n refl)
  nodes_at (suc k) n h =
      sym (get_or-append (replicate s.nodes node_form) _ node_form k (rw (length-replicate s.nodes node_form) (omega arith)) ∙ get_or-replicate s.nodes k node_form node_form (omega arith))

  pub items_at : (k : ℕ) → s.nodes < k → k < 1 + s.nodes + s.items → item_form ≡ get_or (forms s) k node_form
  unfolding forms
  items_at zero n h = absurd (omega arith)
  items_at (suc k) n h =
      let many = length-replicate s.nodes node_form in
      let at : k ≡ length (replicate s.nodes node_form) + (k - s.nodes) = rw many (omega arith) in
      sym (ap (λ (i : ℕ). get_or (replicate s.nodes node_form ++ replicate s.items item_form) i node_form) at
      ∙ get_or-append-add (replicate s.nodes node_form) (replicate s.items item_form) (k - s.nodes) node_form
      ∙ get_or-replicate s.items (k - s.nodes) item_form node_form (omega arith))

  -- line k's form, and those behind it
  pub form_next : (k : ℕ) (form : Form) → form ≡ get_or (forms s) k node_form → k < 1 + s.nodes + s.items → drop k (forms s) ≡ form ∷ drop (k + 1) (forms s)
  form_next k form e h = rw (e, add-one k) (drop-cons (forms s) k node_form (rw forms_count h))

  -- no line has more than 16 numbers
  pub narrow_form : s.tables ≤ 16 → (k : ℕ) (form : Form) → form ≡ get_or (forms s) k node_form → k < 1 + s.nodes + s.items → form.count ≤ 16
  narrow_form h k form e u = rw e (by_place (eqb k 0) refl (leb k s.nodes) refl)
    where
      by_place : (a : Bool) → eqb k 0 ≡ a → (b : Bool) → leb k s.nodes ≡ b → (get_or (forms s) k node_form).count ≤ 16
      by_place true q b r = rw (sym (widths_at k (eqb-true k 0 q))) h
      by_place false q true r = rw (sym (nodes_at k (eqb-false k 0 q) (leb-true k s.nodes r))) (omega arith)
      by_place false q false r = rw (sym (items_at k (leb-false k s.nodes r) u)) (omega arith)
