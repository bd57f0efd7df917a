-- Rows chosen by number: all of them, those that pass one test more, those that pass the conjuncts so far.
use mathlib.Core.Path.{◌≡◌, refl, sym, ap, ◌∙◌}
use mathlib.Core.Bool.{Bool, true, false, cond, ◌&&◌, and-true, and_assoc}
use mathlib.Core.List.{List, [], ◌∷◌, ◌++◌, map, append-nil}
use Prim.Native.Nat.{ℕ, ◌+◌, ◌-◌, ◌*◌, ◌<◌, ◌≤◌}
use native.Mathlib.Omega.{arith}
use native.Mathlib.Nat.{add-zero, mul-le-mul_right}
use native.Mathlib.Numerals.{add-one}
use lib.IntN.{ℤ}
use lib.ListN.{length, get_or, take, drop, set, length-set}
use lib.Seq.{take-suc, take-suc-set, drop-set-lt, drop-drop, get_or-drop, get_or-take, length-take-le}
use Rattle.algebra.specs.Lists.{keep, all, upto, Every}
use Rattle.algebra.specs.Value as values
use Rattle.algebra.specs.Value.{Value, Row, holds}
use Rattle.algebra.specs.Plan.{Conjunct}
use Rattle.algebra.specs.Operators.{Outer, value_of, passes}
use Rattle.algebra.proofs.Lists.Every.{every_of, every_map, every_keep, every_in}
use Rattle.algebra.proofs.Lists.Keep.{keep_append, keep_all, keep_cong, keep_keep, map_append}
use Rattle.plan.specs.Words.{item_word, three_at, item_at, items_from}
use Rattle.plan.specs.Items.{between, term_of, term_right, test_of, conjunct_of, conjunct_right}
use Rattle.plan.specs.Codes.{meant_test}
use Rattle.plan.specs.declared.sorts.Test.{Test}
use Rattle.plan.specs.Terms.{meant}
use Rattle.plan.specs.declared.terms.Term.{Term}
use Rattle.plan.proofs.Laws.Header.{both}
use Rattle.operators.specs.declared.outer.Binding.{Binding}
use Rattle.operators.specs.declared.operand.Operand.{Operand}
use Rattle.store.specs.Cells.{value}
use Rattle.operators.specs.Bindings.{Held, taken}
use Rattle.operators.specs.Choice.{row_at, There, Below, conjuncts_from, meets, matches}
use Rattle.store.proofs.Laws.Cells.{row_long}
use Rattle.operators.proofs.Laws.Sorted.{item_passes}

-- ---- the chosen rows are there

pub below_there : (rows : List ℤ) (width : ℕ) {count : ℕ} {is : List ℕ} → count * width ≤ length rows → Below count is → There rows width is
below_there rows width {count} room t = every_map (λ k (h : k < count). omega (arith, mul-le-mul_right width h)) t

-- what all of them have the number at k has
pub next_one : {P : ℕ → Type 0} (found : List ℕ) (n : ℕ) → Every P (take n found) → (k : ℕ) → k < n → n ≤ length found → P (get_or found k 0)
next_one found n every k h g =
    let l : k < length (take n found) = rw (length-take-le n found g) h in
    rw (get_or-take n found k 0 h) at (every_in 0 every k l)

-- row k, which the code read at place i of the first n, is there
pub chosen_inside : (rows : List ℤ) (width : ℕ) (found : List ℕ) (n i : ℕ) {k : ℕ} → There rows width (take n found) → n ≤ length found → i < n
    → k ≡ get_or found i 0
    → k * width + width ≤ length rows
chosen_inside rows width found n i there few l e = rw e (next_one found n there i l few)

-- ---- of the first i numbers those that pass a test

pub record Narrowed (p : ℕ → Bool) (n : ℕ) (found₀ found : List ℕ) (kept i : ℕ) : Type 0 where
  pub inside : i ≤ n
  pub behind : kept ≤ i
  pub long : length found ≡ length found₀
  pub rest : drop i found ≡ drop i found₀
  pub chosen : take kept found ≡ keep p (take i found₀)

at_front : (l : List ℕ) (i : ℕ) → get_or (drop i l) 0 0 ≡ get_or l i 0
at_front l i = get_or-drop i l 0 0 ∙ ap (λ (k : ℕ). get_or l k 0) (add-zero i)

-- two lists that agree from i on agree at i, and from i + 1 on
module _ (l m : List ℕ) (i : ℕ) (e : drop i l ≡ drop i m) where
  pub rest_at : get_or l i 0 ≡ get_or m i 0
  rest_at = sym (at_front l i) ∙ ap (λ (k : List ℕ). get_or k 0 0) e ∙ at_front m i

  pub rest_next : drop (i + 1) l ≡ drop (i + 1) m
  rest_next = sym (drop-drop 1 i l) ∙ ap (drop 1) e ∙ drop-drop 1 i m

-- one number more is looked at
pub keep_next : (p : ℕ → Bool) (l : List ℕ) (i : ℕ) → i < length l
    → keep p (take (i + 1) l) ≡ keep p (take i l) ++ cond (p (get_or l i 0)) (get_or l i 0 ∷ []) []
keep_next p l i h = rw (add-one i, take-suc l i 0 h) (keep_append p (take i l) (get_or l i 0 ∷ []))

module _ {p : ℕ → Bool} {n : ℕ} {found₀ : List ℕ} where
  module _ {found : List ℕ} {kept i : ℕ} (s : Narrowed p n found₀ found kept i) where
    -- the number at i has not been written over
    pub narrowed_at : get_or found i 0 ≡ get_or found₀ i 0
    narrowed_at = rest_at found found₀ i s.rest

    module _ (h : i < n) (g : n ≤ length found₀) where
      -- it passes
      pub narrowed_more : {k : ℕ} → k ≡ get_or found i 0 → p k ≡ true → Narrowed p n found₀ (set found kept k) (kept + 1) (i + 1)
      narrowed_more {k} q e =
          let b : kept ≤ i = s.behind in
          let m : length found ≡ length found₀ = s.long in
          let r : k ≡ get_or found₀ i 0 = q ∙ narrowed_at in
          record {
            inside = omega arith;
            behind = omega arith;
            long = length-set found kept k ∙ s.long;
            rest = drop-set-lt (i + 1) found kept k (omega arith) ∙ rest_next found found₀ i s.rest;
            chosen =
                rw (keep_next p found₀ i (omega arith), ← r, e, add-one kept)
                (take-suc-set found kept k (omega arith) ∙ ap (λ (l : List ℕ). l ++ (k ∷ [])) s.chosen);
          }

      -- it does not
      pub narrowed_same : {k : ℕ} → k ≡ get_or found i 0 → p k ≡ false → Narrowed p n found₀ found kept (i + 1)
      narrowed_same {k} q e =
          let b : kept ≤ i = s.behind in
          let r : k ≡ get_or found₀ i 0 = q ∙ narrowed_at in
          record {
            inside = omega arith;
            behind = omega arith;
            long = s.long;
            rest = rest_next found found₀ i s.rest;
            chosen = rw (keep_next p found₀ i (omega arith), ← r, e, append-nil) s.chosen;
          }

-- row j, which the code read at place i, is there
pub narrowed_there : (s : List ℤ) (w : ℕ) {p : ℕ → Bool} {n : ℕ} {found₀ found : List ℕ} {kept i : ℕ} → Narrowed p n found₀ found kept i
    → There s w (take n found₀) → i < n → n ≤ length found₀ → {j : ℕ} → j ≡ get_or found i 0 → j * w + w ≤ length s
narrowed_there s w {n = n} {found₀ = found₀} {i = i} m t h g q = chosen_inside s w found₀ n i t g h (q ∙ narrowed_at m)

-- what the code made of row k, which it read as a part
module _ (test : Test) (first second : Operand) (s : List ℤ) (w k : ℕ) where
  pub met : {a b x y : ℤ} {r : Bool} → r ≡ holds (meant_test test) (value x) (value y) → x ≡ a → y ≡ b
      → value a ≡ taken first (map value (take (k * w + w - k * w) (drop (k * w) s)))
      → value b ≡ taken second (map value (take (k * w + w - k * w) (drop (k * w) s))) → r ≡ meets test first second s w k
  met e p q f g =
      let l : k * w + w - k * w ≡ w = omega arith in
      let f' = rw l at f in
      let g' = rw l at g in
      rw (← f', ← g', ← p, ← q) e

-- ---- the rows that pass the conjuncts so far

pub record Found (ws layout sizes : List ℕ) (cells scratch : List ℤ) (b : Binding) (j : ℕ) (left rows : List ℤ) (width count : ℕ) (is found : List ℕ)
    (n i : ℕ) : Type 0 where
  pub chosen : (o : Outer) → Held ws layout sizes cells scratch b o
      → take n found ≡ keep (matches o (conjuncts_from ws j i) (map value left) rows width) is
  pub below : Below count (take n found)

-- the terms of a right conjunct
pub record Right (ws : List ℕ) (j : ℕ) : Type 0 where
  pub first : term_right (three_at ws j 1) ≡ true
  pub second : term_right (three_at ws j 4) ≡ true

pub right_at : (ws : List ℕ) (j count i : ℕ) → all conjunct_right (items_from ws j count) ≡ true → i < count → Right ws (j + i)
right_at ws j count i e h =
    let x = item_at ws (j + i) in
    let t = both (between 1 7 x.tag) (term_right x.first && term_right x.second) (item_passes conjunct_right ws j i count e h) in
    let f = both (term_right x.first) (term_right x.second) t.1 in
    record { first = f.0; second = f.1 }

-- one conjunct more
passes_more : (o : Outer) (cs : List Conjunct) (c : Conjunct) (r : Row)
    → passes o (cs ++ (c ∷ [])) r ≡ (passes o cs r && holds c.test (value_of o r c.first) (value_of o r c.second))
passes_more o [] c r = and-true (holds c.test (value_of o r c.first) (value_of o r c.second))
passes_more o (d ∷ cs) c r =
    rw (passes_more o cs c r) (sym (and_assoc (holds d.test (value_of o r d.first) (value_of o r d.second)) (passes o cs r)
    (holds c.test (value_of o r c.first) (value_of o r c.second))))

conjuncts_more : (ws : List ℕ) (j i : ℕ) → conjuncts_from ws j (i + 1) ≡ conjuncts_from ws j i ++ (conjunct_of (item_at ws (j + i)) ∷ [])
conjuncts_more ws j i =
    rw (add-one i)
    (ap (map conjunct_of) (map_append (λ k. item_at ws (j + k)) (upto i) (i ∷ [])) ∙ map_append conjunct_of (items_from ws j i) (item_at ws (j + i) ∷ []))

-- equal terms of a test
holds_same : {s t : values.Test} {a b c d : Value} → s ≡ t → a ≡ b → c ≡ d → holds s a c ≡ holds t b d
holds_same p q r = rw (p, q, r)

module _ {ws layout sizes : List ℕ} {cells scratch : List ℤ} {b : Binding} {j : ℕ} {left rows : List ℤ} {width count : ℕ} {is : List ℕ} where
  pub found_start : {found : List ℕ} {n : ℕ} → take n found ≡ is → Below count is → Found ws layout sizes cells scratch b j left rows width count is found n 0
  found_start e h = record {
    chosen = λ o held. e ∙ sym (keep_all (λ k. true) (every_of (λ k. refl) is));
    below = rw e h;
  }

  module _ {found : List ℕ} {n i : ℕ} (s : Found ws layout sizes cells scratch b j left rows width count is found n i) (all_below : Below count is) (room : count * width ≤ length rows)
    where
      pub found_there : There rows width (take n found)
      found_there = below_there rows width room s.below

      -- one conjunct more, whose tag and terms the code read
      pub found_more : (test : Test) {m : ℕ} (first second : Operand) (t u : Term) {after : List ℕ} → meant_test test ≡ test_of (item_word ws (j + i) 0)
          → meant t ≡ term_of (three_at ws (j + i) 1) → meant u ≡ term_of (three_at ws (j + i) 4)
          →
          ((o : Outer) → Held ws layout sizes cells scratch b o → (row : Row) → length row ≡ width → taken first row ≡ value_of o (map value left ++ row) (meant t))
          →
          ((o : Outer) → Held ws layout sizes cells scratch b o → (row : Row) → length row ≡ width → taken second row ≡ value_of o (map value left ++ row) (meant u))
          → (take m after ≡ keep (meets test first second rows width) (take n found)) × (m ≤ n)
          → Found ws layout sizes cells scratch b j left rows width count is after m (i + 1)
      found_more test {m} first second t u {after} e f g p q r = record {
        chosen = λ o held. r.0 ∙ ap (keep (meets test first second rows width)) (s.chosen o held)
            ∙ keep_keep (meets test first second rows width) (matches o (conjuncts_from ws j i) (map value left) rows width) is
            ∙ keep_cong _ _ (every_map (λ k (h : k < count). step o held k h) all_below);
        below = rw r.0 (every_keep (meets test first second rows width) s.below);
      }
        where
          step : (o : Outer) → Held ws layout sizes cells scratch b o → (k : ℕ) → k < count
              → (matches o (conjuncts_from ws j i) (map value left) rows width k && meets test first second rows width k) ≡ matches o
              (conjuncts_from ws j (i + 1)) (map value left) rows width k
          step o held k h =
              let row = row_at rows width k in
              let c = conjunct_of (item_at ws (j + i)) in
              let l : length row ≡ width = row_long rows (k * width) width (omega (arith, mul-le-mul_right width h)) in
              let a : taken first row ≡ value_of o (map value left ++ row) c.first = p o held row l ∙ ap (value_of o (map value left ++ row)) f in
              let d : taken second row ≡ value_of o (map value left ++ row) c.second = q o held row l ∙ ap (value_of o (map value left ++ row)) g in
              ap (λ (x : Bool). (passes o (conjuncts_from ws j i) (map value left ++ row) && x)) (holds_same e a d)
              ∙ sym
              (ap (λ (cs : List Conjunct). passes o cs (map value left ++ row)) (conjuncts_more ws j i) ∙ passes_more o (conjuncts_from ws j i) c (map value left ++ row))
