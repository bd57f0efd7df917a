-- One turn of the loop over groups: the rows with the key of the first row left, its key and their aggregates.
use mathlib.Core.Path.{◌∙◌, ◌≡◌, ap, refl}
use mathlib.Core.Bool.{Bool, and-false, false, not, true}
use mathlib.Core.List.{List, [], ◌++◌, ◌∷◌, append-nil, map}
use Prim.Native.Nat.{ℕ, ◌*◌, ◌+◌, ◌<◌, ◌≤◌}
use native.Mathlib.Omega.{arith}
use lib.IntN.{ℤ}
use lib.ListN.{drop, get_or, length, length-append, length-drop, length-map, take}
use lib.Seq.{drop-cons, get_or-take, length-take-le}
use Rattle.std.specs.Prelude.{Result, Ok, Err}
use Rattle.algebra.specs.Lists.{Every, all, keep, upto}
use Rattle.algebra.specs.Value.{Row, null, same_row}
use Rattle.algebra.specs.Plan as algebra
use Rattle.algebra.specs.Operators.{aggregates, groups_by, picked}
use Rattle.algebra.proofs.Domains.Keys.{upto_below}
use Rattle.algebra.proofs.Lists.Every.{every_keep, every_map}
use Rattle.algebra.proofs.Lists.Keep.{map_cong}
use Rattle.algebra.proofs.Lists.Same.{same_refl}
use Rattle.plan.proofs.Laws.Loops.{all_append, keep_few}
use Rattle.store.specs.declared.rows.Block.{Block}
use Rattle.operators.specs.declared.fault.Fault.{Fault}
use Rattle.store.specs.Cells.{cell, cells_of, in_range, rows_in, written}
use Rattle.store.specs.Rows.{Before, Within, row_of, rows_of, source}
use Rattle.operators.specs.Choice.{Below, There, row_at, same_key}
use Rattle.operators.specs.Made.{Makes, Puts}
use Rattle.store.proofs.Laws.Cells.{row_of_part, read_long}
use Rattle.operators.proofs.Laws.Groups.{Grouped, grouped_fails, grouped_more, grouped_size, groups_next}
use Rattle.operators.proofs.Laws.Columns.{row_kept, picked_ranged}
use Rattle.operators.proofs.Laws.Choices.{next_one, below_there}
use Rattle.operators.proofs.Laws.Partners.{before_later, one_of, chosen_ranged}
use Rattle.operators.proofs.Laws.Answers.{makes_rows, makes_out, put_of, put_fine, put_fails}
use Rattle.store.proofs.Laws.RowsBehind.{parts_behind}
use Rattle.store.proofs.Laws.Parts.{row_end}

-- ---- the rows of a block by number

pub rows_numbered : (cells s : List ℤ) (b : Block) → rows_of cells s b ≡ map (row_of cells s b) (upto b.count)
unfolding rows_in
rows_numbered cells s b = refl

-- ---- no keys: one group

module _ (limit to : ℕ) (s t : List ℤ) (gs : List algebra.Aggregate) (chosen rows : List Row) (same : chosen ≡ rows) (enough : 1 ≤ limit)
    {r : Result (Unit {0}) Fault} (puts : Puts [] (aggregates gs chosen) to s t r) where
  pub one_fails : {f : Fault} → r ≡ Err f → Makes limit (aggregates gs rows ∷ []) to s t (Err f)
  one_fails e =
      let h = put_fails (all in_range (aggregates gs chosen)) puts.0 e in
      let out : all in_range (aggregates gs rows) ≡ false = rw (← same) h.0 in
      rw h.1 (makes_out limit (aggregates gs rows ∷ []) to s t enough (rw out))

  pub one_makes : {u : Unit {0}} → r ≡ Ok u → Makes limit (aggregates gs rows ∷ []) to s t (Ok 1)
  one_makes e =
      let fine : all in_range (aggregates gs rows) ≡ true = rw (← same) (put_fine (all in_range (aggregates gs chosen)) puts.0 e) in
      makes_rows limit (aggregates gs rows ∷ []) to s t 1 refl enough (rw fine)
      (rw (append-nil (map cell (aggregates gs rows)), ← same) (puts.1 e))

-- all numbers chosen
pub all_below : (count : ℕ) {is : List ℕ} → is ≡ upto count → Below count is
all_below count e = rw e (upto_below count)

pub all_rows : (cells s : List ℤ) (b : Block) {is : List ℕ} → is ≡ upto b.count → map (row_of cells s b) is ≡ rows_of cells s b
all_rows cells s b e = rw (e, rows_numbered)

-- ---- one turn

first_left : (rest : List ℕ) (left : ℕ) → 0 < left → left ≤ length rest → take left rest ≡ get_or rest 0 0 ∷ drop 1 (take left rest)
first_left rest left h g =
    let size : length (take left rest) ≡ left = length-take-le left rest g in
    drop-cons (take left rest) 0 0 (omega arith) ∙ ap (λ (x : ℕ). x ∷ drop 1 (take left rest)) (get_or-take left rest 0 0 h)

-- what parting the rows left tells
pub record Turned (ks : List ℕ) (gs : List algebra.Aggregate) (f : ℕ → Row) (count left others k : ℕ) (now members then : List ℕ) : Type 0 where
  pub step : groups_by ks gs (map f now) ≡ (picked ks (f k) ++ aggregates gs (map f members)) ∷ groups_by ks gs (map f then)
  pub those : Below count members
  pub these : Below count then
  pub fewer : others < left

others_fewer : (p : ℕ → Bool) (k : ℕ) (js : List ℕ) → p k ≡ true → length (keep (λ i. not (p i)) (k ∷ js)) ≤ length js
others_fewer p k js h = rw h (keep_few (λ i. not (p i)) js)

-- a round of grouping begins: rows are left, and their first one has a place
pub record Round (cells s₀ : List ℤ) (b : Block) (to : ℕ) (ps : List ℕ) (gs : List algebra.Aggregate) (w : ℕ) (s : List ℤ) (rest : List ℕ)
    (left groups : ℕ) : Type 0 where
  pub before : Before cells to b
  pub so_far : Grouped ps gs (row_of cells s₀ b) b.count w to s₀ s rest left groups
  pub some : 0 < left
  pub long : left ≤ length rest
  pub space : to + b.count * w ≤ length s₀

pub round_begins : (first second keys count limit : ℕ) {cells s₀ : List ℤ} {b : Block} {to : ℕ} {ps : List ℕ} {gs : List algebra.Aggregate} {s : List ℤ} {rest : List ℕ}
    {left groups : ℕ} → Before cells to b → Grouped ps gs (row_of cells s₀ b) b.count (keys + count) to s₀ s rest left groups → 0 < left → length rest ≡ 4096
    → (first + keys ≤ 2000) × (second + count ≤ 2000) × (keys + count ≤ 64) × (to + b.count * (keys + count) ≤ length s₀) × (b.count ≤ limit) × (limit ≤ 4096)
    → Round cells s₀ b to ps gs (keys + count) s rest left groups
round_begins first second keys count limit h inv some long bounds =
    record { before = h; so_far = inv; some = some; long = omega (arith, inv.room, long, bounds.4, bounds.5); space = bounds.3 }

module _ {cells s₀ : List ℤ} {b : Block} {to : ℕ} {ps : List ℕ} {gs : List algebra.Aggregate} {w : ℕ} {s : List ℤ} {rest : List ℕ}
    {left groups : ℕ}
    (the : Round cells s₀ b to ps gs w s rest left groups) where
  pub first_there : {k : ℕ} → k ≡ get_or rest 0 0 → k < b.count
  first_there e = rw e (next_one rest left the.so_far.below 0 the.some the.long)

  -- the group's place is within s
  pub place_fits : to + groups * w + w ≤ length s₀
  place_fits = omega (arith, the.space, row_end to groups b.count w (omega (arith, the.some, the.so_far.room)))

  row_here : (i : ℕ) → i < b.count → row_of cells s b i ≡ row_of cells s₀ b i
  row_here i h =
      row_kept cells s₀ b to the.before (cells_of the.so_far.rows) the.so_far.stands i h
      (omega (arith, grouped_size ps gs (row_of cells s₀ b) b.count w to s₀ the.so_far, place_fits))

  -- the rows as one part of the cells
  module _ {part : List ℤ} (is : part ≡ take (b.count * b.width) (drop b.from (source cells s b))) where
    part_row : (i : ℕ) → i < b.count → row_at part b.width i ≡ row_of cells s₀ b i
    part_row i h = rw is (row_of_part (source cells s b) b.from b.width b.count i h ∙ row_here i h)

    part_long : Within cells s b → length part ≡ b.count * b.width
    part_long h = read_long (source cells s b) b.from (b.count * b.width) is h

    pub part_there : Within cells s b → (is : List ℕ) → Below b.count is → There part b.width is
    part_there h js t = below_there part b.width (omega (arith, part_long h)) t

    pub turned : {k : ℕ} → k ≡ get_or rest 0 0 → (members others : ℕ) (found rest' : List ℕ)
        → take members found ≡ keep (same_key part b.width ps k) (take left rest)
        → take others rest' ≡ keep (λ i. not (same_key part b.width ps k i)) (take left rest) → others ≤ left → length rest' ≡ length rest
        → Turned ps gs (row_of cells s₀ b) b.count left others k (take left rest) (take members found) (take others rest')
    turned {k} e members others found rest' x y few same = record {
      step = rw (x, y, now) (groups_next ps gs (row_of cells s₀ b) k (drop 1 (take left rest)) passes (rw now at tests));
      those = rw x (every_keep passes the.so_far.below);
      these = rw y (every_keep (λ i. not (passes i)) the.so_far.below);
      fewer =
          omega (
            arith,
            length-take-le others rest' (omega (arith, the.long)),
            ap length y ∙ ap (λ (l : List ℕ). length (keep (λ i. not (passes i)) l)) now,
            others_fewer passes k (drop 1 (take left rest)) (same_refl (picked ps (row_at part b.width k))),
            length-drop 1 (take left rest),
            length-take-le left rest the.long,
            the.some,
          );
    }
      where
        passes : ℕ → Bool
        passes i = same_key part b.width ps k i

        now : take left rest ≡ k ∷ drop 1 (take left rest)
        now = rw e (first_left rest left the.some the.long)

        lower : k < b.count
        lower = first_there e

        tests : Every (λ i. passes i ≡ same_row (picked ps (row_of cells s₀ b k)) (picked ps (row_of cells s₀ b i))) (take left rest)
        tests = every_map (λ i (l : i < b.count). rw (part_row k lower, part_row i l)) the.so_far.below

  -- the key of row k is written
  module _ {k at : ℕ} {s₁ : List ℤ} (lower : k < b.count) (narrow : length ps ≤ w) (same : length s ≡ length s₀)
      (place : at ≡ to + groups * w) (writes : s₁ ≡ written s at (map cell (picked ps (row_of cells s b k)))) where
    key_written : s₁ ≡ written s at (map cell (picked ps (row_of cells s₀ b k)))
    key_written = rw (row_here k lower) at writes

    key_size : length (map cell (picked ps (row_of cells s₀ b k))) ≡ length ps
    key_size = simp length-map

    row_after : (i : ℕ) → i < b.count → row_of cells s₁ b i ≡ row_of cells s₀ b i
    row_after i h =
        row_kept cells s b at (rw place (before_later cells to (to + groups * w) b the.before (omega arith)))
        (map cell (picked ps (row_of cells s₀ b k))) key_written i h (omega (arith, key_size, place_fits)) ∙ row_here i h

    rows_after : {is : List ℕ} → Below b.count is → map (row_of cells s₁ b) is ≡ map (row_of cells s₀ b) is
    rows_after t = map_cong (row_of cells s₁ b) (row_of cells s₀ b) (every_map row_after t)

    pub ranged_after : all (all in_range) (rows_of cells s₀ b) ≡ true → {is : List ℕ} → Below b.count is
        → all (all in_range) (map (row_of cells s₁ b) is) ≡ true
    ranged_after r t = rw (rows_after t) (chosen_ranged cells s₀ b r t)

    module _ {others : ℕ} {members then : List ℕ}
        (turn : Turned ps gs (row_of cells s₀ b) b.count left others k (take left rest) members then) {r : Result (Unit {0}) Fault}
        (says : r ≡ put_of (all in_range (aggregates gs (map (row_of cells s₁ b) members)))) where
      says₀ : r ≡ put_of (all in_range (aggregates gs (map (row_of cells s₀ b) members)))
      says₀ = rw (rows_after turn.those) at says

      -- an aggregate is out of range
      pub turned_fails : {f : Fault} → r ≡ Err f → (limit : ℕ) → b.count ≤ limit → (t : List ℤ)
          → Makes limit (groups_by ps gs (map (row_of cells s₀ b) (upto b.count))) to s₀ t (Err f)
      turned_fails {f} e limit g t =
          rw (put_fails (all in_range (aggregates gs (map (row_of cells s₀ b) members))) says₀ e).1
          (grouped_fails ps gs (row_of cells s₀ b) b.count w to s₀ the.so_far limit t _ _ turn.step out g)
        where
          out : all in_range (picked ps (row_of cells s₀ b k) ++ aggregates gs (map (row_of cells s₀ b) members)) ≡ false
          out =
              rw (
                all_append in_range (picked ps (row_of cells s₀ b k)) (aggregates gs (map (row_of cells s₀ b) members)),
                (put_fails (all in_range (aggregates gs (map (row_of cells s₀ b) members))) says₀ e).0,
              )
              (and-false (all in_range (picked ps (row_of cells s₀ b k))))

      -- the group is written
      pub turned_next : {u : Unit {0}} → r ≡ Ok u → all (all in_range) (rows_of cells s₀ b) ≡ true → ((rs : List Row) → length ps + length (aggregates gs rs) ≡ w) → {s₂ : List ℤ} → (r ≡ Ok u → s₂ ≡ written s₁ (at + length ps) (map cell (aggregates gs (map (row_of cells s₁ b) members))))
          → {rest' : List ℕ} → then ≡ take others rest'
          → Grouped ps gs (row_of cells s₀ b) b.count w to s₀ s₂ rest' others (groups + 1)
      turned_next {u} h ranged size {s₂} e {rest'} shown =
          grouped_more ps gs (row_of cells s₀ b) b.count w to s₀ the.so_far (key ++ values) (rw shown at turn.step) wide fine stands
          (rw shown at turn.these) turn.fewer place_fits
        where
          key : Row
          key = picked ps (row_of cells s₀ b k)

          values : Row
          values = aggregates gs (map (row_of cells s₀ b) members)

          wide : length (key ++ values) ≡ w
          wide =
              length-append key values ∙ ap (λ (x : ℕ). x + length values) (length-map ps (λ p. get_or (row_of cells s₀ b k) p null)) ∙ size
              (map (row_of cells s₀ b) members)

          fine : all in_range (key ++ values) ≡ true
          fine =
              rw (
                all_append in_range key values,
                picked_ranged ps (row_of cells s₀ b k)
                    (one_of (source cells s₀ b) b.from b.width b.count k (all in_range) ranged lower),
                put_fine (all in_range (aggregates gs (map (row_of cells s₀ b) members))) says₀ h,
              )

          told : s₂ ≡ written s₁ (at + length ps) (map cell values)
          told = rw (← rows_after turn.those) (e h)

          stands : s₂ ≡ written s (to + groups * w) (map cell (key ++ values))
          stands =
              rw (← place)
              (told
              ∙ ap (λ (l : List ℤ). written l (at + length ps) (map cell values)) key_written
              ∙ parts_behind s at (length ps) key values (length-map ps (λ p. get_or (row_of cells s₀ b k) p null)) (omega (arith, size (map (row_of cells s₀ b) members), place_fits)))

-- the keys and the rows as the caller says them
pub keyed_makes : (cells s₀ : List ℤ) (b : Block) (gs : List algebra.Aggregate) {ks ks' : List ℕ} {limit to : ℕ} {t : List ℤ} {r : Result ℕ Fault} → ks ≡ ks'
    → Makes limit (groups_by ks gs (map (row_of cells s₀ b) (upto b.count))) to s₀ t r → Makes limit (groups_by ks' gs (rows_of cells s₀ b)) to s₀ t r
keyed_makes cells s₀ b gs e m = rw (rows_numbered cells s₀ b, ← e) m

-- ---- numbers

pub below_more : {count limit most : ℕ} {is : List ℕ} → count ≤ limit → limit ≤ most → Below count is → Below most is
below_more g h t = every_map (λ i l. omega arith) t
