-- Rows with a new column behind each.
use mathlib.Core.Path.{◌≡◌, refl, sym, ap, ◌∙◌}
use mathlib.Core.Bool.{Bool, true, false}
use mathlib.Core.List.{List, [], ◌∷◌, ◌++◌, map}
use Prim.Native.Nat.{ℕ, ◌+◌, ◌*◌, ◌<◌, ◌≤◌}
use native.Mathlib.Omega.{arith}
use native.Mathlib.Nat.{mul-le-mul_right}
use lib.IntN.{ℤ}
use lib.ListN.{length, take, drop, set, length-map, length-append}
use Rattle.std.specs.Prelude.{Ok, Err}
use Rattle.algebra.specs.Lists.{all, done, more}
use Rattle.algebra.specs.Value.{Value, Row}
use Rattle.algebra.specs.Statements.{Wide}
use Rattle.algebra.proofs.Lists.Every.{every_map, every_mapped, every_unmapped, every_append, every_head, every_back}
use Rattle.algebra.proofs.Lists.Keep.{map_append}
use Rattle.plan.proofs.Laws.Loops.{all_of}
use Rattle.plan.proofs.Laws.Numbered.{every_all}
use Rattle.store.specs.declared.rows.Block.{Block}
use Rattle.operators.specs.declared.fault.Fault.TheVariants.{OutOfRange}
use Rattle.plan.specs.declared.sorts.Operation.{Operation}
use Rattle.operators.specs.declared.operand.Operand.{Operand}
use Rattle.operators.specs.declared.operand.Operand.TheVariants.{Column, Fixed}
use Rattle.store.specs.Cells.{value, cell, in_range, rows_in, cells_of, written}
use Rattle.store.specs.Rows.{source, place_of, row_of, rows_of, Within, Before}
use Rattle.operators.specs.Bindings.{taken, Light, combined}
use Rattle.operators.specs.Made.{Makes}
use Rattle.store.proofs.Laws.Cells.{cell_value, written_nothing, written_length, written_more, rows_length, rows_wide, cells_length, rows_next}
use Rattle.operators.proofs.Laws.Partners.{block_row, before_within, before_later, one_of}
use Rattle.store.proofs.Laws.RowsBehind.{row_wide, row_more}
use Rattle.store.proofs.Laws.Ranges.{entry_ranged}
use Rattle.operators.proofs.Laws.Answers.{makes_rows, makes_out}

-- what an operand takes of a row in range is in range
taken_light : (x : Operand) (r : Row) → all in_range r ≡ true → Light x → in_range (taken x r) ≡ true
taken_light (Column p) r h l = entry_ranged r p h
taken_light (Fixed z) r h l = l

abbrev pub added : Operation → Operand → Operand → Row → Row
added t first second x = x ++ (combined t (taken first x) (taken second x) ∷ [])

-- the first i rows of a block, each with its new column
abbrev pub added_to : List ℤ → List ℤ → Block → Operation → Operand → Operand → ℕ → List Row
added_to cells s b t first second i = map (added t first second) (rows_in (source cells s b) b.from b.width i)

module _ (cells s : List ℤ) (b : Block) (t : Operation) (first second : Operand) where
  added_next : (i : ℕ) → added_to cells s b t first second (i + 1) ≡ added_to cells s b t first second i ++ (added t first second (row_of cells s b i) ∷ [])
  added_next i =
      ap (map (added t first second)) (rows_next (source cells s b) b.from b.width i)
      ∙ map_append (added t first second) (rows_in (source cells s b) b.from b.width i) (row_of cells s b i ∷ [])

  added_length : (i : ℕ) → length (added_to cells s b t first second i) ≡ i
  added_length i =
      length-map (rows_in (source cells s b) b.from b.width i) (added t first second) ∙ rows_length (source cells s b) b.from b.width i

  pub added_none : all (all in_range) (added_to cells s b t first second 0) ≡ true
  unfolding rows_in
  added_none = refl

  pub added_start : (to : ℕ) → s ≡ written s to (cells_of (added_to cells s b t first second 0))
  unfolding rows_in
  added_start to = sym (written_nothing s to)

  one_longer : (r : Row) → length r ≡ b.width → length (added t first second r) ≡ b.width + 1
  one_longer r e = length-append r (combined t (taken first r) (taken second r) ∷ []) ∙ ap (λ (k : ℕ). k + 1) e

  added_wide : (i : ℕ) → Within cells s b → i ≤ b.count → Wide (b.width + 1) (added_to cells s b t first second i)
  added_wide i h g =
      every_mapped (added t first second)
      (every_map one_longer (rows_wide (source cells s b) b.from b.width i (omega (arith, mul-le-mul_right b.width g))))

  module _ (to : ℕ) (before : Before cells to b) (room : to + b.count * (b.width + 1) ≤ length s) where
    inside : Within cells s b
    inside = before_within cells s to b before (omega arith)

    module _ (i : ℕ) (here : i < b.count) {scratch u : List ℤ} (so_far : scratch ≡ written s to (cells_of (added_to cells s b t first second i)))
        (copied : u ≡ written scratch (to + i * (b.width + 1)) (map cell (row_of cells scratch b i))) where
      cells_long : length (cells_of (added_to cells s b t first second i)) ≡ i * (b.width + 1)
      cells_long =
          cells_length (b.width + 1) (added_to cells s b t first second i) (added_wide i inside (omega arith))
          ∙ ap (λ (k : ℕ). k * (b.width + 1)) (added_length i)

      below : i * (b.width + 1) + (b.width + 1) ≤ b.count * (b.width + 1)
      below = omega (arith, mul-le-mul_right (b.width + 1) here)

      fits : to + length (cells_of (added_to cells s b t first second i)) ≤ length s
      fits = omega (arith, cells_long, below)

      scratch_long : length scratch ≡ length s
      scratch_long = ap length so_far ∙ written_length s to (cells_of (added_to cells s b t first second i)) fits

      same_before : row_of cells scratch b i ≡ row_of cells s b i
      same_before = rw so_far (block_row cells s to (cells_of (added_to cells s b t first second i)) fits b before i here)

      long_cells : length (map cell (row_of cells scratch b i)) ≡ b.width
      long_cells = length-map (row_of cells scratch b i) cell ∙ ap length same_before ∙ row_wide cells b s i inside here

      same_after : row_of cells u b i ≡ row_of cells s b i
      same_after =
          rw copied (block_row cells scratch (to + i * (b.width + 1)) (map cell (row_of cells scratch b i)) (omega (arith, below, scratch_long, long_cells)) b
          (before_later cells to (to + i * (b.width + 1)) b before (omega arith)) i here)
          ∙ same_before

      pub copied_long : length u ≡ length s
      copied_long =
          ap length copied ∙ written_length scratch (to + i * (b.width + 1)) (map cell (row_of cells scratch b i))
          (omega (arith, below, scratch_long, long_cells)) ∙ scratch_long

      -- the row is still there, and read
      module _ {part : List ℤ} (read : part ≡ take b.width (drop (place_of b i) (source cells u b))) where
        part_values : map value part ≡ row_of cells s b i
        part_values = ap (map value) read ∙ same_after

        pub part_long : length part ≡ b.width
        part_long = sym (length-map part value) ∙ ap length part_values ∙ row_wide cells b s i inside here

        pub operand_light : (x : Operand) {v : Value} → v ≡ taken x (map value part) → all (all in_range) (rows_of cells s b) ≡ true → Light x
            → in_range v ≡ true
        operand_light x e h l =
            rw (e, part_values) (taken_light x (row_of cells s b i) (one_of (source cells s b) b.from b.width b.count i (all in_range) h here) l)

        -- what stands behind it
        pub new_cell : {y z v : Value} → y ≡ taken first (map value part) → z ≡ taken second (map value part) → v ≡ combined t y z
            → v ≡ combined t (taken first (row_of cells s b i)) (taken second (row_of cells s b i))
        new_cell p q e = e ∙ rw (p, q, part_values)

      pub added_more : (x : ℤ) → value x ≡ combined t (taken first (row_of cells s b i)) (taken second (row_of cells s b i))
          → set u (to + i * (b.width + 1) + b.width) x ≡ written s to (cells_of (added_to cells s b t first second (i + 1)))
      added_more x e =
          let at : ℕ = to + i * (b.width + 1) in
          let r : Row = row_of cells s b i in
          let w : ℕ = b.width + 1 in
          let long : length (map cell r) ≡ b.width = length-map r cell ∙ row_wide cells b s i inside here in
          let u_is : u ≡ written scratch at (map cell r) = copied ∙ ap (λ (q : Row). written scratch at (map cell q)) same_before in
          let x_is : x ≡ cell (combined t (taken first r) (taken second r)) = sym (cell_value x) ∙ ap cell e in
          let here_is : set u (at + b.width) x ≡ written scratch at (map cell (added t first second r)) =
          ap (λ (l : List ℤ). set l (at + b.width) x) u_is
          ∙ ap (λ (k : ℕ). set (written scratch at (map cell r)) (at + k) x) (sym long)
          ∙ written_more scratch at (map cell r) x (omega (arith, below, scratch_long, long))
          ∙ ap (λ (z : ℤ). written scratch at (map cell r ++ (z ∷ []))) x_is
          ∙ ap (λ (l : List ℤ). written scratch at l) (sym (map_append cell r (combined t (taken first r) (taken second r) ∷ []))) in
          row_more s to w (added_to cells s b t first second i) (added_wide i inside (omega arith)) (added_length i) (added t first second r)
          (one_longer r (row_wide cells b s i inside here)) (omega (arith, below)) so_far here_is
          ∙ ap (λ (rows : List Row). written s to (cells_of rows)) (sym (added_next i))

  -- a number in range, or not
  module _ (i : ℕ) (here : i < b.count) {v : Value} (known : v ≡ combined t (taken first (row_of cells s b i)) (taken second (row_of cells s b i))) where
    pub added_ranged : all (all in_range) (rows_of cells s b) ≡ true → all (all in_range) (added_to cells s b t first second i) ≡ true → in_range v ≡ true
        → all (all in_range) (added_to cells s b t first second (i + 1)) ≡ true
    added_ranged h g l =
        rw (added_next i)
        (all_of (all in_range) (every_append (every_all (all in_range) (added_to cells s b t first second i) g)
        (more (all_of in_range (every_append (every_all in_range (row_of cells s b i) (one_of (source cells s b) b.from b.width b.count i (all in_range) h here))
        (more (rw known at l) done))) done)))

    pub added_out : (limit to : ℕ) (u : List ℤ) → b.count ≤ limit → in_range v ≡ false
        → Makes limit (added_to cells s b t first second b.count) to s u (Err OutOfRange)
    added_out limit to u h l =
        makes_out limit (added_to cells s b t first second b.count) to s u (rw (added_length b.count) h)
        (go (all (all in_range) (added_to cells s b t first second b.count)) refl)
      where
        go : (q : Bool) → all (all in_range) (added_to cells s b t first second b.count) ≡ q → q ≡ false
        go false e = refl
        go true e =
            let every =
            every_unmapped (added t first second) (rows_of cells s b) (every_all (all in_range) (added_to cells s b t first second b.count) e) in
            let one =
            one_of (source cells s b) b.from b.width b.count i (λ r. all in_range (added t first second r))
            (all_of (λ r. all in_range (added t first second r)) every) here in
            let last =
            every_head (every_back (row_of cells s b i) (combined t (taken first (row_of cells s b i)) (taken second (row_of cells s b i)) ∷ [])
            (every_all in_range (added t first second (row_of cells s b i)) one)) in
            sym last ∙ sym (ap in_range known) ∙ l

  pub added_end : (limit to i : ℕ) (u : List ℤ) → b.count ≤ limit → i ≤ b.count → b.count ≤ i
      → all (all in_range) (added_to cells s b t first second i) ≡ true
      → u ≡ written s to (cells_of (added_to cells s b t first second i)) → Makes limit (added_to cells s b t first second b.count) to s u
      (Ok b.count)
  added_end limit to i u h l g r e =
      let q : i ≡ b.count = omega arith in
      makes_rows limit (added_to cells s b t first second b.count) to s u b.count (added_length b.count) h (rw q at r) (rw q at e)
