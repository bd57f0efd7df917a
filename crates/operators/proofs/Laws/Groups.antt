-- Groups one after the other: the group of the first row, then the groups of the rows with another key.
use mathlib.Core.Path.{◌∙◌, ◌≡◌, ap, refl, sym}
use mathlib.Core.Bool.{Bool, ◌&&◌, and_comm, false, not, true}
use mathlib.Core.List.{List, [], ◌++◌, ◌∷◌, append_assoc, append-nil, map}
use Prim.Native.Nat.{ℕ, ◌*◌, ◌+◌, ◌<◌, ◌≤◌}
use native.Mathlib.Omega.{arith}
use lib.IntN.{ℤ}
use lib.ListN.{length, length-append, length-map, take}
use borrow.Author.Tests.{not-true}
use Rattle.std.specs.Prelude.{Ok, Err}
use Rattle.algebra.specs.Lists.{Every, all, done, keep, more, upto}
use Rattle.algebra.specs.Value.{Row, same_row}
use Rattle.algebra.specs.Plan as algebra
use Rattle.algebra.specs.Operators.{aggregates, distinct, groups_by, picked}
use Rattle.algebra.specs.Statements.{Wide}
use Rattle.algebra.proofs.Columns.Picked.{length_upto}
use Rattle.algebra.proofs.Domains.Keys.{upto_below}
use Rattle.algebra.proofs.Lists.Distinct.{every_distinct, keep_distinct}
use Rattle.algebra.proofs.Lists.Every.{every_append, every_kept, every_map, every_mapped}
use Rattle.algebra.proofs.Lists.Keep.{keep_cong, keep_keep, keep_map, keep_same, map_cong}
use Rattle.algebra.proofs.Lists.Same.{same_eq, same_refl}
use Rattle.plan.proofs.Laws.Loops.{all_append, keep_few}
use Rattle.operators.specs.declared.fault.Fault.TheVariants.{OutOfRange}
use Rattle.store.specs.Cells.{cell, cells_of, in_range, written}
use Rattle.operators.specs.Choice.{Below}
use Rattle.operators.specs.Made.{Makes}
use Rattle.store.proofs.Laws.Cells.{cells_length, written_nothing}
use Rattle.store.proofs.Laws.RowsBehind.{row_more}
use Rattle.operators.proofs.Laws.Answers.{makes_rows, makes_out}

-- ---- lists of rows

distinct_few : (xs : List Row) → length (distinct xs) ≤ length xs
distinct_few [] = omega arith
distinct_few (x ∷ xs) = omega (arith, keep_few (λ y. not (same_row x y)) (distinct xs), distinct_few xs)

-- a row of another key than k is none of key x
apart : (k x y : Row) → same_row k x ≡ false → (b : Bool) → same_row x y ≡ b → ((not (same_row k y)) && b) ≡ b
apart k x y e true t = rw (other_key k x y e t)
  where
    other_key : (k x y : Row) → same_row k x ≡ false → same_row x y ≡ true → same_row k y ≡ false
    other_key k x y e t = let s = same_eq x y t in rw (← s) e
apart k x y e false t = and_comm (not (same_row k y)) false

module _ (ks : List ℕ) (gs : List algebra.Aggregate) where
  -- no more groups than rows
  pub groups_few : (rs : List Row) → length (groups_by ks gs rs) ≤ length rs
  groups_few rs = rw (length-map, ← length-map rs (picked ks)) (distinct_few (map (picked ks) rs))

  abbrev others : Row → List Row → List Row
  others k rs = keep (λ r. not (same_row k (picked ks r))) rs

  -- the rows of a key are all among those that another key leaves
  all_others : (k x : Row) (rs : List Row) → same_row k x ≡ false
      → keep (λ r. same_row x (picked ks r)) (others k rs) ≡ keep (λ r. same_row x (picked ks r)) rs
  all_others k x rs e =
      keep_keep (λ r. same_row x (picked ks r)) (λ r. not (same_row k (picked ks r))) rs ∙ keep_same _ (λ r. same_row x (picked ks r)) rs
      (λ r. apart k x (picked ks r) e (same_row x (picked ks r)) refl)

  keys_step : (r : Row) (rs : List Row) → distinct (map (picked ks) (r ∷ rs)) ≡ picked ks r ∷ distinct (map (picked ks) (others (picked ks r) (r ∷ rs)))
  keys_step r rs =
      rw (
        same_refl (picked ks r),
        keep_distinct (λ x. not (same_row (picked ks r) x)) (map (picked ks) rs),
        keep_map (λ x. not (same_row (picked ks r) x))
            (picked ks) rs,
      )

  abbrev group_of : List Row → Row → Row
  group_of rs k = k ++ aggregates gs (keep (λ r. same_row k (picked ks r)) rs)

  pub groups_step : (r : Row) (rs : List Row) → groups_by ks gs (r ∷ rs) ≡ group_of (r ∷ rs) (picked ks r) ∷ groups_by ks gs (others (picked ks r) (r ∷ rs))
  groups_step r rs =
      ap (map (group_of (r ∷ rs))) (keys_step r rs)
      ∙ ap (λ (l : List Row). group_of (r ∷ rs) (picked ks r) ∷ l)
      (map_cong (group_of (r ∷ rs)) (group_of (others (picked ks r) (r ∷ rs)))
      (every_distinct (every_mapped (picked ks) (every_map (λ y t. same_group (picked ks y) (not-true (same_row (picked ks r) (picked ks y)) t)) (every_kept (λ y. not (same_row (picked ks r) (picked ks y))) (r ∷ rs))))))
    where
      same_group : (k : Row) → same_row (picked ks r) k ≡ false → group_of (r ∷ rs) k ≡ group_of (others (picked ks r) (r ∷ rs)) k
      same_group k e = ap (λ (l : List Row). k ++ aggregates gs l) (sym (all_others (picked ks r) k (r ∷ rs) e))

  -- ---- rows by number

  module _ (f : ℕ → Row) (k : ℕ) (js : List ℕ) (p : ℕ → Bool) (says : Every (λ i. p i ≡ same_row (picked ks (f k)) (picked ks (f i))) (k ∷ js)) where
    pub groups_next : groups_by ks gs (map f (k ∷ js)) ≡ (picked ks (f k) ++ aggregates gs (map f (keep p (k ∷ js)))) ∷ groups_by ks gs
        (map f (keep (λ i. not (p i)) (k ∷ js)))
    groups_next =
        let these : map f (keep p (k ∷ js)) ≡ keep (λ r. same_row (picked ks (f k)) (picked ks r)) (map f (k ∷ js)) =
        ap (map f) (keep_cong p (λ i. same_row (picked ks (f k)) (picked ks (f i))) says) ∙ sym
        (keep_map (λ r. same_row (picked ks (f k)) (picked ks r)) f (k ∷ js)) in
        let those : map f (keep (λ i. not (p i)) (k ∷ js)) ≡ others (picked ks (f k)) (map f (k ∷ js)) =
        ap (map f) (keep_cong (λ i. not (p i)) (λ i. not (same_row (picked ks (f k)) (picked ks (f i)))) (every_map (λ i t. ap not t) says)) ∙ sym
        (keep_map (λ r. not (same_row (picked ks (f k)) (picked ks r))) f (k ∷ js)) in
        groups_step (f k) (map f js) ∙ ap
        (λ (l : List Row). (picked ks (f k) ++ aggregates gs l) ∷ groups_by ks gs (others (picked ks (f k)) (map f (k ∷ js)))) (sym these) ∙ ap
        (λ (l : List Row). (picked ks (f k) ++ aggregates gs (map f (keep p (k ∷ js)))) ∷ groups_by ks gs l) (sym those)

-- ---- the loop

-- the groups of the rows no longer left stand in s, those of the left rows follow
pub record Grouped (ks : List ℕ) (gs : List algebra.Aggregate) (f : ℕ → Row) (count w to : ℕ) (s₀ s : List ℤ) (rest : List ℕ) (left groups : ℕ) : Type 0
  where
    pub rows : List Row
    pub whole : rows ++ groups_by ks gs (map f (take left rest)) ≡ groups_by ks gs (map f (upto count))
    pub many : length rows ≡ groups
    pub room : groups + left ≤ count
    pub wide : Wide w rows
    pub ranged : all (all in_range) rows ≡ true
    pub stands : s ≡ written s₀ to (cells_of rows)
    pub below : Below count (take left rest)

module _ (ks : List ℕ) (gs : List algebra.Aggregate) (f : ℕ → Row) (count w to : ℕ) (s₀ : List ℤ) where
  pub grouped_none : (rest : List ℕ) → take count rest ≡ upto count → Grouped ks gs f count w to s₀ s₀ rest count 0
  grouped_none rest e = record {
    rows = [];
    whole = rw e;
    many = refl;
    room = omega arith;
    wide = done;
    ranged = refl;
    stands = sym (written_nothing s₀ to);
    below = rw e (upto_below count);
  }

  module _ {s : List ℤ} {rest : List ℕ} {left groups : ℕ} (inv : Grouped ks gs f count w to s₀ s rest left groups) where
    -- how many cells there are
    pub grouped_size : length (cells_of inv.rows) ≡ groups * w
    grouped_size = cells_length w inv.rows inv.wide ∙ ap (λ (n : ℕ). n * w) inv.many

    -- one group more
    pub grouped_more : {t : List ℤ} {rest' : List ℕ} {others : ℕ} (g : Row)
        → groups_by ks gs (map f (take left rest)) ≡ g ∷ groups_by ks gs (map f (take others rest')) → length g ≡ w → all in_range g ≡ true
        → t ≡ written s (to + groups * w) (map cell g) → Below count (take others rest') → others < left → to + groups * w + w ≤ length s₀
        → Grouped ks gs f count w to s₀ t rest' others (groups + 1)
    grouped_more {t} {rest'} {others} g e size range writes lower fewer fits = record {
      rows = inv.rows ++ (g ∷ []);
      whole = append_assoc inv.rows (g ∷ []) _ ∙ ap (λ (l : List Row). inv.rows ++ l) (sym e) ∙ inv.whole;
      many = length-append inv.rows (g ∷ []) ∙ ap (λ (n : ℕ). n + 1) inv.many;
      room = omega (arith, inv.room);
      wide = every_append inv.wide (more size done);
      ranged = rw (all_append (all in_range) inv.rows (g ∷ []), inv.ranged, range);
      stands = row_more s₀ to w inv.rows inv.wide inv.many g size (omega arith) inv.stands writes;
      below = lower;
    }

    -- the groups that there are in the end
    grouped_all : left ≤ 0 → inv.rows ≡ groups_by ks gs (map f (upto count))
    grouped_all h = let q : left ≡ 0 = omega arith in sym (append-nil inv.rows) ∙ (rw q at inv.whole)

    pub grouped_makes : (limit : ℕ) → left ≤ 0 → count ≤ limit → Makes limit (groups_by ks gs (map f (upto count))) to s₀ s (Ok groups)
    grouped_makes limit h g =
        rw (← grouped_all h) (makes_rows limit inv.rows to s₀ s groups inv.many (omega (arith, inv.room)) inv.ranged inv.stands)

    -- a group is out of range
    pub grouped_fails : (limit : ℕ) (t : List ℤ) (g : Row) (rs : List Row) → groups_by ks gs (map f (take left rest)) ≡ g ∷ rs → all in_range g ≡ false
        → count ≤ limit → Makes limit (groups_by ks gs (map f (upto count))) to s₀ t (Err OutOfRange)
    grouped_fails limit t g rs e range h =
        let few : length (groups_by ks gs (map f (upto count))) ≤ count =
        omega (arith, groups_few ks gs (map f (upto count)), length-map (upto count) f, length_upto count) in
        let out : all (all in_range) (groups_by ks gs (map f (upto count))) ≡ false =
        ap (all (all in_range)) (sym inv.whole ∙ ap (λ (l : List Row). inv.rows ++ l) e) ∙ rw
        (all_append (all in_range) inv.rows (g ∷ rs), inv.ranged, range) in
        makes_out limit (groups_by ks gs (map f (upto count))) to s₀ t (omega arith) out
