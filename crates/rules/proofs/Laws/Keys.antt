-- The keys of a new domain as a set: the spots of all columns that a right side reads.
use mathlib.Core.Path.{◌≡◌, refl, sym, ap, ap₂, ◌∙◌, subst}
use mathlib.Core.Bool.{Bool, true, false, cond, ◌&&◌, ◌||◌, and_assoc, and-or_distrib_right, or-false, or_assoc}
use mathlib.Core.List.{List, [], ◌∷◌, append-nil}
use Prim.Native.Nat.{ℕ, zero, suc, ◌+◌, ◌^◌, ◌<◌, ◌≤◌}
use native.Mathlib.Omega.{arith}
use native.Mathlib.Nat.{zero-div}
use native.Mathlib.Numerals.{add-one}
use lib.Dec.{eqb, ltb}
use lib.Bits.{bit_or}
use borrow.Author.Tests.{eqb-true, eqb-false, eq-eqb, ne_eqb, ltb-true, ltb-false}
use Rattle.algebra.specs.Lists.{keep, any, upto, Every, done, more}
use Rattle.algebra.specs.Columns.{Column}
use Rattle.algebra.specs.Domains as algebra
use Rattle.algebra.proofs.Lists.Every.{every_map, every_of}
use Rattle.algebra.proofs.Lists.Keep.{keep_append, keep_cong}
use Rattle.algebra.proofs.Domains.Keys.{upto_below}
use Rattle.pages.specs.declared.domain.Domain.{Domain}
use Rattle.pages.specs.declared.sets.ColumnSet.{ColumnSet}
use Rattle.pages.specs.Sets.{in_set, members}
use Rattle.pages.specs.Domains.{Means}
use Rattle.rules.specs.Reads.{reads_at, reads, set_at, ReadsTable, Spotted}
use Rattle.pages.proofs.Laws.Sets.{in_with}
use Rattle.rules.proofs.Laws.ColumnsRead.{any_append, cond_or}

-- ---- some element passes

module _ {A : Type 0} where
  any_cong : (f g : A → Bool) {xs : List A} → Every (λ x. f x ≡ g x) xs → any f xs ≡ any g xs
  any_cong f g done = refl
  any_cong f g (more e t) = rw (e, any_cong f g t)

  any_none : (f : A → Bool) {xs : List A} → Every (λ x. f x ≡ false) xs → any f xs ≡ false
  any_none f done = refl
  any_none f (more e t) = rw e (any_none f t)

  any_or : (f g : A → Bool) (xs : List A) → any (λ x. f x || g x) xs ≡ (any f xs || any g xs)
  any_or f g [] = refl
  any_or f g (x ∷ xs) = rw (any_or f g xs) (go (f x) (g x) (any f xs) (any g xs))
    where
      go : (a b c d : Bool) → cond (a || b) true (c || d) ≡ (cond a true c || cond b true d)
      go true b c d = refl
      go false true true d = refl
      go false true false d = refl
      go false false c d = refl

  any_and : (b : Bool) (f : A → Bool) (xs : List A) → any (λ x. b && f x) xs ≡ (b && any f xs)
  any_and true f xs = refl
  any_and false f xs = any_none (λ x. false) (every_of (λ x. refl) xs)

  any_keep : (p f : A → Bool) (xs : List A) → any f (keep p xs) ≡ any (λ x. p x && f x) xs
  any_keep p f [] = refl
  any_keep p f (x ∷ xs) = go (p x) (any_keep p f xs)
    where
      go : (b : Bool) → any f (keep p xs) ≡ any (λ y. p y && f y) xs
          → any f (cond b (x ∷ keep p xs) (keep p xs)) ≡ cond (b && f x) true (any (λ y. p y && f y) xs)
      go true e = rw e
      go false e = e

-- one number more
any_snoc : (f : ℕ → Bool) (n : ℕ) → any f (upto (suc n)) ≡ (any f (upto n) || f n)
any_snoc f n = any_append f (upto n) (n ∷ []) ∙ ap (λ (b : Bool). any f (upto n) || b) (cond_or (f n) false ∙ or-false (f n))

any_next : (f : ℕ → Bool) (n : ℕ) {x y : Bool} → y ≡ any f (upto n) → x ≡ (y || f n) → x ≡ any f (upto (n + 1))
any_next f n e h = h ∙ ap (λ (b : Bool). b || f n) e ∙ sym (any_snoc f n) ∙ ap (λ (m : ℕ). any f (upto m)) (sym (add-one n))

-- one number alone
any_one : (f : ℕ → Bool) (i n : ℕ) → i < n → any (λ k. eqb i k && f k) (upto n) ≡ f i
any_one f i zero h = absurd (omega arith)
any_one f i (suc n) h = any_snoc (λ k. eqb i k && f k) n ∙ go (ltb i n) refl (any_one f i n)
  where
    go : (b : Bool) → ltb i n ≡ b → (i < n → any (λ k. eqb i k && f k) (upto n) ≡ f i) → (any (λ k. eqb i k && f k) (upto n) || (eqb i n && f n)) ≡ f i
    go true t before = let g = ltb-true i n t in rw (before g, ne_eqb i n (λ q. omega arith)) (or-false (f i))
    go false t before =
        let q : i ≡ n = omega (arith, ltb-false i n t) in
        rw (any_none (λ k. eqb i k && f k) (every_map (λ k (g : k < n). rw (ne_eqb i k (λ e. omega arith))) (upto_below n)), q, eq-eqb n n refl)

-- ---- the spots of one level

-- set with the spots of the columns below p
pub record Spots (d : Domain) (level : ℕ) (columns set : ColumnSet) (p : ℕ) (set' : ColumnSet) : Type 0 where
  pub all : (D : algebra.Domain) → Means d D → (q : ℕ) → q < 64
      → in_set set' q ≡ (in_set set q || any (λ k. eqb q (algebra.spot D level k)) (keep (in_set columns) (upto p)))

equal_swapped : (a b : ℕ) → eqb a b ≡ eqb b a
equal_swapped a b = go (eqb b a) refl
  where
    go : (x : Bool) → eqb b a ≡ x → eqb a b ≡ x
    go true e = eq-eqb a b (sym (eqb-true b a e))
    go false e = ne_eqb a b (λ q. eqb-false b a e (sym q))

module _ {d : Domain} {level : ℕ} {columns set : ColumnSet} where
  pub spots_none : Spots d level columns set 0 set
  spots_none = record { all = λ D m q h. sym (or-false (in_set set q)) }

  module _ {p : ℕ} {set' : ColumnSet} (before : Spots d level columns set p set') where
    -- the next position is not there
    pub spots_out : in_set columns p ≡ false → Spots d level columns set (p + 1) set'
    spots_out e = record { all = λ D m q h. rw (add-one p, keep_append (in_set columns) (upto p) (p ∷ []), e, append-nil) (before.all D m q h) }

    module _ (e : in_set columns p ≡ true) {r : ℕ} (s : (D : algebra.Domain) → Means d D → r ≡ algebra.spot D level p) where
      next : (D : algebra.Domain) → Means d D → (q : ℕ)
          → any (λ k. eqb q (algebra.spot D level k)) (keep (in_set columns) (upto (p + 1)))
          ≡ (any (λ k. eqb q (algebra.spot D level k)) (keep (in_set columns) (upto p)) || eqb q r)
      next D m q =
          let at : ℕ → Bool = λ k. eqb q (algebra.spot D level k) in
          rw (add-one p, keep_append (in_set columns) (upto p) (p ∷ []), e, s D m)
          (any_append at (keep (in_set columns) (upto p)) (p ∷ []) ∙ ap (λ (b : Bool). any at (keep (in_set columns) (upto p)) || b)
          (cond_or (at p) false ∙ or-false (at p)))

      -- it is there
      pub spots_in : {v : ColumnSet} → v.bits ≡ bit_or set'.bits (2 ^ r) → Spots d level columns set (p + 1) v
      spots_in {v} t = record {
        all = λ D m q h.
            rw (in_with set' v r t q, before.all D m q h, next D m q, equal_swapped r q)
            (or_assoc (in_set set q) (any (λ k. eqb q (algebra.spot D level k)) (keep (in_set columns) (upto p))) (eqb q r));
      }

      -- it is there, and stands too far for a set
      pub spots_far : 64 ≤ r → Spots d level columns set (p + 1) set'
      spots_far g = record { all = λ D m q h. rw (next D m q, ne_eqb q r (λ z. omega arith), or-false) (before.all D m q h) }

  pub spots_end : {p : ℕ} {set' : ColumnSet} → Spots d level columns set p set' → 64 ≤ p → p ≤ 64 → Spots d level columns set 64 set'
  spots_end {p} before g h = let e : p ≡ 64 = omega arith in rw e at before

-- ---- the spots of all levels

-- the spots of the columns of levels below l of node r
pub record Levels (d : Domain) (table : List (List ColumnSet)) (r l : ℕ) (set : ColumnSet) : Type 0 where
  pub all : (D : algebra.Domain) → Means d D → (q : ℕ) → q < 64
      → in_set set q ≡ any (λ k. any (λ p. eqb q (algebra.spot D k p)) (members (set_at table r k))) (upto l)

module _ {d : Domain} {table : List (List ColumnSet)} {r : ℕ} where
  pub levels_none : {set : ColumnSet} → set.bits ≡ 0 → Levels d table r 0 set
  levels_none e = record { all = λ D m q h. rw (e, zero-div (2 ^ q)) }

  -- one level more
  pub levels_more : {l : ℕ} {set set' columns : ColumnSet} → Levels d table r l set → columns ≡ set_at table r l
      → ((D : algebra.Domain) → Means d D → (q : ℕ) → q < 64 → in_set set' q ≡ (in_set set q || any (λ p. eqb q (algebra.spot D l p)) (members columns)))
      → Levels d table r (l + 1) set'
  levels_more {l} before e f = record {
    all = λ D m q h.
        any_next (λ k. any (λ p. eqb q (algebra.spot D k p)) (members (set_at table r k))) l (before.all D m q h) (rw e at (f D m q h));
  }

-- a column's spot, found by its level and position
spot_of : (F : ℕ → ℕ → Bool) (c : Column) → c.level < 8 → c.position < 64
    → any (λ k. any (λ p. (eqb c.level k && eqb c.position p) && F k p) (upto 64)) (upto 8) ≡ F c.level c.position
spot_of F c hl hp =
    any_cong _ (λ k. eqb c.level k && F k c.position) (every_of (λ k. level k) (upto 8))
    ∙ any_one (λ k. F k c.position) c.level 8 hl
  where
    level : (k : ℕ) → any (λ p. (eqb c.level k && eqb c.position p) && F k p) (upto 64) ≡ (eqb c.level k && F k c.position)
    level k =
        any_cong _ (λ p. eqb c.level k && (eqb c.position p && F k p))
        (every_of (λ p. and_assoc (eqb c.level k) (eqb c.position p) (F k p)) (upto 64))
        ∙ any_and (eqb c.level k) (λ p. eqb c.position p && F k p) (upto 64)
        ∙ ap (λ (b : Bool). eqb c.level k && b) (any_one (F k) c.position 64 hp)

-- some column of a list, found by levels and positions
spots_of : (F : ℕ → ℕ → Bool) {cs : List Column} → Every (λ c. (c.level < 8) × (c.position < 64)) cs
    → any (λ k. any (λ p. reads cs k p && F k p) (upto 64)) (upto 8) ≡ any (λ c. F c.level c.position) cs
spots_of F done = any_none _ (every_of (λ k. any_none _ (every_of (λ p. refl) (upto 64))) (upto 8))
spots_of F (more {x} {xs} h t) =
    any_cong _ (λ k. any (one k) (upto 64) || any (others k) (upto 64))
    (every_of (λ k. any_cong _ (λ p. one k p || others k p) (every_of (λ p. split k p) (upto 64)) ∙ any_or (one k) (others k) (upto 64)) (upto 8))
    ∙ any_or (λ k. any (one k) (upto 64)) (λ k. any (others k) (upto 64)) (upto 8)
    ∙ ap₂ ◌||◌ (spot_of F x h.0 h.1) (spots_of F t)
    ∙ sym (cond_or (F x.level x.position) _)
  where
    one : ℕ → ℕ → Bool
    one k p = (eqb x.level k && eqb x.position p) && F k p

    others : ℕ → ℕ → Bool
    others k p = reads xs k p && F k p

    split : (k p : ℕ) → (reads (x ∷ xs) k p && F k p) ≡ (one k p || others k p)
    split k p =
        rw (cond_or (eqb x.level k && eqb x.position p) (reads xs k p))
        (and-or_distrib_right (eqb x.level k && eqb x.position p) (reads xs k p) (F k p))

-- nothing is kept from n on
keep_upto : (p : ℕ → Bool) (n m : ℕ) → n ≤ m → ((q : ℕ) → n ≤ q → p q ≡ false) → keep p (upto m) ≡ keep p (upto n)
keep_upto p n zero h f = let e : n ≡ 0 = omega arith in rw e
keep_upto p n (suc m) h f = go (ltb m n) refl (keep_upto p n m)
  where
    go : (b : Bool) → ltb m n ≡ b → (n ≤ m → ((q : ℕ) → n ≤ q → p q ≡ false) → keep p (upto m) ≡ keep p (upto n)) → keep p (upto (suc m)) ≡ keep p (upto n)
    go true t before = let e : n ≡ suc m = omega (arith, ltb-true m n t) in rw e
    go false t before = let g = ltb-false m n t in rw (keep_append p (upto m) (m ∷ []), f m g, append-nil) (before g f)

-- all levels: the keys
pub key_set : {d : Domain} (table : List (List ColumnSet)) (r : ℕ) {l : ℕ} {set : ColumnSet} → Levels d table r l set → 8 ≤ l → l ≤ 8
    → (ws : List ℕ) (D : algebra.Domain) (w : ℕ) → Means d D → ReadsTable ws (suc r) table → D.width + w ≤ 64 → Spotted D w (reads_at ws r)
    → members set ≡ algebra.domain_keys D w (reads_at ws r)
key_set {d} table r {l} {set} levels g h ws D w m has narrow spotted =
    keep_cong (in_set set) key (every_map (λ q i. at q i) (upto_below 64))
    ∙ keep_upto key (D.width + w) 64 narrow far
  where
    eight : Levels d table r 8 set
    eight = let e : l ≡ 8 = omega arith in subst (λ (n : ℕ). Levels d table r n set) e levels

    cs : List Column
    cs = reads_at ws r

    key : ℕ → Bool
    key q = any (λ c. eqb q (algebra.spot D c.level c.position)) cs

    level : (q k : ℕ) → k < 8
        → any (λ p. eqb q (algebra.spot D k p)) (members (set_at table r k)) ≡ any (λ p. reads cs k p && eqb q (algebra.spot D k p)) (upto 64)
    level q k hk =
        any_keep (in_set (set_at table r k)) (λ p. eqb q (algebra.spot D k p)) (upto 64)
        ∙ any_cong (λ p. in_set (set_at table r k) p && eqb q (algebra.spot D k p)) (λ p. reads cs k p && eqb q (algebra.spot D k p))
        (every_map (λ p hp. rw (has r k p (omega arith) hk hp)) (upto_below 64))

    at : (q : ℕ) → q < 64 → in_set set q ≡ key q
    at q i =
        eight.all D m q i
        ∙ any_cong (λ k. any (λ p. eqb q (algebra.spot D k p)) (members (set_at table r k)))
        (λ k. any (λ p. reads cs k p && eqb q (algebra.spot D k p)) (upto 64)) (every_map (λ k hk. level q k hk) (upto_below 8))
        ∙ spots_of (λ k p. eqb q (algebra.spot D k p)) (every_map (λ c s. (s.0, s.1)) spotted)

    far : (q : ℕ) → D.width + w ≤ q → key q ≡ false
    far q i = any_none _ (every_map (λ c s. ne_eqb q (algebra.spot D c.level c.position) (λ z. omega arith)) spotted)
