-- Where an outer column stands in a domain as the code keeps it.
use mathlib.Core.Path.{◌≡◌, refl, ap, sym, ◌∙◌}
use mathlib.Core.List.{List}
use Prim.Native.Nat.{ℕ, zero, suc, ◌+◌, ◌-◌, ◌^◌, ◌<◌, ◌≤◌}
use native.Mathlib.Omega.{arith}
use lib.ListN.{length, get_or}
use Rattle.std.proofs.lemmas.List.{get_or_default}
use Rattle.std.specs.declared.option.Option.TheVariants.{Some, None}
use Rattle.algebra.specs.Columns.{Column}
use Rattle.algebra.specs.Domains as algebra
use Rattle.pages.specs.declared.domain.Domain.{Domain}
use Rattle.pages.specs.declared.domain.Level.{Level}
use Rattle.pages.specs.declared.sets.ColumnSet.{ColumnSet}
use Rattle.pages.specs.declared.sets.TheConstants.ColumnSet.{ALL}
use Rattle.pages.specs.Sets.{rank, members}
use Rattle.pages.specs.Domains.{none, through, climb, before, start, place_in, Means, Deeper, Inner}
use Rattle.pages.proofs.Laws.Sets.{rank_le, rank_few, rank_full, below_members, length_members}

-- ---- through the levels

-- nothing is kept in front of the first column
climb_zero : (levels : List Level) (l : ℕ) → climb levels l 0 ≡ 0
unfolding rank
climb_zero levels zero = refl
climb_zero levels (suc l) = climb_zero levels l

-- what is kept of a level is few columns
climb_few : (levels : List Level) (l q : ℕ) → (get_or levels 0 none).columns.bits < 2 ^ 64 → climb levels (suc l) q ≤ 64
climb_few levels zero q f = rank_few (get_or levels 0 none).columns q f
climb_few levels (suc l) q f = climb_few levels l (through (get_or levels (suc l) none) q) f

-- the level of an index
pub level_at : (levels : List Level) (l : ℕ) (given : Level) {level : Level} → l < 8 → length levels ≡ 8 → get_or levels l given ≡ level
    → get_or levels l none ≡ level
level_at levels l given h size e = get_or_default levels l none given (omega arith) ∙ e

-- a level that is not read has no columns
pub unread : (d : Domain) (l p : ℕ) → (get_or d.levels l none).base ≡ None → 0 ≡ place_in d l p
unread d l p e = rw e (sym (climb_zero d.levels (suc l)))

-- where a column stands in the set of its level
pub read : (d : Domain) (l p r : ℕ) {level : Level} {base : ℕ} → get_or d.levels l none ≡ level → level.base ≡ Some base
    → r ≡ rank level.columns (base + p) → climb d.levels l r ≡ place_in d l p
read d l p r e b f = rw (e, b, f)

-- one level passed, in the code's arithmetic
pub passed : (levels : List Level) (l q r : ℕ) {x : ℕ} {level : Level} → climb levels l q ≡ x → 0 < l → get_or levels (l - 1) none ≡ level
    → r ≡ through level q → climb levels (l - 1) r ≡ x
passed levels zero q r e h f g = absurd (omega arith)
passed levels (suc l) q r e h f g = let k : suc l - 1 ≡ l = omega arith in let f' = rw k at f in rw (k, g, ← f') e

-- all levels passed
pub passed_all : (levels : List Level) (l q : ℕ) {x : ℕ} → climb levels l q ≡ x → l ≤ 0 → q ≡ x
passed_all levels zero q e h = e
passed_all levels (suc l) q e h = absurd (omega arith)

-- one level more in front
climb_deeper : (new old : List Level) (l q : ℕ) → ((k : ℕ) → suc k < 8 → get_or new (suc k) none ≡ get_or old k none) → l < 8
    → climb new (suc l) q ≡ through (get_or new 0 none) (climb old l q)
climb_deeper new old zero q f h = refl
climb_deeper new old (suc l) q f h = rw (f l h) (climb_deeper new old l (through (get_or old l none) q) f (omega arith))

-- ---- one level more in front

place_behind : (d r : Domain) → ((l : ℕ) → suc l < 8 → get_or r.levels (suc l) none ≡ get_or d.levels l none)
    → (l p : ℕ) → suc l < 8 → place_in r (suc l) p ≡ through (get_or r.levels 0 none) (place_in d l p)
place_behind d r f l p h = rw (f l h) (climb_deeper r.levels d.levels l (start (get_or d.levels l none) p) f (omega arith))

-- ---- what they mean

-- the domain that a node gives over the columns ks
module _ {d r : Domain} {g : ℕ} {set : ColumnSet} {D : algebra.Domain} (ks : List ℕ) where
  pub inner_means : Inner d r g set → Means d D → ks ≡ members set
      → Means r (record { node = g; width = length ks; place = λ v p. algebra.below ks (algebra.spot D v p) })
  inner_means i m e = record {
    node = i.node;
    width = i.width ∙ sym (ap length e ∙ length_members set);
    narrow = omega (arith, i.width, rank_few set 64 i.word);
    place = places;
  }
    where
      counted : (q : ℕ) → rank set q ≡ algebra.below ks q
      counted q = sym (ap (λ (l : List ℕ). algebra.below l q) e ∙ below_members set q i.word)

      places : (l p : ℕ) → l < 8 → place_in r l p ≡ algebra.below ks (algebra.spot D l p)
      places zero p h = rw (i.first_set, i.first_base, m.width) (counted (D.width + p))
      places (suc l) p h =
          place_behind d r i.others l p h
          ∙ ap (λ (s : ColumnSet). rank s (place_in d l p)) i.first_set
          ∙ ap (rank set) (m.place l p (omega arith))
          ∙ counted (D.place l p)

-- the new domain of a dependent join, whose keys are the members of set
pub inner_domain_lem : {d r : Domain} {g : ℕ} {set : ColumnSet} {D : algebra.Domain} (wl : ℕ) (reads : List Column) → Inner d r g set → Means d D
    → algebra.domain_keys D wl reads ≡ members set → Means r (algebra.inner_domain D wl reads g)
inner_domain_lem {D} wl reads = inner_means (algebra.domain_keys D wl reads)

-- no domain at all
pub outside_means : {d : Domain} → d.node ≡ 0 → d.width ≡ 0 → ((l : ℕ) → l < 8 → (get_or d.levels l none).base ≡ None) → Means d algebra.outside
outside_means {d} n w f = record {
  node = n;
  width = w;
  narrow = omega arith;
  place = λ l p h. rw (f l h) (climb_zero d.levels (suc l));
}

-- inside a dependent join whose left row is not read
pub inside_means : {d r : Domain} {level : Level} → Deeper d r d.node d.width level → level.columns ≡ ALL → level.base ≡ None
    → (D : algebra.Domain) → Means d D → Means r (algebra.inside D)
inside_means {d} {r} {level} i full read D m = record {
  node = i.node ∙ m.node;
  width = i.width ∙ m.width;
  narrow = rw i.width m.narrow;
  place = places;
}
  where
    places : (l p : ℕ) → l < 8 → place_in r l p ≡ algebra.inside_place D.place l p
    places zero p h = rw (i.first, read) (omega (arith, rank_le level.columns 0))
    places (suc l) p h =
        place_behind d r i.others l p h
        ∙ rw (i.first, full)
        (rank_full (place_in d l p) (climb_few d.levels l (before (get_or d.levels l none).base p) i.word) ∙ m.place l p (omega arith))
