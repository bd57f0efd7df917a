-- A domain as the code keeps it: for each level around a set and, where the level is read, the width in front of it.
use Rattle.std.specs.Prelude.{◌≡◌, List, ℕ, zero, suc, ◌+◌, ◌^◌, ◌<◌, ◌≤◌, get_or, Option, Some, None}
use Rattle.algebra.specs.Domains as algebra
use Rattle.pages.specs.declared.domain.Domain.{Domain}
use Rattle.pages.specs.declared.domain.Level.{Level}
use Rattle.pages.specs.declared.sets.ColumnSet.{ColumnSet}
use Rattle.pages.specs.Sets.{rank}

-- no level
abbrev pub none : Level
none = record { columns = record { bits = 0 }; base = None; narrow = tt }

-- through the set of one level
abbrev pub through : Level → ℕ → ℕ
through level q = rank level.columns q

-- through the levels below l, the outermost first
abbrev pub climb : List Level → ℕ → ℕ → ℕ
climb levels zero q = q
climb levels (suc l) q = climb levels l (through (get_or levels l none) q)

-- where a column stands before the set of its level
abbrev pub before : Option ℕ → ℕ → ℕ
before None p = 0
before (Some base) p = base + p

-- where a column of a level stands in the set of that level
abbrev pub start : Level → ℕ → ℕ
start level p = through level (before level.base p)

-- where an outer column stands
abbrev pub place_in : Domain → ℕ → ℕ → ℕ
place_in d l p = climb d.levels l (start (get_or d.levels l none) p)

-- the code's domain is D
pub record Means (d : Domain) (D : algebra.Domain) : Type 0 where
  pub node : d.node ≡ D.node
  pub width : d.width ≡ D.width
  pub narrow : d.width ≤ 64
  pub place : (l p : ℕ) → l < 8 → place_in d l p ≡ D.place l p

-- d with one level more in front
pub record Deeper (d r : Domain) (n w : ℕ) (level : Level) : Type 0 where
  pub node : r.node ≡ n
  pub width : r.width ≡ w
  pub first : get_or r.levels 0 none ≡ level
  pub word : (get_or d.levels 0 none).columns.bits < 2 ^ 64
  pub others : (l : ℕ) → suc l < 8 → get_or r.levels (suc l) none ≡ get_or d.levels l none

-- r keeps the columns of set, of d and of a row behind d's
pub record Inner (d r : Domain) (n : ℕ) (set : ColumnSet) : Type 0 where
  pub word : set.bits < 2 ^ 64
  pub node : r.node ≡ n
  pub width : r.width ≡ rank set 64
  pub first_set : (get_or r.levels 0 none).columns ≡ set
  pub first_base : (get_or r.levels 0 none).base ≡ Some d.width
  pub others : (l : ℕ) → suc l < 8 → get_or r.levels (suc l) none ≡ get_or d.levels l none
