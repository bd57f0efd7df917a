-- Domains: which columns they hold, where a column stands in one, and how references move to it.
use Rattle.std.specs.Prelude.{cond, List, [], ◌∷◌, ◌++◌, map, ℕ, zero, suc, ◌+◌, ltb, eqb, length}
use Rattle.algebra.specs.Lists.{keep, any, upto}
use Rattle.algebra.specs.Value.{same}
use Rattle.algebra.specs.Plan.{Term, column, outer, constant, nothing, Conjunct, Computation, copy, add, subtract, Aggregate, count, sum, minimum, maximum}
use Rattle.algebra.specs.Columns.{Column}

-- the node that gives a domain's rows, how many columns it has, and where in it an outer column (level, position) stands
pub record Domain : Type 0 where
  pub node : ℕ
  pub width : ℕ
  pub place : ℕ → ℕ → ℕ

-- "a column's place in the domain is the number of read columns below it"
abbrev pub below : List ℕ → ℕ → ℕ
below ks p = length (keep (λ q. ltb q p) ks)

-- where a column that the right side of a dependent join reads stands in the row of the left side under D
abbrev pub spot : Domain → ℕ → ℕ → ℕ
spot D zero p = D.width + p
spot D (suc l) p = D.place l p

-- "its keys the columns of D and of the left that the right reads, ascending"; w is the left's width
abbrev pub domain_keys : Domain → ℕ → List Column → List ℕ
domain_keys D w cs = keep (λ q. any (λ c. eqb q (spot D c.level c.position)) cs) (upto (D.width + w))

-- the new domain that node g gives
abbrev pub inner_domain : Domain → ℕ → List Column → ℕ → Domain
inner_domain D w cs g = let ks = domain_keys D w cs in record { node = g; width = length ks; place = λ v p. below ks (spot D v p) }

-- D inside a dependent join whose left row is not read: "references from inside the right past this join counting one level less"
abbrev pub inside_place : (ℕ → ℕ → ℕ) → ℕ → ℕ → ℕ
inside_place f zero p = 0
inside_place f (suc l) p = f l p

abbrev pub inside : Domain → Domain
inside D = record { node = D.node; width = D.width; place = inside_place D.place }

-- no domain at all: what stands around a closed dependent join
abbrev pub outside : Domain
outside = record { node = 0; width = 0; place = λ l p. 0 }

-- ---- "References move to where the same column now stands; outer columns become local ones in D's part."

abbrev pub move_term : Domain → (ℕ → ℕ) → Term → Term
move_term D f (column p) = column (f p)
move_term D f (outer l p) = column (D.place l p)
move_term D f (constant z) = constant z
move_term D f nothing = nothing

abbrev pub move_conjunct : Domain → (ℕ → ℕ) → Conjunct → Conjunct
move_conjunct D f c = record { test = c.test; first = move_term D f c.first; second = move_term D f c.second }

abbrev pub move_computation : Domain → (ℕ → ℕ) → Computation → Computation
move_computation D f (copy a) = copy (move_term D f a)
move_computation D f (add a b) = add (move_term D f a) (move_term D f b)
move_computation D f (subtract a b) = subtract (move_term D f a) (move_term D f b)

abbrev pub move_aggregate : (ℕ → ℕ) → Aggregate → Aggregate
move_aggregate f count = count
move_aggregate f (sum p) = sum (f p)
move_aggregate f (minimum p) = minimum (f p)
move_aggregate f (maximum p) = maximum (f p)

-- a position behind d more columns
abbrev pub shift : ℕ → ℕ → ℕ
shift d p = d + p

-- a position of a left row of width w then a right row, with a columns in front of the left and b in front of the right
abbrev pub shift_both : ℕ → ℕ → ℕ → ℕ → ℕ
shift_both w a b p = cond (ltb p w) (a + p) (a + b + p)

-- n columns from a on
abbrev pub span : ℕ → ℕ → List ℕ
span a n = map (shift a) (upto n)

-- the columns of a left side of width n and those of a right side of width w, without m columns between
abbrev pub around : ℕ → ℕ → ℕ → List ℕ
around n m w = span 0 n ++ span (n + m) w

-- D's columns, then others moved behind them
abbrev pub domain_first : Domain → List ℕ → List ℕ
domain_first D ps = upto D.width ++ map (shift D.width) ps

-- ---- "one tag 7 for each domain column in order (left's column first ..), then the original ones"

abbrev pub match : (ℕ → ℕ) → (ℕ → ℕ) → List ℕ → List Conjunct
match f g [] = []
match f g (k ∷ ks) = record { test = same; first = column (f k); second = column (g k) } ∷ match f g ks

-- the conjuncts of a join of a left side of width w under D with a right side under D
abbrev pub under_both : Domain → ℕ → List Conjunct → List Conjunct
under_both D w cs = match (λ q. q) (λ q. D.width + w + q) (upto D.width) ++ map (move_conjunct D (shift_both w D.width D.width)) cs

-- the conjuncts of a join of a left side of width w under D with a right side under the new domain with keys ks
abbrev pub under_inner : Domain → ℕ → List ℕ → List Conjunct → List Conjunct
under_inner D w ks cs = match (λ q. q) (λ q. D.width + w + below ks q) ks ++ map (move_conjunct D (shift_both w D.width (length ks))) cs
