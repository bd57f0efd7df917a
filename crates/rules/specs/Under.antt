-- A node under a domain, by its number: what its piece puts.
use Rattle.std.specs.Prelude.{◌≡◌, true, cond, List, [], ◌∷◌, ◌++◌, map, ℕ, zero, suc, ◌+◌, ◌<◌, eqb, length, get_or, Result}
use Rattle.algebra.specs.Lists.{keep, Every, upto}
use Rattle.algebra.specs.Plan.{Node, scan, select, compute, project, join, group, groupjoin, dependent}
use Rattle.algebra.specs.Columns.{Column, shape_at, closed}
use Rattle.algebra.specs.Domains.{Domain, move_conjunct, move_computation, move_aggregate, shift, around, domain_first, match, under_both, under_inner}
use Rattle.algebra.specs.Rewriting.{Placed, Piece, emit, dropping, closed_put, open_under}
use Rattle.plan.specs.Words.{operator, item_count, items_of}
use Rattle.plan.specs.Items.{is_conjunct}
use Rattle.plan.specs.Plan.{node_at, widths_of, nodes_of}
use Rattle.pages.specs.declared.domain.Domain as code
use Rattle.pages.specs.Domains.{Means}
use Rattle.rules.specs.Reads.{reads_at}
use Rattle.pages.specs.declared.page.OverLimits.{OverLimits}
use Rattle.pages.specs.declared.page.Page.{Page}
use Rattle.pages.specs.Pages.{Stands, Holds, Leaves}

module _ (ws : List ℕ) (images : ℕ → ℕ) where
  -- inputs are below, so that n + 1 levels of calls are enough for node n
  unfoldable pub put : ℕ → ℕ → Domain → List Node → Placed
  put zero n D out = record { out = out; at = 0 }
  put (suc fuel) n D out =
      cond (closed (shape_at (widths_of ws) (nodes_of ws) n)) (closed_put (images n) D out)
      (open_under (λ i. record { shape = shape_at (widths_of ws) (nodes_of ws) i; image = images i; put = put fuel i }) (node_at ws n) D out)

  abbrev pub piece : ℕ → ℕ → Piece
  piece fuel i = record { shape = shape_at (widths_of ws) (nodes_of ws) i; image = images i; put = put fuel i }

-- every column of cs has its place in D
abbrev pub Within : Domain → List Column → Type 0
Within D cs = Every (λ c. D.place c.level c.position < D.width) cs

-- what stands among the nodes out before node n is put under D: the node of D, and the copies of the closed nodes below n, with their widths
pub record Ready (ws : List ℕ) (images : ℕ → ℕ) (n : ℕ) (D : Domain) (out : List Node) : Type 0 where
  pub domain : Stands (widths_of ws) out D.node D.width
  pub copies : (i : ℕ) → i < n → closed (shape_at (widths_of ws) (nodes_of ws) i) ≡ true → Stands (widths_of ws) out (images i) (shape_at (widths_of ws) (nodes_of ws) i).width

-- the nodes out have become those with node n put under the domain that d means
pub record Puts (ws images : List ℕ) (n : ℕ) (d : code.Domain) (page page' : Page) (result : Result ℕ OverLimits) : Type 0 where
  pub written : (D : Domain) (out : List Node) → Means d D → Within D (reads_at ws n) → Ready ws (λ i. get_or images i 0) n D out
      → Holds (widths_of ws) page out [] → Leaves (widths_of ws) page' (put ws (λ i. get_or images i 0) (suc n) n D out).out result

-- how many of a node's items are conjuncts, where it has conjuncts and at most aggregates behind them
abbrev pub conjunct_count : List ℕ → ℕ → ℕ
conjunct_count ws n = cond (eqb (operator ws n) 7) (length (keep is_conjunct (items_of ws n))) (item_count ws n)

-- ---- the nodes that the rules emit, by the node that they are for; 0 stands where the rule has no such node

-- select, map, project and group over their input at i
abbrev pub over_input : Domain → ℕ → Node → Node
over_input D i (scan t) = scan 0
over_input D i (select cs j) = select (map (move_conjunct D (shift D.width)) cs) i
over_input D i (compute c j) = compute (move_computation D (shift D.width) c) i
over_input D i (project ps j) = project (domain_first D ps) i
over_input D i (join k cs l r) = scan 0
over_input D i (group [] gs j) =
    groupjoin (match (λ q. q) (λ q. D.width + q) (upto D.width)) (map (move_aggregate (shift D.width)) gs) D.node i
over_input D i (group (k ∷ ks) gs j) = group (domain_first D (k ∷ ks)) (map (move_aggregate (shift D.width)) gs) i
over_input D i (groupjoin cs gs l r) = scan 0
over_input D i (dependent k cs l r) = scan 0

-- a join or groupjoin of the left at i with the copy of a closed right at j
abbrev pub with_copy : Domain → ℕ → ℕ → Node → Node
with_copy D i j (scan t) = scan 0
with_copy D i j (select cs n) = scan 0
with_copy D i j (compute c n) = scan 0
with_copy D i j (project ps n) = scan 0
with_copy D i j (join k cs l r) = join k (map (move_conjunct D (shift D.width)) cs) i j
with_copy D i j (group ks gs n) = scan 0
with_copy D i j (groupjoin cs gs l r) = groupjoin (map (move_conjunct D (shift D.width)) cs) gs i j
with_copy D i j (dependent k cs l r) = join k (map (move_conjunct D (shift D.width)) cs) i j

-- a join or groupjoin of the left at i with an open right at j under D, behind out; wl and wr are the widths of the two sides
abbrev pub with_open : Domain → ℕ → ℕ → ℕ → ℕ → Node → List Node → List Node
with_open D wl wr i j (scan t) out = out
with_open D wl wr i j (select cs n) out = out
with_open D wl wr i j (compute c n) out = out
with_open D wl wr i j (project ps n) out = out
with_open D wl wr i j (join k cs l r) out = (dropping k (around (D.width + wl) D.width wr) (emit (join k (under_both D wl cs) i j) out)).out
with_open D wl wr i j (group ks gs n) out = out
with_open D wl wr i j (groupjoin cs gs l r) out = out ++ (groupjoin (under_both D wl cs) (map (move_aggregate (shift D.width)) gs) i j ∷ [])
with_open D wl wr i j (dependent k cs l r) out = (dropping k (around (D.width + wl) D.width wr) (emit (join k (under_both D wl cs) i j) out)).out

-- a dependent join of the left at i with its right at j under the new domain with keys ks, behind out
abbrev pub with_inner : Domain → List ℕ → ℕ → ℕ → ℕ → ℕ → Node → List Node → List Node
with_inner D ks wl wr i j (scan t) out = out
with_inner D ks wl wr i j (select cs n) out = out
with_inner D ks wl wr i j (compute c n) out = out
with_inner D ks wl wr i j (project ps n) out = out
with_inner D ks wl wr i j (join k cs l r) out = out
with_inner D ks wl wr i j (group kk gs n) out = out
with_inner D ks wl wr i j (groupjoin cs gs l r) out = out
with_inner D ks wl wr i j (dependent k cs l r) out = (dropping k (around (D.width + wl) (length ks) wr) (emit (join k (under_inner D wl ks cs) i j) out)).out
