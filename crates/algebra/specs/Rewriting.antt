-- The rewriting rules: a plan without dependent joins, node by node in number order.
use Rattle.std.specs.Prelude.{cond, List, [], ◌∷◌, ◌++◌, map, ℕ, ◌+◌, length, get_or}
use Rattle.algebra.specs.Lists.{upto}
use Rattle.algebra.specs.Plan.{Conjunct, Kind, inner, semi, anti, left_outer, Node, scan, select, compute, project, join, group, groupjoin, dependent}
use Rattle.algebra.specs.Columns.{Shape, shapeless, shape_of, closed, reads_left}
use Rattle.algebra.specs.Domains.{Domain, domain_keys, inner_domain, inside, outside, move_conjunct, move_computation, move_aggregate, shift, around, domain_first, match, under_both, under_inner}

-- the nodes written so far, and the number of the one meant
pub record Placed : Type 0 where
  pub out : List Node
  pub at : ℕ

-- one more node
abbrev pub emit : Node → List Node → Placed
emit n out = record { out = out ++ (n ∷ []); at = length out }

-- what is known of a node of the plan: its shape, where its copy stands if it is closed, and its rewriting under a domain
pub record Piece : Type 0 where
  pub shape : Shape
  pub image : ℕ
  pub put : Domain → List Node → Placed

abbrev pub missing : Piece
missing = record { shape = shapeless; image = 0; put = λ D out. record { out = out; at = 0 } }

-- ---- joins

-- "For inner and outer a project follows that drops the domain columns": ps are the columns that stay
abbrev pub dropping : Kind → List ℕ → Placed → Placed
dropping inner ps x = emit (project ps x.at) x.out
dropping semi ps x = x
dropping anti ps x = x
dropping left_outer ps x = emit (project ps x.at) x.out

-- "A closed right is its copy": x is the left under D, i the copy of the right
unfoldable pub join_closed : Kind → List Conjunct → Domain → Placed → ℕ → Placed
join_closed k cs D x i = emit (join k (map (move_conjunct D (shift D.width)) cs) x.at i) x.out

-- an open right y under D: "one tag 7 for each D column comes before the conjuncts, and .. a project drops the second set of D columns"
unfoldable pub join_open : Kind → List Conjunct → ℕ → ℕ → Domain → ℕ → Placed → Placed
join_open k cs wl wr D i y = dropping k (around (D.width + wl) D.width wr) (emit (join k (under_both D wl cs) i y.at) y.out)

-- "Join ..: the left is rewritten under D"; an open right under E, which is D seen from inside it
unfoldable pub join_under : Kind → List Conjunct → Piece → Piece → Domain → Domain → List Node → Placed
join_under k cs l r D E out =
    let x = l.put D out in
    cond (closed r.shape) (join_closed k cs D x r.image) (join_open k cs l.shape.width r.shape.width D x.at (r.put E x.out))

-- a dependent join whose right reads its left row, x being the left in place: "a new domain over that", the right under it,
-- "then a join of the same kind of left and right", the project "keeping D, left, right"
unfoldable pub unnest : Kind → List Conjunct → Piece → Piece → Domain → Placed → Placed
unnest k cs l r D x =
    let w = l.shape.width in
    let ks = domain_keys D w r.shape.reads in
    let g = emit (group ks [] x.at) x.out in
    let y = r.put (inner_domain D w r.shape.reads g.at) g.out in
    dropping k (around (D.width + w) (length ks) r.shape.width) (emit (join k (under_inner D w ks cs) x.at y.at) y.out)

-- ---- "Under a domain D, a node's rewriting has D's columns in front of its own."

-- "Closed node: inner join of D and its copy, no conjuncts."
abbrev pub closed_put : ℕ → Domain → List Node → Placed
closed_put i D out = emit (join inner [] D.node i) out

-- an open node; there is no open scan
unfoldable pub open_under : (ℕ → Piece) → Node → Domain → List Node → Placed
open_under at (scan t) D out = record { out = out; at = 0 }
open_under at (select cs i) D out =
    let x = (at i).put D out in emit (select (map (move_conjunct D (shift D.width)) cs) x.at) x.out
open_under at (compute c i) D out =
    let x = (at i).put D out in emit (compute (move_computation D (shift D.width) c) x.at) x.out
open_under at (project ps i) D out =
    let x = (at i).put D out in emit (project (domain_first D ps) x.at) x.out
open_under at (join k cs l r) D out = join_under k cs (at l) (at r) D D out
open_under at (group [] gs i) D out =
    let x = (at i).put D out in
    emit (groupjoin (match (λ q. q) (λ q. D.width + q) (upto D.width)) (map (move_aggregate (shift D.width)) gs) D.node x.at) x.out
open_under at (group (k ∷ ks) gs i) D out =
    let x = (at i).put D out in
    emit (group (domain_first D (k ∷ ks)) (map (move_aggregate (shift D.width)) gs) x.at) x.out
open_under at (groupjoin cs gs l r) D out =
    let x = (at l).put D out in
    let y = (at r).put D x.out in
    cond (closed (at r).shape)
    (emit (groupjoin (map (move_conjunct D (shift D.width)) cs) gs x.at (at r).image) x.out)
    (emit (groupjoin (under_both D (at l).shape.width cs) (map (move_aggregate (shift D.width)) gs) x.at y.at) y.out)
open_under at (dependent k cs l r) D out =
    cond (reads_left (at r).shape)
    (unnest k cs (at l) (at r) D ((at l).put D out))
    (join_under k cs (at l) (at r) D (inside D) out)

-- ---- "Closed nodes are taken in number order."

-- "Except for operator 8, one becomes a copy with its inputs renumbered. A closed dependent join whose right side is closed becomes the join of its kind."
unfoldable pub closed_node : (ℕ → Piece) → Node → List Node → Placed
closed_node at (scan t) out = emit (scan t) out
closed_node at (select cs i) out = emit (select cs (at i).image) out
closed_node at (compute c i) out = emit (compute c (at i).image) out
closed_node at (project ps i) out = emit (project ps (at i).image) out
closed_node at (join k cs l r) out = emit (join k cs (at l).image (at r).image) out
closed_node at (group ks gs i) out = emit (group ks gs (at i).image) out
closed_node at (groupjoin cs gs l r) out = emit (groupjoin cs gs (at l).image (at r).image) out
closed_node at (dependent k cs l r) out =
    cond (closed (at r).shape)
    (emit (join k cs (at l).image (at r).image) out)
    (unnest k cs (at l) (at r) outside (record { out = out; at = (at l).image }))

-- the nodes written, and the pieces of the plan's nodes so far
pub record State : Type 0 where
  pub out : List Node
  pub pieces : List Piece

abbrev pub piece_at : State → ℕ → Piece
piece_at s i = get_or s.pieces i missing

abbrev pub add_piece : State → Shape → Placed → (Domain → List Node → Placed) → State
add_piece s sh x put = record { out = x.out; pieces = s.pieces ++ (record { shape = sh; image = x.at; put = put } ∷ []) }

module _ (widths : List ℕ) where
  -- a closed node is written here, an open one when a domain is there
  unfoldable pub step : State → Node → State
  step s n =
      let at : ℕ → Piece = piece_at s in
      let sh : Shape = shape_of widths (λ i. (at i).shape) n in
      let x = closed_node at n s.out in
      cond (closed sh) (add_piece s sh x (closed_put x.at)) (add_piece s sh (record { out = s.out; at = 0 }) (open_under at n))

  unfoldable pub steps : State → List Node → State
  steps s [] = s
  steps s (n ∷ ns) = steps (step s n) ns

  -- the nodes of the rewriting
  unfoldable pub rewritten : List Node → List Node
  rewritten ns = (steps (record { out = []; pieces = [] }) ns).out
