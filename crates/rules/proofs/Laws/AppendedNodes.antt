-- What is put under a domain goes behind what is there, and the last node is the one meant.
use mathlib.Core.Path.{◌∙◌, ◌≡◌, refl, sym}
use mathlib.Core.Bool.{Bool, cond, false, true}
use mathlib.Core.List.{List, [], ◌++◌, ◌∷◌, append_assoc, append-nil, map}
use Prim.Native.Nat.{suc, ℕ}
use native.Mathlib.Omega.{arith}
use lib.ListN.{length, length-append}
use Rattle.algebra.specs.Plan.{Conjunct, Kind, anti, inner, left_outer, semi}
use Rattle.algebra.specs.Plan.{Node, compute, dependent, group, groupjoin, join, project, scan, select}
use Rattle.algebra.specs.Columns.{closed, reads_left}
use Rattle.algebra.specs.Domains.{Domain, domain_keys, inner_domain, inside, move_aggregate, move_conjunct, shift, under_both, under_inner}
use Rattle.algebra.specs.Rewriting.{Piece, Placed, dropping, emit, join_closed, join_open, join_under, open_under, unnest}

-- ---- what is put goes behind what is there

-- more nodes behind those of a
pub record Extends (a b : List Node) : Type 0 where
  pub rest : List Node
  pub is : b ≡ a ++ rest

pub extends_none : {a : List Node} → Extends a a
extends_none {a} = record { rest = []; is = sym (append-nil a) }

pub extends_then : {a b c : List Node} → Extends a b → Extends b c → Extends a c
extends_then {a} f g = record { rest = f.rest ++ g.rest; is = g.is ∙ rw f.is (append_assoc a f.rest g.rest) }

-- one node more
pub extends_one : (a : List Node) (n : Node) → Extends a (a ++ (n ∷ []))
extends_one a n = record { rest = n ∷ []; is = refl }

-- the project that drops columns
pub extends_dropping : (k : Kind) (ps : List ℕ) (x : Placed) → Extends x.out (dropping k ps x).out
extends_dropping inner ps x = extends_one _ _
extends_dropping semi ps x = extends_none
extends_dropping anti ps x = extends_none
extends_dropping left_outer ps x = extends_one _ _

-- the nodes with the left input in place
abbrev pub left_placed : (ℕ → Piece) → Node → Domain → List Node → List Node
left_placed at (scan t) D out = out
left_placed at (select cs i) D out = ((at i).put D out).out
left_placed at (compute c i) D out = ((at i).put D out).out
left_placed at (project ps i) D out = ((at i).put D out).out
left_placed at (join k cs l r) D out = ((at l).put D out).out
left_placed at (group ks gs i) D out = ((at i).put D out).out
left_placed at (groupjoin cs gs l r) D out = ((at l).put D out).out
left_placed at (dependent k cs l r) D out = ((at l).put D out).out

module _ (at : ℕ → Piece) (adds : (i : ℕ) (D : Domain) (out : List Node) → Extends out ((at i).put D out).out) where
  pub left_behind : (n : Node) (D : Domain) (out : List Node) → Extends out (left_placed at n D out)
  left_behind (scan t) D out = extends_none
  left_behind (select cs i) D out = adds i D out
  left_behind (compute c i) D out = adds i D out
  left_behind (project ps i) D out = adds i D out
  left_behind (join k cs l r) D out = adds l D out
  left_behind (group ks gs i) D out = adds i D out
  left_behind (groupjoin cs gs l r) D out = adds l D out
  left_behind (dependent k cs l r) D out = adds l D out

  join_behind : (k : Kind) (cs : List Conjunct) (l r : ℕ) (D E : Domain) (out : List Node)
      → Extends ((at l).put D out).out (join_under k cs (at l) (at r) D E out).out
  unfolding join_under join_closed join_open
  join_behind k cs l r D E out = go (closed (at r).shape)
    where
      x : Placed
      x = (at l).put D out

      y : Placed
      y = (at r).put E x.out

      go : (b : Bool)
          → Extends x.out
          (cond b (join_closed k cs D x (at r).image) (join_open k cs (at l).shape.width (at r).shape.width D x.at y)).out
      go true = extends_one _ _
      go false = extends_then (adds r E x.out) (extends_then (extends_one _ _) (extends_dropping k _ _))

  pub open_behind : (n : Node) (D : Domain) (out : List Node) → Extends (left_placed at n D out) (open_under at n D out).out
  unfolding open_under unnest
  open_behind (scan t) D out = extends_none
  open_behind (select cs i) D out = extends_one _ _
  open_behind (compute c i) D out = extends_one _ _
  open_behind (project ps i) D out = extends_one _ _
  open_behind (join k cs l r) D out = join_behind k cs l r D D out
  open_behind (group [] gs i) D out = extends_one _ _
  open_behind (group (k ∷ ks) gs i) D out = extends_one _ _
  open_behind (groupjoin cs gs l r) D out = go (closed (at r).shape)
    where
      x : Placed
      x = (at l).put D out

      y : Placed
      y = (at r).put D x.out

      go : (b : Bool)
          → Extends x.out
          (cond b (emit (groupjoin (map (move_conjunct D (shift D.width)) cs) gs x.at (at r).image) x.out)
          (emit (groupjoin (under_both D (at l).shape.width cs) (map (move_aggregate (shift D.width)) gs) x.at y.at) y.out)).out
      go true = extends_one _ _
      go false = extends_then (adds r D x.out) (extends_one _ _)
  open_behind (dependent k cs l r) D out = go (reads_left (at r).shape)
    where
      x : Placed
      x = (at l).put D out

      go : (b : Bool) → Extends x.out (cond b (unnest k cs (at l) (at r) D x) (join_under k cs (at l) (at r) D (inside D) out)).out
      go true = extends_then (extends_one _ _) (extends_then (adds r _ _) (extends_then (extends_one _ _) (extends_dropping k _ _)))
      go false = join_behind k cs l r D (inside D) out

-- ---- the node meant is the last one

-- the last node is the one meant
abbrev pub AtEnd : Placed → Type 0
AtEnd x = suc x.at ≡ length x.out

pub emit_end : (n : Node) (out : List Node) → AtEnd (emit n out)
emit_end n out = omega (arith, length-append out (n ∷ []))

dropping_end : (k : Kind) (ps : List ℕ) (n : Node) (out : List Node) → AtEnd (dropping k ps (emit n out))
dropping_end inner ps n out = emit_end (project ps (length out)) (out ++ (n ∷ []))
dropping_end semi ps n out = emit_end n out
dropping_end anti ps n out = emit_end n out
dropping_end left_outer ps n out = emit_end (project ps (length out)) (out ++ (n ∷ []))

-- a node that is no scan
abbrev pub Inner : Node → Type 0
Inner (scan t) = ⊥
Inner (select cs i) = Unit {0}
Inner (compute c i) = Unit {0}
Inner (project ps i) = Unit {0}
Inner (join k cs l r) = Unit {0}
Inner (group ks gs i) = Unit {0}
Inner (groupjoin cs gs l r) = Unit {0}
Inner (dependent k cs l r) = Unit {0}

join_end : (k : Kind) (cs : List Conjunct) (l r : Piece) (D E : Domain) (out : List Node) → AtEnd (join_under k cs l r D E out)
unfolding join_under join_closed join_open
join_end k cs l r D E out = go (closed r.shape)
  where
    x : Placed
    x = l.put D out

    y : Placed
    y = r.put E x.out

    go : (b : Bool) → AtEnd (cond b (join_closed k cs D x r.image) (join_open k cs l.shape.width r.shape.width D x.at y))
    go true = emit_end (join k (map (move_conjunct D (shift D.width)) cs) x.at r.image) x.out
    go false = dropping_end k _ (join k (under_both D l.shape.width cs) x.at y.at) y.out

pub open_end : (at : ℕ → Piece) (n : Node) → Inner n → (D : Domain) (out : List Node) → AtEnd (open_under at n D out)
unfolding open_under unnest
open_end at (scan t) s D out = absurd s
open_end at (select cs i) s D out = emit_end _ ((at i).put D out).out
open_end at (compute c i) s D out = emit_end _ ((at i).put D out).out
open_end at (project ps i) s D out = emit_end _ ((at i).put D out).out
open_end at (join k cs l r) s D out = join_end k cs (at l) (at r) D D out
open_end at (group [] gs i) s D out = emit_end _ ((at i).put D out).out
open_end at (group (k ∷ ks) gs i) s D out = emit_end _ ((at i).put D out).out
open_end at (groupjoin cs gs l r) s D out = go (closed (at r).shape)
  where
    x : Placed
    x = (at l).put D out

    y : Placed
    y = (at r).put D x.out

    go : (b : Bool)
        → AtEnd
        (cond b (emit (groupjoin (map (move_conjunct D (shift D.width)) cs) gs x.at (at r).image) x.out)
        (emit (groupjoin (under_both D (at l).shape.width cs) (map (move_aggregate (shift D.width)) gs) x.at y.at) y.out))
    go true = emit_end (groupjoin (map (move_conjunct D (shift D.width)) cs) gs x.at (at r).image) x.out
    go false = emit_end (groupjoin (under_both D (at l).shape.width cs) (map (move_aggregate (shift D.width)) gs) x.at y.at) y.out
open_end at (dependent k cs l r) s D out = go (reads_left (at r).shape)
  where
    x : Placed
    x = (at l).put D out

    ks : List ℕ
    ks = domain_keys D (at l).shape.width (at r).shape.reads

    y : Placed
    y = (at r).put (inner_domain D (at l).shape.width (at r).shape.reads (length x.out)) (x.out ++ (group ks [] x.at ∷ []))

    go : (b : Bool) → AtEnd (cond b (unnest k cs (at l) (at r) D x) (join_under k cs (at l) (at r) D (inside D) out))
    go true = dropping_end k _ (join k (under_inner D (at l).shape.width ks cs) x.at y.at) y.out
    go false = join_end k cs (at l) (at r) D (inside D) out
