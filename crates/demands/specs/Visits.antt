-- The rows that are held against 14 and 15, in the order in which they are met: "14 and 15 are met in evaluation order, a node's rows in
-- the order of its result; for each binding the right side is complete before rows are made from it". All rows are the operator rules' own.
use Rattle.std.specs.Prelude.{◌≡◌, true, false, cond, ◌||◌, List, [], ◌∷◌, ◌++◌, ℕ, ◌≤◌, ◌<◌, leb, eqb, length, get_or}
use Rattle.algebra.specs.Lists.{keep, any, all, each, upto, entry, Every}
use Rattle.algebra.specs.Value.{Row}
use Rattle.algebra.specs.Plan.{Kind, Conjunct, Node, scan, select, compute, project, join, group, groupjoin, dependent}
use Rattle.algebra.specs.Operators.{Outer, joined, partners}
use Rattle.algebra.specs.Meaning.{Database, result_of}
use Rattle.algebra.specs.Columns.{shape_at, closed}
use Rattle.store.specs.Cells.{in_range}
use Rattle.working.specs.Run.{Outcome, refused}
use Rattle.working.specs.Statements.{Kept}

-- rows of a node that are looked at
pub record Visit : Type 0 where
  pub node : ℕ
  pub rows : List Row

abbrev pub visit : ℕ → List Row → Visit
visit n rows = record { node = n; rows = rows }

-- the bindings of dependent join n, one left row after the other: the right side's visits, then the rows so far with those of this binding
abbrev pub bindings : ℕ → (Row → List Visit) → (Row → List Row) → List Row → List Row → List Visit
bindings n right make [] rows = []
bindings n right make (l ∷ ls) rows = right l ++ (visit n (rows ++ make l) ∷ bindings n right make ls (rows ++ make l))

module _ (widths : List ℕ) (db : Database) (ns : List Node) where
  -- the rows that the operator rules give node i under outer rows
  abbrev pub rows_at : ℕ → Outer → List Row
  rows_at i o = (result_of widths db ns i).rows o

  -- "an open node is worked out anew for each binding": a closed one has been worked out before
  abbrev pub anew : (ℕ → Outer → List Visit) → ℕ → Outer → List Visit
  anew at i o = cond (closed (shape_at widths ns i)) [] (at i o)

  -- node n under outer rows: its inputs, "left before right", then its own rows
  abbrev pub visits_of : (ℕ → Outer → List Visit) → ℕ → Node → Outer → List Visit
  visits_of at n (dependent k cs l r) o =
      anew at l o
      ++ bindings n (λ x. anew at r (x ∷ o)) (λ x. joined k (shape_at widths ns r).width (partners o cs (rows_at r (x ∷ o)) x) x) (rows_at l o) []
  visits_of at n (scan t) o = visit n (rows_at n o) ∷ []
  visits_of at n (select cs i) o = anew at i o ++ (visit n (rows_at n o) ∷ [])
  visits_of at n (compute c i) o = anew at i o ++ (visit n (rows_at n o) ∷ [])
  visits_of at n (project ps i) o = anew at i o ++ (visit n (rows_at n o) ∷ [])
  visits_of at n (group ks gs i) o = anew at i o ++ (visit n (rows_at n o) ∷ [])
  visits_of at n (join k cs l r) o = anew at l o ++ (anew at r o ++ (visit n (rows_at n o) ∷ []))
  visits_of at n (groupjoin cs gs l r) o = anew at l o ++ (anew at r o ++ (visit n (rows_at n o) ∷ []))

  -- each node from those before it
  unfoldable pub visits_at : ℕ → Outer → List Visit
  visits_at n = entry (λ o. []) (λ at m o. visits_of at m (get_or ns m (scan 0)) o) (upto (length ns)) n

  -- "Closed nodes are worked out once each in number order"
  unfoldable pub visits : List Visit
  visits = each (λ n. visits_at n []) (keep (λ n. closed (shape_at widths ns n)) (upto (length ns)))

-- ---- where visits come from

-- the inputs that see the outer rows of their node: not the right side of a dependent join
abbrev pub alongside : Node → List ℕ
alongside (scan t) = []
alongside (select cs i) = i ∷ []
alongside (compute c i) = i ∷ []
alongside (project ps i) = i ∷ []
alongside (join k cs l r) = l ∷ r ∷ []
alongside (group ks gs i) = i ∷ []
alongside (groupjoin cs gs l r) = l ∷ r ∷ []
alongside (dependent k cs l r) = l ∷ []

module _ (widths : List ℕ) (db : Database) (ns : List Node) where
  -- the nodes that the order reaches, and the outer rows around them: none for a closed node, for an open one those of the node above it, and
  -- for the right side of a dependent join in front of these a row that the operator rules give its left input
  pub data Reached : ℕ → Outer → Type 0 where
    alone : {n : ℕ} → n < length ns → closed (shape_at widths ns n) ≡ true → Reached n []
    beneath : {n i : ℕ} {o : Outer} → Reached n o → any (eqb i) (alongside (get_or ns n (scan 0))) ≡ true → closed (shape_at widths ns i) ≡ false → Reached i o
    bound : {n l r : ℕ} {k : Kind} {cs : List Conjunct} {o : Outer} {x : Row} (earlier later : List Row) → Reached n o
        → get_or ns n (scan 0) ≡ dependent k cs l r → rows_at widths db ns l o ≡ earlier ++ (x ∷ later) → closed (shape_at widths ns r) ≡ false → Reached r (x ∷ o)

  -- the rows of a visit are the first that the operator rules give its node under such outer rows: those of the bindings so far for a dependent
  -- join, all of them for any other node
  pub record Seen (v : Visit) : Type 0 where
    pub around : Outer
    pub reached : Reached v.node around
    pub rest : List Row
    pub first : v.rows ++ rest ≡ rows_at widths db ns v.node around

-- ---- which visit is refused

-- the first visit that is too long or out of range ends the run; last stands where there is none
unfoldable pub judged : ℕ → List Visit → Outcome → Outcome
judged R [] last = last
judged R (v ∷ vs) last =
    cond (leb (length v.rows) R) (cond (all (all in_range) v.rows) (judged R vs last) (refused 15 v.node)) (refused 14 v.node)

-- refusal k is right of these rows: "14 a result .. passes R rows; 15 a finished number of a result row outside ±(2^47−1)"
pub record Wrong (R k : ℕ) (rows : List Row) : Type 0 where
  pub number : (eqb k 14 || eqb k 15) ≡ true
  pub too_many : k ≡ 14 → R < length rows
  pub out_of_range : k ≡ 15 → (length rows ≤ R) × (all (all in_range) rows ≡ false)

-- refusal k of node n is right of a visit, and of none before it
pub record First (R : ℕ) (vs : List Visit) (k n : ℕ) : Type 0 where
  pub before : List Visit
  pub here : Visit
  pub after : List Visit
  pub order : vs ≡ before ++ (here ∷ after)
  pub passed : Every (λ v. Kept R v.rows) before
  pub node : here.node ≡ n
  pub wrong : Wrong R k here.rows
