-- Document 01's small cases P1 to P10, document 02's sums of nothing, and two plans for 01's errors that look right:
-- plans, databases and the rows they give.
use Rattle.std.specs.Prelude.{◌≡◌, Bool, true, false, ◌&&◌, List, [], ◌∷◌, ◌++◌, map, ℕ, pos, negsuc}
use Rattle.algebra.specs.Lists.{keep, any}
use Rattle.algebra.specs.Value.{Value, null, num, Row, same_row, Test, equal, less, same}
use Rattle.algebra.specs.Plan.{Term, column, outer, constant, nothing, Conjunct, count, sum, minimum, inner, semi, anti, left_outer, Node, scan, select, compute, project, join, group, groupjoin, dependent}
use Rattle.algebra.specs.Meaning.{Database, answer}
use Rattle.algebra.specs.Rewriting.{rewritten}

pub record Case : Type 0 where
  pub widths : List ℕ
  pub database : Database
  pub plan : List Node
  pub rows : List Row

-- ---- how the cases are written

abbrev pub n : ℕ → Value
n k = num (pos k)

-- a table of one column
abbrev pub single : List Value → List Row
single vs = map (λ v. v ∷ []) vs

abbrev pub when : Test → Term → Term → Conjunct
when t a b = record { test = t; first = a; second = b }

-- "0 scan drives; 1 scan scrubs; 2 select 1: local 0 = outer 0,0; 3 group 2: count; 4 dependent inner join 0, 3; 5 select 4: local 1 < 2"
abbrev pub S : List Node
S =
    scan 0
    ∷ scan 1
    ∷ select (when equal (column 0) (outer 0 0) ∷ []) 1
    ∷ group [] (count ∷ []) 2
    ∷ dependent inner [] 0 3
    ∷ select (when less (column 1) (constant (pos 2)) ∷ []) 4
    ∷ []

abbrev pub scrub_list : List Value → List Value → List Row → Case
scrub_list drives scrubs rows = record { widths = 1 ∷ 1 ∷ []; database = single drives ∷ single scrubs ∷ []; plan = S; rows = rows }

-- one table of one column, and a node over its scan
abbrev pub over : List Value → Node → List Row → Case
over values node rows = record { widths = 1 ∷ []; database = single values ∷ []; plan = scan 0 ∷ node ∷ []; rows = rows }

-- two tables of one column, and a join of them on "="
abbrev pub on_equal : (List Conjunct → Node) → List Value → List Value → List Row → Case
on_equal node left right rows = record {
  widths = 1 ∷ 1 ∷ [];
  database = single left ∷ single right ∷ [];
  plan = scan 0 ∷ scan 1 ∷ node (when equal (column 0) (column 1) ∷ []) ∷ [];
  rows = rows;
}

-- ---- P1 to P10, and a null term

abbrev pub small_cases : List Case
small_cases =
    -- "P1 S on drives 1,2,3, scrubs 1,1,2: (2,1),(3,0)."
    scrub_list (n 1 ∷ n 2 ∷ n 3 ∷ []) (n 1 ∷ n 1 ∷ n 2 ∷ []) ((n 2 ∷ n 1 ∷ []) ∷ (n 3 ∷ n 0 ∷ []) ∷ [])
    -- "P2 drives 1,null, scrubs 1,null: (1,1),(null,0)."
    ∷ scrub_list (n 1 ∷ null ∷ []) (n 1 ∷ null ∷ []) ((n 1 ∷ n 1 ∷ []) ∷ (null ∷ n 0 ∷ []) ∷ [])
    -- "P3 drives 1,1, scrubs 1: (1,1),(1,1)."
    ∷ scrub_list (n 1 ∷ n 1 ∷ []) (n 1 ∷ []) ((n 1 ∷ n 1 ∷ []) ∷ (n 1 ∷ n 1 ∷ []) ∷ [])
    -- "P4 no drives: no rows."
    ∷ scrub_list [] (n 1 ∷ []) []
    -- "P5 drive 7, no scrubs: (7,0)."
    ∷ scrub_list (n 7 ∷ []) [] ((n 7 ∷ n 0 ∷ []) ∷ [])
    -- "P6 null = null isn't true; null not distinct from null is."
    ∷ over (null ∷ []) (select (when equal (column 0) (column 0) ∷ []) 0) []
    ∷ over (null ∷ []) (select (when same (column 0) (column 0) ∷ []) 0) ((null ∷ []) ∷ [])
    -- "P7 no rows: count without keys 0, with keys no row."
    ∷ over [] (group [] (count ∷ []) 0) ((n 0 ∷ []) ∷ [])
    ∷ over [] (group (0 ∷ []) (count ∷ []) 0) []
    -- "P8 min of null,5,−3 is −3."
    ∷ over (null ∷ n 5 ∷ num (negsuc 2) ∷ []) (group [] (minimum 0 ∷ []) 0) ((num (negsuc 2) ∷ []) ∷ [])
    -- "P9 anti, left 1,null, right 1, on =: (null)."
    ∷ on_equal (λ cs. join anti cs 0 1) (n 1 ∷ null ∷ []) (n 1 ∷ []) ((null ∷ []) ∷ [])
    -- "P10 outer, left 1,2, right 2: (1,null),(2,2)."
    ∷ on_equal (λ cs. join left_outer cs 0 1) (n 1 ∷ n 2 ∷ []) (n 2 ∷ []) ((n 1 ∷ null ∷ []) ∷ (n 2 ∷ n 2 ∷ []) ∷ [])
    -- a null term: "not distinct" finds nulls, = finds nothing
    ∷ over (n 1 ∷ null ∷ []) (select (when same (column 0) nothing ∷ []) 0) ((null ∷ []) ∷ [])
    ∷ over (n 1 ∷ null ∷ []) (select (when equal (column 0) nothing ∷ []) 0) []
    ∷ []

-- ---- 02, Two: the sum of no numbers

-- for each drive what it wrote, the sum of its figures (drive, written): the plan and a database
abbrev pub written_list : List Value → List Row → List Row → Case
written_list drives figures rows = record {
  widths = 1 ∷ 2 ∷ [];
  database = single drives ∷ figures ∷ [];
  plan = scan 0 ∷ scan 1 ∷ select (when equal (column 0) (outer 0 0) ∷ []) 1 ∷ group [] (sum 1 ∷ []) 2 ∷ dependent inner [] 0 3 ∷ [];
  rows = rows;
}

abbrev pub sum_cases : List Case
sum_cases =
    -- no rows: the sum is null, the count stays 0
    over [] (group [] (count ∷ sum 0 ∷ []) 0) ((n 0 ∷ null ∷ []) ∷ [])
    -- all null
    ∷ over (null ∷ null ∷ []) (group [] (count ∷ sum 0 ∷ []) 0) ((n 2 ∷ null ∷ []) ∷ [])
    -- a zero beside a null, and numbers that add up to 0
    ∷ over (null ∷ n 0 ∷ []) (group [] (count ∷ sum 0 ∷ []) 0) ((n 2 ∷ n 0 ∷ []) ∷ [])
    ∷ over (n 3 ∷ null ∷ num (negsuc 2) ∷ []) (group [] (sum 0 ∷ []) 0) ((n 0 ∷ []) ∷ [])
    -- a group with keys
    ∷ over (null ∷ n 3 ∷ null ∷ []) (group (0 ∷ []) (sum 0 ∷ []) 0) ((null ∷ null ∷ []) ∷ (n 3 ∷ n 3 ∷ []) ∷ [])
    -- a groupjoin
    ∷ on_equal (λ cs. groupjoin cs (count ∷ sum 0 ∷ []) 0 1) (n 0 ∷ n 7 ∷ []) (n 0 ∷ []) ((n 0 ∷ n 1 ∷ n 0 ∷ []) ∷ (n 7 ∷ n 0 ∷ null ∷ []) ∷ [])
    -- "drives that reported no figure at all, beside drives that really wrote 0": drive 3's only figure is null, drive 4 has none
    ∷ written_list (n 1 ∷ n 2 ∷ n 3 ∷ n 4 ∷ [])
    ((n 1 ∷ n 5 ∷ []) ∷ (n 2 ∷ n 0 ∷ []) ∷ (n 3 ∷ null ∷ []) ∷ (n 1 ∷ n 7 ∷ []) ∷ (n 2 ∷ null ∷ []) ∷ [])
    ((n 1 ∷ n 12 ∷ []) ∷ (n 2 ∷ n 0 ∷ []) ∷ (n 3 ∷ null ∷ []) ∷ (n 4 ∷ null ∷ []) ∷ [])
    ∷ []

-- ---- two plans over drives, bays and scrubs (drive, bay)

abbrev pub shelf : List (List Value) → List Node → List Row → Case
shelf scrubs plan rows = record {
  widths = 1 ∷ 1 ∷ 2 ∷ [];
  database = single (n 1 ∷ n 2 ∷ []) ∷ single (n 1 ∷ n 2 ∷ []) ∷ scrubs ∷ [];
  plan = scan 0 ∷ scan 1 ∷ scan 2 ∷ plan;
  rows = rows;
}

abbrev pub shelf_cases : List Case
shelf_cases =
    -- for each drive the bays in which it was never scrubbed: an anti join beneath a dependent join
    shelf ((n 1 ∷ n 1 ∷ []) ∷ [])
    (select (when equal (column 0) (outer 0 0) ∷ []) 2 ∷ join anti (when equal (column 0) (column 2) ∷ []) 1 3 ∷ dependent inner [] 0 4 ∷ [])
    ((n 1 ∷ n 2 ∷ []) ∷ (n 2 ∷ n 1 ∷ []) ∷ (n 2 ∷ n 2 ∷ []) ∷ [])
    -- for each drive the bays in which it was scrubbed: two levels
    ∷ shelf ((n 1 ∷ n 2 ∷ []) ∷ (n 2 ∷ n 1 ∷ []) ∷ [])
    (select (when equal (column 0) (outer 1 0) ∷ when equal (column 1) (outer 0 0) ∷ []) 2 ∷ dependent semi [] 1 3 ∷ dependent inner [] 0 4 ∷ [])
    ((n 1 ∷ n 2 ∷ []) ∷ (n 2 ∷ n 1 ∷ []) ∷ [])
    ∷ []

-- the whole table
abbrev pub cases : List Case
cases = small_cases ++ (sum_cases ++ shelf_cases)

-- ---- what is asked of it

-- the plan has the rows, and so has its rewriting
abbrev pub Right : Case → Type 0
Right c = answer c.widths c.database c.plan ≡ c.rows

abbrev pub RightRewritten : Case → Type 0
RightRewritten c = answer c.widths c.database (rewritten c.widths c.plan) ≡ c.rows

abbrev pub is_dependent : Node → Bool
is_dependent (scan t) = false
is_dependent (select cs i) = false
is_dependent (compute c i) = false
is_dependent (project ps i) = false
is_dependent (join k cs l r) = false
is_dependent (group ks gs i) = false
is_dependent (groupjoin cs gs l r) = false
is_dependent (dependent k cs l r) = true

-- the cases with a dependent join
abbrev pub dependent_cases : List Case
dependent_cases = keep (λ c. any is_dependent c.plan) cases

-- ---- the test that is computed over the table

abbrev pub same_rows : List Row → List Row → Bool
same_rows [] [] = true
same_rows [] (s ∷ ss) = false
same_rows (r ∷ rs) [] = false
same_rows (r ∷ rs) (s ∷ ss) = same_row r s && same_rows rs ss
