-- Items by their tags: what they say, and when they are well formed.
use Rattle.std.specs.Prelude.{Bool, cond, ◌&&◌, ◌||◌, List, [], ◌∷◌, map, ℕ, ◌-◌, ◌^◌, ℤ, pos, negsuc, leb, ltb, eqb, get_or}
use Rattle.algebra.specs.Lists.{keep}
use Rattle.algebra.specs.Value.{Test, equal, unequal, less, at_most, more, at_least, same}
use Rattle.algebra.specs.Plan.{Term, column, outer, constant, nothing, Conjunct, Computation, copy, add, subtract, Aggregate, count, sum, minimum, maximum}
use Rattle.plan.specs.Words.{Three, Item}

abbrev pub between : ℕ → ℕ → ℕ → Bool
between a b x = leb a x && leb x b

-- "Conjunct tags: 1 .. 7"; "Computations: 8 copy .., 9 add, 10 subtract. 11 key, 12 output column, 13 count, 14 sum, 15 min, 16 max."
abbrev pub is_conjunct : Item → Bool
is_conjunct x = between 1 7 x.tag

abbrev pub is_computation : Item → Bool
is_computation x = between 8 10 x.tag

abbrev pub is_key : Item → Bool
is_key x = eqb x.tag 11

abbrev pub is_output : Item → Bool
is_output x = eqb x.tag 12

abbrev pub is_aggregate : Item → Bool
is_aggregate x = between 13 16 x.tag

-- ---- what an item says

-- "A constant is −2^31..2^31−1, stored modulo 2^32."
unfoldable pub signed : ℕ → ℤ
signed x = cond (ltb x (2 ^ 31)) (pos x) (negsuc (2 ^ 32 - 1 - x))

-- "0,0,position; 1,level,position ..; 2,0,constant; 3,0,0"
unfoldable pub term_of : Three → Term
term_of t =
    cond (eqb t.code 0) (column t.value)
    (cond (eqb t.code 1) (outer t.level t.value)
    (cond (eqb t.code 2) (constant (signed t.value)) nothing))

unfoldable pub test_of : ℕ → Test
test_of tag = get_or (equal ∷ unequal ∷ less ∷ at_most ∷ more ∷ at_least ∷ same ∷ []) (tag - 1) equal

abbrev pub conjunct_of : Item → Conjunct
conjunct_of x = record { test = test_of x.tag; first = term_of x.first; second = term_of x.second }

unfoldable pub computation_of : Item → Computation
computation_of x =
    cond (eqb x.tag 8) (copy (term_of x.first))
    (cond (eqb x.tag 9) (add (term_of x.first) (term_of x.second)) (subtract (term_of x.first) (term_of x.second)))

-- the column of a key, an output column, a sum, a min or a max
abbrev pub position_of : Item → ℕ
position_of x = x.first.value

unfoldable pub aggregate_of : Item → Aggregate
aggregate_of x =
    cond (eqb x.tag 13) count
    (cond (eqb x.tag 14) (sum (position_of x)) (cond (eqb x.tag 15) (minimum (position_of x)) (maximum (position_of x))))

-- the items of each sort in a node's list
abbrev pub conjuncts_in : List Item → List Conjunct
conjuncts_in xs = map conjunct_of (keep is_conjunct xs)

abbrev pub keys_in : List Item → List ℕ
keys_in xs = map position_of (keep is_key xs)

abbrev pub aggregates_in : List Item → List Aggregate
aggregates_in xs = map aggregate_of (keep is_aggregate xs)

-- ---- when an item is well formed

-- a used term: "level 0..7"; no level in the others, no value in null
unfoldable pub term_right : Three → Bool
term_right t =
    cond (eqb t.code 1) (leb t.level 7)
    (eqb t.level 0 && (eqb t.code 0 || (eqb t.code 2 || (eqb t.code 3 && eqb t.value 0))))

abbrev pub is_local : Three → Bool
is_local t = eqb t.code 0 && eqb t.level 0

-- "An unused term is three zeros"
abbrev pub is_unused : Three → Bool
is_unused t = is_local t && eqb t.value 0

abbrev pub conjunct_right : Item → Bool
conjunct_right x = is_conjunct x && (term_right x.first && term_right x.second)

abbrev pub computation_right : Item → Bool
computation_right x = is_computation x && (term_right x.first && cond (eqb x.tag 8) (is_unused x.second) (term_right x.second))

-- "Items 11, 12, 14, 15, 16 have a local first term"
abbrev pub key_right : Item → Bool
key_right x = is_key x && (is_local x.first && is_unused x.second)

abbrev pub output_right : Item → Bool
output_right x = is_output x && (is_local x.first && is_unused x.second)

-- "count uses neither"
abbrev pub aggregate_right : Item → Bool
aggregate_right x = is_aggregate x && (cond (eqb x.tag 13) (is_unused x.first) (is_local x.first) && is_unused x.second)
