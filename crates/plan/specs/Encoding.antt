-- The words that a plan is written as.
use Rattle.std.specs.Prelude.{List, [], ◌∷◌, ◌++◌, map, ℕ, ◌+◌, ◌-◌, ◌^◌, ◌<◌, ℤ, pos, negsuc, length}
use Rattle.algebra.specs.Lists.{each, Every}
use Rattle.algebra.specs.Value.{Test, equal, unequal, less, at_most, more, at_least, same}
use Rattle.algebra.specs.Plan.{Term, column, outer, constant, nothing, Conjunct, Computation, copy, add, subtract, Aggregate, count, sum, minimum, maximum, Kind, inner, semi, anti, left_outer, Node, scan, select, compute, project, join, group, groupjoin, dependent}
use Rattle.plan.specs.Words.{header_of}

-- a constant, "stored modulo 2^32"
abbrev pub unsigned : ℤ → ℕ
unsigned (pos n) = n
unsigned (negsuc n) = 2 ^ 32 - 1 - n

-- "0,0,position; 1,level,position ..; 2,0,constant; 3,0,0"
abbrev pub term_words : Term → List ℕ
term_words (column p) = 0 ∷ 0 ∷ p ∷ []
term_words (outer l p) = 1 ∷ l ∷ p ∷ []
term_words (constant z) = 2 ∷ 0 ∷ unsigned z ∷ []
term_words nothing = 3 ∷ 0 ∷ 0 ∷ []

-- "An unused term is three zeros"
abbrev pub unused : List ℕ
unused = 0 ∷ 0 ∷ 0 ∷ []

abbrev pub test_tag : Test → ℕ
test_tag equal = 1
test_tag unequal = 2
test_tag less = 3
test_tag at_most = 4
test_tag more = 5
test_tag at_least = 6
test_tag same = 7

abbrev pub conjunct_words : Conjunct → List ℕ
conjunct_words c = test_tag c.test ∷ (term_words c.first ++ term_words c.second)

abbrev pub computation_words : Computation → List ℕ
computation_words (copy a) = 8 ∷ (term_words a ++ unused)
computation_words (add a b) = 9 ∷ (term_words a ++ term_words b)
computation_words (subtract a b) = 10 ∷ (term_words a ++ term_words b)

-- a key, an output column, a sum, a min or a max of column p
abbrev pub position_words : ℕ → ℕ → List ℕ
position_words tag p = tag ∷ 0 ∷ 0 ∷ p ∷ unused

abbrev pub aggregate_words : Aggregate → List ℕ
aggregate_words count = 13 ∷ (unused ++ unused)
aggregate_words (sum p) = position_words 14 p
aggregate_words (minimum p) = position_words 15 p
aggregate_words (maximum p) = position_words 16 p

abbrev pub kind_word : Kind → ℕ
kind_word inner = 1
kind_word semi = 2
kind_word anti = 3
kind_word left_outer = 4

-- what a node is written as: four words, and its items
pub record Parts : Type 0 where
  pub operator : ℕ
  pub left : ℕ
  pub right : ℕ
  pub kind : ℕ
  pub items : List (List ℕ)

abbrev pub parts : Node → Parts
parts (scan t) = record { operator = 1; left = t; right = 0; kind = 0; items = [] }
parts (select cs i) = record { operator = 2; left = i; right = 0; kind = 0; items = map conjunct_words cs }
parts (compute c i) = record { operator = 3; left = i; right = 0; kind = 0; items = computation_words c ∷ [] }
parts (project ps i) = record { operator = 4; left = i; right = 0; kind = 0; items = map (position_words 12) ps }
parts (join k cs l r) = record { operator = 5; left = l; right = r; kind = kind_word k; items = map conjunct_words cs }
parts (group ks gs i) = record { operator = 6; left = i; right = 0; kind = 0; items = map (position_words 11) ks ++ map aggregate_words gs }
parts (groupjoin cs gs l r) = record { operator = 7; left = l; right = r; kind = 0; items = map conjunct_words cs ++ map aggregate_words gs }
parts (dependent k cs l r) = record { operator = 8; left = l; right = r; kind = kind_word k; items = map conjunct_words cs }

-- "operator, left, right, kind, first item, item count" of each node, where the first node's items begin at from
abbrev pub node_words : ℕ → List Node → List ℕ
node_words from [] = []
node_words from (n ∷ ns) =
    (parts n).operator ∷ (parts n).left ∷ (parts n).right ∷ (parts n).kind ∷ from ∷ length (parts n).items
    ∷ node_words (from + length (parts n).items) ns

-- the items of all nodes, in order
abbrev pub all_items : List Node → List (List ℕ)
all_items ns = each (λ n. (parts n).items) ns

-- the whole table: header, widths, nodes, items
unfoldable pub words_of : List ℕ → List Node → List ℕ
words_of widths ns =
    let T = length widths in
    let N = length ns in
    let I = length (all_items ns) in
    header_of T N I ++ (widths ++ (node_words 0 ns ++ each (λ w. w) (all_items ns)))

-- ---- which plans can be written so

-- "A constant is −2^31..2^31−1"; any other term can be written
abbrev pub StorableTerm : Term → Type 0
StorableTerm (column p) = Unit {0}
StorableTerm (outer l p) = Unit {0}
StorableTerm (constant (pos n)) = n < 2 ^ 31
StorableTerm (constant (negsuc n)) = n < 2 ^ 31
StorableTerm nothing = Unit {0}

-- both terms of a conjunct
abbrev pub conjunct_terms : Conjunct → List Term
conjunct_terms c = c.first ∷ c.second ∷ []

-- the terms that a computation uses
abbrev pub computation_terms : Computation → List Term
computation_terms (copy a) = a ∷ []
computation_terms (add a b) = a ∷ b ∷ []
computation_terms (subtract a b) = a ∷ b ∷ []

-- the terms of a node's items
abbrev pub terms_of : Node → List Term
terms_of (scan t) = []
terms_of (select cs i) = each conjunct_terms cs
terms_of (compute c i) = computation_terms c
terms_of (project ps i) = []
terms_of (join k cs l r) = each conjunct_terms cs
terms_of (group ks gs i) = []
terms_of (groupjoin cs gs l r) = each conjunct_terms cs
terms_of (dependent k cs l r) = each conjunct_terms cs

-- every constant of the plan fits a word
abbrev pub Storable : List Node → Type 0
Storable ns = Every (λ n. Every StorableTerm (terms_of n)) ns
