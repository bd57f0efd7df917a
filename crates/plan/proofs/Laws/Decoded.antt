-- What the items that a node is written as say: the node.
use mathlib.Core.Path.{◌≡◌, refl, ap, ◌∙◌}
use mathlib.Core.Bool.{Bool, true, false}
use mathlib.Core.List.{List, ◌++◌, map}
use Prim.Native.Nat.{ℕ, ◌-◌, ◌^◌}
use native.Mathlib.Omega.{arith}
use lib.IntN.{ℤ, pos, negsuc}
use Rattle.algebra.specs.Lists.{keep, each, Every, done, more}
use Rattle.algebra.specs.Value.{Test, equal, unequal, less, at_most, at_least, same}
use Rattle.algebra.specs.Plan.{Term, column, outer, constant, nothing, Conjunct, Computation, copy, add, subtract, Aggregate, count, sum, minimum, maximum}
use Rattle.algebra.specs.Plan.{Kind, inner, semi, anti, left_outer, Node, scan, select, compute, project, join, group, groupjoin, dependent}
use Rattle.algebra.proofs.Lists.Every.{every_of, every_map, every_mapped, every_uneach}
use Rattle.algebra.proofs.Lists.Keep.{keep_all, map_map, map_id}
use Rattle.plan.specs.Words.{Item}
use Rattle.plan.specs.Items.{between, is_conjunct, is_key, is_aggregate, signed, term_of, test_of}
use Rattle.plan.specs.Items.{conjunct_of, computation_of, position_of, aggregate_of, conjuncts_in, aggregate_right}
use Rattle.plan.specs.Plan.{kind_of, node_for}
use Rattle.plan.specs.Encoding.{unsigned, test_tag, kind_word, parts, StorableTerm, conjunct_terms, computation_terms, terms_of}
use Rattle.plan.proofs.Laws.Loops.{keep_first, keep_second}
use Rattle.plan.proofs.Laws.Header.{both, between_says, between_fails}
use Rattle.plan.proofs.Laws.Terms.{signed_low, signed_high}
use Rattle.plan.proofs.Laws.Restored as restored
use Rattle.plan.proofs.Laws.Written.{three_of, conjunct_item, computation_item, position_item, aggregate_item, node_items}

-- ---- constants

-- a constant is read as it was written
constant_back : (z : ℤ) → StorableTerm (constant z) → signed (unsigned z) ≡ z
constant_back (pos n) h = signed_low n h
constant_back (negsuc n) h =
    let p : 2 ^ 32 - 1 - (2 ^ 32 - 1 - n) ≡ n = omega arith in
    signed_high (2 ^ 32 - 1 - n) (omega arith) ∙ ap negsuc p

-- ---- terms and tests

-- a term, a test and a kind are read as they were written
term_back : (t : Term) → StorableTerm t → term_of (three_of t) ≡ t
unfolding term_of
term_back (column p) h = refl
term_back (outer l p) h = refl
term_back (constant z) h = ap constant (constant_back z h)
term_back nothing h = refl

test_back : (t : Test) → test_of (test_tag t) ≡ t
unfolding test_of
test_back equal = refl
test_back unequal = refl
test_back less = refl
test_back at_most = refl
test_back Test.more = refl
test_back at_least = refl
test_back same = refl

kind_back : (k : Kind) → kind_of (kind_word k) ≡ k
unfolding kind_of
kind_back inner = refl
kind_back semi = refl
kind_back anti = refl
kind_back left_outer = refl

-- ---- an item

-- a conjunct, a computation and an aggregate are read as they were written
conjunct_back : (c : Conjunct) → Every StorableTerm (conjunct_terms c) → conjunct_of (conjunct_item c) ≡ c
conjunct_back c (more a (more b done)) = λ i. record { test = test_back c.test i; first = term_back c.first a i; second = term_back c.second b i }

computation_back : (c : Computation) → Every StorableTerm (computation_terms c) → computation_of (computation_item c) ≡ c
unfolding computation_of
computation_back (copy a) (more h done) = rw (term_back a h)
computation_back (add a b) (more h (more g done)) = rw (term_back a h, term_back b g)
computation_back (subtract a b) (more h (more g done)) = rw (term_back a h, term_back b g)

aggregate_back : (g : Aggregate) → aggregate_of (aggregate_item g) ≡ g
unfolding aggregate_of
aggregate_back count = refl
aggregate_back (sum p) = refl
aggregate_back (minimum p) = refl
aggregate_back (maximum p) = refl

-- ---- the sort of an item

-- the tag of a conjunct
pub tag_low : (t : Test) → between 1 7 (test_tag t) ≡ true
tag_low equal = refl
tag_low unequal = refl
tag_low less = refl
tag_low at_most = refl
tag_low Test.more = refl
tag_low at_least = refl
tag_low same = refl

tag_not_high : (t : Test) → between 13 16 (test_tag t) ≡ false
tag_not_high t = between_fails 13 16 (test_tag t) (λ h. omega (arith, between_says 1 7 (test_tag t) (tag_low t)))

-- an aggregate is written as an aggregate, and as no other item
pub aggregate_meets : (g : Aggregate) → aggregate_right (aggregate_item g) ≡ true
aggregate_meets count = refl
aggregate_meets (sum p) = refl
aggregate_meets (minimum p) = refl
aggregate_meets (maximum p) = refl

aggregate_is : (g : Aggregate) → is_aggregate (aggregate_item g) ≡ true
aggregate_is g = (both _ _ (aggregate_meets g)).0

pub aggregate_not_key : (g : Aggregate) → is_key (aggregate_item g) ≡ false
aggregate_not_key g = restored.aggregate_not_key (aggregate_item g) (aggregate_meets g)

pub aggregate_not_conjunct : (g : Aggregate) → is_conjunct (aggregate_item g) ≡ false
aggregate_not_conjunct g = restored.aggregate_not_conjunct (aggregate_item g) (aggregate_meets g)

-- items of one sort in front, of another behind: what a test keeps that only the first pass, and one that only the second pass
module _ {A B : Type 0} (f : A → Item) (g : B → Item) (p : Item → Bool) (xs : List A) (ys : List B) where
  pub keep_front : ((x : A) → p (f x) ≡ true) → ((y : B) → p (g y) ≡ false) → keep p (map f xs ++ map g ys) ≡ map f xs
  keep_front a b = keep_first p (every_mapped f (every_of a xs)) (every_mapped g (every_of b ys))

  keep_behind : ((x : A) → p (f x) ≡ false) → ((y : B) → p (g y) ≡ true) → keep p (map f xs ++ map g ys) ≡ map g ys
  keep_behind a b = keep_second p (every_mapped f (every_of a xs)) (every_mapped g (every_of b ys))

-- ---- the items of a node

-- each list of items is read as it was written
conjuncts_read : (cs : List Conjunct) → Every StorableTerm (each conjunct_terms cs) → map conjunct_of (map conjunct_item cs) ≡ cs
conjuncts_read cs h = map_map conjunct_of conjunct_item cs ∙ map_id (λ c. conjunct_of (conjunct_item c)) (every_map conjunct_back (every_uneach conjunct_terms cs h))

conjuncts_back : (cs : List Conjunct) → Every StorableTerm (each conjunct_terms cs) → conjuncts_in (map conjunct_item cs) ≡ cs
conjuncts_back cs h = rw (keep_all is_conjunct (every_mapped conjunct_item (every_of (λ c. tag_low c.test) cs))) (conjuncts_read cs h)

positions_back : (tag : ℕ) (ps : List ℕ) → map position_of (map (position_item tag) ps) ≡ ps
positions_back tag ps = map_map position_of (position_item tag) ps ∙ map_id (λ p. position_of (position_item tag p)) (every_of (λ p. refl) ps)

aggregates_read : (gs : List Aggregate) → map aggregate_of (map aggregate_item gs) ≡ gs
aggregates_read gs = map_map aggregate_of aggregate_item gs ∙ map_id (λ g. aggregate_of (aggregate_item g)) (every_of aggregate_back gs)

-- a node is read as it was written
pub node_back : (n : Node) → Every StorableTerm (terms_of n)
    → node_for (parts n).operator (parts n).left (parts n).right (kind_of (parts n).kind) (node_items n) ≡ n
unfolding node_for
node_back (scan t) h = refl
node_back (select cs i) h = rw (conjuncts_back cs h)
node_back (compute c i) h = rw (computation_back c h)
node_back (project ps i) h = rw (positions_back 12 ps)
node_back (join k cs l r) h = rw (kind_back k, conjuncts_back cs h)
node_back (group ks gs i) h =
    rw (
      keep_front (position_item 11) aggregate_item is_key ks gs (λ p. refl) aggregate_not_key,
      keep_behind (position_item 11) aggregate_item is_aggregate ks gs (λ p. refl) aggregate_is,
      positions_back 11 ks,
      aggregates_read gs,
    )
node_back (groupjoin cs gs l r) h =
    rw (
      keep_front conjunct_item aggregate_item is_conjunct cs gs (λ c. tag_low c.test) aggregate_not_conjunct,
      keep_behind conjunct_item aggregate_item is_aggregate cs gs (λ c. tag_not_high c.test) aggregate_is,
      conjuncts_read cs h,
      aggregates_read gs,
    )
node_back (dependent k cs l r) h = rw (kind_back k, conjuncts_back cs h)
