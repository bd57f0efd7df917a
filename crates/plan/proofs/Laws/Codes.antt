-- The code's enums of kinds, tests, operations and aggregates, number by number.
use mathlib.Core.Path.{◌≡◌, refl, sym, ap, ◌∙◌}
use mathlib.Core.Bool.{Bool, true, false, cond}
use mathlib.Core.Logic.{◌⊎◌, inl, inr}
use Prim.Native.Nat.{ℕ, zero, suc, ◌-◌, ◌≤◌}
use native.Mathlib.Omega.{arith}
use lib.Dec.{eqb}
use borrow.Author.Tests.{ne_eqb}
use Rattle.algebra.specs.Value.{equal, unequal, less, at_most, more, at_least, same}
use Rattle.algebra.specs.Plan.{inner, semi, anti, left_outer, count, sum, minimum, maximum}
use Rattle.plan.specs.Words.{Item}
use Rattle.plan.specs.Items.{test_of, aggregate_of, position_of}
use Rattle.plan.specs.Plan.{kind_of}
use Rattle.plan.specs.declared.sorts.Aggregate.{Aggregate}
use Rattle.plan.specs.declared.sorts.Aggregate.TheVariants.{Count, Sum, Minimum, Maximum}
use Rattle.plan.specs.declared.sorts.Operation.{Operation}
use Rattle.plan.specs.declared.sorts.Operation.TheVariants.{Copy, Add, Subtract}
use Rattle.plan.specs.declared.operator.Operator.{Operator}
use Rattle.plan.specs.declared.operator.Operator.TheVariants.{Scan, Select, Map, Project, Join, Group, Groupjoin, Dependent}
use Rattle.plan.specs.Verdict.{has_right}
use Rattle.std.specs.Prelude.{Result, Ok, Err}
use Rattle.std.specs.Result.{result_unwrap_or}
use Rattle.plan.specs.declared.operator.UnknownOperator.{UnknownOperator}
use Rattle.plan.specs.Items.{between}
use Rattle.plan.specs.Codes.{Numbered, operation_of, operator_of, number_of, meant_aggregate}

-- ---- operators

-- a number from 1 to 8 is that of its operator
pub number_back : (o : ℕ) → 1 ≤ o → o ≤ 8 → number_of (operator_of o) ≡ o
unfolding operator_of
number_back zero g h = absurd (omega arith)
number_back (suc zero) g h = refl
number_back (suc (suc zero)) g h = refl
number_back (suc (suc (suc zero))) g h = refl
number_back (suc (suc (suc (suc zero)))) g h = refl
number_back (suc (suc (suc (suc (suc zero))))) g h = refl
number_back (suc (suc (suc (suc (suc (suc zero)))))) g h = refl
number_back (suc (suc (suc (suc (suc (suc (suc zero))))))) g h = refl
number_back (suc (suc (suc (suc (suc (suc (suc (suc zero)))))))) g h = refl
number_back (suc (suc (suc (suc (suc (suc (suc (suc (suc o))))))))) g h = absurd (omega arith)

-- and each operator is that of its number
pub operator_back : (x : Operator) → operator_of (number_of x) ≡ x
unfolding operator_of
operator_back Scan = refl
operator_back Select = refl
operator_back Map = refl
operator_back Project = refl
operator_back Join = refl
operator_back Group = refl
operator_back Groupjoin = refl
operator_back Dependent = refl

-- the same operator has the same number
pub same_number : {x y : Operator} → x ≡ y → number_of x ≡ number_of y
same_number = ap number_of

-- one by one, for a word that may be any number
pub operator_is : (x : Operator) (o : ℕ) → o ≡ number_of x → x ≡ operator_of o
operator_is x o h = sym (operator_back x) ∙ ap operator_of (sym h)

pub operator_rest : (o : ℕ) → (o ≡ 1 → ⊥) → (o ≡ 2 → ⊥) → (o ≡ 3 → ⊥) → (o ≡ 4 → ⊥) → (o ≡ 5 → ⊥) → (o ≡ 6 → ⊥) → (o ≡ 7 → ⊥) → Dependent ≡ operator_of o
unfolding operator_of
operator_rest o a b c d e f g = rw (ne_eqb o 1 a, ne_eqb o 2 b, ne_eqb o 3 c, ne_eqb o 4 d, ne_eqb o 5 e, ne_eqb o 6 f, ne_eqb o 7 g) refl

-- the operators of one input and those of two, as a match has them
abbrev pub OneInput : Operator → Type 0
OneInput x = (x ≡ Select) ⊎ ((x ≡ Map) ⊎ ((x ≡ Project) ⊎ (x ≡ Group)))

abbrev pub TwoInputs : Operator → Type 0
TwoInputs x = (x ≡ Join) ⊎ ((x ≡ Groupjoin) ⊎ (x ≡ Dependent))

-- their numbers
pub one_input : {x : Operator} → OneInput x → (eqb (number_of x) 1 ≡ false) × (has_right (number_of x) ≡ false)
one_input (inl e) = rw e (refl, refl)
one_input (inr (inl e)) = rw e (refl, refl)
one_input (inr (inr (inl e))) = rw e (refl, refl)
one_input (inr (inr (inr e))) = rw e (refl, refl)

pub two_inputs : {x : Operator} → TwoInputs x → (eqb (number_of x) 1 ≡ false) × (has_right (number_of x) ≡ true)
two_inputs (inl e) = rw e (refl, refl)
two_inputs (inr (inl e)) = rw e (refl, refl)
two_inputs (inr (inr e)) = rw e (refl, refl)

-- read by a Result, a number that no operator has is a dependent join's
pub operator_or : (o : ℕ) (r : Result Operator UnknownOperator) → Numbered o r → result_unwrap_or r Dependent ≡ operator_of o
operator_or o (Ok x) h = sym (operator_back x) ∙ ap operator_of h
operator_or o (Err e) h = operator_rest o (other 1 refl) (other 2 refl) (other 3 refl) (other 4 refl) (other 5 refl) (other 6 refl) (other 7 refl)
  where
    other : (k : ℕ) → between 1 8 k ≡ true → o ≡ k → ⊥
    other k w q = cc (h, w, ap (between 1 8) q)

-- ---- kinds

pub kind_semi : (k : ℕ) → k ≡ 2 → semi ≡ kind_of k
unfolding kind_of
kind_semi k h = rw h refl

pub kind_anti : (k : ℕ) → k ≡ 3 → anti ≡ kind_of k
unfolding kind_of
kind_anti k h = rw h refl

pub kind_outer : (k : ℕ) → k ≡ 4 → left_outer ≡ kind_of k
unfolding kind_of
kind_outer k h = rw h refl

pub kind_rest : (k : ℕ) → (k ≡ 2 → ⊥) → (k ≡ 3 → ⊥) → (k ≡ 4 → ⊥) → inner ≡ kind_of k
unfolding kind_of
kind_rest zero g h i = refl
kind_rest (suc zero) g h i = refl
kind_rest (suc (suc zero)) g h i = absurd (g refl)
kind_rest (suc (suc (suc zero))) g h i = absurd (h refl)
kind_rest (suc (suc (suc (suc zero)))) g h i = absurd (i refl)
kind_rest (suc (suc (suc (suc (suc k))))) g h i = let q : suc (suc (suc (suc (suc k)))) - 1 ≡ suc (suc (suc (suc k))) = omega arith in rw q refl

-- ---- tests

pub test_unequal : (t : ℕ) → t ≡ 2 → unequal ≡ test_of t
unfolding test_of
test_unequal t h = rw h refl

pub test_less : (t : ℕ) → t ≡ 3 → less ≡ test_of t
unfolding test_of
test_less t h = rw h refl

pub test_at_most : (t : ℕ) → t ≡ 4 → at_most ≡ test_of t
unfolding test_of
test_at_most t h = rw h refl

pub test_more : (t : ℕ) → t ≡ 5 → more ≡ test_of t
unfolding test_of
test_more t h = rw h refl

pub test_at_least : (t : ℕ) → t ≡ 6 → at_least ≡ test_of t
unfolding test_of
test_at_least t h = rw h refl

pub test_same : (t : ℕ) → t ≡ 7 → same ≡ test_of t
unfolding test_of
test_same t h = rw h refl

pub test_rest : (t : ℕ) → (t ≡ 2 → ⊥) → (t ≡ 3 → ⊥) → (t ≡ 4 → ⊥) → (t ≡ 5 → ⊥) → (t ≡ 6 → ⊥) → (t ≡ 7 → ⊥) → equal ≡ test_of t
unfolding test_of
test_rest zero a b c d e f = refl
test_rest (suc zero) a b c d e f = refl
test_rest (suc (suc zero)) a b c d e f = absurd (a refl)
test_rest (suc (suc (suc zero))) a b c d e f = absurd (b refl)
test_rest (suc (suc (suc (suc zero)))) a b c d e f = absurd (c refl)
test_rest (suc (suc (suc (suc (suc zero))))) a b c d e f = absurd (d refl)
test_rest (suc (suc (suc (suc (suc (suc zero)))))) a b c d e f = absurd (e refl)
test_rest (suc (suc (suc (suc (suc (suc (suc zero))))))) a b c d e f = absurd (f refl)
test_rest (suc (suc (suc (suc (suc (suc (suc (suc t)))))))) a b c d e f =
    let q : suc (suc (suc (suc (suc (suc (suc (suc t))))))) - 1 ≡ suc (suc (suc (suc (suc (suc (suc t)))))) = omega arith in rw q refl

-- ---- operations

pub operation_copy : (t : ℕ) → t ≡ 8 → Copy ≡ operation_of t
unfolding operation_of
operation_copy t h = rw h refl

pub operation_add : (t : ℕ) → t ≡ 9 → Add ≡ operation_of t
unfolding operation_of
operation_add t h = rw h refl

pub operation_rest : (t : ℕ) → (t ≡ 8 → ⊥) → (t ≡ 9 → ⊥) → Subtract ≡ operation_of t
unfolding operation_of
operation_rest t g h = rw (ne_eqb t 8 g, ne_eqb t 9 h) refl

-- a copy has tag 8, the others not
pub copy_tag : (t : ℕ) → Copy ≡ operation_of t → eqb t 8 ≡ true
unfolding operation_of
copy_tag t = go (eqb t 8) (eqb t 9)
  where
    go : (a b : Bool) → Copy ≡ cond a Copy (cond b Add Subtract) → a ≡ true
    go true b h = refl
    go false true h = absurd (cc)
    go false false h = absurd (cc)

pub not_copy_tag : (t : ℕ) {x : Operation} → x ≡ operation_of t → (x ≡ Add) ⊎ (x ≡ Subtract) → eqb t 8 ≡ false
unfolding operation_of
not_copy_tag t {x} e o = go (eqb t 8) e o
  where
    go : (a : Bool) → x ≡ cond a Copy (cond (eqb t 9) Add Subtract) → (x ≡ Add) ⊎ (x ≡ Subtract) → a ≡ false
    go true q (inl h) = absurd (cc)
    go true q (inr h) = absurd (cc)
    go false q h = refl

-- ---- aggregates

module _ (x : Item) where
  pub aggregate_count : x.tag ≡ 13 → count ≡ aggregate_of x
  unfolding aggregate_of
  aggregate_count h = rw h refl

  module _ (p : ℕ) (is : p ≡ position_of x) where
    pub aggregate_sum : x.tag ≡ 14 → sum p ≡ aggregate_of x
    unfolding aggregate_of
    aggregate_sum h = rw h (ap sum is)

    pub aggregate_minimum : x.tag ≡ 15 → minimum p ≡ aggregate_of x
    unfolding aggregate_of
    aggregate_minimum h = rw h (ap minimum is)

    pub aggregate_rest : (x.tag ≡ 13 → ⊥) → (x.tag ≡ 14 → ⊥) → (x.tag ≡ 15 → ⊥) → maximum p ≡ aggregate_of x
    unfolding aggregate_of
    aggregate_rest f g h = rw (ne_eqb x.tag 13 f, ne_eqb x.tag 14 g, ne_eqb x.tag 15 h) (ap maximum is)

  -- a count has tag 13, the others not
  pub count_tag : count ≡ aggregate_of x → eqb x.tag 13 ≡ true
  unfolding aggregate_of
  count_tag = go (eqb x.tag 13) (eqb x.tag 14) (eqb x.tag 15)
    where
      go : (a b c : Bool) → count ≡ cond a count (cond b (sum (position_of x)) (cond c (minimum (position_of x)) (maximum (position_of x)))) → a ≡ true
      go true b c h = refl
      go false true c h = absurd (cc)
      go false false true h = absurd (cc)
      go false false false h = absurd (cc)

  pub not_count_tag : {a : Aggregate} → meant_aggregate a ≡ aggregate_of x → (a ≡ Count → ⊥) → eqb x.tag 13 ≡ false
  unfolding aggregate_of
  not_count_tag {a} e f = go (eqb x.tag 13) a e f
    where
      go : (b : Bool) (a : Aggregate)
          → meant_aggregate a ≡ cond b count (cond (eqb x.tag 14) (sum (position_of x)) (cond (eqb x.tag 15) (minimum (position_of x)) (maximum (position_of x))))
          → (a ≡ Count → ⊥) → b ≡ false
      go false a q g = refl
      go true Count q g = absurd (g refl)
      go true (Sum p) q g = absurd (cc)
      go true (Minimum p) q g = absurd (cc)
      go true (Maximum p) q g = absurd (cc)
