-- The operator of a node, as the code compares it.
use mathlib.Core.Path.{◌≡◌, refl, sym, ◌∙◌}
use mathlib.Core.Bool.{Bool, true, false, cond}
use Prim.Native.Nat.{ℕ, ◌<◌}
use mathlib.Core.List.{List}
use lib.Dec.{eqb}
use denote.Enum.Bare.{sameb, same_true, same_false}
use Rattle.plan.specs.Words.{nodes, operator}
use Rattle.plan.specs.Codes.{operator_of, number_of}
use Rattle.plan.specs.Promise.{Formed}
use Rattle.plan.specs.contracts.operator.Operator.{the_type}
use Rattle.plan.specs.declared.operator.Operator.{Operator}
use Rattle.plan.specs.declared.operator.Operator.TheVariants.{Scan, Select, Map, Project, Join, Group, Groupjoin, Dependent}
use Rattle.plan.proofs.Laws.Formed.{is_named, not_named}

-- in a formed plan, the same operator has the same number, and another one another
module _ {ws : List ℕ} (f : Formed ws) {n : ℕ} (h : n < nodes ws) {x : Operator} (e : x ≡ operator_of (operator ws n))
    (y : Operator) {b : Bool} (s : b ≡ sameb the_type x y) where
  pub compared_is : b ≡ true → operator ws n ≡ number_of y
  compared_is q = is_named ws f n h e (same_true the_type tt x y (sym s ∙ q))

  pub compared_not : b ≡ false → operator ws n ≡ number_of y → ⊥
  compared_not q = not_named ws f n h e y (same_false the_type x y (sym s ∙ q))

-- a scan has number 1 in any words
pub same_scan : (o : ℕ) → sameb the_type (operator_of o) Scan ≡ eqb o 1
unfolding operator_of
same_scan o = go (eqb o 1) (eqb o 2) (eqb o 3) (eqb o 4) (eqb o 5) (eqb o 6) (eqb o 7)
  where
    go : (a b c d e f g : Bool)
        → sameb the_type (cond a Scan (cond b Select (cond c Map (cond d Project (cond e Join (cond f Group (cond g Groupjoin Dependent))))))) Scan ≡ a
    go true b c d e f g = refl
    go false true c d e f g = refl
    go false false true d e f g = refl
    go false false false true e f g = refl
    go false false false false true f g = refl
    go false false false false false true g = refl
    go false false false false false false true = refl
    go false false false false false false false = refl

pub scan_read : (o : ℕ) {x : Operator} {b : Bool} → x ≡ operator_of o → b ≡ sameb the_type x Scan → b ≡ eqb o 1
scan_read o e s = (rw e at s) ∙ same_scan o
