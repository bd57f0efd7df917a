-- The small cases, as written and rewritten: one test computed over the table, one statement for each.
use mathlib.Core.Path.{◌≡◌, refl}
use mathlib.Core.Bool.{true}
use mathlib.Core.List.{List, [], ◌∷◌}
use Rattle.algebra.specs.Lists.{all, Every, done, more}
use Rattle.algebra.specs.Value.{Row, same_row}
use Rattle.algebra.specs.Meaning.{answer}
use Rattle.algebra.specs.Rewriting.{rewritten, steps, step, closed_node, open_under, unnest, join_under, join_closed, join_open}
use Rattle.algebra.specs.Cases.{Case, cases, dependent_cases, Right, RightRewritten, same_rows}
use Rattle.algebra.proofs.Lists.Same.{same_eq, and_left, and_right}

same_rows_eq : (rs ss : List Row) → same_rows rs ss ≡ true → rs ≡ ss
same_rows_eq [] [] e = refl
same_rows_eq [] (s ∷ ss) e = cc
same_rows_eq (r ∷ rs) [] e = cc
same_rows_eq (r ∷ rs) (s ∷ ss) e =
    let h = same_eq r s (and_left (same_row r s) (same_rows rs ss) e) in
    let t = same_rows_eq rs ss (and_right (same_row r s) (same_rows rs ss) e) in
    cc

-- what a computed test says of each case
module _ (rows : Case → List Row) where
  tested : (cs : List Case) → all (λ c. same_rows (rows c) c.rows) cs ≡ true → Every (λ c. rows c ≡ c.rows) cs
  tested [] e = done
  tested (c ∷ cs) e =
      more {x = c} (same_rows_eq (rows c) c.rows (and_left (same_rows (rows c) c.rows) (all (λ d. same_rows (rows d) d.rows) cs) e))
      (tested cs (and_right (same_rows (rows c) c.rows) (all (λ d. same_rows (rows d) d.rows) cs) e))

-- every case has its rows
pub cases_right : Every Right cases
unfolding answer
cases_right = tested (λ c. answer c.widths c.database c.plan) cases refl

-- and so has the rewriting of each case with a dependent join
pub cases_rewritten : Every RightRewritten dependent_cases
unfolding answer rewritten steps step closed_node open_under unnest join_under join_closed join_open
cases_rewritten = tested (λ c. answer c.widths c.database (rewritten c.widths c.plan)) dependent_cases refl
