-- What is proved of plans and their rewriting, in document 01's words.
use mathlib.Core.Path.{◌≡◌, refl, ap}
use mathlib.Core.List.{List, ◌∷◌}
use Prim.Native.Nat.{ℕ, zero, suc, ◌*◌, ◌≤◌}
use lib.ListN.{length}
use Rattle.algebra.specs.Lists.{Every}
use Rattle.algebra.specs.Value.{Row}
use Rattle.algebra.specs.Plan.{Node}
use Rattle.algebra.specs.Operators.{Outer}
use Rattle.algebra.specs.Meaning.{Database, result_of, answer}
use Rattle.algebra.specs.Columns.{shape_at}
use Rattle.algebra.specs.Rewriting.{rewritten}
use Rattle.algebra.specs.Statements.{Fitting, times, WellFormed, OpenOnce, Plain, Agree, AgreeAt}
use Rattle.algebra.proofs.Lists.Every.{every_map}
use Rattle.algebra.proofs.Tables.Agreement.{Alike, results_respect}
use Rattle.algebra.proofs.Tables.Theorem.{theorem, plain, well_formed}
use Rattle.algebra.proofs.Tables.Growth.{four_each}

module _ (widths : List ℕ) (db : Database) where
  -- a well-formed plan and its rewriting have the same rows in the same order
  pub same_list : Fitting widths db → (ns : List Node) → WellFormed widths ns → answer widths db (rewritten widths ns) ≡ answer widths db ns
  same_list fits ns w = theorem widths db fits ns w

  -- "the same rows, each equally often"
  pub equally_often : Fitting widths db → (ns : List Node) → WellFormed widths ns
      → (r : Row) → times r (answer widths db (rewritten widths ns)) ≡ times r (answer widths db ns)
  equally_often fits ns w r = ap (times r) (same_list fits ns w)

  -- "Under equal outer rows, two left rows that agree on the columns read give the right side the same result"
  pub agreement : (ns : List Node) (right : ℕ) (o : Outer) (x y : Row) → Agree x y (shape_at widths ns right).reads
      → (result_of widths db ns right).rows (x ∷ o) ≡ (result_of widths db ns right).rows (y ∷ o)
  agreement ns right o x y h = results_respect widths db ns right (x ∷ o) (y ∷ o) (every_map (λ c t. alike c.level c.position t) h)
    where
      alike : (l p : ℕ) → AgreeAt x y l p → Alike (x ∷ o) (y ∷ o) (record { level = l; position = p })
      alike zero p t = t
      alike (suc l) p t = refl

module _ (widths : List ℕ) (ns : List Node) (w : WellFormed widths ns) where
  -- the rewriting is well formed
  pub rewriting_well_formed : WellFormed widths (rewritten widths ns)
  rewriting_well_formed = well_formed widths ns w

  -- and holds no dependent join
  pub no_dependent_join : Every Plain (rewritten widths ns)
  no_dependent_join = plain widths ns w

  -- "at most four nodes for each original one", where no open node is used twice
  pub four_nodes_each : OpenOnce widths ns → length (rewritten widths ns) ≤ 4 * length ns
  four_nodes_each once = four_each widths ns w once
