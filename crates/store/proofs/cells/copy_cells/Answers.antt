use mathlib.Core.Path.{refl, sym}
use native.Mathlib.Omega.{arith}
use lib.ListN.{length-set}
use mir.ValLaws.{to_z-of_z}
use borrow.Author.Rules.{rules}
use Rattle.store.proofs.Laws.Cells.{written_nothing}
use Rattle.store.proofs.Laws.Written.{copied_more}
use Rattle.store.proofs.cells.copy_cells.Goals as goal

pub loop-i-init : goal.loop-i-init
loop-i-init c = (refl, sym (written_nothing _ c.args.to))

pub loop-i-preserved : goal.loop-i-preserved
loop-i-preserved c =
    let a = c.args in
    let l = c.loop-i in (
      simp length-set l.invariant.0,
      copied_more a.from.now a.at a.s.now a.to l.i l.s (omega arith) (omega arith)
          l.invariant.1 _ (search (rules, to_z-of_z)),
    )
