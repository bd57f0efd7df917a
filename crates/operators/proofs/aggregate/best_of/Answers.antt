use mathlib.Core.Path.{refl, ap, ◌∙◌}
use Prim.Native.Nat.{◌-◌}
use native.Mathlib.Omega.{arith}
use borrow.Author.Rules.{rules}
use mir.Syntax.{w64}
use mir.Val.{to_z, of_z}
use mir.ValLaws.{to_z-of_z}
use Rattle.store.specs.Cells.{value}
use Rattle.operators.specs.Choice.{in_order}
use Rattle.operators.proofs.Laws.Sums.{best_past, best_none, best_turn, column_inside}
use Rattle.operators.proofs.aggregate.best_of.Goals as goal

pub returns-then-width-p : goal.returns-then-width-p
returns-then-width-p c = let a = c.args in best_past a.rows.now a.width a.p a.found.now (in_order a.order) c.if-width-p.true

pub loop-i-init : goal.loop-i-init
loop-i-init c = let a = c.args in (search rules, best_none a.rows.now a.width a.p a.found.now (in_order a.order))

pub bounds-rows-found : goal.bounds-rows-found
bounds-rows-found c =
    let a = c.args in
    column_inside a.rows.now a.width a.p a.found.now (c.loop-i.i - 1) c.requires.0 (omega arith) (omega arith)

pub loop-i-preserved : goal.loop-i-preserved
loop-i-preserved c =
    let a = c.args in
    let l = c.loop-i in
    let r = c.better_cell-answer in (
      search rules,
      best_turn a.rows.now a.width a.p a.found.now l.i c.requires.0 l.invariant.0 (omega arith) l.auto.i refl (in_order a.order)
          (to_z w64 (of_z w64 r.result)) _ _ (ap value (to_z-of_z w64 r.result (record { sfits = r.type_inv })) ∙ r.ensures)
          (to_z-of_z w64 _ (search rules)) l.invariant.1,
    )
