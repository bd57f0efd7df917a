use mathlib.Core.Path.{◌≡◌, refl, ◌∙◌}
use Prim.Native.Nat.{◌+◌, ◌-◌, ◌*◌}
use native.Mathlib.Omega.{arith}
use borrow.Author.Rules.{rules}
use lib.IntN.{ℤ, pos, ◌+ℤ◌}
use lib.ListN.{get_or}
use mir.Syntax.{w64}
use mir.Val.{SFits, to_z, of_z}
use mir.ValLaws.{to_z-of_z}
use Rattle.std.specs.Prelude.{unwrap_or}
use Rattle.operators.proofs.Laws.Sums.{sum_past, column_inside, sum_add_fits, sum_turn, sum_null, sum_end}
use Rattle.operators.proofs.aggregate.sum_of.Goals.{After-unwrap_or}
use Rattle.operators.proofs.aggregate.sum_of.Goals as goal

pub returns-then-width-p : goal.returns-then-width-p
returns-then-width-p c = let a = c.args in sum_past a.rows.now a.width a.p a.found.now c.if-width-p.true

pub bounds-rows-found : goal.bounds-rows-found
bounds-rows-found c =
    let a = c.args in
    column_inside a.rows.now a.width a.p a.found.now (c.loop-i.i - 1) c.requires.1 (omega arith) (omega arith)

-- the sum so far and the cell, as numbers
abbrev cell : After-unwrap_or → ℤ
cell c = get_or c.args.rows.now (get_or c.args.found.now (c.loop-i.i - 1) 0 * c.args.width + c.args.p) (pos 0)

sum_read : (c : After-unwrap_or) → to_z w64 (of_z w64 c.unwrap_or.result) ≡ unwrap_or c.loop-i.sum (pos 0)
sum_read c = to_z-of_z w64 c.unwrap_or.result (record { sfits = c.unwrap_or.type_inv }) ∙ c.unwrap_or.ensures

cell_read : (c : After-unwrap_or) → to_z w64 (of_z w64 (cell c)) ≡ cell c
cell_read c = to_z-of_z w64 _ (search rules)

one_more : (c : After-unwrap_or) → SFits w64 (unwrap_or c.loop-i.sum (pos 0) +ℤ cell c)
one_more c =
    let a = c.args in
    let l = c.loop-i in
    sum_add_fits a.rows.now a.width a.p a.found.now l.i c.requires.1 l.invariant.0 c.loop-i-test.true l.auto.i refl
    c.requires.0 c.requires.3 c.if-x.true l.invariant.1

pub overflow_add-sum : goal.overflow_add-sum
overflow_add-sum c = rw (sum_read c, cell_read c) (one_more c)

pub loop-i-preserved-then-x : goal.loop-i-preserved-then-x
loop-i-preserved-then-x c =
    let a = c.args in
    let l = c.loop-i in (
      search rules,
      rw (sum_read c, cell_read c, to_z-of_z w64 _ (one_more c))
          (sum_turn a.rows.now a.width a.p a.found.now l.i c.requires.1 l.invariant.0 c.loop-i-test.true l.auto.i refl
          c.requires.0 c.requires.3 c.if-x.true l.invariant.1),
    )

pub loop-i-preserved : goal.loop-i-preserved
loop-i-preserved c =
    let a = c.args in
    let l = c.loop-i in (
      search rules,
      sum_null a.rows.now a.width a.p a.found.now l.i c.requires.1 l.invariant.0 (omega arith) l.auto.i refl l.sum
          (search rules) c.if-x.false l.invariant.1,
    )

pub returns : goal.returns
returns c =
    let a = c.args in
    let l = c.loop-i in
    let u = c.unwrap_or-2 in
    let end : l.i ≡ 0 = omega arith in
    rw (to_z-of_z w64 u.result (record { sfits = u.type_inv }), u.ensures)
    (sum_end a.rows.now a.width a.p a.found.now (rw end at l.invariant.1) c.requires.0 c.requires.3)
