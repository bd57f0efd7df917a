use native.Mathlib.Omega.{arith}
use mathlib.Core.Path.{refl}
use Prim.Native.Nat.{◌+◌, ◌%◌}
use Rattle.text.proofs.Laws.Writing.{spelled_more}
use Rattle.text.proofs.write.write_decimal.Goals as goal

pub loop-k-preserved : goal.loop-k-preserved
loop-k-preserved c = let a = c.args in
    let l = c.loop-k in
    let p = c.put in
    spelled_more a.n a.at l.k l.rest (48 + l.rest % 10) a.text.now l.text p.new.to (omega (arith, c.digit_count-count.ensures.value)) (omega arith)
    l.invariant p.ensures refl
