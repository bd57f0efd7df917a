use mathlib.Core.Path.{◌∙◌}
use native.Mathlib.Omega.{arith}
use mir.Syntax.{w64}
use mir.ValLaws.{to_z-of_z}
use Rattle.plan.proofs.Laws.Terms.{term_local, term_outer, term_constant, term_null}
use Rattle.plan.proofs.terms.decode.Goals as goal

pub returns-in-0 : goal.returns-in-0
returns-in-0 c = term_local _ _ (omega arith) c.item_word-value.ensures

pub returns-in-1 : goal.returns-in-1
returns-in-1 c = term_outer _ _ _ (omega arith) c.item_word-level.ensures c.item_word-value.ensures

pub returns-in-2 : goal.returns-in-2
returns-in-2 c =
    let s = c.signed_word in
    let same = to_z-of_z w64 s.result (record { sfits = s.type_inv }) ∙ s.ensures in
    term_constant _ _ _ (omega arith) same c.item_word-value.ensures

pub returns-in_default : goal.returns-in_default
returns-in_default c = term_null _ (omega arith) (omega arith) (omega arith)
