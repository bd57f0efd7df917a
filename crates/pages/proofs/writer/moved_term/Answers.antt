use mathlib.Core.Logic.{inl, inr}
use mathlib.Core.Path.{ap, subst, ◌∙◌}
use Rattle.plan.specs.declared.terms.Term.{Term}
use Rattle.plan.specs.Terms.{meant}
use Rattle.pages.specs.Items.{Near, shifted}
use Rattle.pages.proofs.Laws.MovedItems.{moved_local, moved_outer, moved_constant, moved_null}
use borrow.Author.Rules.{rules}
use Rattle.pages.proofs.writer.moved_term.Goals as goal

pub place-requires : goal.place-requires
place-requires c = subst (λ (t : Term). Near (meant t)) c.in-Local.is c.requires.0

pub place-requires-in-Outer : goal.place-requires-in-Outer
place-requires-in-Outer c = let near = subst (λ (t : Term). Near (meant t)) c.in-Outer.is c.requires.0 in
    search rules

pub returns-in-Local : goal.returns-in-Local
returns-in-Local c D m =
    moved_local D (shifted c.args.shift) c.local.result _ _ (ap meant c.in-Local.is) c.place.ensures c.local.ensures

pub returns-in-Outer : goal.returns-in-Outer
returns-in-Outer c D m = let e = c.in-Outer.is in
    let near = subst (λ (t : Term). Near (meant t)) e c.requires.0 in
    moved_outer D (shifted c.args.shift) c.local-in-Outer.result _ _ _ (ap meant e)
    (c.place-in-Outer.ensures ∙ m.place _ _ near.0) c.local-in-Outer.ensures

pub returns-in-Constant : goal.returns-in-Constant
returns-in-Constant c D m = elim c.in-Constant.is [
  | inl (k, e) ↦ moved_constant D (shifted c.args.shift) c.args.stands k (ap meant e) c.requires.1
  | inr e ↦ moved_null D (shifted c.args.shift) c.args.stands (ap meant e) c.requires.1
]
