use native.Mathlib.Omega.{arith}
use mathlib.Core.Path.{◌∙◌}
use Rattle.plan.specs.Words.{item_at, three_at}
use Rattle.pages.specs.Items.{shifted}
use Rattle.pages.proofs.Laws.Pages.{added_as}
use Rattle.pages.proofs.Laws.MovedItems.{term_near, term_stands, moved_copy, moved_both}
use Rattle.pages.proofs.page.Page.push_moved_item.Goals as goal

pub moved_term-first-requires : goal.moved_term-first-requires
moved_term-first-requires c = let t = three_at c.args.words.now c.args.j 1 in
    let first = c.requires.first in (
      term_near t first.0 c.first_term.ensures first.1,
      term_stands t first.0 c.first_term.ensures c.three-stands.result c.three-stands.ensures (omega arith),
    )

pub returns-then-t-eq-COPY : goal.returns-then-t-eq-COPY
returns-then-t-eq-COPY c D m = let a = c.args in
    added_as _ _ c.push_item.result
    (rw
    (moved_copy D (shifted a.shift) (item_at a.words.now a.j) _ _ _ c.tag-t.ensures
    (rw c.first_term.ensures at (c.moved_term-first.ensures D m)) c.if-t-eq-COPY.true c.local.ensures))
    c.push_item.ensures

pub moved_term-second-requires : goal.moved_term-second-requires
moved_term-second-requires c = let t = three_at c.args.words.now c.args.j 4 in
    let second = c.requires.second (λ e. c.if-t-eq-COPY.false (c.tag-t.ensures ∙ e)) in (
      term_near t second.0 c.second_term.ensures second.1,
      term_stands t second.0 c.second_term.ensures c.three-stands-2.result c.three-stands-2.ensures (omega (arith, c.three-stands-2.type_inv)),
    )

pub returns : goal.returns
returns c D m = let a = c.args in
    added_as _ _ c.push_item-2.result
    (rw
    (moved_both D (shifted a.shift) (item_at a.words.now a.j) _ _ _ c.tag-t.ensures
    (rw c.first_term.ensures at (c.moved_term-first.ensures D m)) c.if-t-eq-COPY.false
    (rw c.second_term.ensures at (c.moved_term-second.ensures D m))))
    c.push_item-2.ensures
