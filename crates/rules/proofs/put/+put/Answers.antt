-- A node under a domain: what each call needs, and what each return says.
use mathlib.Core.Path.{◌≡◌, refl, sym, ap, ◌∙◌}
use mathlib.Core.Bool.{true, false, not}
use Prim.Native.Nat.{ℕ, ◌<◌}
use native.Mathlib.Omega.{arith}
use lib.ListN.{get_or}
use Rattle.algebra.specs.Columns.{closed, shape_at}
use Rattle.plan.specs.Words.{left, operator, right}
use Rattle.plan.specs.Plan.{nodes_of, widths_of}
use Rattle.plan.specs.Verdict.{has_right}
use Rattle.plan.proofs.Laws.Formed.{named_right}
use Rattle.pages.proofs.Laws.Limits.{node_index}
use Rattle.pages.proofs.Laws.Pages.{pushed_as}
use Rattle.rules.proofs.Laws.Fuel.{not_scan}
use Rattle.rules.proofs.Laws.UnderDomain.{both_over, both_put, closed_put_lem, copy_put, inner_over, left_over, one_put, set_over, set_put}
use Rattle.rules.proofs.Laws.UnderDomain.{left_less, no_right, one_right, reads_eight, reads_none, reads_some, right_less}
use Rattle.rules.proofs.put.+put.Goals as goal
use Rattle.rules.proofs.put.+put.Goals.{Else-is_closed, Then-not-has_right, After-right-right_input}

-- ---- the node is open

open_there : (t : ℕ) (c : Else-is_closed t)
    → closed (shape_at (widths_of c.args.tables.now.words.now) (nodes_of c.args.tables.now.words.now) c.args.n) ≡ false
open_there t c = sym c.is_closed.ensures ∙ c.if-is_closed.false

left_below : (t : ℕ) (c : Else-is_closed t) → left c.args.tables.now.words.now c.args.n < c.args.n
left_below t c = left_less c.requires.0.accepted c.requires.1 (open_there t c)

-- ---- it has no right input

single : (t : ℕ) (c : Then-not-has_right t) → has_right (operator c.args.tables.now.words.now c.args.n) ≡ false
single t c = no_right _ _ (named_right _ c.requires.0.accepted.formed _ c.requires.1 c.of.ensures c.has_right.ensures) (ap not c.if-not-has_right.true)

-- ---- it has one, which is read

paired : (t : ℕ) (c : After-right-right_input t) → has_right (operator c.args.tables.now.words.now c.args.n) ≡ true
paired t c = one_right _ _ (named_right _ c.requires.0.accepted.formed _ c.requires.1 c.of.ensures c.has_right.ensures) (ap not c.if-not-has_right.false)

right_below : (t : ℕ) (c : After-right-right_input t) → right c.args.tables.now.words.now c.args.n < c.args.n
right_below t c = right_less c.requires.0.accepted c.requires.1 (paired t c)

right_index : (t : ℕ) (c : After-right-right_input t) → c.right-right_input.result < 256
right_index t c =
    let below = right_below t c in
    node_index c.requires.0.accepted {n = right c.args.tables.now.words.now c.args.n} (omega (arith, c.requires.1)) c.right-right_input.ensures

-- ---- the answers

pub bounds-images-n : goal.bounds-images-n
bounds-images-n t c = node_index c.requires.0.accepted c.requires.1 refl

pub returns-then-is_closed : goal.returns-then-is_closed
returns-then-is_closed t c =
    closed_put_lem c.requires.0.accepted c.requires.1 c.is_closed.ensures c.if-is_closed.true (pushed_as c.join.ensures c.push_node.ensures)

pub put-requires : goal.put-requires
put-requires t c =
    let below = left_below t (goal.at.put-requires t c).Else-is_closed in
    (omega (arith, below, c.decreases, c.left-left_input.ensures), (c.requires.0, omega (arith, below, c.left-left_input.ensures, c.requires.1)))

pub returns-in_err-left_node : goal.returns-in_err-left_node
returns-in_err-left_node t c =
    left_over c.requires.0.accepted c.requires.1 (open_there t (goal.at.returns-in_err-left_node t c).Else-is_closed) c.left-left_input.ensures
    _ _ _ _ c.in_err-left_node.ensures _ c.from_residual.result c.from_residual.ensures.0

pub over_input-requires : goal.over_input-requires
over_input-requires t c =
    let at = goal.at.over_input-requires t c in (
      (c.requires.0.accepted, c.requires.1),
      (
        not_scan c.args.tables.now.words.now c.requires.0.accepted.formed (λ i. 0) c.args.n c.requires.1 (open_there t at.Else-is_closed),
        single t at.Then-not-has_right,
      ),
    )

pub returns-then-not-has_right : goal.returns-then-not-has_right
returns-then-not-has_right t c =
    let at = goal.at.returns-then-not-has_right t c in
    one_put c.requires.0.accepted c.requires.1 (open_there t at.Else-is_closed) c.left-left_input.ensures
    _ _ _ _ c.in_ok-left_node.ensures (single t at.Then-not-has_right) _ c.over_input.result c.over_input.ensures

pub key_set-set-requires : goal.key_set-set-requires
key_set-set-requires t c = right_index t (goal.at.key_set-set-requires t c).After-right-right_input

pub returns-in_err-domain_node : goal.returns-in_err-domain_node
returns-in_err-domain_node t c =
    let at = goal.at.returns-in_err-domain_node t c in
    set_over c.requires.0.accepted c.requires.1 (open_there t at.Else-is_closed) c.left-left_input.ensures _ _ _ _ c.in_ok-left_node.ensures
    (reads_eight _ _ c.reads_left.ensures c.if-reads_left.true) (reads_some _ _ c.reads_left.ensures c.if-reads_left.true)
    c.right-right_input.ensures c.args.tables.now.reads.now c.requires.0.reads c.key_set-set.result c.key_set-set.ensures
    _ c.in_err-domain_node.ensures _ c.from_residual-in_err-domain_node.result c.from_residual-in_err-domain_node.ensures.0

pub put-requires-then-reads_left : goal.put-requires-then-reads_left
put-requires-then-reads_left t c =
    let below = right_below t (goal.at.put-requires-then-reads_left t c).After-right-right_input in
    (omega (arith, below, c.decreases, c.right-right_input.ensures), (c.requires.0, omega (arith, below, c.right-right_input.ensures, c.requires.1)))

pub returns-in_err-right_node : goal.returns-in_err-right_node
returns-in_err-right_node t c =
    let at = goal.at.returns-in_err-right_node t c in
    inner_over c.requires.0.accepted c.requires.1 (open_there t at.Else-is_closed) c.left-left_input.ensures _ _ _ _ c.in_ok-left_node.ensures
    (reads_eight _ _ c.reads_left.ensures c.if-reads_left.true) (reads_some _ _ c.reads_left.ensures c.if-reads_left.true)
    c.right-right_input.ensures c.args.tables.now.reads.now c.requires.0.reads c.key_set-set.result c.key_set-set.ensures
    _ c.in_ok-domain_node.ensures c.inner.ensures _ c.in_err-right_node.ensures _ c.from_residual-in_err-right_node.result c.from_residual-in_err-right_node.ensures.0

pub side-left_side-requires : goal.side-left_side-requires
side-left_side-requires t c =
    let below = left_below t (goal.at.side-left_side-requires t c).Else-is_closed in
    (c.requires.0, omega (arith, below, c.left-left_input.ensures, c.requires.1))

pub side-right_side-requires : goal.side-right_side-requires
side-right_side-requires t c =
    let below = right_below t (goal.at.side-right_side-requires t c).After-right-right_input in
    (c.requires.0, omega (arith, below, c.right-right_input.ensures, c.requires.1))

pub returns-then-reads_left : goal.returns-then-reads_left
returns-then-reads_left t c =
    let at = goal.at.returns-then-reads_left t c in
    set_put c.requires.0.accepted c.requires.1 (open_there t at.Else-is_closed) c.left-left_input.ensures _ _ _ _ c.in_ok-left_node.ensures
    (reads_eight _ _ c.reads_left.ensures c.if-reads_left.true) (reads_some _ _ c.reads_left.ensures c.if-reads_left.true)
    c.right-right_input.ensures c.args.tables.now.reads.now c.requires.0.reads c.key_set-set.result c.key_set-set.ensures
    _ c.in_ok-domain_node.ensures c.inner.ensures _ c.in_ok-right_node.ensures
    c.side-left_side.ensures.0 (rw c.left-left_input.ensures at c.side-left_side.ensures.1)
    c.side-right_side.ensures.0 (rw c.right-right_input.ensures at c.side-right_side.ensures.1)
    _ c.with_inner.result c.with_inner.ensures

pub is_closed-requires-2 : goal.is_closed-requires-2
is_closed-requires-2 t c =
    let below = right_below t (goal.at.is_closed-requires-2 t c).After-right-right_input in
    (c.requires.0, omega (arith, below, c.right-right_input.ensures, c.requires.1))

pub bounds-images-right_input : goal.bounds-images-right_input
bounds-images-right_input t c = right_index t (goal.at.bounds-images-right_input t c).After-right-right_input

pub with_copy-requires : goal.with_copy-requires
with_copy-requires t c = ((c.requires.0.accepted, c.requires.1), paired t (goal.at.with_copy-requires t c).After-right-right_input)

pub returns-then-is_closed-2 : goal.returns-then-is_closed-2
returns-then-is_closed-2 t c =
    let at = goal.at.returns-then-is_closed-2 t c in
    copy_put c.requires.0.accepted c.requires.1 (open_there t at.Else-is_closed) c.left-left_input.ensures _ _ _ _ c.in_ok-left_node.ensures
    (paired t at.After-right-right_input) (rw c.right-right_input.ensures at (sym c.is_closed-2.ensures ∙ c.if-is_closed-2.true))
    (ap (λ (i : ℕ). get_or c.args.images.now i 0) c.right-right_input.ensures) _ c.with_copy.result c.with_copy.ensures

pub put-requires-2 : goal.put-requires-2
put-requires-2 t c =
    let below = right_below t (goal.at.put-requires-2 t c).After-right-right_input in
    (omega (arith, below, c.decreases, c.right-right_input.ensures), (c.requires.0, omega (arith, below, c.right-right_input.ensures, c.requires.1)))

pub returns-in_err-right_node-2 : goal.returns-in_err-right_node-2
returns-in_err-right_node-2 t c =
    let at = goal.at.returns-in_err-right_node-2 t c in
    both_over c.requires.0.accepted c.requires.1 (open_there t at.Else-is_closed) c.left-left_input.ensures _ _ _ _ c.in_ok-left_node.ensures
    (paired t at.After-right-right_input) (rw c.right-right_input.ensures at (sym c.is_closed-2.ensures ∙ c.if-is_closed-2.false))
    (reads_none _ _ c.reads_left.ensures c.if-reads_left.false) c.right-right_input.ensures c.right_domain.ensures
    _ c.in_err-right_node-2.ensures _ c.from_residual-in_err-right_node-2.result c.from_residual-in_err-right_node-2.ensures.0

pub side-left_side-requires-2 : goal.side-left_side-requires-2
side-left_side-requires-2 t c =
    let below = left_below t (goal.at.side-left_side-requires-2 t c).Else-is_closed in
    (c.requires.0, omega (arith, below, c.left-left_input.ensures, c.requires.1))

pub side-right_side-requires-2 : goal.side-right_side-requires-2
side-right_side-requires-2 t c =
    let below = right_below t (goal.at.side-right_side-requires-2 t c).After-right-right_input in
    (c.requires.0, omega (arith, below, c.right-right_input.ensures, c.requires.1))

pub with_open-requires : goal.with_open-requires
with_open-requires t c = ((c.requires.0.accepted, c.requires.1), paired t (goal.at.with_open-requires t c).After-right-right_input)

pub returns : goal.returns
returns t c =
    let at = goal.at.returns t c in
    both_put c.requires.0.accepted c.requires.1 (open_there t at.Else-is_closed) c.left-left_input.ensures _ _ _ _ c.in_ok-left_node.ensures
    (paired t at.After-right-right_input) (rw c.right-right_input.ensures at (sym c.is_closed-2.ensures ∙ c.if-is_closed-2.false))
    (reads_none _ _ c.reads_left.ensures c.if-reads_left.false) c.right-right_input.ensures c.right_domain.ensures
    _ c.in_ok-right_node-2.ensures
    c.side-left_side-2.ensures.0 (rw c.left-left_input.ensures at c.side-left_side-2.ensures.1)
    c.side-right_side-2.ensures.0 (rw c.right-right_input.ensures at c.side-right_side-2.ensures.1)
    _ c.with_open.result c.with_open.ensures
