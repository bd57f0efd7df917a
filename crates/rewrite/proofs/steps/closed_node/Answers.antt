use mathlib.Core.Path.{◌≡◌, refl, sym, ap, ◌∙◌}
use mathlib.Core.Bool.{true, false}
use Prim.Native.Nat.{ℕ, ◌<◌}
use lib.ListN.{get_or}
use Rattle.algebra.specs.Columns.{closed, shape_at}
use Rattle.algebra.specs.Domains.{domain_keys, outside}
use Rattle.plan.proofs.Laws.Formed.{dependent_left, dependent_right, is_named, not_named}
use Rattle.plan.specs.declared.operator.Operator.TheVariants.{Dependent}
use Rattle.plan.specs.Words.{left, nodes, operator, right}
use Rattle.plan.specs.Plan.{nodes_of, widths_of}
use Rattle.plan.specs.Verdict.{width_at}
use Rattle.pages.specs.Sets.{members}
use Rattle.rules.specs.Reads.{reads_at}
use Rattle.pages.proofs.Laws.Domains.{inner_domain_lem}
use Rattle.pages.proofs.Laws.Limits.{node_index}
use Rattle.rewrite.proofs.Laws.ClosedNodes.{keys_are, domain_over, put_over, inner_closes, copy_closes}
use Rattle.rewrite.proofs.steps.closed_node.Goals as goal
use Rattle.rewrite.proofs.steps.closed_node.Goals.{After-right-right_input, Then-not-is_closed, After-key_set-set}
use Rattle.rewrite.proofs.steps.closed_node.Goals.{in-Dependent+else-not-is_closed, in_default}

-- ---- what is known once both inputs are read

eight : (c : After-right-right_input) → operator c.args.tables.now.words.now c.args.n ≡ 8
eight c = is_named _ c.requires.0.0.accepted.formed _ c.requires.0.1 c.of.ensures c.in-Dependent.is

-- the inputs are nodes of the plan
left_there : (c : After-right-right_input) → c.left-left_input.result < nodes c.args.tables.now.words.now
left_there c =
    rw c.left-left_input.ensures (dependent_left c.args.tables.now.words.now c.requires.0.0.accepted.formed c.args.n c.requires.0.1 (eight c))

right_there : (c : After-right-right_input) → c.right-right_input.result < nodes c.args.tables.now.words.now
right_there c =
    rw c.right-right_input.ensures (dependent_right c.args.tables.now.words.now c.requires.0.0.accepted.formed c.args.n c.requires.0.1 (eight c))

-- ---- where the right side is open

right_open : (c : Then-not-is_closed)
    → closed (shape_at (widths_of c.args.tables.now.words.now) (nodes_of c.args.tables.now.words.now) (right c.args.tables.now.words.now c.args.n)) ≡ false
right_open c = rw c.right-right_input.ensures at (sym c.is_closed.ensures ∙ c.if-not-is_closed.true)

-- the set of the keys is there
keys : (c : After-key_set-set) → operator c.args.tables.now.words.now c.args.n ≡ 8
    → closed (shape_at (widths_of c.args.tables.now.words.now) (nodes_of c.args.tables.now.words.now) (right c.args.tables.now.words.now c.args.n)) ≡ false
    → members c.key_set-set.result
    ≡ domain_keys outside (width_at c.args.tables.now.words.now (left c.args.tables.now.words.now c.args.n))
    (reads_at c.args.tables.now.words.now (right c.args.tables.now.words.now c.args.n))
keys c dependent open_right =
    keys_are c.requires.0.0.accepted c.requires.0.1 dependent c.requires.1 open_right c.args.tables.now.reads.now c.key_set-set.result
    c.outside-d.ensures c.requires.0.0.reads c.right-right_input.ensures c.key_set-set.ensures

-- ---- the answers

pub is_closed-requires : goal.is_closed-requires
is_closed-requires c = (c.requires.0.0, right_there (goal.at.is_closed-requires c).After-right-right_input)

pub bounds-images-left_input : goal.bounds-images-left_input
bounds-images-left_input c =
    node_index c.requires.0.0.accepted (left_there (goal.at.bounds-images-left_input c).After-right-right_input) refl

pub key_set-set-requires : goal.key_set-set-requires
key_set-set-requires c =
    node_index c.requires.0.0.accepted (right_there (goal.at.key_set-set-requires c).After-right-right_input) refl

pub returns-in_err-domain_node : goal.returns-in_err-domain_node
returns-in_err-domain_node c =
    let at = goal.at.returns-in_err-domain_node c in
    let dependent = eight at.After-right-right_input in
    let open_right = right_open at.Then-not-is_closed in
    domain_over c.requires.0.0.accepted c.requires.0.1 dependent c.requires.1 open_right c.args.images.now (members c.key_set-set.result)
    (keys at.After-key_set-set dependent open_right) (ap (λ (k : ℕ). get_or c.args.images.now k 0) c.left-left_input.ensures)
    _ _ c.in_err-domain_node.ensures _ c.from_residual.result c.from_residual.ensures.0

pub put-requires : goal.put-requires
put-requires c = (c.requires.0.0, right_there (goal.at.put-requires c).After-right-right_input)

pub returns-in_err-right_node : goal.returns-in_err-right_node
returns-in_err-right_node c =
    let at = goal.at.returns-in_err-right_node c in
    let words = c.args.tables.now.words.now in
    let dependent = eight at.After-right-right_input in
    let open_right = right_open at.Then-not-is_closed in
    let keys_here = keys at.After-key_set-set dependent open_right in
    put_over c.requires.0.0.accepted c.requires.0.1 dependent c.requires.1 open_right c.args.images.now (members c.key_set-set.result)
    keys_here (ap (λ (k : ℕ). get_or c.args.images.now k 0) c.left-left_input.ensures) _ _ c.in_ok-domain_node.ensures
    (inner_domain_lem (width_at words (left words c.args.n)) (reads_at words (right words c.args.n)) c.inner.ensures c.outside-d.ensures (sym keys_here))
    c.right-right_input.ensures _ c.in_err-right_node.ensures _ c.from_residual-in_err-right_node.result c.from_residual-in_err-right_node.ensures.0

pub side-left_side-requires : goal.side-left_side-requires
side-left_side-requires c = (c.requires.0.0, left_there (goal.at.side-left_side-requires c).After-right-right_input)

pub side-right_side-requires : goal.side-right_side-requires
side-right_side-requires c = (c.requires.0.0, right_there (goal.at.side-right_side-requires c).After-right-right_input)

pub with_inner-requires : goal.with_inner-requires
with_inner-requires c =
    ((c.requires.0.0.accepted, c.requires.0.1), eight (goal.at.with_inner-requires c).After-right-right_input)

pub returns-then-not-is_closed : goal.returns-then-not-is_closed
returns-then-not-is_closed c =
    let at = goal.at.returns-then-not-is_closed c in
    let words = c.args.tables.now.words.now in
    let dependent = eight at.After-right-right_input in
    let open_right = right_open at.Then-not-is_closed in
    let keys_here = keys at.After-key_set-set dependent open_right in
    inner_closes c.requires.0.0.accepted c.requires.0.1 dependent c.requires.1 open_right c.args.images.now (members c.key_set-set.result)
    keys_here (ap (λ (k : ℕ). get_or c.args.images.now k 0) c.left-left_input.ensures) _ _ c.in_ok-domain_node.ensures
    (inner_domain_lem (width_at words (left words c.args.n)) (reads_at words (right words c.args.n)) c.inner.ensures c.outside-d.ensures (sym keys_here))
    c.right-right_input.ensures _ c.in_ok-right_node.ensures
    c.side-left_side.ensures.0 (rw c.left-left_input.ensures at c.side-left_side.ensures.1)
    c.side-right_side.ensures.0 (rw c.right-right_input.ensures at c.side-right_side.ensures.1)
    _ c.with_inner.result (c.with_inner.ensures outside c.outside-d.ensures)

-- there is no dependent join, or its right side is closed
pub returns : goal.returns
returns c =
    let words = c.args.tables.now.words.now in
    let n = c.args.n in
    let closed_right : operator words n ≡ 8 → closed (shape_at (widths_of words) (nodes_of words) (right words n)) ≡ true =
    λ e. elim c.match-of.branch [
      | in-Dependent+else-not-is_closed w ↦
          rw w.right-right_input.ensures at (sym w.is_closed.ensures ∙ w.if-not-is_closed.false)
      | in_default w ↦ absurd (not_named _ c.requires.0.0.accepted.formed _ c.requires.0.1 c.of.ensures Dependent w.in_default.not-Dependent e)
    ]
    in
    copy_closes c.requires.0.0.accepted c.requires.0.1 closed_right c.copy_node.ensures
