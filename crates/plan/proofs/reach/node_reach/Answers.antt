use lib.ListN.{get_or}
use native.Mathlib.Omega.{arith}
use Prim.Native.Nat.{ℕ}
use Rattle.plan.proofs.Laws.Reach.{items_asked, scan_reach, one_reach, two_reach, dependent_reach}
use Rattle.plan.proofs.reach.node_reach.Goals as goal

pub items_reach-own-requires : goal.items_reach-own-requires
items_reach-own-requires c = items_asked _ c.requires.0 _ c.requires.1 c.first_item.ensures c.item_count.ensures

pub returns-in-Scan : goal.returns-in-Scan
returns-in-Scan c = scan_reach _ c.requires.0 _ c.requires.1 c.of.ensures (λ (i : ℕ). get_or c.args.reaches.now i 0) c.first_item.ensures c.item_count.ensures c.items_reach-own.ensures c.in-Scan.is

pub returns-in-Select : goal.returns-in-Select
returns-in-Select c =
    one_reach _ c.requires.0 _ c.requires.1 c.of.ensures (λ (i : ℕ). get_or c.args.reaches.now i 0) c.first_item.ensures c.item_count.ensures c.items_reach-own.ensures
    c.left.ensures c.in-Select.is (omega arith)

pub returns-in-Join : goal.returns-in-Join
returns-in-Join c =
    two_reach _ c.requires.0 _ c.requires.1 c.of.ensures (λ (i : ℕ). get_or c.args.reaches.now i 0) c.first_item.ensures c.item_count.ensures c.items_reach-own.ensures
    c.left-in-Join.ensures c.right.ensures c.in-Join.is (omega arith)

pub returns-in-Dependent : goal.returns-in-Dependent
returns-in-Dependent c =
    dependent_reach _ c.requires.0 _ c.requires.1 c.of.ensures (λ (i : ℕ). get_or c.args.reaches.now i 0) c.first_item.ensures c.item_count.ensures c.items_reach-own.ensures
    c.left-in-Dependent.ensures c.right-in-Dependent.ensures c.in-Dependent.is (omega arith)
