-- Plans and words: a plan is read as it was written, and the words of a well-formed slice are those that its plan is written as.
use mathlib.Core.Path.{◌≡◌, ap, ◌∙◌}
use mathlib.Core.List.{List, map}
use Prim.Native.Nat.{ℕ, ◌^◌, ◌<◌}
use lib.ListN.{length, get_or}
use Rattle.algebra.specs.Lists.{upto, Every, done}
use Rattle.algebra.specs.Plan.{Node, scan}
use Rattle.algebra.proofs.Lists.Every.{every_at}
use Rattle.plan.specs.Words.{table_width}
use Rattle.plan.specs.Plan.{node_for, kind_of, node_at, widths_of, nodes_of}
use Rattle.plan.specs.Promise.{Formed}
use Rattle.plan.specs.Encoding.{words_of, Storable}
use Rattle.plan.proofs.Laws.Numbered.{numbered}
use Rattle.plan.proofs.Laws.Encoded as laws
use Rattle.plan.proofs.Laws.Decoded.{node_back}
use Rattle.plan.proofs.Laws.Whole.{words_same}
use Rattle.plan.proofs.Laws.Meets.{Writable, formed_of}

module _ (widths : List ℕ) (ns : List Node) where
  -- the widths are read as they were written
  pub decoded_widths : widths_of (words_of widths ns) ≡ widths
  decoded_widths =
      ap (λ (n : ℕ). map (table_width (words_of widths ns)) (upto n)) (laws.tables_of widths ns)
      ∙ numbered (table_width (words_of widths ns)) widths 0 (laws.width_of_lem widths ns)

  -- the nodes are read as they were written
  pub decoded_nodes : Storable ns → nodes_of (words_of widths ns) ≡ ns
  decoded_nodes s =
      ap (λ (n : ℕ). map (node_at (words_of widths ns)) (upto n)) (laws.nodes_of_lem widths ns)
      ∙ numbered (node_at (words_of widths ns)) ns (scan 0) at
    where
      at : (n : ℕ) → n < length ns → node_at (words_of widths ns) n ≡ get_or ns n (scan 0)
      at n h =
          (λ i.
          node_for
          (laws.operator_of widths ns (scan 0) n h i)
          (laws.left_of widths ns (scan 0) n h i)
          (laws.right_of_lem widths ns (scan 0) n h i)
          (kind_of (laws.kind_of_lem widths ns (scan 0) n h i))
          (laws.node_items_of widths ns (scan 0) n h i))
          ∙ node_back (get_or ns n (scan 0)) (every_at (scan 0) done s n)

  -- an encoded plan passes refusals 1, 2 and 3
  pub formed_words : Writable widths ns → Formed (words_of widths ns)
  formed_words w = formed_of widths ns w

module _ (ws : List ℕ) where
  -- the words of a well-formed slice are those that its plan is written as
  pub encoded : Formed ws → Every (λ w. w < 2 ^ 32) ws → words_of (widths_of ws) (nodes_of ws) ≡ ws
  encoded f small = words_same ws f small
