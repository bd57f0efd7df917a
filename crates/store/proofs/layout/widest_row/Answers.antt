use mathlib.Core.Path.{sym, ap, ◌∙◌}
use native.Mathlib.Omega.{arith}
use Prim.Native.Nat.{ℕ}
use lib.ListN.{take}
use Rattle.std.specs.Prelude.{Option, unwrap_or}
use Rattle.std.proofs.lemmas.Iterator.{YieldsList-from_slice}
use Rattle.std.proofs.lemmas.Iterator.Adapters.{option_map_id}
use Rattle.std.proofs.lemmas.Iterator.Consumers.{YieldsList-from_copied, max_from_yields_List}
use Rattle.store.proofs.Laws.Layouts.{widest_is}
use Rattle.store.proofs.layout.widest_row.Goals as goal

pub returns : goal.returns
returns c =
    let rows = c.args.widths.now in
    let most =
    sym (option_map_id _) ∙ max_from_yields_List _ _ c.max.ensures.ran (YieldsList-from_copied (YieldsList-from_slice (take c.nodes.result rows) cc)) in
    c.unwrap_or.ensures ∙ ap (λ (o : Option ℕ). unwrap_or o 0) most ∙ widest_is c.args.words.now rows c.requires.0 c.nodes.ensures (omega (arith, c.nodes.ensures, c.requires.1))
