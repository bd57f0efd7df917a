-- Words that may stand in the lines of a text.
use mathlib.Core.Path.{◌≡◌}
use mathlib.Core.Bool.{Bool, true, false, ◌&&◌}
use mathlib.Core.List.{List, [], ◌∷◌, ◌++◌}
use Prim.Native.Nat.{ℕ, ◌^◌, ◌<◌, ◌≤◌}
use lib.ListN.{length}
use Rattle.plan.specs.Words.{tables, nodes, items}
use Rattle.text.specs.declared.form.Form.{Form}
use Rattle.text.specs.Reading.{Counts, constant_next}

-- a constant is any word, another number is within its line's range
abbrev pub Allowed : Bool → Form → ℕ → Type 0
Allowed true form w = w < 2 ^ 32
Allowed false form w = (form.low ≤ w) × (w ≤ form.high)

-- the words ws of a line behind its words xs
pub data WordsFit (form : Form) : List ℕ → List ℕ → Type 0 where
  none_left : {xs : List ℕ} → WordsFit form xs []
  one_more : {xs : List ℕ} {w : ℕ} {ws : List ℕ} → Allowed (form.item && constant_next xs) form w → WordsFit form (xs ++ (w ∷ [])) ws → WordsFit form xs (w ∷ ws)

-- words one behind the other in lines of these forms
pub data BodyFits : List Form → List ℕ → Type 0 where
  no_row : BodyFits [] []
  one_row : {form : Form} {fs : List Form} {xs ws : List ℕ} → length xs ≡ form.count → WordsFit form [] xs → BodyFits fs ws → BodyFits (form ∷ fs) (xs ++ ws)

-- T, N and I within their limits
pub record Limited (s : Counts) : Type 0 where
  pub tables_some : 1 ≤ s.tables
  pub tables_few : s.tables ≤ 16
  pub nodes_some : 1 ≤ s.nodes
  pub nodes_few : s.nodes ≤ 256
  pub items_few : s.items ≤ 2000

abbrev pub sizes_of : List ℕ → Counts
sizes_of ws = record { tables = tables ws; nodes = nodes ws; items = items ws }
