-- Words read at a place.
use mathlib.Core.Path.{◌≡◌, refl, sym}
use mathlib.Core.List.{List}
use Prim.Native.Nat.{ℕ, ◌≤◌}
use lib.ListN.{length, get_or, get_or-eq_default}
use Rattle.plan.specs.Words.{word}

-- what a read of the slice gives
pub word_read : (ws : List ℕ) (i : ℕ) → get_or ws i 0 ≡ word ws i
unfolding word
word_read ws i = refl

-- past the end a word is 0
pub word_past : (ws : List ℕ) (i : ℕ) → length ws ≤ i → 0 ≡ word ws i
unfolding word
word_past ws i h = sym (get_or-eq_default ws 0 h)
