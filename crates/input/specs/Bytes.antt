-- Words of four bytes, least byte first.
use Rattle.std.specs.Prelude.{◌≡◌, List, [], ◌∷◌, ◌++◌, ℕ, zero, suc, ◌+◌, ◌*◌, ◌/◌, ◌≤◌, min, length, get_or, take, drop}

-- word k
abbrev pub word_at : List ℕ → ℕ → ℕ
word_at bytes k = get_or bytes (k * 4) 0 + get_or bytes (k * 4 + 1) 0 * 256 + get_or bytes (k * 4 + 2) 0 * 65536 + get_or bytes (k * 4 + 3) 0 * 16777216

-- the first n words
unfoldable pub words_in : List ℕ → ℕ → List ℕ
words_in bytes zero = []
words_in bytes (suc n) = words_in bytes n ++ (word_at bytes n ∷ [])

-- as many whole words as both have room for, and behind them what stood there before
pub record Filled (bytes before after : List ℕ) (count : ℕ) : Type 0 where
  pub many : count ≡ min (length bytes / 4) (length before)
  pub content : after ≡ words_in bytes count ++ drop count before
  -- these follow; a caller that lends the filled part needs them
  pub within : count ≤ length after
  pub whole : count ≡ length (take count after)
