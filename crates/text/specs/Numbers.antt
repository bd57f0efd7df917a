-- Numbers as bytes.
use Rattle.std.specs.Prelude.{cond, List, [], ◌∷◌, ◌++◌, ℕ, zero, suc, ◌+◌, ◌-◌, ◌/◌, ◌%◌, ◌^◌, ltb}

-- the last digits of n, at most so many, none in front of the first that counts
unfoldable pub digits : ℕ → ℕ → List ℕ
digits zero n = []
digits (suc most) n = cond (ltb n 10) ((48 + n) ∷ []) (digits most (n / 10) ++ ((48 + n % 10) ∷ []))

-- "in decimal", "no leading zeros"; no number has more digits than its value and one
unfoldable pub decimal : ℕ → List ℕ
decimal n = digits (suc n) n

-- "a minus before negative constants": a constant is stored modulo 2^32
unfoldable pub signed : ℕ → List ℕ
signed w = cond (ltb w (2 ^ 31)) (decimal w) (45 ∷ decimal (2 ^ 32 - w))
