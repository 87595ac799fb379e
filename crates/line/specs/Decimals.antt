-- A number in decimal, in ASCII.
-- Assumes nothing.
use Rattle.std.specs.Prelude.{ℕ, zero, suc, ◌+◌, ◌/◌, ◌%◌, cond, List, [], ◌∷◌, ◌++◌, ltb}

-- digits by repeated division, the most significant first; the first argument bounds the divisions
abbrev pub spelled : ℕ → ℕ → List ℕ
spelled zero n = []
spelled (suc m) n = cond (ltb n 10) ((48 + n) ∷ []) (spelled m (n / 10) ++ (48 + n % 10) ∷ [])

-- the fewest decimal digits that hold n, and one for 0: n divisions are enough
unfoldable pub decimal_of : ℕ → List ℕ
decimal_of n = spelled (suc n) n
