-- Document 01, "Step files, parts and writing": what a record's four bytes mean, and what the records of a part mean.
-- Assumes nothing.
use Rattle.std.specs.Prelude.{List, [], ◌∷◌, ℕ, ◌+◌, ◌*◌}
use Rattle.shift.specs.Readings.{Reading}
use Rattle.shift.specs.Answers.{reading}

-- code, a zero byte, amount
abbrev pub record_of : ℕ → ℕ → ℕ → ℕ → Reading
record_of code middle low high = reading code middle (low + 256 * high)

-- what is taken of each four bytes, one record after the other; fewer than four that are left over are no record
abbrev pub every_four : {A : Type 0} → (ℕ → ℕ → ℕ → ℕ → A) → List ℕ → List A
every_four each [] = []
every_four each (a ∷ []) = []
every_four each (a ∷ b ∷ []) = []
every_four each (a ∷ b ∷ c ∷ []) = []
every_four each (a ∷ b ∷ c ∷ d ∷ rest) = each a b c d ∷ every_four each rest

-- what the records of a part mean
abbrev pub records_in : List ℕ → List Reading
records_in = every_four record_of
