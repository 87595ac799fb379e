-- A statement on each number of a range, as a tuple that computes.
-- Assumes nothing.
use Rattle.std.specs.Prelude.{ℕ, zero, suc}

-- P holds of each of the n numbers from i on
abbrev pub From : (ℕ → Type 0) → ℕ → ℕ → Type 0
From P i zero = Unit {0}
From P i (suc n) = P i × From P (suc i) n
