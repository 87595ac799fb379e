-- Document 01, "Numbers for what is refused": each number is given exactly when its condition holds and none before it does.
-- A refusal is therefore the number of the first check of a list that does not hold, and 0 where all hold.
-- Assumes nothing.
use Rattle.std.specs.Prelude.{Bool, cond, List, [], ◌∷◌, ℕ, suc}

-- a test, and the number that refuses what fails it
pub record Check : Type 0 where
  pub ok : Bool
  pub number : ℕ

infixr 40 ◌!◌
abbrev pub ◌!◌ : Bool → ℕ → Check
b ! n = record { ok = b; number = n }

-- the number of the first check that does not hold, 0 where all do
abbrev pub first : List Check → ℕ
first [] = 0
first (c ∷ cs) = cond c.ok (first cs) c.number

-- tests with the numbers n, n + 1 and so on
abbrev pub numbered : ℕ → List Bool → List Check
numbered n [] = []
numbered n (b ∷ bs) = (b ! n) ∷ numbered (suc n) bs
