-- Document 01, "Numbers for what is refused", a second time: each number is given exactly when its condition holds and none before it
-- does. Here a condition is a statement, in the document's words, and no test.
-- Assumes nothing.
use Rattle.std.specs.Prelude.{◌≡◌, ◌⊎◌, List, [], ◌∷◌, ℕ}

-- what refuses, and the number that it is refused with
pub record Condition : Type 1 where
  pub holds : Type 0
  pub number : ℕ

infixr 40 ◌gives◌
abbrev pub ◌gives◌ : Type 0 → ℕ → Condition
P gives n = record { holds = P; number = n }

-- what has to hold, and the number that is given where it does not
infixr 40 ◌else◌
abbrev pub ◌else◌ : Type 0 → ℕ → Condition
P else n = (¬ P) gives n

-- n is the number of the first condition that holds, and 0 where none does
abbrev pub FirstOf : List Condition → ℕ → Type 0
FirstOf [] n = n ≡ 0
FirstOf (c ∷ cs) n = (c.holds × (n ≡ c.number)) ⊎ (¬ c.holds × FirstOf cs n)

-- n is one of these
abbrev pub OneOf : List ℕ → ℕ → Type 0
OneOf [] n = ⊥
OneOf (k ∷ ks) n = (n ≡ k) ⊎ OneOf ks n
