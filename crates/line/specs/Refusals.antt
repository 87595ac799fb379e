-- Document 01, "Numbers for what is refused", a second time: when a line that is laid into a buffer is refused, as a statement, and what
-- a refused one leaves. It shares no definition with Laying.antt.
-- Assumes nothing.
use Rattle.std.specs.Prelude.{◌≡◌, List, [], ◌∷◌, ℕ, ◌<◌, length}
use Rattle.checks.specs.Conditions.{Condition, ◌gives◌, FirstOf, OneOf}

-- 15: what is written doesn't fit
abbrev pub refusals : List ℕ → List ℕ → List Condition
refusals text out = (length out < length text gives 15) ∷ []

-- laying a text into a buffer that answers a number and a length, and the buffer after it
pub record LineAnswers (text out : List ℕ) (number size : ℕ) (after : List ℕ) : Type 0 where
  pub first : FirstOf (refusals text out) number
  pub numbers : OneOf (0 ∷ 15 ∷ []) number
  pub unchanged : ¬ (number ≡ 0) → (size ≡ 0) × (after ≡ out)
