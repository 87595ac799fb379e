-- Document 01, "Numbers for what is refused", a second time: when a join is refused, as statements, and what a refused one leaves. It
-- shares no definition with Join.antt, so that both have to be wrong in the same way.
-- Assumes nothing.
use Rattle.std.specs.Prelude.{◌≡◌, List, [], ◌∷◌, ℕ, ◌+◌, ◌<◌, length, get_or}
use Rattle.checks.specs.Conditions.{Condition, ◌gives◌, FirstOf, OneOf}

-- the overlap differs: at a place of the part that is held already, the part has another byte than the buffer
pub record Differs (buffer : List ℕ) (held offset : ℕ) (part : List ℕ) : Type 0 where
  pub place : ℕ
  pub in_part : place < length part
  pub in_held : offset + place < held
  pub other : ¬ (get_or part place 0 ≡ get_or buffer (offset + place) 0)

-- 15 for held, 14, 15, 16
abbrev pub refusals : List ℕ → ℕ → ℕ → List ℕ → List Condition
refusals buffer held offset part =
    (length buffer < held gives 15)
    ∷ (held < offset gives 14)
    ∷ (length buffer < offset + length part gives 15)
    ∷ (Differs buffer held offset part gives 16)
    ∷ []

-- a join that answers a number, and after it the count held and the buffer
pub record JoinAnswers (buffer : List ℕ) (held offset : ℕ) (part : List ℕ) (number held_after : ℕ) (after : List ℕ) : Type 0 where
  pub first : FirstOf (refusals buffer held offset part) number
  pub numbers : OneOf (0 ∷ 14 ∷ 15 ∷ 16 ∷ []) number
  pub unchanged : ¬ (number ≡ 0) → (held_after ≡ held) × (after ≡ buffer)
