-- Document 01, "Step files, parts and writing": what joining a part to the bytes held gives, and what it leaves in the buffer.
-- Assumes nothing.
use Rattle.std.specs.Prelude.{Bool, true, ◌&&◌, cond, List, [], ◌∷◌, ◌++◌, ℕ, ◌+◌, ◌-◌, max, leb, eqb, length, take, drop, Result, Ok, Err}
use Rattle.checks.specs.Checks.{Check, ◌!◌, first}
use Rattle.transfer.specs.declared.Unjoined.{Unjoined}
use Rattle.transfer.specs.declared.Unjoined.TheVariants.{Gap, NoRoom, Differs}

-- the number that refuses a part, 0 for one that is accepted, and how many bytes are held then
pub record Joined : Type 0 where
  pub number : ℕ
  pub held : ℕ

abbrev pub number_of : Unjoined → ℕ
number_of Gap = 14
number_of NoRoom = 15
number_of Differs = 16

-- what the two cases of an answer say, where so many bytes were held
abbrev pub joined_in : ℕ → Result ℕ Unjoined → Joined
joined_in held (Ok n) = record { number = 0; held = n }
joined_in held (Err e) = record { number = number_of e; held = held }

-- two lists agree byte for byte as far as both reach
abbrev pub agree : List ℕ → List ℕ → Bool
agree [] ys = true
agree (x ∷ xs) [] = true
agree (x ∷ xs) (y ∷ ys) = eqb x y && agree xs ys

-- the overlap is where the part meets the held bytes from its offset on
abbrev pub checks : List ℕ → ℕ → ℕ → List ℕ → List Check
checks buffer held offset part =
    (leb held (length buffer) ! 15)
    ∷ (leb offset held ! 14)
    ∷ (leb (offset + length part) (length buffer) ! 15)
    ∷ (agree (drop offset (take held buffer)) part ! 16)
    ∷ []

abbrev pub refusal : List ℕ → ℕ → ℕ → List ℕ → ℕ
refusal buffer held offset part = first (checks buffer held offset part)

-- the count of an accepted part, and the buffer: the bytes held before, the rest of the part, and what lies beyond the new count
abbrev pub new_count : ℕ → ℕ → List ℕ → ℕ
new_count held offset part = max held (offset + length part)

abbrev pub appended : List ℕ → ℕ → ℕ → List ℕ → List ℕ
appended buffer held offset part = take held buffer ++ drop (held - offset) part ++ drop (new_count held offset part) buffer

-- what a join answers, and what the buffer has after it
abbrev pub joined : List ℕ → ℕ → ℕ → List ℕ → Joined
joined buffer held offset part =
    record {
      number = refusal buffer held offset part;
      held = cond (eqb (refusal buffer held offset part) 0) (new_count held offset part) held;
    }

abbrev pub buffer_after : List ℕ → ℕ → ℕ → List ℕ → List ℕ
buffer_after buffer held offset part =
    cond (eqb (refusal buffer held offset part) 0) (appended buffer held offset part) buffer
