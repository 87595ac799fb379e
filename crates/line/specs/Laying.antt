-- Document 01, "Numbers for what is refused": the line laid into a lent buffer, at its start, with the bytes after it unchanged, or 15.
-- Assumes nothing.
use Rattle.std.specs.Prelude.{ℕ, Bool, cond, List, ◌++◌, leb, length, drop, Result, Ok, Err}
use Rattle.line.specs.declared.NoRoom.{NoRoom}

-- a number, and a length
pub record Laid : Type 0 where
  pub number : ℕ
  pub length : ℕ

-- what the two cases of an answer say: 0 and the length, or 15 and 0
abbrev pub laid_in : Result ℕ NoRoom → Laid
laid_in (Ok n) = record { number = 0; length = n }
laid_in (Err e) = record { number = 15; length = 0 }

abbrev pub fits : List ℕ → List ℕ → Bool
fits text out = leb (length text) (length out)

-- what laying a text into a buffer answers, and the buffer after it
abbrev pub laid : List ℕ → List ℕ → Laid
laid text out = cond (fits text out) (record { number = 0; length = length text }) (record { number = 15; length = 0 })

abbrev pub after : List ℕ → List ℕ → List ℕ
after text out = cond (fits text out) (text ++ drop (length text) out) out
