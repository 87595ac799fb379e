-- Document 01, "The limit table", and document 02, request 6, for whoever gives out new tables: which entries of a new table are tighter
-- than in the old one, and the first of them.
-- Assumes nothing.
use Rattle.std.specs.Prelude.{Bool, ◌&&◌, ◌||◌, cond, ℕ, zero, suc, leb, ltb}
use Rattle.limits.specs.declared.Table.{Table}
use Rattle.limits.specs.Limits.{entry}

-- entries 0 to 10 and 13 to 16, which are tighter where they are smaller
abbrev pub is_limit : ℕ → Bool
is_limit i = leb i 10 || (leb 13 i && leb i 16)

-- entries 11, 12 and 18 to 21, the waiting times, which are tighter where they are larger; ChangeDL, entry 17, never is
abbrev pub is_wait : ℕ → Bool
is_wait i = (leb 11 i && leb i 12) || (leb 18 i && leb i 21)

-- the entry of this number is tighter in the second table
abbrev pub tighter_at : Table → Table → ℕ → Bool
tighter_at t u i = (is_limit i && ltb (entry u i) (entry t i)) || (is_wait i && ltb (entry t i) (entry u i))

-- the first of the n numbers from i on that passes a test, and i + n where none does
abbrev pub first_from : (ℕ → Bool) → ℕ → ℕ → ℕ
first_from test i zero = i
first_from test i (suc n) = cond (test i) i (first_from test (suc i) n)

-- the first of the twenty-two entries that is tighter in the second table, and 22 where none is
abbrev pub first_tighter : Table → Table → ℕ
first_tighter t u = first_from (tighter_at t u) 0 22
