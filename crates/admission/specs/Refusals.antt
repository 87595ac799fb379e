-- Document 01, "The limit table", and document 02, request 6, a second time: an entry that is tighter in a second table, the first of
-- them, and a rule that a table keeps, as statements. It shares no definition with FirstTighter.antt and Broken.antt.
-- Assumes nothing.
use Rattle.std.specs.Prelude.{◌⊎◌, List, [], ◌∷◌, ℕ, zero, suc, ◌≤◌, ◌<◌}
use Rattle.limits.specs.declared.Table.{Table}
use Rattle.limits.specs.Limits.{entry}
use Rattle.limits.specs.Refusals.{rules_stated}

-- limits, and waiting times, by their entry numbers
abbrev pub Limit : ℕ → Type 0
Limit i = (i ≤ 10) ⊎ ((13 ≤ i) × (i ≤ 16))

abbrev pub Waiting : ℕ → Type 0
Waiting i = ((11 ≤ i) × (i ≤ 12)) ⊎ ((18 ≤ i) × (i ≤ 21))

-- a limit that is smaller in the second table, or a waiting time that is larger
abbrev pub Tighter : Table → Table → ℕ → Type 0
Tighter t u i = (Limit i × (entry u i < entry t i)) ⊎ (Waiting i × (entry t i < entry u i))

-- r is the number of the first entry that is tighter, and 22 where none is
pub record FirstTighter (t u : Table) (r : ℕ) : Type 0 where
  pub within : r ≤ 22
  pub tighter : r < 22 → Tighter t u r
  pub none_before : (i : ℕ) → i < r → ¬ Tighter t u i

-- the statement at this place of a list; behind its end there is nothing to state
abbrev pub StatedAt : List (Type 0) → ℕ → Type 0
StatedAt [] n = Unit {0}
StatedAt (P ∷ Ps) zero = P
StatedAt (P ∷ Ps) (suc n) = StatedAt Ps n

-- the table keeps the rule of this number, 1 to 16; there is no other to keep
abbrev pub Keeps : Table → ℕ → Type 0
Keeps t zero = Unit {0}
Keeps t (suc n) = StatedAt (rules_stated t) n
