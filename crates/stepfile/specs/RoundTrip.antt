-- What stands in a file, as the writer takes it: codes and amounts; what these mean; and which files it writes with other entries.
-- Assumes nothing.
use Rattle.std.specs.Prelude.{◌≡◌, ◌⊎◌, List, [], ◌∷◌, ℕ, ◌+◌, ◌*◌, ◌<◌, get_or, Ok, Err}
use Rattle.limits.specs.Refusals.{NoDelays}
use Rattle.shift.specs.Readings.{Reading}
use Rattle.shift.specs.declared.Misread.TheVariants.{WrongCode, WrongAmount}
use Rattle.shift.specs.Answers.{reading}
use Rattle.stepfile.specs.Records.{every_four}
use Rattle.stepfile.specs.Files.{table_entries, table_in, record_bytes}

-- each of them is a byte
abbrev pub Bytes : List ℕ → Type 0
Bytes f = (i : ℕ) → get_or f i 0 < 256

-- what codes and amounts mean
abbrev pub readings_by : List ℕ → List ℕ → List Reading
readings_by [] ns = []
readings_by (c ∷ cs) [] = []
readings_by (c ∷ cs) (n ∷ ns) = reading c 0 n ∷ readings_by cs ns

-- all of them are steps
abbrev pub AllRead : List Reading → Type 0
AllRead [] = Unit {0}
AllRead (Ok x ∷ rs) = AllRead rs
AllRead (Err WrongCode ∷ rs) = ⊥
AllRead (Err WrongAmount ∷ rs) = ⊥

-- the codes and the amounts of the records of a part
abbrev pub codes_of : List ℕ → List ℕ
codes_of = every_four (λ code middle low high. code)

abbrev pub amounts_of : List ℕ → List ℕ
amounts_of = every_four (λ code middle low high. low + 256 * high)

-- no entries, or twenty-two of which the four delays are 0: the writer writes the table of such a file in eighteen
abbrev pub OtherEntries : List ℕ → Type 0
OtherEntries f = (table_entries f ≡ 0) ⊎ ((table_entries f ≡ 22) × NoDelays (table_in f))

-- a file taken apart
abbrev pub codes_in : List ℕ → List ℕ
codes_in f = codes_of (record_bytes f)

abbrev pub amounts_in : List ℕ → List ℕ
amounts_in f = amounts_of (record_bytes f)
