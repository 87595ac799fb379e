-- What a line and a text say, in numbers, and what the functions answer, told in these.
-- Assumes nothing.
use Rattle.std.specs.Prelude.{Bool, true, ◌&&◌, List, [], ◌∷◌, map, ℕ, leb, Option, Some, None, Result, Ok, Err}
use Rattle.limits.specs.declared.Table.{Table}
use Rattle.tabletext.specs.declared.Fault as code
use Rattle.tabletext.specs.declared.FaultKind.{FaultKind}
use Rattle.tabletext.specs.declared.FaultKind.TheVariants.{NoName, Twice, NoNumber, Above, Missing}

-- what a line says: nothing, a first word that is no name, or an entry's number and its value, or what stands for none
pub data Said : Type 0 where
  Nothing : Said
  Unnamed : Said
  Entry : ℕ → ℕ → Said

-- what is wrong first: 1 no name, 2 a name twice, 3 no number, 4 a number above 65,535, 5 a name is missing; the line, from 1 on; and
-- the entry, but for 1
pub record Fault : Type 0 where
  pub number : ℕ
  pub line : ℕ
  pub entry : ℕ

pub data Text : Type 0 where
  Says : Table → Text
  Wrong : Fault → Text

-- ---- the answers, in these: what is wrong, by the enum's cases, with its entry, and 0 for 1
abbrev pub number_in : FaultKind → ℕ
number_in NoName = 1
number_in (Twice i) = 2
number_in (NoNumber i) = 3
number_in (Above i) = 4
number_in (Missing i) = 5

abbrev pub entry_of : FaultKind → ℕ
entry_of NoName = 0
entry_of (Twice i) = i
entry_of (NoNumber i) = i
entry_of (Above i) = i
entry_of (Missing i) = i

abbrev pub fault_in : code.Fault → Fault
fault_in f = record { number = number_in f.kind; line = f.line; entry = entry_of f.kind }

abbrev pub text_in : Result Table code.Fault → Text
text_in (Ok t) = Says t
text_in (Err f) = Wrong (fault_in f)

-- an entry that is given, and 65,536 for one that no line has given
abbrev pub value_in : Option ℕ → ℕ
value_in None = 65536
value_in (Some v) = v

abbrev pub values_in : List (Option ℕ) → List ℕ
values_in = map value_in

-- each entry that is given has 16 bits
abbrev pub fits16 : Option ℕ → Bool
fits16 None = true
fits16 (Some v) = leb v 65535

abbrev pub all_fit : List (Option ℕ) → Bool
all_fit [] = true
all_fit (o ∷ os) = fits16 o && all_fit os
