-- Document 01, "Step files, parts and writing", with document 02's requests 6 and 7: the bytes of a file, and what the writer answers.
-- Assumes nothing.
use Rattle.std.specs.Prelude.{◌≡◌, cond, List, [], ◌∷◌, ◌++◌, ℕ, zero, suc, ◌+◌, ◌*◌, leb, eqb, length, drop, Option, Some, None, Result, Ok, Err}
use Rattle.checks.specs.Checks.{Check, ◌!◌, first}
use Rattle.limits.specs.declared.Table.{Table}
use Rattle.limits.specs.Limits.{limits, entries, undelayed, new_default}
use Rattle.limits.specs.Rules.{number_of, broken_rule}
use Rattle.shift.specs.Answers.{reading, refusal}
use Rattle.stepfile.specs.declared.write.Unwritten.{Unwritten}
use Rattle.stepfile.specs.declared.write.Unwritten.TheVariants.{TooMany, Uneven, Record, NoRoom}
use Rattle.numbers.specs.Bytes.{bytes_of}
use Rattle.stepfile.specs.Files.{most_records}

-- ---- the table that is written: the one given; for the wish for none the new default
abbrev pub wished : Option Table → Table
wished (Some t) = t
wished None = new_default

-- a table whose four delays are 0 is written in eighteen entries, any other in twenty-two
abbrev pub entries_for : Table → List ℕ
entries_for t = cond (undelayed t) (limits t) (entries t)

-- the record maximum, by how the table would be written
abbrev pub most_for : Table → ℕ
most_for t = most_records (length (entries_for t))

-- ---- the file, in numbers of 16 bits: a 32-bit field of the header has a second half of 0, and a record's code with the zero byte
-- behind it is one number
abbrev pub header_of : ℕ → ℕ → List ℕ
header_of k n = 12 ∷ k ∷ (12 + 2 * k) ∷ 0 ∷ n ∷ 0 ∷ []

abbrev pub records_of : List ℕ → List ℕ → List ℕ
records_of [] ns = []
records_of (c ∷ cs) [] = []
records_of (c ∷ cs) (n ∷ ns) = c ∷ n ∷ records_of cs ns

-- with these entries, codes and amounts
abbrev pub file_with : List ℕ → List ℕ → List ℕ → List ℕ
file_with es cs ns = bytes_of (header_of (length es) (length cs) ++ (es ++ records_of cs ns))

abbrev pub file_of : Table → List ℕ → List ℕ → List ℕ
file_of t cs ns = file_with (entries_for t) cs ns

abbrev pub size_of : Table → List ℕ → ℕ
size_of t cs = 12 + 2 * length (entries_for t) + 4 * length cs

-- ---- the first record with 5 or 6, and its index; with number 0 there is none
pub record Wrong : Type 0 where
  pub number : ℕ
  pub index : ℕ

abbrev pub wrong_or : ℕ → ℕ → Wrong → Wrong
wrong_or zero i rest = rest
wrong_or (suc k) i rest = record { number = suc k; index = i }

abbrev pub first_wrong : ℕ → List ℕ → List ℕ → Wrong
first_wrong i [] ns = record { number = 0; index = 0 }
first_wrong i (c ∷ cs) [] = record { number = 0; index = 0 }
first_wrong i (c ∷ cs) (n ∷ ns) = wrong_or (refusal (reading c 0 n)) i (first_wrong (suc i) cs ns)

-- it is the one that an answer names
abbrev pub Names : Unwritten → Wrong → Type 0
Names TooMany w = ⊥
Names Uneven w = ⊥
Names (Unwritten.Table rule) w = ⊥
Names (Record index misread) w = w ≡ record { number = refusal (Err misread); index = index }
Names NoRoom w = ⊥

-- ---- refusals in the order 3, 2, 4, first record with 5 or 6, 15
abbrev pub lists : ℕ → ℕ → ℕ → ℕ → List Check
lists codes amounts most rule = (eqb codes amounts ! 3) ∷ (leb codes most ! 2) ∷ (eqb rule 0 ! 4) ∷ []

abbrev pub writable : Table → List ℕ → List ℕ → List Check
writable t cs ns = lists (length cs) (length ns) (most_for t) (broken_rule t)

-- the file's length with number 0, or the number that refuses it: the rule with 4, the record's index with 5 and 6, else 0
pub record Written : Type 0 where
  pub number : ℕ
  pub rule : ℕ
  pub index : ℕ
  pub length : ℕ

-- what the writer answers: with the first three checks' number, the table's broken rule, the first wrong record, the file's size and
-- the room for it
abbrev pub refused_with : ℕ → ℕ → ℕ → Written
refused_with number rule index = record { number = number; rule = rule; index = index; length = 0 }

-- each answer with its number and its values
abbrev pub written_as : Result ℕ Unwritten → Written
written_as (Ok size) = record { number = 0; rule = 0; index = 0; length = size }
written_as (Err TooMany) = refused_with 2 0 0
written_as (Err Uneven) = refused_with 3 0 0
written_as (Err (Unwritten.Table rule)) = refused_with 4 (number_of rule) 0
written_as (Err (Record index misread)) = refused_with (refusal (Err misread)) 0 index
written_as (Err NoRoom) = refused_with 15 0 0

abbrev pub fitting : ℕ → ℕ → Written
fitting size room =
    cond (leb size room) (record { number = 0; rule = 0; index = 0; length = size }) (refused_with 15 0 0)

abbrev pub after_records : Wrong → Written → Written
after_records w rest = cond (eqb w.number 0) rest (refused_with w.number 0 w.index)

abbrev pub after_lists : ℕ → ℕ → Written → Written
after_lists number rule rest = cond (eqb number 0) rest (refused_with number (cond (eqb number 4) rule 0) 0)

abbrev pub written_of : Table → List ℕ → List ℕ → ℕ → Written
written_of t cs ns room =
    after_lists (first (writable t cs ns)) (broken_rule t) (after_records (first_wrong 0 cs ns) (fitting (size_of t cs) room))

-- the buffer afterwards: the file at its start and all other bytes unchanged, or no byte changed
abbrev pub buffer_after : Table → List ℕ → List ℕ → List ℕ → List ℕ
buffer_after t cs ns out =
    cond (eqb (written_of t cs ns (length out)).number 0) (file_of t cs ns ++ drop (size_of t cs) out) out
