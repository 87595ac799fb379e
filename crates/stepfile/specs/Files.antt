-- Document 01, "Step files, parts and writing", with the twenty-two entries of document 02's request 6: the header of a file, refusals
-- 1 to 4, its table and its record bytes.
-- Assumes nothing.
use Rattle.std.specs.Prelude.{cond, ◌&&◌, ◌||◌, List, [], ◌∷◌, ◌++◌, ℕ, ◌+◌, ◌*◌, leb, eqb, length, drop, Result, Ok, Err}
use Rattle.checks.specs.Checks.{Check, ◌!◌, first}
use Rattle.limits.specs.declared.Table.{Table}
use Rattle.limits.specs.Limits.{table_of, old_default}
use Rattle.limits.specs.Rules.{number_of, broken_rule}
use Rattle.shift.specs.Readings.{Reading}
use Rattle.stepfile.specs.declared.Unread.{Unread}
use Rattle.stepfile.specs.declared.Unread.TheVariants.{TooShort, Header, Length}
use Rattle.numbers.specs.Bytes.{u16_at, u32_at, u16s_at}
use Rattle.stepfile.specs.Records.{records_in}

-- ---- the header of 12 bytes
abbrev pub table_offset : List ℕ → ℕ
table_offset f = u16_at f 0

abbrev pub table_entries : List ℕ → ℕ
table_entries f = u16_at f 2

abbrev pub record_offset : List ℕ → ℕ
record_offset f = u32_at f 4

abbrev pub record_count : List ℕ → ℕ
record_count f = u32_at f 8

-- ---- refusals 1, 2 and 3, of a file of so many bytes with these header fields
-- the record maximum of a file with so many entries
abbrev pub most_records : ℕ → ℕ
most_records k = cond (eqb k 22) 16370 16372

abbrev pub headed_by : ℕ → ℕ → ℕ → ℕ → ℕ → List Check
headed_by len offset k from n =
    (leb 12 len ! 1)
    ∷ (eqb offset 12 ! 2)
    ∷ ((eqb k 0 || (eqb k 18 || eqb k 22)) ! 2)
    ∷ (eqb from (12 + 2 * k) ! 2)
    ∷ (leb n (most_records k) ! 2)
    ∷ (eqb len (12 + 2 * k + 4 * n) ! 3)
    ∷ []

abbrev pub headed : List ℕ → List Check
headed f = headed_by (length f) (table_offset f) (table_entries f) (record_offset f) (record_count f)

-- ---- the table: twenty-two entries, or eighteen and four delays of 0, where the header says so and there is room for them, else the
-- old default
unfoldable pub table_in : List ℕ → Table
table_in f =
    cond (eqb (table_entries f) 22 && leb 56 (length f)) (table_of (u16s_at f 12 22))
    (cond (eqb (table_entries f) 18 && leb 48 (length f)) (table_of (u16s_at f 12 18)) old_default)

-- ---- refusals 1 to 4, the rule's number with 4 and 0 otherwise
pub record Refusal : Type 0 where
  pub number : ℕ
  pub rule : ℕ

abbrev pub checks : List ℕ → List Check
checks f = headed f ++ ((eqb (broken_rule (table_in f)) 0 ! 4) ∷ [])

abbrev pub refusing : ℕ → ℕ → Refusal
refusing number rule = record { number = number; rule = cond (eqb number 4) rule 0 }

abbrev pub refusal_of : List ℕ → Refusal
refusal_of f = refusing (first (checks f)) (broken_rule (table_in f))

-- each answer with its number, and 0 where the file is not refused
abbrev pub refused_as : Result (Unit {0}) Unread → Refusal
refused_as (Ok done) = record { number = 0; rule = 0 }
refused_as (Err TooShort) = record { number = 1; rule = 0 }
refused_as (Err Header) = record { number = 2; rule = 0 }
refused_as (Err Length) = record { number = 3; rule = 0 }
refused_as (Err (Unread.Table rule)) = record { number = 4; rule = number_of rule }

-- ---- the record bytes: what stands from the record offset on; of a file that is refused with 1 to 4 none
abbrev pub from_offset : List ℕ → List ℕ
from_offset f = cond (leb 12 (length f)) (drop (record_offset f) f) []

abbrev pub record_bytes : List ℕ → List ℕ
record_bytes f = cond (eqb (refusal_of f).number 0) (from_offset f) []

-- what the records of a file mean
abbrev pub readings_of : List ℕ → List Reading
readings_of f = records_in (record_bytes f)
