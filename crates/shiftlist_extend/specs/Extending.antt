-- Document 02, request 5, with request 6's record maximum: records were appended to a file whose list is at hand. What extending the
-- list answers, for any list, state, count of records, table and new records.
-- Assumes nothing.
use Rattle.std.specs.Prelude.{Bool, cond, not, ◌&&◌, ◌||◌, List, [], ◌∷◌, ℕ, ◌+◌, ◌*◌, ◌-◌, ◌/◌, leb, ltb, eqb, length}
use Rattle.std.proofs.lemmas.List.Edits.{sets}
use Rattle.checks.specs.Checks.{Check, ◌!◌, first}
use Rattle.limits.specs.declared.Table.{Table}
use Rattle.limits.specs.Rules.{broken_rule}
use Rattle.numbers.specs.Bytes.{u32_at, bytes_of}
use Rattle.phases.specs.Phases.{unfinished}
use Rattle.shift.specs.declared.State.{State}
use Rattle.shift.specs.Readings.{Reading}
use Rattle.shift.specs.Runs.{Outcome, run}
use Rattle.stepfile.specs.Records.{records_in}
use Rattle.stepfile.specs.Writing.{most_for}
use Rattle.shiftlist.specs.declared.Shift.{Shift}
use Rattle.shiftlist.specs.declared.Listed.{Listed}
use Rattle.shiftlist.specs.Shifts.{whole, shifts_from}
use Rattle.shiftlist.specs.Lists.{entries_of, header_of, refused_by, fitting, shift_at}

-- ---- state and list fit
-- the last entry is the shift that the state is in the midst of: open, to the last record, requested then and so old
abbrev pub is_open : Shift → State → ℕ → Bool
is_open e s count =
    eqb e.end 0
    && (eqb (e.last + 1) count
    && (eqb e.request_time s.request_time && eqb e.age (s.clock - s.request_time)))

-- the last entry is over, with one of the records
abbrev pub is_over : Shift → ℕ → Bool
is_over e count = not (eqb e.end 0) && ltb e.last count

-- of a list of so many shifts with this last entry
abbrev pub fits : ℕ → Shift → State → ℕ → Bool
fits shifts e s count = cond (unfinished s.phase) (leb 1 shifts && is_open e s count) (eqb shifts 0 || is_over e count)

-- ---- the entries that are laid, from the place of an open one on: it goes on, and new ones follow
abbrev pub laid_on : Bool → Shift → ℕ → State → List Reading → List Shift
laid_on going e count s rs = cond going (whole e count s rs ∷ shifts_from count s rs) (shifts_from count s rs)

-- ---- before the records are judged
-- Of a buffer of so many bytes, of which so many are held, the list's offset and its count of shifts: 15 for held, 1 under 8 bytes, 2
-- for the offset, 3 for the length. Of the longer file, with so many records more: 2 for more records than its maximum, and where the
-- list has more shifts than records; 4. Then 14 where state and list do not fit.
abbrev pub grounds_by : ℕ → ℕ → ℕ → ℕ → Shift → State → ℕ → ℕ → ℕ → ℕ → List Check
grounds_by len held offset shifts e s count more most rule =
    (leb held len ! 15)
    ∷ (leb 8 held ! 1)
    ∷ (eqb offset 8 ! 2)
    ∷ (eqb held (8 + 16 * shifts) ! 3)
    ∷ (leb (count + more) most ! 2)
    ∷ (leb shifts count ! 2)
    ∷ (eqb rule 0 ! 4)
    ∷ (fits shifts e s count ! 14)
    ∷ []

module _ (l : List ℕ) (held : ℕ) (s : State) (count : ℕ) (t : Table) (bytes : List ℕ) where
  -- the list's last entry
  abbrev pub last_entry : Shift
  last_entry = shift_at l (held - 16)

  -- the maximum is by how the table would be written
  abbrev pub grounds : List Check
  grounds = grounds_by (length l) held (u32_at l 4) (u32_at l 0) last_entry s count (length bytes / 4) (most_for t) (broken_rule t)

  abbrev pub laid : List Shift
  laid = laid_on (unfinished s.phase) last_entry count s (records_in bytes)

  abbrev pub from : ℕ
  from = held - cond (unfinished s.phase) 16 0

  abbrev pub size : ℕ
  size = from + 16 * length laid

  -- the judge's own refusal, with the index in the longer file; then 15
  abbrev pub after_run : Outcome → Listed
  after_run o =
      cond (eqb o.number 0) (fitting size (length l)) (refused_by o.number 0 (count + o.count) o.excess)

  abbrev pub after_grounds : ℕ → Listed
  after_grounds number =
      cond (eqb number 0) (after_run (run t s (records_in bytes))) (refused_by number (cond (eqb number 4) (broken_rule t) 0) 0 0)

  abbrev pub extended_of : Listed
  extended_of = after_grounds (first grounds)

  -- the buffer afterwards: the new count, and the entries that are laid; or no byte changed
  abbrev pub list_after : List ℕ
  list_after =
      cond (eqb extended_of.number 0)
      (sets (sets l 0 (bytes_of (header_of ((size - 8) / 16)))) from (bytes_of (entries_of laid)))
      l
