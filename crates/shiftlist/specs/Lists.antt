-- Document 02, request 5: the bytes of a list of shifts, little-endian; what building one and fetching from one answer.
-- Assumes nothing.
use Rattle.std.specs.Prelude.{ℕ, zero, suc, ◌+◌, ◌*◌, cond, leb, List, [], ◌∷◌, ◌++◌, length, drop, ◌==◌, nat_eq, nat_le, nat_lt, slice_index}
use Rattle.checks.specs.Checks.{Check, ◌!◌, first}
use Rattle.numbers.specs.Bytes.{u16_at, u32_at, bytes_of, halves}
use Rattle.shift.specs.States.{start}
use Rattle.stepfile.specs.Files.{readings_of}
use Rattle.verdict.specs.declared.Verdict.{Verdict}
use Rattle.verdict.specs.Verdicts.{verdict_of}
use Rattle.shiftlist.specs.declared.Shift.{Shift}
use Rattle.shiftlist.specs.declared.Listed.{Listed}
use Rattle.shiftlist.specs.declared.Fetched.{Fetched}
use Rattle.shiftlist.specs.Shifts.{shifts_from}

-- ---- the bytes, as numbers of 16 bits
-- 16 bytes a shift: first and last record; kind and route; end and a zero byte; request time and age, 32 bits each
abbrev pub numbers_of : Shift → List ℕ
numbers_of e =
    e.first ∷ e.last ∷ (e.kind + 256 * e.route) ∷ e.end ∷ halves e.request_time (halves e.age [])

abbrev pub entries_of : List Shift → List ℕ
entries_of [] = []
entries_of (e ∷ es) = numbers_of e ++ entries_of es

-- the count of shifts and the offset of the first entry, 32 bits each
abbrev pub header_of : ℕ → List ℕ
header_of n = halves n (halves 8 [])

abbrev pub list_of : List Shift → List ℕ
list_of es = bytes_of (header_of (length es) ++ entries_of es)

-- ---- building
-- the shifts of a file, and the size of their list
abbrev pub shifts_of : List ℕ → List Shift
shifts_of f = shifts_from 0 start (readings_of f)

abbrev pub size_for : List Shift → ℕ
size_for es = 8 + 16 * length es

-- a list of this length
abbrev pub listed_long : ℕ → Listed
listed_long n = record { number = 0; rule = 0; index = 0; excess = 0; length = n }

-- refused, with what the judge says of it
abbrev pub refused_by : ℕ → ℕ → ℕ → ℕ → Listed
refused_by number rule index excess = record { number = number; rule = rule; index = index; excess = excess; length = 0 }

-- a list of this size in a buffer with so much room
abbrev pub fitting : ℕ → ℕ → Listed
fitting size room = cond (nat_le size room) (listed_long size) (refused_by 15 0 0 0)

-- the judge's own refusal first
abbrev pub after_judge : Verdict → Listed → Listed
after_judge v rest = cond (v.number == 0) rest (refused_by v.number v.rule v.index v.excess)

abbrev pub built_of : List ℕ → ℕ → Listed
built_of f room = after_judge (verdict_of f) (fitting (size_for (shifts_of f)) room)

-- the buffer afterwards: the list at its start and all other bytes unchanged, or no byte changed
abbrev pub buffer_after : List ℕ → List ℕ → List ℕ
buffer_after f out =
    cond ((built_of f (length out)).number == 0) (list_of (shifts_of f) ++ drop (size_for (shifts_of f)) out) out

-- ---- fetching
-- the entry at a place
abbrev pub shift_at : List ℕ → ℕ → Shift
shift_at l p = record {
  first = u16_at l p;
  last = u16_at l (p + 2);
  kind = slice_index l (p + 4);
  route = slice_index l (p + 5);
  end = slice_index l (p + 6);
  request_time = u32_at l (p + 8);
  age = u32_at l (p + 12);
}

abbrev pub no_shift : Shift
no_shift = record { first = 0; last = 0; kind = 0; route = 0; end = 0; request_time = 0; age = 0 }

-- 1 for a list under 8 bytes, 2 for its offset, 3 for its length, then 14 at or past the count
abbrev pub fetchable : ℕ → ℕ → ℕ → ℕ → List Check
fetchable len offset count i =
    (leb 8 len ! 1) ∷ (nat_eq offset 8 ! 2) ∷ (nat_eq len (8 + 16 * count) ! 3) ∷ (nat_lt i count ! 14) ∷ []

abbrev pub found : ℕ → Shift → Fetched
found zero e = record { number = 0; shift = e }
found (suc k) e = record { number = suc k; shift = no_shift }

abbrev pub fetch_of : List ℕ → ℕ → Fetched
fetch_of l i = found (first (fetchable (length l) (u32_at l 4) (u32_at l 0) i)) (shift_at l (8 + 16 * i))
