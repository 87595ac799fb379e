-- Document 02, request 5, with request 6's record maximum, a second time: when extending a list by appended records is refused, as
-- statements, and what a call leaves. It shares no definition with Extending.antt, nor with Shifts.antt and Lists.antt of `shiftlist`.
-- Assumes nothing.
use Rattle.std.specs.Prelude.{◌≡◌, ◌⊎◌, List, [], ◌∷◌, ℕ, ◌+◌, ◌*◌, ◌-◌, ◌/◌, ◌≤◌, ◌<◌, length, get_or, Some, Err}
use Rattle.checks.specs.Conditions.{Condition, ◌gives◌, ◌else◌, FirstOf}
use Rattle.limits.specs.declared.Table.{Table}
use Rattle.limits.specs.Refusals.{Admitted}
use Rattle.promises.specs.Refusals.{record_refusals}
use Rattle.promises.specs.HowFar.{HowFar}
use Rattle.promises.specs.Verdicts.{Exact}
use Rattle.shift.specs.declared.State.{State}
use Rattle.shift.specs.Readings.{Reading}
use Rattle.shift.specs.declared.Misread.TheVariants.{WrongCode}
use Rattle.shift.specs.Refusals.{Reads}
use Rattle.shift.specs.Runs.{Outcome}
use Rattle.stepfile.specs.Refusals.{bits16, bits32, RuleFor, TooMany, WrittenWith}
use Rattle.shiftlist.specs.declared.Shift.{Shift}
use Rattle.shiftlist.specs.declared.Listed.{Listed}
use Rattle.shiftlist.specs.Entries.{Entries}
use Rattle.shiftlist.specs.Refusals.{zeros}

-- ---- state and list fit

-- the state is in the midst of a shift
abbrev pub Midst : State → Type 0
Midst s = (1 ≤ s.phase) × (s.phase ≤ 21)

-- The entry at a place is that shift's: its end is 0, its last record is the last of so many, its request time is the state's, and its
-- age is the state's clock minus that, 0 below.
pub record ItsEntry (l : List ℕ) (place : ℕ) (s : State) (count : ℕ) : Type 0 where
  pub end : get_or l (place + 6) 0 ≡ 0
  pub last : bits16 l (place + 2) + 1 ≡ count
  pub time : bits32 l (place + 8) ≡ s.request_time
  pub age : bits32 l (place + 12) ≡ s.clock - s.request_time

-- the entry at a place is over: its end is not 0, and its last record is one of so many
pub record OverEntry (l : List ℕ) (place count : ℕ) : Type 0 where
  pub end : ¬ (get_or l (place + 6) 0 ≡ 0)
  pub last : bits16 l (place + 2) < count

-- in the midst of a shift there is an entry, and the last is the shift's; else there is none, or the last is over
pub record Fit (l : List ℕ) (held : ℕ) (s : State) (count : ℕ) : Type 0 where
  pub in_midst : Midst s → (1 ≤ bits32 l 0) × ItsEntry l (held - 16) s count
  pub outside : ¬ Midst s → (bits32 l 0 ≡ 0) ⊎ OverEntry l (held - 16) count

-- ---- before the records are judged: 15, 1, 2 and 3 of the list, 2 and 2 of the longer file, 4, 14
abbrev pub extend_refusals : List ℕ → ℕ → State → ℕ → Table → List ℕ → List Condition
extend_refusals l held s count t bytes =
    (length l < held gives 15)
    ∷ (held < 8 gives 1)
    ∷ ((bits32 l 4 ≡ 8) else 2)
    ∷ ((held ≡ 8 + 16 * bits32 l 0) else 3)
    ∷ (((k : ℕ) × WrittenWith (Some t) k × TooMany k (count + length bytes / 4)) gives 2)
    ∷ (count < bits32 l 0 gives 2)
    ∷ (Admitted t else 4)
    ∷ (Fit l held s count else 14)
    ∷ []

-- ---- the new records

-- four bytes each, and each is what its code, its middle byte and its amount mean; what is left over is no record
pub record BytesHold (bytes : List ℕ) (records : List Reading) : Type 0 where
  pub count : length records ≡ length bytes / 4
  pub each :
      (i : ℕ) → i < length records
      → Reads (get_or bytes (4 * i) 0) (get_or bytes (4 * i + 1) 0) (bits16 bytes (4 * i + 2)) (get_or records i (Err WrongCode))

-- Judged from the state under the table they are accepted up to exactly the first that is no step or that the rules forbid; it is
-- refused by the first number whose condition holds there, 5 to 13, and so far over.
pub record RecordsAnswer (t : Table) (s : State) (bytes : List ℕ) (records : List Reading) (o : Outcome) : Type 0 where
  pub held : BytesHold bytes records
  pub exact : Exact t s records o
  pub refused :
      ¬ (o.number ≡ 0)
      → let at = 4 * o.count in
      FirstOf (record_refusals t o.state (get_or bytes at 0) (get_or bytes (at + 1) 0) (bits16 bytes (at + 2))) o.number
      × HowFar t o.state (get_or bytes at 0) (bits16 bytes (at + 2)) o.number o.excess
      × (5 ≤ o.number)
      × (o.number ≤ 13)

-- the longer list has so many bytes: 8, 16 for each shift of the list, and 16 for each request of the records
pub record LongerTakes (l : List ℕ) (s : State) (records : List Reading) (size : ℕ) : Type 0 where
  pub shifts : List Shift
  pub entries : Entries s records shifts zeros
  pub bytes : size ≡ 8 + 16 * (bits32 l 0 + length shifts)

-- ---- what a call answers and leaves

-- index and excess are 0
abbrev pub NoRecord : Listed → Type 0
NoRecord r = (r.index ≡ 0) × (r.excess ≡ 0)

-- No byte is more or less. Behind the header every byte is as before up to the entry of a shift that the state is in the midst of, else
-- up to the end of what was held; and so is every byte behind the longer list.
pub record Keeps (l : List ℕ) (held : ℕ) (s : State) (size : ℕ) (after : List ℕ) : Type 0 where
  pub as_long : length after ≡ length l
  pub entries : (i : ℕ) → 8 ≤ i → i < held → (Midst s → i + 16 < held) → get_or after i 0 ≡ get_or l i 0
  pub behind : (i : ℕ) → size ≤ i → get_or after i 0 ≡ get_or l i 0

-- A buffer, of which so much is the list, a state, a count of records, a table and new records; the answer, and the buffer after it. In
-- this order: a ground refuses; a record is refused, with its index in the longer file; there is no room, 15; else the list is extended.
-- The numbers are those from 0 to 15.
pub record ExtendAnswers (l : List ℕ) (held : ℕ) (s : State) (count : ℕ) (t : Table) (bytes : List ℕ) (r : Listed) (after : List ℕ) : Type 0 where
  pub ground : ℕ
  pub first : FirstOf (extend_refusals l held s count t bytes) ground
  pub records : List Reading
  pub outcome : Outcome
  pub judged : RecordsAnswer t s bytes records outcome
  pub size : ℕ
  pub takes : LongerTakes l s records size
  pub by_ground : ¬ (ground ≡ 0) → (r.number ≡ ground) × NoRecord r
  pub by_judge :
      ground ≡ 0 → ¬ (outcome.number ≡ 0)
      → (r.number ≡ outcome.number) × (r.index ≡ count + outcome.count) × (r.excess ≡ outcome.excess)
  pub no_room : ground ≡ 0 → outcome.number ≡ 0 → length l < size → (r.number ≡ 15) × NoRecord r
  pub extended : ground ≡ 0 → outcome.number ≡ 0 → size ≤ length l → (r.number ≡ 0) × NoRecord r × (r.length ≡ size)
  pub rule_for : RuleFor t r.number r.rule
  pub numbers : r.number ≤ 15
  pub unchanged : ¬ (r.number ≡ 0) → (r.length ≡ 0) × (after ≡ l)
  pub keeps : r.number ≡ 0 → Keeps l held s r.length after
