-- Document 02, request 5, a second time: when building a list and fetching from one are refused, as statements, and what a refusal
-- leaves. It shares no definition with Shifts.antt and Lists.antt.
-- Assumes nothing.
use Rattle.std.specs.Prelude.{◌≡◌, ℕ, ◌+◌, ◌*◌, ◌<◌, ◌≤◌, ◌⊎◌, List, [], ◌∷◌, length, slice_index}
use Rattle.checks.specs.Conditions.{Condition, ◌gives◌, ◌else◌, FirstOf, OneOf}
use Rattle.shift.specs.declared.State.{State}
use Rattle.shift.specs.States.{start}
use Rattle.stepfile.specs.Files.{readings_of}
use Rattle.stepfile.specs.Refusals.{bits16, bits32}
use Rattle.verdict.specs.declared.Verdict.{Verdict}
use Rattle.verdict.specs.Refusals.{JudgeAnswers}
use Rattle.shiftlist.specs.declared.Shift.{Shift}
use Rattle.shiftlist.specs.declared.Listed.{Listed}
use Rattle.shiftlist.specs.Entries.{Entries}

abbrev pub zeros : Shift
zeros = record { first = 0; last = 0; kind = 0; route = 0; end = 0; request_time = 0; age = 0 }

-- ---- building

-- the judge's own refusal of a file, in the state that it gives back
pub record RefusedByJudge (f : List ℕ) (number rule index excess : ℕ) : Type 0 where
  pub state : State
  pub answers : JudgeAnswers f (record { number = number; rule = rule; index = index; excess = excess; state = state })

-- the judge accepts the file
pub record Accepted (f : List ℕ) : Type 0 where
  pub verdict : Verdict
  pub answers : JudgeAnswers f verdict
  pub number : verdict.number ≡ 0

-- a list with an entry for each request of the file has so many bytes: 8, and 16 a shift
pub record ListTakes (f : List ℕ) (size : ℕ) : Type 0 where
  pub shifts : List Shift
  pub entries : Entries start (readings_of f) shifts zeros
  pub bytes : size ≡ 8 + 16 * length shifts

-- the list doesn't fit
pub record NoRoom (f out : List ℕ) : Type 0 where
  pub size : ℕ
  pub takes : ListTakes f size
  pub short : length out < size

-- what building answers, and the buffer after it: the file's own refusals first, then 15
pub record BuildAnswers (f out : List ℕ) (r : Listed) (after : List ℕ) : Type 0 where
  pub numbers : (r.number ≤ 13) ⊎ (r.number ≡ 15)
  pub by_judge : (1 ≤ r.number) × (r.number ≤ 13) → RefusedByJudge f r.number r.rule r.index r.excess
  pub no_room : r.number ≡ 15 → Accepted f × NoRoom f out
  pub built : r.number ≡ 0 → Accepted f × ListTakes f r.length × (r.length ≤ length out)
  pub else_0 : (r.number ≡ 0) ⊎ (r.number ≡ 15) → (r.rule ≡ 0) × (r.index ≡ 0) × (r.excess ≡ 0)
  pub unchanged : ¬ (r.number ≡ 0) → (r.length ≡ 0) × (after ≡ out)

-- ---- fetching

-- 1 for a list under 8 bytes, 2 for its offset, 3 for its length, 14 at or past the count
abbrev pub fetch_refusals : List ℕ → ℕ → List Condition
fetch_refusals l i =
    (length l < 8 gives 1)
    ∷ ((bits32 l 4 ≡ 8) else 2)
    ∷ ((length l ≡ 8 + 16 * bits32 l 0) else 3)
    ∷ (bits32 l 0 ≤ i gives 14)
    ∷ []

-- the sixteen bytes from a place on are those of the entry; the eighth is not read
pub record BytesSay (l : List ℕ) (place : ℕ) (e : Shift) : Type 0 where
  pub first : e.first ≡ bits16 l place
  pub last : e.last ≡ bits16 l (place + 2)
  pub kind : e.kind ≡ slice_index l (place + 4)
  pub route : e.route ≡ slice_index l (place + 5)
  pub end : e.end ≡ slice_index l (place + 6)
  pub time : e.request_time ≡ bits32 l (place + 8)
  pub age : e.age ≡ bits32 l (place + 12)

-- what fetching the shift i answers
pub record FetchAnswers (l : List ℕ) (i number : ℕ) (e : Shift) : Type 0 where
  pub first : FirstOf (fetch_refusals l i) number
  pub numbers : OneOf (0 ∷ 1 ∷ 2 ∷ 3 ∷ 14 ∷ []) number
  pub nothing : ¬ (number ≡ 0) → e ≡ zeros
  pub entry : number ≡ 0 → BytesSay l (8 + 16 * i) e
