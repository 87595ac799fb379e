-- Document 01, "The limit table": the kinds of shifts, the sum of a kind, and the kind of the shift that a list of steps has open.
-- Assumes nothing.
use Rattle.std.specs.Prelude.{List, [], ◌∷◌, ℕ, ◌-◌, ◌≤◌, max, Ok, Err}
use Rattle.limits.specs.declared.Table.{Table}
use Rattle.limits.specs.Limits.{sum_f, sum_n, sum_g1, sum_g2}
use Rattle.shift.specs.declared.State.{State}
use Rattle.shift.specs.Readings.{Reading}
use Rattle.shift.specs.declared.Misread.TheVariants.{WrongCode, WrongAmount}
use Rattle.shift.specs.declared.Step.TheVariants.{FromNeutral, GearToGear, ToNeutral, Deliver, DeviceGood, DeviceFailed, EngineWaits, Take, AskClutch, RaiseError, Finish, Tick, Reset}

pub data Kind : Type 0 where
  from_neutral gear_to_gear to_neutral : Kind

-- F from neutral, N to neutral, and the larger of G1 and G2 gear to gear
abbrev pub sum_of : Table → Kind → ℕ
sum_of t from_neutral = sum_f t
sum_of t gear_to_gear = max (sum_g1 t) (sum_g2 t)
sum_of t to_neutral = sum_n t

-- the phases that a shift of this kind goes through
abbrev pub first_phase : Kind → ℕ
first_phase from_neutral = 1
first_phase gear_to_gear = 6
first_phase to_neutral = 17

abbrev pub last_phase : Kind → ℕ
last_phase from_neutral = 5
last_phase gear_to_gear = 16
last_phase to_neutral = 21

-- the kind after a step: a request's own, else as before
abbrev pub kind_after : Kind → Reading → Kind
kind_after k (Ok FromNeutral) = from_neutral
kind_after k (Ok GearToGear) = gear_to_gear
kind_after k (Ok ToNeutral) = to_neutral
kind_after k (Ok Deliver) = k
kind_after k (Ok DeviceGood) = k
kind_after k (Ok DeviceFailed) = k
kind_after k (Ok EngineWaits) = k
kind_after k (Ok Take) = k
kind_after k (Ok AskClutch) = k
kind_after k (Ok RaiseError) = k
kind_after k (Ok Finish) = k
kind_after k (Ok (Tick n)) = k
kind_after k (Ok Reset) = k
kind_after k (Err WrongCode) = k
kind_after k (Err WrongAmount) = k

-- the kind of the last request of a list, k where it has none
abbrev pub last_kind : Kind → List Reading → Kind
last_kind k [] = k
last_kind k (r ∷ rs) = last_kind (kind_after k r) rs

-- a state in the middle of a shift of this kind: its phase is one of the kind's, and its age, clock minus request time, is at most
-- the sum of the kind, which is at most the table's limit for a whole change
pub record NotOlder (t : Table) (k : Kind) (s : State) : Type 0 where
  pub first : first_phase k ≤ s.phase
  pub last : s.phase ≤ last_phase k
  pub begun : s.request_time ≤ s.clock
  pub age : s.clock - s.request_time ≤ sum_of t k
  pub change : sum_of t k ≤ t.change_dl
