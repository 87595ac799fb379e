-- Document 02, request 5: the shifts of records. A shift runs from its request to the record that enters 22 (done) or 23 (error), else
-- to the last record (open).
-- Assumes nothing.
use Rattle.std.specs.Prelude.{ℕ, zero, suc, ◌-◌, Bool, true, false, cond, List, [], ◌∷◌, ◌==◌, Ok, Err}
use Rattle.phases.specs.Phases.{done, error}
use Rattle.shift.specs.declared.State.{State}
use Rattle.shift.specs.declared.Step.{Step}
use Rattle.shift.specs.declared.Step.TheVariants.{FromNeutral, GearToGear, ToNeutral, Deliver, DeviceGood, DeviceFailed, EngineWaits, Take, AskClutch, RaiseError, Finish, Tick, Reset}
use Rattle.shift.specs.Readings.{Reading}
use Rattle.shift.specs.declared.Misread.TheVariants.{WrongCode, WrongAmount}
use Rattle.shift.specs.Answers.{led}
use Rattle.shiftlist.specs.declared.Shift.{Shift}

-- a request's kind is its code, 1 to 3; 0 for what is no request
abbrev pub kind_in : Step → ℕ
kind_in FromNeutral = 1
kind_in GearToGear = 2
kind_in ToNeutral = 3
kind_in Deliver = 0
kind_in DeviceGood = 0
kind_in DeviceFailed = 0
kind_in EngineWaits = 0
kind_in Take = 0
kind_in AskClutch = 0
kind_in RaiseError = 0
kind_in Finish = 0
kind_in (Tick n) = 0
kind_in Reset = 0

-- the clutch is asked for
abbrev pub asks_in : Step → Bool
asks_in FromNeutral = false
asks_in GearToGear = false
asks_in ToNeutral = false
asks_in Deliver = false
asks_in DeviceGood = false
asks_in DeviceFailed = false
asks_in EngineWaits = false
asks_in Take = false
asks_in AskClutch = true
asks_in RaiseError = false
asks_in Finish = false
asks_in (Tick n) = false
asks_in Reset = false

-- both of what was read of a record
abbrev pub kind_of : Reading → ℕ
kind_of (Ok x) = kind_in x
kind_of (Err WrongCode) = 0
kind_of (Err WrongAmount) = 0

abbrev pub asks : Reading → Bool
asks (Ok x) = asks_in x
asks (Err WrongCode) = false
asks (Err WrongAmount) = false

-- how a shift stands in a phase: 1 done, 2 error, 0 open
abbrev pub end_of : ℕ → ℕ
end_of p = cond (p == done) 1 (cond (p == error) 2 0)

-- the entry of a request of this kind, which is the record i, at this clock
abbrev pub begun : ℕ → ℕ → ℕ → Shift
begun kind i clock = record {
  first = i;
  last = i;
  kind = kind;
  route = 0;
  end = 0;
  request_time = clock;
  age = 0;
}

-- the entry with one record more, the record i, which leads to this clock and phase
abbrev pub grown : Shift → ℕ → Reading → ℕ → ℕ → Shift
grown e i r clock phase = record {
  first = e.first;
  last = i;
  kind = e.kind;
  route = cond (asks r) 1 e.route;
  end = end_of phase;
  request_time = e.request_time;
  age = clock - e.request_time;
}

-- of an entry that ends so: the entry, or where it is open what it becomes further on
abbrev pub unless_ended : ℕ → Shift → Shift → Shift
unless_ended zero e further = further
unless_ended (suc k) e further = e

-- an open entry with the records from i on, made in the state s: to the one that enters 22 or 23, else to the last
abbrev pub whole : Shift → ℕ → State → List Reading → Shift
whole e i s [] = e
whole e i s (r ∷ rs) =
    let next = led s r in
    let e' = grown e i r next.clock next.phase in
    unless_ended (end_of next.phase) e' (whole e' (suc i) next rs)

-- one more for a request, none for what is no request
abbrev pub entry_for : {A : Type 0} → ℕ → A → List A → List A
entry_for zero e es = es
entry_for (suc k) e es = e ∷ es

-- the shifts of the records from i on, made in the state s: one for each request, in order
abbrev pub shifts_from : ℕ → State → List Reading → List Shift
shifts_from i s [] = []
shifts_from i s (r ∷ rs) =
    let next = led s r in
    entry_for (kind_of r) (whole (begun (kind_of r) i s.clock) (suc i) next rs) (shifts_from (suc i) next rs)
