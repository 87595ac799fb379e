-- What clock and phase of a state become by a step, and by a record's code and amount: whatever else the state holds, and whatever the
-- table says. For functions that follow accepted records; `projects` of proofs/TraceLaws.antt ties it to the effects of shift/specs/Steps.antt.
-- Assumes nothing.
use Rattle.std.specs.Prelude.{List, [], ◌∷◌, ℕ, ◌+◌, get_or, Ok, Err}
use Rattle.phases.specs.Phases.{at_rest, error, next_of, clutch_of}
use Rattle.shift.specs.declared.State.{State}
use Rattle.shift.specs.declared.Step.{Step}
use Rattle.shift.specs.declared.Step.TheVariants.{FromNeutral, GearToGear, ToNeutral, Deliver, DeviceGood, DeviceFailed, EngineWaits, Take, AskClutch, RaiseError, Finish, Tick, Reset}
use Rattle.shift.specs.Readings.{Reading}
use Rattle.shift.specs.declared.Misread.TheVariants.{WrongCode, WrongAmount}

pub record Trace : Type 0 where
  pub clock : ℕ
  pub phase : ℕ

abbrev pub trace_of : State → Trace
trace_of s = record { clock = s.clock; phase = s.phase }

abbrev pub entering : ℕ → Trace → Trace
entering p t = record { clock = t.clock; phase = p }

-- by a step
abbrev pub stepped : Trace → Step → Trace
stepped t FromNeutral = entering 1 t
stepped t GearToGear = entering 6 t
stepped t ToNeutral = entering 17 t
stepped t Deliver = t
stepped t DeviceGood = t
stepped t DeviceFailed = t
stepped t EngineWaits = t
stepped t Take = entering (next_of t.phase) t
stepped t AskClutch = entering (clutch_of t.phase) t
stepped t RaiseError = entering error t
stepped t Finish = entering at_rest t
stepped t (Tick n) = record { clock = t.clock + n; phase = t.phase }
stepped t Reset = entering at_rest t

-- by what was read of a record, and by a list of them
abbrev pub after : Trace → Reading → Trace
after t (Ok x) = stepped t x
after t (Err WrongCode) = t
after t (Err WrongAmount) = t

abbrev pub traced : Trace → List Reading → Trace
traced t [] = t
traced t (r ∷ rs) = traced (after t r) rs

-- the phase by a step's code
abbrev pub phase_by : ℕ → ℕ → ℕ
phase_by p code =
    get_or (p ∷ 1 ∷ 6 ∷ 17 ∷ p ∷ p ∷ p ∷ p ∷ next_of p ∷ clutch_of p ∷ error ∷ at_rest ∷ p ∷ at_rest ∷ []) code p
