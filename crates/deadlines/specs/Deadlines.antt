-- Until when ticks are allowed: the last clock that a tick may reach, the number that refuses one past it, and how far past it is. Nobody
-- has to believe it: DeadlineLaws.antt has that it is what `in_tick_time` and `excess_by` of `shift` say.
-- Assumes nothing.
use Rattle.std.specs.Prelude.{Bool, true, false, cond, [], ◌∷◌, ℕ, ◌+◌, ◌-◌, leb, eqb, get_or}
use Rattle.limits.specs.declared.Table.{Table}
use Rattle.phases.specs.Phases.{order_of, device_limit, unfinished}
use Rattle.shift.specs.declared.State.{State}
use Rattle.shift.specs.declared.Step.{Step}
use Rattle.shift.specs.declared.Step.TheVariants.{FromNeutral, GearToGear, ToNeutral, Deliver, DeviceGood, DeviceFailed, EngineWaits, Take, AskClutch, RaiseError, Finish, Tick, Reset}
use Rattle.shift.specs.Steps.{limited, phase_bound}

abbrev pub lesser : ℕ → ℕ → ℕ
lesser a b = cond (leb a b) a b

-- by the largest clock, and in a shift by the limit of the phase
abbrev pub phase_end_of : Table → State → ℕ
phase_end_of t s = cond (unfinished s.phase) (lesser 4294967295 (phase_bound t s)) 4294967295

-- the limit of the channel or of the device from the stage time on
abbrev pub stage_end_of : ℕ → ℕ → State → ℕ
stage_end_of device channel s = s.stage_time + get_or (0 ∷ channel ∷ device ∷ channel ∷ []) s.stage 0

-- by that too, where there is one
abbrev pub deadline_by : ℕ → ℕ → ℕ → State → ℕ
deadline_by end device channel s = cond (limited s) (lesser end (stage_end_of device channel s)) end

abbrev pub deadline : Table → State → ℕ
deadline t s = deadline_by (phase_end_of t s) (device_limit t (order_of s.phase)) t.channel_dl s

-- past the deadline
abbrev pub late_by : ℕ → ℕ → State → ℕ → ℕ
late_by device channel s now =
    cond (leb now 4294967295) (cond (leb (cond (limited s) now 0) (stage_end_of device channel s)) 11 12) 13

-- how far past it is, by that number
abbrev pub over_by : ℕ → ℕ → ℕ → State → ℕ → ℕ → ℕ
over_by end device channel s now number =
    cond (eqb number 11) (now - end) (cond (eqb number 12) (now - deadline_by now device channel s) (now - 4294967295))

-- the steps that set phase and phase time
abbrev pub enters : Step → Bool
enters FromNeutral = true
enters GearToGear = true
enters ToNeutral = true
enters Deliver = false
enters DeviceGood = false
enters DeviceFailed = false
enters EngineWaits = false
enters Take = true
enters AskClutch = true
enters RaiseError = true
enters Finish = true
enters (Tick n) = false
enters Reset = true
