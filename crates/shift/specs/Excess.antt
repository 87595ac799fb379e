-- Document 02, requests 4 and 6: the milliseconds by which a refused step is too early or past the limit, which bound against which
-- clock.
-- Assumes nothing.
use Rattle.std.specs.Prelude.{List, [], ◌∷◌, ℕ, ◌-◌, get_or}
use Rattle.limits.specs.declared.Table.{Table}
use Rattle.shift.specs.declared.State.{State}
use Rattle.shift.specs.declared.Step.{Step}
use Rattle.shift.specs.declared.Step.TheVariants.{FromNeutral, GearToGear, ToNeutral, Deliver, DeviceGood, DeviceFailed, EngineWaits, Take, AskClutch, RaiseError, Finish, Tick, Reset}
use Rattle.shift.specs.Steps.{good_bound, failed_bound, ask_bound, take_bound, phase_bound, stage_bound}

-- the clock before which a step is too early; 0 where it is never
abbrev pub early_bound : Table → State → Step → ℕ
early_bound t s FromNeutral = 0
early_bound t s GearToGear = 0
early_bound t s ToNeutral = 0
early_bound t s Deliver = 0
early_bound t s DeviceGood = good_bound t s
early_bound t s DeviceFailed = failed_bound t s
early_bound t s EngineWaits = 0
early_bound t s Take = 0
early_bound t s AskClutch = ask_bound t s
early_bound t s RaiseError = 0
early_bound t s Finish = 0
early_bound t s (Tick n) = 0
early_bound t s Reset = 0

-- by the number, from 0; `early` is the clock before which the step is too early, `now` the one that it leads to, a tick's new one
abbrev pub excesses : Table → State → ℕ → ℕ → List ℕ
excesses t s early now =
    0  -- 0 accepted
    ∷ 0  -- 1 fewer than 12 bytes
    ∷ 0  -- 2 header
    ∷ 0  -- 3 length
    ∷ 0  -- 4 table not admitted
    ∷ 0  -- 5 no such code
    ∷ 0  -- 6 middle byte or amount
    ∷ 0  -- 7 phase or stage
    ∷ 0  -- 8 box on the wrong side
    ∷ (early - s.clock)  -- 9 device good, device failed or ask clutch too early
    ∷ (s.clock - take_bound t s)  -- 10 take too late
    ∷ (now - phase_bound t s)  -- 11 tick past the phase limit
    ∷ (now - stage_bound t s)  -- 12 tick past the channel or device limit
    ∷ (now - 4294967295)  -- 13 clock would pass its largest value
    ∷ []

-- every other number carries 0
abbrev pub excess_by : Table → State → ℕ → ℕ → ℕ → ℕ
excess_by t s early now number = get_or (excesses t s early now) number 0
