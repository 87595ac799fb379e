-- Document 01, "The twelve steps", and document 02's thirteenth and its delays of the clutch, a second time and in their words: the
-- column "allowed when" as a relation, beside the list of checks that `shift` has. Phases, limits and delays are those of
-- `phases/specs/ByPhase.antt`: with the checks it shares nothing but the fields of a state and of a table.
-- Assumes nothing.
use Rattle.std.specs.Prelude.{◌≡◌, [], ◌∷◌, ℕ, ◌+◌, ◌≤◌, Ok, Err}
use Rattle.checks.specs.Conditions.{OneOf}
use Rattle.limits.specs.declared.Table.{Table}
use Rattle.phases.specs.ByPhase.{engine_phases, open_or_close_phases, device_limit_in, phase_limit_in, ex_in, de_in, plain_delay_in, error_delay_in}
use Rattle.shift.specs.declared.State.{State}
use Rattle.shift.specs.Readings.{Reading}
use Rattle.shift.specs.declared.Misread.TheVariants.{WrongCode, WrongAmount}
use Rattle.shift.specs.declared.Step.{Step}
use Rattle.shift.specs.declared.Step.TheVariants.{FromNeutral, GearToGear, ToNeutral, Deliver, DeviceGood, DeviceFailed, EngineWaits, Take, AskClutch, RaiseError, Finish, Tick, Reset}

-- a phase up to 23, a stage up to waiting, the box neutral or in gear
pub record Listed (s : State) : Type 0 where
  pub phase : s.phase ≤ 23
  pub stage : s.stage ≤ 5
  pub box : s.gear_box ≤ 1

-- phase 1 to 21
abbrev pub Shifting : State → Type 0
Shifting s = (1 ≤ s.phase) × (s.phase ≤ 21)

-- phase 1, 6, 10 or 17
abbrev pub Engine : State → Type 0
Engine s = OneOf engine_phases s.phase

-- an open phase, 2, 7, 11 or 18, or a close phase, 5, 15, 16 or 21
abbrev pub OpenOrClose : State → Type 0
OpenOrClose s = OneOf open_or_close_phases s.phase

-- in phases 1 to 21 the new clock does not pass stage time + Ch in stages sent and good, stage time + device limit in stage
-- working, phase time + phase limit in any stage
pub record InTime (t : Table) (s : State) (now : ℕ) : Type 0 where
  pub channel : OneOf (1 ∷ 3 ∷ []) s.stage → now ≤ s.stage_time + t.channel_dl
  pub device : s.stage ≡ 2 → now ≤ s.stage_time + device_limit_in t s.phase
  pub phase : now ≤ s.phase_time + phase_limit_in t s.phase

abbrev pub Allowed : Table → State → Step → Type 0
Allowed t s FromNeutral = (s.phase ≡ 0) × (s.gear_box ≡ 0)
Allowed t s GearToGear = (s.phase ≡ 0) × (s.gear_box ≡ 1)
Allowed t s ToNeutral = (s.phase ≡ 0) × (s.gear_box ≡ 1)
Allowed t s Deliver = Shifting s × (s.stage ≡ 1)
Allowed t s DeviceGood =
    Shifting s × (s.stage ≡ 2) × (OpenOrClose s → s.stage_time + plain_delay_in t s.phase ≤ s.clock)
Allowed t s DeviceFailed =
    Shifting s × (s.stage ≡ 2) × ¬ Engine s × (OpenOrClose s → s.stage_time + error_delay_in t s.phase ≤ s.clock)
Allowed t s EngineWaits = Engine s × (s.stage ≡ 2)
Allowed t s Take =
    Shifting s × (s.stage ≡ 3) × (Engine s → s.clock ≤ s.phase_time + ex_in t s.phase)
Allowed t s AskClutch =
    Engine s × (s.stage ≡ 5) × (s.phase_time + de_in t s.phase ≤ s.clock)
Allowed t s RaiseError = Shifting s × (s.stage ≡ 4)
Allowed t s Finish = s.phase ≡ 22
Allowed t s (Tick n) = (s.clock + n ≤ 4294967295) × (Shifting s → InTime t s (s.clock + n))
Allowed t s Reset = s.phase ≡ 23

-- what was read of a record is allowed: it is a step, the state is listed, and the step is allowed in it
abbrev pub Permitted : Table → State → Reading → Type 0
Permitted t s (Ok x) = Listed s × Allowed t s x
Permitted t s (Err WrongCode) = ⊥
Permitted t s (Err WrongAmount) = ⊥
