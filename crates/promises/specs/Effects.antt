-- Document 01, "The twelve steps" and "Entering phases ..", and document 02 on the box and the reset, a second time and in words: the
-- column "effect" as a relation between the state before a step and the state after it, field by field. With the effects of `shift` it
-- shares nothing but those fields.
-- Assumes nothing.
use Rattle.std.specs.Prelude.{◌≡◌, [], ◌∷◌, ℕ, ◌+◌, Ok, Err}
use Rattle.checks.specs.Conditions.{OneOf}
use Rattle.phases.specs.ByPhase.{set_phases, release_phases, next_phase, clutch_phase}
use Rattle.shift.specs.declared.State.{State}
use Rattle.shift.specs.Readings.{Reading}
use Rattle.shift.specs.declared.Misread.TheVariants.{WrongCode, WrongAmount}
use Rattle.shift.specs.declared.Step.{Step}
use Rattle.shift.specs.declared.Step.TheVariants.{FromNeutral, GearToGear, ToNeutral, Deliver, DeviceGood, DeviceFailed, EngineWaits, Take, AskClutch, RaiseError, Finish, Tick, Reset}
use Rattle.promises.specs.Allowed.{Shifting}

-- what entering the phase of s' from s does; what the box is, and request time in a phase other than 0, the step says
pub record Entered (s s' : State) : Type 0 where
  -- both times are the clock; the stage is sent in phases 1 to 21, none in 0, 22 and 23
  pub phase_time : s'.phase_time ≡ s.clock
  pub stage_time : s'.stage_time ≡ s.clock
  pub sent : Shifting s' → s'.stage ≡ 1
  pub none : OneOf (0 ∷ 22 ∷ 23 ∷ []) s'.phase → s'.stage ≡ 0
  -- 0 sets request time to 0
  pub rest : s'.phase ≡ 0 → s'.request_time ≡ 0
  -- 23 sets failed phase to the phase left, any other phase to 0
  pub failed : s'.phase ≡ 23 → s'.failed_phase ≡ s.phase
  pub cleared : ¬ (s'.phase ≡ 23) → s'.failed_phase ≡ 0
  pub clock : s'.clock ≡ s.clock

-- taking a set order makes the box in gear, taking a release order makes it neutral, taking another keeps it
pub record BoxTaken (s s' : State) : Type 0 where
  pub in_gear : OneOf set_phases s.phase → s'.gear_box ≡ 1
  pub neutral : OneOf release_phases s.phase → s'.gear_box ≡ 0
  pub kept : ¬ OneOf set_phases s.phase → ¬ OneOf release_phases s.phase → s'.gear_box ≡ s.gear_box

-- every other step keeps it
abbrev pub BoxKept : State → State → Type 0
BoxKept s s' = s'.gear_box ≡ s.gear_box

-- what neither a new stage nor a tick names
pub record Kept (s s' : State) : Type 0 where
  pub box : BoxKept s s'
  pub phase : s'.phase ≡ s.phase
  pub phase_time : s'.phase_time ≡ s.phase_time
  pub request : s'.request_time ≡ s.request_time
  pub failed : s'.failed_phase ≡ s.failed_phase

-- this clock, this stage, this stage time, and all else kept
abbrev pub Staged : ℕ → ℕ → ℕ → State → State → Type 0
Staged clock stage time s s' = (s'.clock ≡ clock) × (s'.stage ≡ stage) × (s'.stage_time ≡ time) × Kept s s'

-- into this phase, with this request time
abbrev pub Into : ℕ → ℕ → State → State → Type 0
Into phase request s s' = (s'.phase ≡ phase) × (s'.request_time ≡ request) × Entered s s'

abbrev pub Effect : State → Step → State → Type 0
Effect s FromNeutral s' = Into 1 s.clock s s' × BoxKept s s'
Effect s GearToGear s' = Into 6 s.clock s s' × BoxKept s s'
Effect s ToNeutral s' = Into 17 s.clock s s' × BoxKept s s'
Effect s Deliver s' = Staged s.clock 2 s.clock s s'
Effect s DeviceGood s' = Staged s.clock 3 s.clock s s'
Effect s DeviceFailed s' = Staged s.clock 4 s.clock s s'
Effect s EngineWaits s' = Staged s.clock 5 s.clock s s'
Effect s Take s' = Into (next_phase s.phase) s.request_time s s' × BoxTaken s s'
Effect s AskClutch s' = Into (clutch_phase s.phase) s.request_time s s' × BoxKept s s'
Effect s RaiseError s' = Into 23 s.request_time s s' × BoxKept s s'
Effect s Finish s' = Into 0 0 s s' × BoxKept s s'
Effect s (Tick n) s' = Staged (s.clock + n) s.stage s.stage_time s s'
Effect s Reset s' = Into 0 0 s s' × BoxKept s s'

-- what was read of a record makes s' of s: it is a step, with this effect
abbrev pub Makes : State → Reading → State → Type 0
Makes s (Ok x) s' = Effect s x s'
Makes s (Err WrongCode) s' = ⊥
Makes s (Err WrongAmount) s' = ⊥
