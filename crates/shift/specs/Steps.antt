-- Document 01, "The twelve steps", and document 02's thirteenth and its delays of the clutch: when each is allowed, and its effect.
-- Assumes nothing.
use Rattle.std.specs.Prelude.{Bool, cond, ◌&&◌, List, [], ◌∷◌, ◌++◌, ℕ, ◌+◌, leb, ltb, eqb, get_or}
use Rattle.checks.specs.Checks.{Check, ◌!◌}
use Rattle.limits.specs.declared.Table.{Table}
use Rattle.shift.specs.declared.State.{State}
use Rattle.shift.specs.declared.Step.{Step}
use Rattle.shift.specs.declared.Step.TheVariants.{FromNeutral, GearToGear, ToNeutral, Deliver, DeviceGood, DeviceFailed, EngineWaits, Take, AskClutch, RaiseError, Finish, Tick, Reset}
use Rattle.phases.specs.Phases.{zero_torque, set, release, at_rest, done, error, order_of, next_of, clutch_of, device_limit, phase_limit, latest_take, earliest_ask, plain_delay, error_delay, unfinished, engine, clutch_order}
use Rattle.shift.specs.States.{neutral, in_gear, sent, working, good, failed, waiting, entered}

-- ---- allowed when

-- at rest, and the box on this side
abbrev pub rests_in : State → ℕ → List Check
rests_in s side = (eqb s.phase at_rest ! 7) ∷ (eqb s.gear_box side ! 8) ∷ []

-- phase 1 to 21, in this stage
abbrev pub shifts_in : State → ℕ → List Check
shifts_in s stage = (leb 1 s.phase ! 7) ∷ (leb s.phase 21 ! 7) ∷ (eqb s.stage stage ! 7) ∷ []

-- of a phase 1 to 21: it is an engine phase, it is none
abbrev pub in_engine : State → List Check
in_engine s = (leb (order_of s.phase) zero_torque ! 7) ∷ []

abbrev pub in_device : State → List Check
in_device s = (ltb zero_torque (order_of s.phase) ! 7) ∷ []

-- in sync or zero torque phases clock ≤ phase time + that EX. Here and below: where a limit does not apply, 0 is held against it
abbrev pub take_bound : Table → State → ℕ
take_bound t s = s.phase_time + latest_take t (order_of s.phase)

abbrev pub in_take_time : Table → State → List Check
in_take_time t s = (leb (cond (engine s.phase) s.clock 0) (take_bound t s) ! 10) ∷ []

-- clock ≥ phase time + that DE
abbrev pub ask_bound : Table → State → ℕ
ask_bound t s = s.phase_time + earliest_ask t (order_of s.phase)

abbrev pub in_ask_time : Table → State → List Check
in_ask_time t s = (leb (ask_bound t s) s.clock ! 9) ∷ []

-- in open and close phases clock ≥ stage time + the plain delay for good, the error delay for failed
abbrev pub good_bound : Table → State → ℕ
good_bound t s = s.stage_time + plain_delay t (order_of s.phase)

abbrev pub failed_bound : Table → State → ℕ
failed_bound t s = s.stage_time + error_delay t (order_of s.phase)

abbrev pub in_report_time : State → ℕ → List Check
in_report_time s bound = (leb (cond (clutch_order s.phase) bound 0) s.clock ! 9) ∷ []

-- In phases 1 to 21 the new clock of a tick may not pass stage time + Ch (stages sent and good), stage time + device limit
-- (working), nor phase time + phase limit (any stage). Equal is allowed.
abbrev pub stage_limit : Table → State → ℕ
stage_limit t s =
    get_or (0 ∷ t.channel_dl ∷ device_limit t (order_of s.phase) ∷ t.channel_dl ∷ []) s.stage 0

abbrev pub stage_bound : Table → State → ℕ
stage_bound t s = s.stage_time + stage_limit t s

abbrev pub phase_bound : Table → State → ℕ
phase_bound t s = s.phase_time + phase_limit t (order_of s.phase)

-- there is a limit of the channel or the device
abbrev pub limited : State → Bool
limited s = unfinished s.phase && (leb sent s.stage && leb s.stage good)

abbrev pub in_tick_time : Table → State → ℕ → List Check
in_tick_time t s now =
    (leb now 4294967295 ! 13)
    ∷ (leb (cond (limited s) now 0) (stage_bound t s) ! 12)
    ∷ (leb (cond (unfinished s.phase) now 0) (phase_bound t s) ! 11)
    ∷ []

-- in this phase
abbrev pub stands_in : State → ℕ → List Check
stands_in s p = (eqb s.phase p ! 7) ∷ []

abbrev pub allowed : Table → State → Step → List Check
allowed t s FromNeutral = rests_in s neutral
allowed t s GearToGear = rests_in s in_gear
allowed t s ToNeutral = rests_in s in_gear
allowed t s Deliver = shifts_in s sent
allowed t s DeviceGood = shifts_in s working ++ in_report_time s (good_bound t s)
allowed t s DeviceFailed = shifts_in s working ++ (in_device s ++ in_report_time s (failed_bound t s))
allowed t s EngineWaits = shifts_in s working ++ in_engine s
allowed t s Take = shifts_in s good ++ in_take_time t s
allowed t s AskClutch = shifts_in s waiting ++ (in_engine s ++ in_ask_time t s)
allowed t s RaiseError = shifts_in s failed
allowed t s Finish = stands_in s done
allowed t s (Tick n) = in_tick_time t s (s.clock + n)
allowed t s Reset = stands_in s error

-- ---- effect: what a step doesn't name, it keeps

-- request time = clock
abbrev pub requested : State → State
requested s = record {
  clock = s.clock;
  gear_box = s.gear_box;
  phase = s.phase;
  phase_time = s.phase_time;
  stage = s.stage;
  stage_time = s.stage_time;
  request_time = s.clock;
  failed_phase = s.failed_phase;
}

-- the box on this side
abbrev pub boxed : ℕ → State → State
boxed side s = record {
  clock = s.clock;
  gear_box = side;
  phase = s.phase;
  phase_time = s.phase_time;
  stage = s.stage;
  stage_time = s.stage_time;
  request_time = s.request_time;
  failed_phase = s.failed_phase;
}

-- taking a set order makes the box in gear, taking a release order makes it neutral
abbrev pub box_taken : State → ℕ
box_taken s =
    cond (eqb (order_of s.phase) set) in_gear (cond (eqb (order_of s.phase) release) neutral s.gear_box)

-- the stage, and stage time = clock
abbrev pub staged : ℕ → State → State
staged stage s = record {
  clock = s.clock;
  gear_box = s.gear_box;
  phase = s.phase;
  phase_time = s.phase_time;
  stage = stage;
  stage_time = s.clock;
  request_time = s.request_time;
  failed_phase = s.failed_phase;
}

-- clock + n
abbrev pub ticked : ℕ → State → State
ticked n s = record {
  clock = s.clock + n;
  gear_box = s.gear_box;
  phase = s.phase;
  phase_time = s.phase_time;
  stage = s.stage;
  stage_time = s.stage_time;
  request_time = s.request_time;
  failed_phase = s.failed_phase;
}

abbrev pub effect : State → Step → State
effect s FromNeutral = entered 1 (requested s)
effect s GearToGear = entered 6 (requested s)
effect s ToNeutral = entered 17 (requested s)
effect s Deliver = staged working s
effect s DeviceGood = staged good s
effect s DeviceFailed = staged failed s
effect s EngineWaits = staged waiting s
effect s Take = entered (next_of s.phase) (boxed (box_taken s) s)
effect s AskClutch = entered (clutch_of s.phase) s
effect s RaiseError = entered error s
effect s Finish = entered at_rest s
effect s (Tick n) = ticked n s
effect s Reset = entered at_rest s
