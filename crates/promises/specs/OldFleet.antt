-- The rules before request 6, for the statement alone that nothing changed for the old fleet. Then device good and device failed were
-- asked for phase and stage, and for no time, and a table had fifteen rules.
-- Assumes nothing.
use Rattle.std.specs.Prelude.{◌≡◌, ◌⊎◌, List, [], ◌∷◌, ◌++◌, ℕ, ◌<◌, Ok}
use Rattle.checks.specs.Checks.{Check, first, numbered}
use Rattle.limits.specs.declared.Table.{Table}
use Rattle.limits.specs.Rules.{set_rule, engine_rules, device_rules, ask_rules, route_rules}
use Rattle.shift.specs.declared.State.{State}
use Rattle.shift.specs.declared.Step.{Step}
use Rattle.shift.specs.declared.Step.TheVariants.{FromNeutral, GearToGear, ToNeutral, Deliver, DeviceGood, DeviceFailed, EngineWaits, Take, AskClutch, RaiseError, Finish, Tick, Reset}
use Rattle.shift.specs.Readings.{Reading}
use Rattle.shift.specs.States.{working}
use Rattle.shift.specs.Steps.{shifts_in, in_device, allowed}
use Rattle.shift.specs.declared.Answer.{Answer}
use Rattle.shift.specs.Answers.{reading, listed, checks_of, led, excess, answer_to, admitting}
use Rattle.shift.specs.Runs.{Outcome, ended, after}
use Rattle.promises.specs.Allowed.{Listed, OpenOrClose}

-- when a step was allowed: the others as today
abbrev pub allowed_before : Table → State → Step → List Check
allowed_before t s FromNeutral = allowed t s FromNeutral
allowed_before t s GearToGear = allowed t s GearToGear
allowed_before t s ToNeutral = allowed t s ToNeutral
allowed_before t s Deliver = allowed t s Deliver
allowed_before t s DeviceGood = shifts_in s working
allowed_before t s DeviceFailed = shifts_in s working ++ in_device s
allowed_before t s EngineWaits = allowed t s EngineWaits
allowed_before t s Take = allowed t s Take
allowed_before t s AskClutch = allowed t s AskClutch
allowed_before t s RaiseError = allowed t s RaiseError
allowed_before t s Finish = allowed t s Finish
allowed_before t s (Tick n) = allowed t s (Tick n)
allowed_before t s Reset = allowed t s Reset

abbrev pub guard_before : Table → State → Reading → ℕ
guard_before t s r = first (checks_of (λ x. listed s ++ allowed_before t s x) r)

-- the first broken of the fifteen rules
abbrev pub rule_before : Table → ℕ
rule_before t = first (numbered 1 (set_rule t ++ (engine_rules t ++ (device_rules t ++ (ask_rules t ++ route_rules t)))))

-- the answer of then to one step on any state and table, and the run of then
abbrev pub step_before : Table → State → ℕ → ℕ → Answer
step_before t s code n =
    let r = reading code 0 n in admitting (rule_before t) (answer_to t s r (guard_before t s r)) s

abbrev pub run_before : Table → State → List Reading → Outcome
run_before t s [] = ended s
run_before t s (r ∷ rs) =
    after (guard_before t s r) (excess t s r (guard_before t s r)) s (run_before t (led s r) rs)

-- the given states that answer otherwise, with their steps: the clutch works, and its stage time lies ahead of the clock
pub record Ahead (s : State) (r : Reading) : Type 0 where
  pub listed : Listed s
  pub phase : OpenOrClose s
  pub stage : s.stage ≡ 2
  pub time : s.clock < s.stage_time
  pub step : (r ≡ Ok DeviceGood) ⊎ (r ≡ Ok DeviceFailed)
