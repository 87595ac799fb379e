-- The two definitions of "allowed" are one: the guard answers 0 exactly where the step is allowed in the document's words.
-- Assumes nothing.
use mathlib.Core.Path.{◌≡◌}
use mathlib.Core.Logic.{⊎_elim, ◌↔◌}
use Prim.Native.Nat.{◌+◌, ◌≤◌}
use native.Mathlib.Omega.{arith}
use Rattle.std.specs.Prelude.{Ok, Err}
use Rattle.checks.proofs.Tests.{tests}
use Rattle.checks.proofs.Checks.{Holds, holds→first}
use Rattle.limits.specs.declared.Table.{Table}
use Rattle.phases.specs.Phases.{order_of}
use Rattle.phases.proofs.ByPhaseLaws.{de_in_lem, plain_delay_in_lem, error_delay_in_lem}
use Rattle.shift.specs.declared.State.{State}
use Rattle.shift.specs.Readings.{Reading}
use Rattle.shift.specs.declared.Misread.TheVariants.{WrongCode, WrongAmount}
use Rattle.shift.specs.declared.Step.{Step}
use Rattle.shift.specs.declared.Step.TheVariants.{FromNeutral, GearToGear, ToNeutral, Deliver, DeviceGood, DeviceFailed, EngineWaits, Take, AskClutch, RaiseError, Finish, Tick, Reset}
use Rattle.shift.specs.Steps.{good_bound, failed_bound}
use Rattle.shift.specs.Answers.{checks, guard}
use Rattle.promises.specs.Allowed.{Shifting, Permitted}
use Rattle.promises.proofs.Runs.{checked}
use Rattle.promises.proofs.PlaceLaws.{within_ex, within_report, within_stage, within_phase, passing, engine_phase, engine_order, in_report_time_lem, too_early, in_take_time_lem, too_late, in_channel_time, in_device_time, past_stage, in_phase_time, past_phase}

-- ---- what the checks of a step say, in the document's words
module _ (t : Table) (s : State) where
  pub said : (x : Step) → Holds (checks t s (Ok x)) → Permitted t s (Ok x)
  said FromNeutral h = omega (arith, tests)
  said GearToGear h = omega (arith, tests)
  said ToNeutral h = omega (arith, tests)
  said Deliver h = omega (arith, tests)
  said DeviceGood h =
      let z : Shifting s = omega (arith, tests) in
      let delay = plain_delay_in_lem t s.phase z.0 (omega arith) in
      (omega (arith, tests), (z, omega (arith, tests), λ c. let l = in_report_time_lem s (good_bound t s) h.1.1.1.1.1.1.0 c in omega arith))
  said DeviceFailed h =
      let z : Shifting s = omega (arith, tests) in
      let delay = error_delay_in_lem t s.phase z.0 (omega arith) in (
        omega (arith, tests),
        (
          z,
          omega (arith, tests),
          λ e. let o = engine_order s e in omega (arith, tests),
          λ c. let l = in_report_time_lem s (failed_bound t s) h.1.1.1.1.1.1.1.0 c in omega arith,
        ),
      )
  said EngineWaits h =
      let z : Shifting s = omega (arith, tests) in
      (omega (arith, tests), (engine_phase s z (omega (arith, tests)), omega (arith, tests)))
  said Take h = (omega (arith, tests), (omega (arith, tests), omega (arith, tests), in_take_time_lem t s h.1.1.1.1.1.1.0))
  said AskClutch h =
      let z : Shifting s = omega (arith, tests) in
      let de = de_in_lem t s.phase z.0 (omega arith) in
      (omega (arith, tests), (engine_phase s z (omega (arith, tests)), omega (arith, tests), omega (arith, tests)))
  said RaiseError h = omega (arith, tests)
  said Finish h = omega (arith, tests)
  said (Tick n) h =
      let now = s.clock + n in (
        omega (arith, tests),
        (
          omega (arith, tests),
          λ z. record {
            channel = in_channel_time t s now h.1.1.1.1.0 z;
            device = in_device_time t s now h.1.1.1.1.0 z;
            phase = in_phase_time t s now h.1.1.1.1.1.0 z;
          },
        ),
      )
  said Reset h = omega (arith, tests)

  -- and the other way
  pub meant : (x : Step) → Permitted t s (Ok x) → Holds (checks t s (Ok x))
  meant FromNeutral h = omega (arith, tests)
  meant GearToGear h = omega (arith, tests)
  meant ToNeutral h = omega (arith, tests)
  meant Deliver h = omega (arith, tests)
  meant DeviceGood h =
      let delay = plain_delay_in_lem t s.phase h.1.0.0 (let l = h.1.0.1 in omega arith) in
      let e =
      passing (within_report s (good_bound t s)) (λ n.
      let w = too_early s (good_bound t s) h.1.0 n in
      let l = h.1.2 w.0 in
      let m = w.1 in
      omega arith)
      in
      omega (arith, tests)
  meant DeviceFailed h =
      let m : ¬ (order_of s.phase ≤ 2) = λ l. h.1.2 (engine_phase s h.1.0 l) in
      let delay = error_delay_in_lem t s.phase h.1.0.0 (let l = h.1.0.1 in omega arith) in
      let e =
      passing (within_report s (failed_bound t s)) (λ n.
      let w = too_early s (failed_bound t s) h.1.0 n in
      let l = h.1.3 w.0 in
      let m = w.1 in
      omega arith)
      in
      omega (arith, tests)
  meant EngineWaits h = let o = engine_order s h.1.0 in omega (arith, tests)
  meant Take h =
      let e = passing (within_ex t s) (λ n. let w = too_late t s h.1.0 n in let l = h.1.2 w.0 in omega arith) in
      omega (arith, tests)
  meant AskClutch h =
      let o = engine_order s h.1.0 in
      let de = de_in_lem t s.phase o.1 (omega arith) in
      omega (arith, tests)
  meant RaiseError h = omega (arith, tests)
  meant Finish h = omega (arith, tests)
  meant (Tick n) h =
      let now = s.clock + n in
      let a =
      passing (within_stage t s now) (λ n.
      let w = past_stage t s now n in
      let i = h.1.1 w.0 in
      ⊎_elim (λ c. let l = i.channel c.0 in let m = c.1 in omega arith) (λ c. let l = i.device c.0 in let m = c.1 in omega arith) w.1)
      in
      let b =
      passing (within_phase t s now) (λ n.
      let w = past_phase t s now n in
      let l = (h.1.1 w.0).phase in
      omega arith)
      in
      omega (arith, tests)
  meant Reset h = omega (arith, tests)

-- ---- the guard answers 0 exactly where what was read is permitted
pub permitted : (t : Table) (s : State) (r : Reading) → (guard t s r ≡ 0) ↔ Permitted t s r
permitted t s (Ok x) = (λ e. said t s x (checked t s x e), λ p. holds→first (checks t s (Ok x)) (meant t s x p))
permitted t s (Err WrongCode) = (λ e. absurd (omega arith), λ p. absurd p)
permitted t s (Err WrongAmount) = (λ e. absurd (omega arith), λ p. absurd p)
