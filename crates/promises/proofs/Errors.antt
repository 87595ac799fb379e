-- An error is final only until a reset: in phase 23 every step but a tick and the reset is refused with 7, and a list without a reset
-- moves the clock alone.
-- Assumes nothing.
use mathlib.Core.Path.{◌≡◌, refl, ◌∙◌}
use mathlib.Core.Logic.{⊎_elim}
use mathlib.Core.List.{List, [], ◌∷◌}
use Prim.Native.Nat.{ℕ, zero, suc, ◌+◌, ◌≤◌}
use native.Mathlib.Omega.{arith}
use Rattle.std.specs.Prelude.{Ok}
use Rattle.checks.proofs.Tests.{tests}
use Rattle.checks.proofs.Checks.{Holds}
use Rattle.checks.proofs.Ranges.{from}
use Rattle.limits.specs.declared.Table.{Table}
use Rattle.limits.specs.Refusals.{Admitted}
use Rattle.shift.specs.declared.State.{State}
use Rattle.shift.specs.Readings.{Reading}
use Rattle.shift.specs.declared.Step.{Step}
use Rattle.shift.specs.declared.Step.TheVariants.{FromNeutral, GearToGear, ToNeutral, Deliver, DeviceGood, DeviceFailed, EngineWaits, Take, AskClutch, RaiseError, Finish, Tick, Reset}
use Rattle.shift.specs.Refusals.{Formed}
use Rattle.shift.specs.Answers.{checks, guard, led}
use Rattle.shift.specs.Runs.{Outcome, after, run}
use Rattle.shift.proofs.Refusals.{a_code}
use Rattle.promises.specs.Allowed.{Shifting, Engine}
use Rattle.promises.specs.Refusals.{placings, ByCode, Misplaced}
use Rattle.promises.specs.Answered.{Answered}
use Rattle.promises.specs.Before.{WithoutReset}
use Rattle.promises.proofs.Runs.{each_step}
use Rattle.promises.proofs.PlaceLaws.{engine_order}

-- ---- one step
module _ (t : Table) (s : State) (code middle amount : ℕ) (e : s.phase ≡ 23) where
  no_rest : ¬ (s.phase ≡ 0)
  no_rest q = omega arith

  no_shift : ¬ Shifting s
  no_shift q = omega arith

  no_engine : ¬ Engine s
  no_engine q = let o = engine_order s q in omega arith

  no_end : ¬ (s.phase ≡ 22)
  no_end q = omega arith

  misplaced : 1 ≤ code → code ≤ 11 → Misplaced s code
  misplaced l m p =
      from (λ k. ¬ ByCode (placings s) k) 1 11
      (no_rest, (no_rest, (no_rest, (λ q. no_shift q.0, (λ q. no_shift q.0, (λ q. no_shift q.0, (λ q. no_engine q.0, (λ q. no_shift q.0, (λ q. no_engine q.0, (λ q. no_shift q.0, (no_end, tt)))))))))))
      code l (omega arith) p.1

  -- whatever is answered as one step is: under an admitted table codes 1 to 11 are refused with 7
  pub an_error_is_final_until_a_reset :
      (n over : ℕ) (u : State) → Answered t s code middle amount n over u → Admitted t → Formed code middle amount
      → 1 ≤ code → code ≤ 11
      → (n ≡ 7) × (u ≡ s)
  an_error_is_final_until_a_reset n over u x admitted formed l m =
      let seven : n ≡ 7 =
      ⊎_elim
      (λ a. absurd (a.0 admitted))
      (λ a.
      ⊎_elim
      (λ b. absurd (a_code code l (omega arith) b.0))
      (λ b.
      ⊎_elim
      (λ c. absurd (c.0 formed))
      (λ c. ⊎_elim (λ d. d.1) (λ d. absurd (d.0 (misplaced l m))) c.1)
      b.1)
      a.1)
      x.first
      in
      (seven, x.refused (omega arith))

-- ---- a list
-- all fields but the clock are as they were
pub record Stopped (s s' : State) : Type 0 where
  pub box : s'.gear_box ≡ s.gear_box
  pub phase : s'.phase ≡ s.phase
  pub phase_time : s'.phase_time ≡ s.phase_time
  pub stage : s'.stage ≡ s.stage
  pub stage_time : s'.stage_time ≡ s.stage_time
  pub request_time : s'.request_time ≡ s.request_time
  pub failed_phase : s'.failed_phase ≡ s.failed_phase

clocked : (s : State) (c : ℕ) → Stopped s (record {
  clock = c;
  gear_box = s.gear_box;
  phase = s.phase;
  phase_time = s.phase_time;
  stage = s.stage;
  stage_time = s.stage_time;
  request_time = s.request_time;
  failed_phase = s.failed_phase;
})
clocked s c = record {
  box = refl;
  phase = refl;
  phase_time = refl;
  stage = refl;
  stage_time = refl;
  request_time = refl;
  failed_phase = refl;
}

still : (s u v : State) → Stopped s u → Stopped u v → Stopped s v
still s u v x y = record {
  box = y.box ∙ x.box;
  phase = y.phase ∙ x.phase;
  phase_time = y.phase_time ∙ x.phase_time;
  stage = y.stage ∙ x.stage;
  stage_time = y.stage_time ∙ x.stage_time;
  request_time = y.request_time ∙ x.request_time;
  failed_phase = y.failed_phase ∙ x.failed_phase;
}

module _ (t : Table) (s : State) (e : s.phase ≡ 23) where
  ticks_alone : (x : Step) → Holds (checks t s (Ok x)) → ¬ (◌≡◌ {A = Reading} (Ok x) (Ok Reset)) → Stopped s (led s (Ok x))
  ticks_alone FromNeutral h n = absurd (omega (arith, tests))
  ticks_alone GearToGear h n = absurd (omega (arith, tests))
  ticks_alone ToNeutral h n = absurd (omega (arith, tests))
  ticks_alone Deliver h n = absurd (omega (arith, tests))
  ticks_alone DeviceGood h n = absurd (omega (arith, tests))
  ticks_alone DeviceFailed h n = absurd (omega (arith, tests))
  ticks_alone EngineWaits h n = absurd (omega (arith, tests))
  ticks_alone Take h n = absurd (omega (arith, tests))
  ticks_alone AskClutch h n = absurd (omega (arith, tests))
  ticks_alone RaiseError h n = absurd (omega (arith, tests))
  ticks_alone Finish h n = absurd (omega (arith, tests))
  ticks_alone (Tick k) h n = clocked s (s.clock + k)
  ticks_alone Reset h n = absurd (n refl)

  ticks_on : (r : Reading) → guard t s r ≡ 0 → ¬ (r ≡ Ok Reset) → Stopped s (led s r)
  ticks_on = each_step (λ r. ¬ (r ≡ Ok Reset) → Stopped s (led s r)) t s ticks_alone

ends : (k over : ℕ) (s : State) (rest : Outcome) → (k ≡ 0 → Stopped s rest.state) → Stopped s (after k over s rest).state
ends zero over s rest f = f refl
ends (suc k) over s rest f = clocked s s.clock

-- from an error on, as far as a list is accepted and until it has a reset, nothing but the clock moves
pub only_the_clock_moves_after_an_error :
    (t : Table) (s : State) (rs : List Reading) → s.phase ≡ 23 → WithoutReset rs → Stopped s (run t s rs).state
only_the_clock_moves_after_an_error t s [] e w = clocked s s.clock
only_the_clock_moves_after_an_error t s (r ∷ rs) e w =
    ends (guard t s r) _ s (run t (led s r) rs) (λ z.
    let one = ticks_on t s e r z w.0 in
    still s (led s r) (run t (led s r) rs).state one
    (only_the_clock_moves_after_an_error t (led s r) rs (one.phase ∙ e) w.1))
