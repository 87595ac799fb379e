-- Demand 3, first half, in laws: what a table accepts, a table that is nowhere tighter accepts, with the same outcome.
-- Assumes nothing.
use mathlib.Core.Path.{◌≡◌, refl}
use mathlib.Core.Bool.{Bool, true, false, cond}
use mathlib.Core.List.{List, [], ◌∷◌}
use Prim.Native.Nat.{ℕ, ◌≤◌, ◌<◌}
use native.Mathlib.Omega.{arith}
use lib.Dec.{T, leb}
use lib.ListN.{get_or}
use Rattle.std.specs.Prelude.{Ok}
use Rattle.checks.proofs.Tests.{tests}
use Rattle.checks.proofs.Checks.{Holds, holds→first}
use Rattle.checks.proofs.Ranges.{below}
use Rattle.limits.specs.declared.Table.{Table}
use Rattle.limits.specs.Tighter.{NowhereTighter}
use Rattle.limits.proofs.TighterLaws.{later_takes, sooner_asks, sooner_reports}
use Rattle.phases.specs.Phases.{clutch_order, order_of, device_limit, phase_limit, latest_take, earliest_ask, plain_delay, error_delay}
use Rattle.phases.proofs.PhaseLaws.{orders}
use Rattle.shift.specs.declared.State.{State}
use Rattle.shift.specs.Readings.{Reading}
use Rattle.shift.specs.declared.Step.{Step}
use Rattle.shift.specs.declared.Step.TheVariants.{FromNeutral, GearToGear, ToNeutral, Deliver, DeviceGood, DeviceFailed, EngineWaits, Take, AskClutch, RaiseError, Finish, Tick, Reset}
use Rattle.shift.specs.Steps.{good_bound, failed_bound}
use Rattle.shift.specs.Answers.{checks, guard, led}
use Rattle.shift.specs.Runs.{run}
use Rattle.promises.proofs.Runs.{each_step, went_on}

module _ (t u : Table) (l : NowhereTighter t u) where
  -- the limits by order, and of a tick by stage
  device_limits : (o : ℕ) → o < 7 → device_limit t o ≤ device_limit u o
  device_limits = below _ 7 (omega arith)

  phase_limits : (o : ℕ) → o < 7 → phase_limit t o ≤ phase_limit u o
  phase_limits = below _ 7 (omega arith)

  latest_takes : (o : ℕ) → o < 7 → latest_take t o ≤ latest_take u o
  latest_takes = let e = later_takes t u l in below _ 7 (omega arith)

  earliest_asks : (o : ℕ) → o < 7 → earliest_ask u o ≤ earliest_ask t o
  earliest_asks = let e = sooner_asks t u l in below _ 7 (omega arith)

  plain_delays : (o : ℕ) → o < 7 → plain_delay u o ≤ plain_delay t o
  plain_delays = let e = sooner_reports t u l in below _ 7 (omega arith)

  error_delays : (o : ℕ) → o < 7 → error_delay u o ≤ error_delay t o
  error_delays = let e = sooner_reports t u l in below _ 7 (omega arith)

  -- a report that is not before a bound is not before a lesser one
  reports : (b : Bool) (x y c : ℕ) → y ≤ x → T (leb (cond b x 0) c) → T (leb (cond b y 0) c)
  reports true x y c h k = omega (arith, tests)
  reports false x y c h k = k

  stage_limits :
      (d e : ℕ) → d ≤ e → (g : ℕ) → g < 6
      → get_or (0 ∷ t.channel_dl ∷ d ∷ t.channel_dl ∷ []) g 0 ≤ get_or (0 ∷ u.channel_dl ∷ e ∷ u.channel_dl ∷ []) g 0
  stage_limits d e h = below _ 6 (omega arith)

  module _ (s : State) where
    -- what the first table checks of a step, the second checks
    kept : (x : Step) → Holds (checks t s (Ok x)) → Holds (checks u s (Ok x))
    kept FromNeutral h = h
    kept GearToGear h = h
    kept ToNeutral h = h
    kept Deliver h = h
    kept DeviceGood h =
        let o = orders s.phase (omega (arith, tests)) in
        let d = plain_delays (order_of s.phase) o in
        let e = reports (clutch_order s.phase) (good_bound t s) (good_bound u s) s.clock (omega arith) h.1.1.1.1.1.1.0 in
        omega (arith, tests)
    kept DeviceFailed h =
        let o = orders s.phase (omega (arith, tests)) in
        let d = error_delays (order_of s.phase) o in
        let e = reports (clutch_order s.phase) (failed_bound t s) (failed_bound u s) s.clock (omega arith) h.1.1.1.1.1.1.1.0 in
        omega (arith, tests)
    kept EngineWaits h = h
    kept Take h =
        let o = orders s.phase (omega (arith, tests)) in
        omega (arith, tests, latest_takes (order_of s.phase) o)
    kept AskClutch h =
        let o = orders s.phase (omega (arith, tests)) in
        omega (arith, tests, earliest_asks (order_of s.phase) o)
    kept RaiseError h = h
    kept Finish h = h
    kept (Tick n) h =
        let o = orders s.phase (omega (arith, tests)) in
        let d = device_limit t (order_of s.phase) in
        let e = device_limit u (order_of s.phase) in
        let g = stage_limits d e (device_limits (order_of s.phase) o) s.stage (omega (arith, tests)) in
        omega (arith, tests, phase_limits (order_of s.phase) o)
    kept Reset h = h

    accepts : (r : Reading) → guard t s r ≡ 0 → guard u s r ≡ 0
    accepts = each_step (λ r. guard u s r ≡ 0) t s (λ x h. holds→first (checks u s (Ok x)) (kept x h))

  pub same_run : (s : State) (rs : List Reading) → (run t s rs).number ≡ 0 → run u s rs ≡ run t s rs
  same_run s [] e = refl
  same_run s (r ∷ rs) e =
      let w = went_on (guard t s r) _ s (run t (led s r) rs) e in
      rw (w.0, accepts s r w.0, same_run (led s r) rs w.1)
