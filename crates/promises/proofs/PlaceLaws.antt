-- What the checks of phases and times say in words, where they pass and where they fail.
-- Assumes nothing.
use mathlib.Core.Path.{◌≡◌}
use mathlib.Core.Logic.{◌⊎◌, inl, inr}
use mathlib.Core.Bool.{Bool, true, false, not, cond}
use mathlib.Core.List.{[], ◌∷◌}
use Prim.Native.Nat.{ℕ, ◌+◌, ◌≤◌, ◌<◌}
use native.Mathlib.Omega.{arith}
use lib.Dec.{T, leb, eqb, leb→le}
use borrow.Author.Tests.{le-leb, eqb-true, eqb-false}
use Rattle.checks.specs.Conditions.{OneOf}
use Rattle.checks.proofs.Tests.{tests, case, passed, passes, right}
use Rattle.limits.specs.declared.Table.{Table}
use Rattle.phases.specs.Phases.{order_of, unfinished, engine, clutch_order, device_limit}
use Rattle.phases.specs.ByPhase.{device_limit_in, phase_limit_in, ex_in}
use Rattle.phases.proofs.PhaseLaws.{ordered, unfinished_in}
use Rattle.phases.proofs.ByPhaseLaws.{among, each, device_limit_in_lem, phase_limit_in_lem, ex_in_lem, engine_in, engine_of, open_or_close_in, open_or_close_of}
use Rattle.shift.specs.declared.State.{State}
use Rattle.shift.specs.Steps.{take_bound, stage_bound, phase_bound, limited}
use Rattle.shift.proofs.StepLaws.{by_channel, limits, limited_in, shifting}
use Rattle.promises.specs.Allowed.{Shifting, Engine, OpenOrClose}

pub passing : (b : Bool) → ¬ T (not b) → T b
passing true n = tt
passing false n = absurd (n tt)

-- ---- the engine phases by their numbers, and by their orders
module _ (s : State) where
  pub engine_phase : Shifting s → order_of s.phase ≤ 2 → Engine s
  engine_phase z m =
      let l = ordered s.phase z.0 (omega arith) in
      engine_in s.phase z.0 (omega arith) (rw (le-leb 1 (order_of s.phase) l, le-leb (order_of s.phase) 2 m) tt)

  pub engine_order : Engine s → (order_of s.phase ≤ 2) × (1 ≤ s.phase) × (s.phase ≤ 21)
  engine_order z =
      let o = engine_of s.phase z in
      (leb→le (order_of s.phase) 2 (right (leb 1 (order_of s.phase)) (leb (order_of s.phase) 2) o.0), o.1, o.2)

-- ---- the tests of the times
abbrev pub within_ex : Table → State → Bool
within_ex t s = leb (cond (engine s.phase) s.clock 0) (take_bound t s)

abbrev pub within_report : State → ℕ → Bool
within_report s bound = leb (cond (clutch_order s.phase) bound 0) s.clock

abbrev pub within_stage : Table → State → ℕ → Bool
within_stage t s now = leb (cond (limited s) now 0) (stage_bound t s)

abbrev pub within_phase : Table → State → ℕ → Bool
within_phase t s now = leb (cond (unfinished s.phase) now 0) (phase_bound t s)

-- ---- the delays of the clutch: good and failed not before a bound
module _ (s : State) (bound : ℕ) where
  pub in_report_time_lem : T (within_report s bound) → OpenOrClose s → bound ≤ s.clock
  in_report_time_lem h z =
      let o = open_or_close_of s.phase z in
      let l = rw (passed (clutch_order s.phase) o.0) at h in
      omega (arith, tests)

  pub too_early : Shifting s → T (not (within_report s bound)) → OpenOrClose s × (s.clock < bound)
  too_early z h =
      case (clutch_order s.phase)
      (λ e.
      let l = rw e at h in
      (open_or_close_in s.phase z.0 (omega arith) (passes (clutch_order s.phase) e), omega (arith, tests)))
      (λ e. let l = rw e at h in absurd (omega (arith, tests)))

module _ (t : Table) (s : State) where
  -- ---- the EX of a take
  pub in_take_time_lem :
      T (within_ex t s) → Engine s → s.clock ≤ s.phase_time + ex_in t s.phase
  in_take_time_lem h z =
      let o = engine_of s.phase z in
      let ex = ex_in_lem t s.phase o.1 (omega arith) in
      let l = rw (passed (engine s.phase) o.0) at h in
      omega (arith, tests)

  pub too_late :
      Shifting s → T (not (within_ex t s))
      → Engine s × (s.phase_time + ex_in t s.phase < s.clock)
  too_late z h =
      let ex = ex_in_lem t s.phase z.0 (omega arith) in
      case (engine s.phase)
      (λ e.
      let l = rw e at h in
      (engine_in s.phase z.0 (omega arith) (passes (engine s.phase) e), omega (arith, tests)))
      (λ e. let l = rw e at h in absurd (omega (arith, tests)))

  -- ---- the limits of a tick, by stage and by phase
  on_channel : 1 ≤ s.stage → s.stage ≤ 3 → ¬ (s.stage ≡ 2) → OneOf (1 ∷ 3 ∷ []) s.stage
  on_channel l m n =
      among (1 ∷ 3 ∷ []) s.stage
      (λ o. o)
      (λ o.
      let i : ¬ (s.stage ≡ 1) = λ e. o (inl e) in
      let j : ¬ (s.stage ≡ 3) = λ e. o (inr (inl e)) in
      absurd (omega arith))

  module _ (now : ℕ) where
    pub in_channel_time :
        T (within_stage t s now) → Shifting s → OneOf (1 ∷ 3 ∷ []) s.stage
        → now ≤ s.stage_time + t.channel_dl
    in_channel_time h z o =
        let g = each (λ k. (1 ≤ k) × (k ≤ 3) × ¬ (k ≡ 2)) (1 ∷ 3 ∷ []) (omega arith) s.stage o in
        let held = limits s now z.0 z.1 g.0 g.1 in
        let ch = by_channel t.channel_dl (device_limit t (order_of s.phase)) s.stage g.0 (omega arith) g.2 in
        omega (arith, tests)

    pub in_device_time :
        T (within_stage t s now) → Shifting s → s.stage ≡ 2
        → now ≤ s.stage_time + device_limit_in t s.phase
    in_device_time h z e =
        let held = limits s now z.0 z.1 (omega arith) (omega arith) in
        let dev = device_limit_in_lem t s.phase z.0 (omega arith) in
        let l = rw (held, e) at h in
        omega (arith, tests)

    pub past_stage :
        T (not (within_stage t s now))
        → Shifting s
        × ((OneOf (1 ∷ 3 ∷ []) s.stage × (s.stage_time + t.channel_dl < now))
        ⊎ ((s.stage ≡ 2) × (s.stage_time + device_limit_in t s.phase < now)))
    past_stage h =
        case (limited s)
        (λ e.
        let z = limited_in s (passes (limited s) e) in
        let l = rw e at h in
        case (eqb s.stage 2)
        (λ f.
        let g = eqb-true s.stage 2 f in
        let dev = device_limit_in_lem t s.phase z.0 (omega arith) in
        let m = rw g at l in
        ((z.0, z.1), inr (g, omega (arith, tests))))
        (λ f.
        let n = eqb-false s.stage 2 f in
        let ch = by_channel t.channel_dl (device_limit t (order_of s.phase)) s.stage z.2 (omega arith) n in
        ((z.0, z.1), inl (on_channel z.2 z.3 n, omega (arith, tests)))))
        (λ e. let l = rw e at h in absurd (omega (arith, tests)))

    pub in_phase_time :
        T (within_phase t s now) → Shifting s → now ≤ s.phase_time + phase_limit_in t s.phase
    in_phase_time h z =
        let held = shifting s.phase now z.0 z.1 in
        let lim = phase_limit_in_lem t s.phase z.0 (omega arith) in
        omega (arith, tests)

    pub past_phase :
        T (not (within_phase t s now))
        → Shifting s × (s.phase_time + phase_limit_in t s.phase < now)
    past_phase h =
        case (unfinished s.phase)
        (λ e.
        let z = unfinished_in s.phase (passes (unfinished s.phase) e) in
        let lim = phase_limit_in_lem t s.phase z.0 (omega arith) in
        let l = rw e at h in
        (z, omega (arith, tests)))
        (λ e. let l = rw e at h in absurd (omega (arith, tests)))
