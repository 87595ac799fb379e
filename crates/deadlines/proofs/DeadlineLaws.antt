-- The deadline is the last clock that a tick may reach; no tick moves it, and what it is made of moves only where a phase is entered.
-- Assumes nothing.
use mathlib.Core.Path.{◌≡◌, refl, ap, subst}
use mathlib.Core.Bool.{Bool, true, false, cond}
use mathlib.Core.List.{[], ◌∷◌}
use Prim.Native.Nat.{ℕ, ◌-◌, ◌≤◌, ◌<◌}
use native.Mathlib.Decide.{dec_lt}
use native.Mathlib.Omega.{arith}
use lib.Dec.{T, leb, leb→le, le→leb}
use borrow.Author.Tests.{le-leb, lt-leb, leb-true, leb-false}
use Rattle.checks.specs.Checks.{first, ◌!◌}
use Rattle.checks.proofs.Tests.{case, passes}
use Rattle.limits.specs.declared.Table.{Table}
use Rattle.phases.specs.Phases.{order_of, device_limit, unfinished}
use Rattle.shift.specs.declared.State.{State}
use Rattle.shift.specs.declared.Step.{Step}
use Rattle.shift.specs.declared.Step.TheVariants.{FromNeutral, GearToGear, ToNeutral, Deliver, DeviceGood, DeviceFailed, EngineWaits, Take, AskClutch, RaiseError, Finish, Tick, Reset}
use Rattle.shift.specs.Steps.{limited, stage_bound, phase_bound, in_tick_time, ticked, effect}
use Rattle.shift.specs.Excess.{excess_by}
use Rattle.deadlines.specs.Deadlines.{lesser, phase_end_of, stage_end_of, deadline, late_by, over_by, enters}

-- ---- the lesser of two
module _ (a b n : ℕ) where
  below_both : n ≤ lesser a b → (n ≤ a) × (n ≤ b)
  below_both h =
      elim (dec_lt b a) [
        | yes l ↦ let k : n ≤ b = rw (lt-leb a b l) at h in (omega arith, k)
        | no l ↦ let k : n ≤ a = rw (le-leb a b (omega arith)) at h in (k, omega arith)
      ]

  both_below : n ≤ a → n ≤ b → n ≤ lesser a b
  both_below h k =
      elim (dec_lt b a) [
        | yes l ↦ rw (lt-leb a b l) k
        | no l ↦ rw (le-leb a b (omega arith)) h
      ]

-- ---- a clock against the three limits, of which the second and the third may not apply
module _ (cap stage phase now : ℕ) where
  abbrev end : Bool → ℕ
  end u = cond u (lesser cap phase) cap

  abbrev until : Bool → Bool → ℕ
  until l u = cond l (lesser (end u) stage) (end u)

  abbrev In : Bool → Bool → Type 0
  In l u = T (leb now cap) × T (leb (cond l now 0) stage) × T (leb (cond u now 0) phase)

  in_phase : (u : Bool) → now ≤ end u → T (leb now cap) × T (leb (cond u now 0) phase)
  in_phase true h = let k = below_both cap phase now h in (le→leb now cap k.0, le→leb now phase k.1)
  in_phase false h = (le→leb now cap h, le→leb 0 phase (omega arith))

  in_all : (l u : Bool) → now ≤ until l u → In l u
  in_all true u h = let k = below_both (end u) stage now h in let p = in_phase u k.0 in (p.0, le→leb now stage k.1, p.1)
  in_all false u h = let p = in_phase u h in (p.0, le→leb 0 stage (omega arith), p.1)

  to_end : (u : Bool) → T (leb now cap) → T (leb (cond u now 0) phase) → now ≤ end u
  to_end true h k = both_below cap phase now (leb→le now cap h) (leb→le now phase k)
  to_end false h k = leb→le now cap h

  all_in : (l u : Bool) → In l u → now ≤ until l u
  all_in true u h = both_below (end u) stage now (to_end u h.0 h.2) (leb→le now stage h.1)
  all_in false u h = to_end u h.0 h.2

  -- past the second, it ends there; past the third alone, there
  stage_end : (l : Bool) → leb (cond l now 0) stage ≡ false → cond l (lesser now stage) now ≡ stage
  stage_end true b = rw b
  stage_end false b = let k = leb-false 0 stage b in absurd (omega arith)

  phase_end : (l u : Bool) → leb now cap ≡ true → leb (cond l now 0) stage ≡ true → until l u < now → end u ≡ phase
  phase_end l true a b h =
      elim (dec_lt phase now) [
        | yes k ↦ let m = leb-true now cap a in rw (lt-leb cap phase (omega arith))
        | no k ↦
            let m : now ≤ until l true = all_in l true (passes (leb now cap) a, passes (leb (cond l now 0) stage) b, le→leb now phase (omega arith)) in
            absurd (omega arith)
      ]
  phase_end l false a b h =
      let m : now ≤ until l false = all_in l false (passes (leb now cap) a, passes (leb (cond l now 0) stage) b, le→leb 0 phase (omega arith)) in
      absurd (omega arith)

-- ---- the first of three checks
none_fails : (a b c : Bool) → T a → T b → T c → first ((a ! 13) ∷ (b ! 12) ∷ (c ! 11) ∷ []) ≡ 0
none_fails true true true x y z = refl
none_fails true true false x y z = absurd z
none_fails true false c x y z = absurd y
none_fails false b c x y z = absurd x

one_fails : (a b c : Bool) → (T a → T b → T c → ⊥) → cond a (cond b 11 12) 13 ≡ first ((a ! 13) ∷ (b ! 12) ∷ (c ! 11) ∷ [])
one_fails true true true n = absurd (n tt tt tt)
one_fails true true false n = refl
one_fails true false c n = refl
one_fails false b c n = refl

never_0 : (a b : Bool) → ¬ (◌≡◌ {A = ℕ} (cond a (cond b 11 12) 13) 0)
never_0 true true e = omega arith
never_0 true false e = omega arith
never_0 false b e = omega arith

-- ---- of a table and a state
module _ (t : Table) (s : State) where
  abbrev shifting : Bool
  shifting = unfinished s.phase

  -- the three checks of a tick
  abbrev by_clock : ℕ → Bool
  by_clock now = leb now 4294967295

  abbrev by_stage : ℕ → Bool
  by_stage now = leb (cond (limited s) now 0) (stage_bound t s)

  abbrev by_phase : ℕ → Bool
  by_phase now = leb (cond shifting now 0) (phase_bound t s)

  kept : (now : ℕ) → now ≤ deadline t s → T (by_clock now) × T (by_stage now) × T (by_phase now)
  kept now = in_all 4294967295 (stage_bound t s) (phase_bound t s) now (limited s) shifting

  -- up to the deadline every tick is allowed
  pub in_time : (now : ℕ) → now ≤ deadline t s → first (in_tick_time t s now) ≡ 0
  in_time now h =
      let k = kept now h in
      none_fails (by_clock now) (by_stage now) (by_phase now) k.0 k.1 k.2

  -- past it every tick is refused, by the first of 13, 12 and 11
  pub too_late :
      (now : ℕ) → deadline t s < now → late_by (device_limit t (order_of s.phase)) t.channel_dl s now ≡ first (in_tick_time t s now)
  too_late now h =
      one_fails (by_clock now) (by_stage now) (by_phase now)
      (λ a b c.
      let l : now ≤ deadline t s = all_in 4294967295 (stage_bound t s) (phase_bound t s) now (limited s) shifting (a, b, c) in
      omega arith)

  -- and so far over
  pub so_far_over :
      (now : ℕ) → deadline t s < now
      → (let device = device_limit t (order_of s.phase) in
      let k = late_by device t.channel_dl s now in
      over_by (phase_end_of t s) device t.channel_dl s now k ≡ excess_by t s 0 now k)
  so_far_over now h =
      let end = stage_end 4294967295 (stage_bound t s) (phase_bound t s) now (limited s) in
      let phase-is = phase_end 4294967295 (stage_bound t s) (phase_bound t s) now (limited s) shifting in
      case (by_clock now)
      (λ a.
      case (by_stage now)
      (λ b. rw (a, b) (ap (λ e. now - e) (phase-is a b h)))
      (λ b. rw (a, b) (ap (λ e. now - e) (end b))))
      (λ a. rw a)

  pub fits : deadline t s ≤ 4294967295
  fits = leb→le (deadline t s) 4294967295 (kept (deadline t s) (omega arith)).0

  -- no tick moves it
  pub no_tick_moves_it : (n : ℕ) → deadline t (ticked n s) ≡ deadline t s
  no_tick_moves_it n = refl

pub late_is_refused : (device channel : ℕ) (s : State) (now : ℕ) → ¬ (late_by device channel s now ≡ 0)
late_is_refused device channel s now =
    never_0 (leb now 4294967295) (leb (cond (limited s) now 0) (stage_end_of device channel s))

-- a step that enters no phase keeps the phase and its end
pub keeps : (t : Table) (s : State) (x : Step) → enters x ≡ false → ((effect s x).phase ≡ s.phase) × (phase_end_of t (effect s x) ≡ phase_end_of t s)
keeps t s FromNeutral e = absurd (subst T e tt)
keeps t s GearToGear e = absurd (subst T e tt)
keeps t s ToNeutral e = absurd (subst T e tt)
keeps t s Deliver e = (refl, refl)
keeps t s DeviceGood e = (refl, refl)
keeps t s DeviceFailed e = (refl, refl)
keeps t s EngineWaits e = (refl, refl)
keeps t s Take e = absurd (subst T e tt)
keeps t s AskClutch e = absurd (subst T e tt)
keeps t s RaiseError e = absurd (subst T e tt)
keeps t s Finish e = absurd (subst T e tt)
keeps t s (Tick n) e = (refl, refl)
keeps t s Reset e = absurd (subst T e tt)
