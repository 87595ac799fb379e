-- Our guard and our excess with the limits that don't apply left out, which compute where phase and stage are known.
-- Assumes nothing.
use mathlib.Core.Path.{◌≡◌, refl, ap, ◌∙◌}
use mathlib.Core.Bool.{Bool, true, false, not, cond, ◌&&◌, ◌||◌}
use mathlib.Core.List.{List, [], ◌∷◌, ◌++◌}
use Prim.Native.Nat.{ℕ, ◌+◌, ◌-◌}
use native.Mathlib.Omega.{arith}
use lib.Dec.{T, leb, leb-zero, leb→le}
use Rattle.std.specs.Prelude.{Ok}
use Rattle.checks.specs.Checks.{Check, ◌!◌, first}
use Rattle.checks.proofs.Checks.{within, at_most}
use Rattle.checks.proofs.Tests.{left, right}
use Rattle.limits.specs.declared.Table.{Table}
use Rattle.phases.specs.Phases.{unfinished, engine, clutch_order}
use Rattle.shift.specs.declared.State.{State}
use Rattle.shift.specs.declared.Step.{Step}
use Rattle.shift.specs.declared.Step.TheVariants.{FromNeutral, GearToGear, ToNeutral, Deliver, DeviceGood, DeviceFailed, EngineWaits, Take, AskClutch, RaiseError, Finish, Tick, Reset}
use Rattle.shift.specs.States.{working, good, waiting}
use Rattle.shift.specs.Steps.{allowed, shifts_in, in_engine, in_device, in_tick_time, good_bound, failed_bound, take_bound, ask_bound, stage_bound, phase_bound, limited}
use Rattle.shift.specs.Excess.{excess_by}
use Rattle.shift.specs.Answers.{listed, guard, excess}
use Rattle.shift.proofs.ExcessLaws.{none_below_9}
use Rattle.manual.specs.Ticks.{past_else, first_past, refusing}
use Rattle.manual.proofs.GuardLaws.{past_by, held, carries, alone}

-- ---- the guard

-- x ≤ y, where it is asked for
abbrev asked : Bool → ℕ → ℕ → Bool
asked b x y = not b || leb x y

held_asked : (b : Bool) (x y : ℕ) → leb (cond b x 0) y ≡ asked b x y
held_asked true x y = refl
held_asked false x y = leb-zero y

-- by how much a tick to `now` is past the last clock, past the limit of the channel or the device, past that of the phase
abbrev past_clock : ℕ → ℕ
past_clock now = past_by true now 4294967295

abbrev past_stage : Table → State → ℕ → ℕ
past_stage t s now = past_by (limited s) now (stage_bound t s)

abbrev past_phase : Table → State → ℕ → ℕ
past_phase t s now = past_by (unfinished s.phase) now (phase_bound t s)

-- a clutch's report no earlier than a bound
abbrev asked_report : State → ℕ → List Check
asked_report s bound = (asked (clutch_order s.phase) bound s.clock ! 9) ∷ []

abbrev pub plainly : Table → State → Step → List Check
plainly t s FromNeutral = allowed t s FromNeutral
plainly t s GearToGear = allowed t s GearToGear
plainly t s ToNeutral = allowed t s ToNeutral
plainly t s Deliver = allowed t s Deliver
plainly t s DeviceGood = shifts_in s working ++ asked_report s (good_bound t s)
plainly t s DeviceFailed = shifts_in s working ++ (in_device s ++ asked_report s (failed_bound t s))
plainly t s EngineWaits = allowed t s EngineWaits
plainly t s Take = shifts_in s good ++ ((asked (engine s.phase) s.clock (take_bound t s) ! 10) ∷ [])
plainly t s AskClutch = allowed t s AskClutch
plainly t s RaiseError = allowed t s RaiseError
plainly t s Finish = allowed t s Finish
plainly t s (Tick n) =
    let now = s.clock + n in
    refusing 13 (past_clock now ∷ []) ++ (refusing 12 (past_stage t s now ∷ []) ++ refusing 11 (past_phase t s now ∷ []))
plainly t s Reset = allowed t s Reset

pub plain : (t : Table) (s : State) (x : Step) → allowed t s x ≡ plainly t s x
plain t s FromNeutral = refl
plain t s GearToGear = refl
plain t s ToNeutral = refl
plain t s Deliver = refl
plain t s DeviceGood = rw (held_asked (clutch_order s.phase) (good_bound t s) s.clock)
plain t s DeviceFailed = rw (held_asked (clutch_order s.phase) (failed_bound t s) s.clock)
plain t s EngineWaits = refl
plain t s Take = rw (held_asked (engine s.phase) s.clock (take_bound t s))
plain t s AskClutch = refl
plain t s RaiseError = refl
plain t s Finish = refl
plain t s (Tick n) =
    rw (
      held true (s.clock + n) 4294967295,
      held (limited s) (s.clock + n) (stage_bound t s),
      held (unfinished s.phase) (s.clock + n) (phase_bound t s),
    )
plain t s Reset = refl

-- ---- the excess

-- all of them hold
abbrev holds : List Check → Bool
holds [] = true
holds (c ∷ cs) = c.ok && holds cs

-- this much, where what is asked before any time holds
abbrev where_held : List Check → ℕ → ℕ
where_held cs over = cond (holds cs) over 0

abbrev pub plain_over : Table → State → Step → ℕ
plain_over t s FromNeutral = 0
plain_over t s GearToGear = 0
plain_over t s ToNeutral = 0
plain_over t s Deliver = 0
plain_over t s DeviceGood = where_held (listed s ++ shifts_in s working) (past_by (clutch_order s.phase) (good_bound t s) s.clock)
plain_over t s DeviceFailed =
    where_held (listed s ++ (shifts_in s working ++ in_device s)) (past_by (clutch_order s.phase) (failed_bound t s) s.clock)
plain_over t s EngineWaits = 0
plain_over t s Take = where_held (listed s ++ shifts_in s good) (past_by (engine s.phase) s.clock (take_bound t s))
plain_over t s AskClutch = where_held (listed s ++ (shifts_in s waiting ++ in_engine s)) (ask_bound t s - s.clock)
plain_over t s RaiseError = 0
plain_over t s Finish = 0
plain_over t s (Tick n) =
    let now = s.clock + n in
    where_held (listed s) (first_past (past_clock now ∷ past_stage t s now ∷ past_phase t s now ∷ []))
plain_over t s Reset = 0

-- the excess of a step by the number that it is refused with; before `early` it is too early, and it leads to `now`
module _ (t : Table) (s : State) (early now : ℕ) where
  abbrev carried : ℕ → ℕ
  carried = excess_by t s early now

  -- numbers below 9 carry none
  quiet : (cs : List Check) → T (within 0 8 cs) → carried (first cs) ≡ 0
  quiet cs h =
      let l = at_most 8 cs h in
      none_below_9 t s early now (first cs) (omega arith)

  turned : (b hs : Bool) (k m over : ℕ) → carried k ≡ 0 → carried m ≡ cond hs over 0 → carried (cond b m k) ≡ cond (b && hs) over 0
  turned true hs k m over e f = f
  turned false hs k m over e f = e

  behind : (cs rest : List Check) → T (within 0 8 cs) → carried (first (cs ++ rest)) ≡ where_held cs (carried (first rest))
  behind [] rest h = refl
  behind (c ∷ cs) rest h =
      let own = left (leb 0 c.number && leb c.number 8) (within 0 8 cs) h in
      let l = leb→le c.number 8 (right (leb 0 c.number) (leb c.number 8) own) in
      turned c.ok (holds cs) c.number (first (cs ++ rest)) (carried (first rest))
      (none_below_9 t s early now c.number (omega arith))
      (behind cs rest (right (leb 0 c.number && leb c.number 8) (within 0 8 cs) h))

  -- what is asked before any time, then one time
  timed :
      (cs : List Check) (k : ℕ) (b : Bool) (x y : ℕ) → T (within 0 8 cs) → carried k ≡ x - y
      → carried (first (cs ++ ((leb (cond b x 0) y ! k) ∷ []))) ≡ where_held cs (past_by b x y)
  timed cs k b x y h e =
      behind cs ((leb (cond b x 0) y ! k) ∷ []) h ∙ ap (where_held cs) (carries carried k 0 b x y e ∙ alone (past_by b x y))

pub over : (t : Table) (s : State) (x : Step) → excess t s (Ok x) (guard t s (Ok x)) ≡ plain_over t s x
over t s FromNeutral = quiet t s 0 s.clock (listed s ++ allowed t s FromNeutral) tt
over t s GearToGear = quiet t s 0 s.clock (listed s ++ allowed t s GearToGear) tt
over t s ToNeutral = quiet t s 0 s.clock (listed s ++ allowed t s ToNeutral) tt
over t s Deliver = quiet t s 0 s.clock (listed s ++ allowed t s Deliver) tt
over t s DeviceGood =
    let early = good_bound t s in
    timed t s early s.clock (listed s ++ shifts_in s working) 9 (clutch_order s.phase) early s.clock tt refl
over t s DeviceFailed =
    let early = failed_bound t s in
    timed t s early s.clock (listed s ++ (shifts_in s working ++ in_device s)) 9 (clutch_order s.phase) early s.clock tt refl
over t s EngineWaits = quiet t s 0 s.clock (listed s ++ allowed t s EngineWaits) tt
over t s Take = timed t s 0 s.clock (listed s ++ shifts_in s good) 10 (engine s.phase) s.clock (take_bound t s) tt refl
over t s AskClutch =
    timed t s (ask_bound t s) s.clock (listed s ++ (shifts_in s waiting ++ in_engine s)) 9 true (ask_bound t s) s.clock tt refl
over t s RaiseError = quiet t s 0 s.clock (listed s ++ allowed t s RaiseError) tt
over t s Finish = quiet t s 0 s.clock (listed s ++ allowed t s Finish) tt
over t s (Tick n) =
    let now = s.clock + n in
    let carry = excess_by t s 0 now in
    let last = (leb (cond (unfinished s.phase) now 0) (phase_bound t s) ! 11) ∷ [] in
    let later = (leb (cond (limited s) now 0) (stage_bound t s) ! 12) ∷ last in
    behind t s 0 now (listed s) (in_tick_time t s now) tt
    ∙ ap (where_held (listed s))
    (carries carry 13 (first later) true now 4294967295 refl
    ∙ ap (past_else (past_clock now))
    (carries carry 12 (first last) (limited s) now (stage_bound t s) refl
    ∙ ap (past_else (past_stage t s now)) (carries carry 11 0 (unfinished s.phase) now (phase_bound t s) refl)))
over t s Reset = quiet t s 0 s.clock (listed s ++ allowed t s Reset) tt
