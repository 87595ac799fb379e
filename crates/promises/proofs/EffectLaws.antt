-- The two definitions of an effect are one: a permitted step leads to the state that is so described, and to no other.
-- Assumes nothing.
use mathlib.Core.Path.{◌≡◌, refl, sym, subst, ◌∙◌}
use mathlib.Core.Logic.{inl, inr, ◌↔◌}
use mathlib.Core.Bool.{cond}
use mathlib.Core.List.{[], ◌∷◌}
use Prim.Native.Nat.{ℕ, ◌+◌, ◌≤◌, ◌<◌}
use native.Mathlib.Omega.{arith}
use lib.Dec.{eqb}
use borrow.Author.Tests.{eqb-true, eqb-false, ne_eqb}
use Rattle.std.specs.Prelude.{Ok, Err}
use Rattle.checks.specs.Conditions.{OneOf}
use Rattle.checks.proofs.Tests.{case}
use Rattle.checks.proofs.Ranges.{from}
use Rattle.limits.specs.declared.Table.{Table}
use Rattle.phases.specs.Phases.{order_of, next_of, clutch_of, unfinished}
use Rattle.phases.specs.ByPhase.{set_phases, release_phases, engine_phases, next_phase, clutch_phase}
use Rattle.phases.proofs.PhaseLaws.{next_listed, clutch_listed}
use Rattle.phases.proofs.ByPhaseLaws.{among, each, engine_of, set_in, release_in, next_in, clutch_in}
use Rattle.shift.specs.declared.State.{State}
use Rattle.shift.specs.Readings.{Reading}
use Rattle.shift.specs.declared.Misread.TheVariants.{WrongCode, WrongAmount}
use Rattle.shift.specs.declared.Step.{Step}
use Rattle.shift.specs.declared.Step.TheVariants.{FromNeutral, GearToGear, ToNeutral, Deliver, DeviceGood, DeviceFailed, EngineWaits, Take, AskClutch, RaiseError, Finish, Tick, Reset}
use Rattle.shift.specs.States.{entered}
use Rattle.shift.specs.Steps.{box_taken, effect}
use Rattle.shift.specs.Answers.{led}
use Rattle.shift.proofs.StepLaws.{shifting}
use Rattle.promises.specs.Allowed.{Shifting, Allowed, Permitted}
use Rattle.promises.specs.Effects.{Entered, BoxTaken, BoxKept, Staged, Into, Effect, Makes}
use Rattle.promises.proofs.Boxes.{side}

-- ---- entering a phase, with this request time and this box
abbrev asked : ℕ → ℕ → State → State
asked r box s = record {
  clock = s.clock;
  gear_box = box;
  phase = s.phase;
  phase_time = s.phase_time;
  stage = s.stage;
  stage_time = s.stage_time;
  request_time = r;
  failed_phase = s.failed_phase;
}

module _ (p r box : ℕ) (s : State) where
  enters : Entered s (entered p (asked r box s))
  enters = record {
    phase_time = refl;
    stage_time = refl;
    sent = λ z. shifting p 1 z.0 z.1;
    none = each (λ q. ◌≡◌ {A = ℕ} (cond (unfinished q) 1 0) 0) (0 ∷ 22 ∷ 23 ∷ []) (omega arith) p;
    rest = λ e. rw e;
    failed = λ e. rw e;
    cleared = λ n. rw (ne_eqb p 23 n);
    clock = refl;
  }

  goes_into : 1 ≤ p → Into p r s (entered p (asked r box s))
  goes_into l = (refl, rw (ne_eqb p 0 (omega arith)), enters)

-- ---- a new clock, stage and stage time
stages : (clock stage time : ℕ) (s : State) → Staged clock stage time s (record {
  clock = clock;
  gear_box = s.gear_box;
  phase = s.phase;
  phase_time = s.phase_time;
  stage = stage;
  stage_time = time;
  request_time = s.request_time;
  failed_phase = s.failed_phase;
})
stages clock stage time s =
    (refl, refl, refl, record { box = refl; phase = refl; phase_time = refl; request = refl; failed = refl })

-- ---- and no other state is so
module _ (s a b : State) where
  same :
      a.clock ≡ b.clock → a.gear_box ≡ b.gear_box → a.phase ≡ b.phase → a.phase_time ≡ b.phase_time
      → a.stage ≡ b.stage → a.stage_time ≡ b.stage_time → a.request_time ≡ b.request_time
      → a.failed_phase ≡ b.failed_phase
      → a ≡ b
  same c g p pt st stt r f = λ i. record {
    clock = c i;
    gear_box = g i;
    phase = p i;
    phase_time = pt i;
    stage = st i;
    stage_time = stt i;
    request_time = r i;
    failed_phase = f i;
  }

  module _ (x : Entered s a) (y : Entered s b) (e : a.phase ≡ b.phase) where
    same_stage : a.phase ≤ 23 → a.stage ≡ b.stage
    same_stage l =
        among (0 ∷ 22 ∷ 23 ∷ []) a.phase
        (λ o. x.none o ∙ sym (y.none (subst (OneOf (0 ∷ 22 ∷ 23 ∷ [])) e o)))
        (λ n.
        let i : ¬ (a.phase ≡ 0) = λ q. n (inl q) in
        let j : ¬ (a.phase ≡ 22) = λ q. n (inr (inl q)) in
        let k : ¬ (a.phase ≡ 23) = λ q. n (inr (inr (inl q))) in
        x.sent (omega arith) ∙ sym (y.sent (omega arith)))

    same_failed : a.failed_phase ≡ b.failed_phase
    same_failed =
        case (eqb a.phase 23)
        (λ c. let q = eqb-true a.phase 23 c in x.failed q ∙ sym (y.failed (sym e ∙ q)))
        (λ c. let n = eqb-false a.phase 23 c in x.cleared n ∙ sym (y.cleared (λ q. n (e ∙ q))))

    one_entered : a.phase ≤ 23 → a.request_time ≡ b.request_time → a.gear_box ≡ b.gear_box → a ≡ b
    one_entered l r g =
        same
        (x.clock ∙ sym y.clock)
        g
        e
        (x.phase_time ∙ sym y.phase_time)
        (same_stage l)
        (x.stage_time ∙ sym y.stage_time)
        r
        same_failed

  one_into : (p r : ℕ) → p ≤ 23 → Into p r s a → Into p r s b → a.gear_box ≡ b.gear_box → a ≡ b
  one_into p r l x y = one_entered x.2 y.2 (x.0 ∙ sym y.0) (rw x.0 l) (x.1 ∙ sym y.1)

  one_kept : (p r : ℕ) → p ≤ 23 → Into p r s a × BoxKept s a → Into p r s b × BoxKept s b → a ≡ b
  one_kept p r l x y = one_into p r l x.0 y.0 (x.1 ∙ sym y.1)

  one_taken : BoxTaken s a → BoxTaken s b → a.gear_box ≡ b.gear_box
  one_taken x y =
      among set_phases s.phase
      (λ o. x.in_gear o ∙ sym (y.in_gear o))
      (λ n.
      among release_phases s.phase
      (λ o. x.neutral o ∙ sym (y.neutral o))
      (λ m. x.kept n m ∙ sym (y.kept n m)))

  one_staged : (clock stage time : ℕ) → Staged clock stage time s a → Staged clock stage time s b → a ≡ b
  one_staged clock stage time x y =
      same
      (x.0 ∙ sym y.0)
      (x.3.box ∙ sym y.3.box)
      (x.3.phase ∙ sym y.3.phase)
      (x.3.phase_time ∙ sym y.3.phase_time)
      (x.1 ∙ sym y.1)
      (x.2 ∙ sym y.2)
      (x.3.request ∙ sym y.3.request)
      (x.3.failed ∙ sym y.3.failed)

-- ---- a permitted step leads to a state that is so described
next_begun : (p : ℕ) → 1 ≤ p → p < 22 → 1 ≤ next_of p
next_begun = from _ 1 21 (omega arith)

clutch_begun : (p : ℕ) → OneOf engine_phases p → 1 ≤ clutch_of p
clutch_begun = each _ engine_phases (omega arith)

-- the box of a take, by the order's phases
takes : (s s' : State) → Shifting s → s'.gear_box ≡ box_taken s → BoxTaken s s'
takes s s' z e = record {
  in_gear = λ o. e ∙ each (λ p. side s.gear_box p ≡ 1) set_phases (refl, (refl, (refl, (refl, (refl, tt))))) s.phase o;
  neutral = λ o. e ∙ each (λ p. side s.gear_box p ≡ 0) release_phases (refl, (refl, (refl, (refl, tt)))) s.phase o;
  kept = λ n m.
      let no-set = ne_eqb (order_of s.phase) 5 (λ q. n (set_in s.phase z.0 (omega arith) q)) in
      let no-release = ne_eqb (order_of s.phase) 6 (λ q. m (release_in s.phase z.0 (omega arith) q)) in
      e ∙ rw (no-set, no-release);
}

module _ (t : Table) (s : State) where
  described : (x : Step) → Allowed t s x → Effect s x (effect s x)
  described FromNeutral h = (goes_into 1 s.clock s.gear_box s (omega arith), refl)
  described GearToGear h = (goes_into 6 s.clock s.gear_box s (omega arith), refl)
  described ToNeutral h = (goes_into 17 s.clock s.gear_box s (omega arith), refl)
  described Deliver h = stages s.clock 2 s.clock s
  described DeviceGood h = stages s.clock 3 s.clock s
  described DeviceFailed h = stages s.clock 4 s.clock s
  described EngineWaits h = stages s.clock 5 s.clock s
  described Take h =
      let p = s.phase in
      let z = h.0 in
      let g = goes_into (next_of p) s.request_time (box_taken s) s (next_begun p z.0 (omega arith)) in
      ((next_in p z.0 (omega arith), g.1, g.2), takes s (effect s Take) z refl)
  described AskClutch h =
      let p = s.phase in
      let z = engine_of p h.0 in
      let g = goes_into (clutch_of p) s.request_time s.gear_box s (clutch_begun p h.0) in
      ((clutch_in p z.1 (omega arith), g.1, g.2), refl)
  described RaiseError h = (goes_into 23 s.request_time s.gear_box s (omega arith), refl)
  described Finish h = ((refl, refl, enters 0 0 s.gear_box s), refl)
  described (Tick n) h = stages (s.clock + n) s.stage s.stage_time s
  described Reset h = ((refl, refl, enters 0 0 s.gear_box s), refl)

  -- of which there is one
  one : (x : Step) → Allowed t s x → (a b : State) → Effect s x a → Effect s x b → a ≡ b
  one FromNeutral h a b = one_kept s a b 1 s.clock (omega arith)
  one GearToGear h a b = one_kept s a b 6 s.clock (omega arith)
  one ToNeutral h a b = one_kept s a b 17 s.clock (omega arith)
  one Deliver h a b = one_staged s a b s.clock 2 s.clock
  one DeviceGood h a b = one_staged s a b s.clock 3 s.clock
  one DeviceFailed h a b = one_staged s a b s.clock 4 s.clock
  one EngineWaits h a b = one_staged s a b s.clock 5 s.clock
  one Take h a b = λ x y.
      let p = s.phase in
      let z = h.0 in
      let e = next_in p z.0 (omega arith) in
      let l = next_listed p (omega arith) in
      one_into s a b (next_phase p) s.request_time (omega arith) x.0 y.0 (one_taken s a b x.1 y.1)
  one AskClutch h a b =
      let p = s.phase in
      let z = engine_of p h.0 in
      let e = clutch_in p z.1 (omega arith) in
      let l = clutch_listed p (omega arith) in
      one_kept s a b (clutch_phase p) s.request_time (omega arith)
  one RaiseError h a b = one_kept s a b 23 s.request_time (omega arith)
  one Finish h a b = one_kept s a b 0 0 (omega arith)
  one (Tick n) h a b = one_staged s a b (s.clock + n) s.stage s.stage_time
  one Reset h a b = one_kept s a b 0 0 (omega arith)

  meets : (x : Step) → Allowed t s x → (s' : State) → (s' ≡ effect s x) ↔ Effect s x s'
  meets x h s' = (λ e. subst (Effect s x) (sym e) (described x h), λ m. one x h s' (effect s x) m (described x h))

  pub effects : (r : Reading) → Permitted t s r → (s' : State) → (s' ≡ led s r) ↔ Makes s r s'
  effects (Ok x) h = meets x h.1
  effects (Err WrongCode) h = absurd h
  effects (Err WrongAmount) h = absurd h
