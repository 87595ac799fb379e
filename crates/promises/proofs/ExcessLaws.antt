-- How far over a refused step is, in laws: the excess of `shift` is what the document's words describe, and nothing else is.
-- Assumes nothing.
use mathlib.Core.Path.{◌≡◌, refl, sym, subst, ◌∙◌}
use mathlib.Core.Logic.{inl, inr, ⊎_elim, ◌↔◌}
use mathlib.Core.Bool.{Bool, true, false, not, cond}
use mathlib.Core.List.{List, [], ◌∷◌, ◌++◌}
use Prim.Native.Nat.{ℕ, ◌+◌, ◌-◌, ◌<◌}
use native.Mathlib.Decide.{dec_lt}
use native.Mathlib.Omega.{arith}
use lib.Dec.{T, leb, le→leb, nleb→lt}
use borrow.Author.Tests.{lt-leb}
use Rattle.std.specs.Prelude.{Ok, Err}
use Rattle.checks.specs.Checks.{◌!◌}
use Rattle.checks.proofs.Checks.{within, at_most}
use Rattle.checks.proofs.Tests.{tests}
use Rattle.limits.specs.declared.Table.{Table}
use Rattle.phases.specs.Phases.{unfinished}
use Rattle.phases.proofs.ByPhaseLaws.{among, ex_in_lem}
use Rattle.shift.specs.declared.State.{State}
use Rattle.shift.specs.declared.Step.{Step}
use Rattle.shift.specs.declared.Step.TheVariants.{FromNeutral, GearToGear, ToNeutral, Deliver, DeviceGood, DeviceFailed, EngineWaits, Take, AskClutch, RaiseError, Finish, Tick, Reset}
use Rattle.shift.specs.Readings.{Reading}
use Rattle.shift.specs.declared.Misread.TheVariants.{WrongCode, WrongAmount}
use Rattle.shift.specs.Steps.{shifts_in, in_device, in_engine, good_bound, failed_bound, in_report_time, in_take_time, ask_bound, in_ask_time, stage_bound, phase_bound, limited, in_tick_time, effect}
use Rattle.shift.specs.Excess.{early_bound}
use Rattle.shift.specs.Answers.{listed, checks, guard, excess}
use Rattle.shift.specs.Refusals.{code_of, amount_of, Reads}
use Rattle.shift.proofs.ExcessLaws.{none_below_9}
use Rattle.promises.specs.Allowed.{Shifting, OpenOrClose}
use Rattle.promises.specs.Refusals.{TooEarly, PastClock, PastStage, PastPhase}
use Rattle.promises.specs.HowFar.{at_clock, EarlyBy, LateBy, PastBy, HowFar}
use Rattle.promises.proofs.RefusalLaws.{by_test, behind, good_too_early, failed_too_early, ask_too_early}
use Rattle.promises.proofs.PlaceLaws.{within_ex, within_report, within_stage, within_phase, too_early, too_late, in_channel_time, in_device_time, past_stage, in_phase_time, past_phase}

abbrev timed : List ℕ
timed = 9 ∷ 10 ∷ 11 ∷ 12 ∷ 13 ∷ []

-- ---- what carries nothing
module _ (t : Table) (s : State) (code amount : ℕ) where
  pub nothing : (k : ℕ) → k < 9 → HowFar t s code amount k 0
  nothing k l = record {
    too_early = λ e. absurd (omega arith);
    too_late = λ e. absurd (omega arith);
    past_phase = λ e. absurd (omega arith);
    past_stage = λ e. absurd (omega arith);
    past_clock = λ e. absurd (omega arith);
    none = λ _. refl;
  }

-- ---- past a bound, as what is past it is described
past_by :
    (Past : ℕ → ℕ → Type 0) (bound now : ℕ) → ((c n : ℕ) → (bound < c + n) ↔ Past c n) → bound < now → PastBy Past now (now - bound)
past_by Past bound now same l = record {
  some = omega arith;
  no_more = omega arith;
  kept = λ c n e p. let m = (same c n).1 p in omega arith;
  passed = λ c n h. (same c n).0 (omega arith);
}

module _ (t : Table) (s : State) where
  -- the phase's limit
  by_phase : unfinished s.phase ≡ true → (c n : ℕ) → (phase_bound t s < c + n) ↔ PastPhase t (at_clock c s) 12 n
  by_phase u c n = (
    λ l. let w = past_phase t (at_clock c s) (c + n) (rw (u, lt-leb (c + n) (phase_bound t s) l) tt) in (refl, w.0, w.1),
    λ w.
        elim (dec_lt (phase_bound t s) (c + n)) [
          | yes l ↦ l
          | no l ↦
              let within : T (within_phase t (at_clock c s) (c + n)) = rw u (le→leb (c + n) (phase_bound t s) (omega arith)) in
              let m = in_phase_time t (at_clock c s) (c + n) within w.1 in
              let past = w.2 in
              absurd (omega arith)
        ],
  )

  -- the channel's or the device's
  by_stage : limited s ≡ true → (c n : ℕ) → (stage_bound t s < c + n) ↔ PastStage t (at_clock c s) 12 n
  by_stage u c n = (
    λ l. let w = past_stage t (at_clock c s) (c + n) (rw (u, lt-leb (c + n) (stage_bound t s) l) tt) in (refl, w.0, w.1),
    λ w.
        elim (dec_lt (stage_bound t s) (c + n)) [
          | yes l ↦ l
          | no l ↦
              let within : T (within_stage t (at_clock c s) (c + n)) = rw u (le→leb (c + n) (stage_bound t s) (omega arith)) in
              ⊎_elim
              (λ q. let m = in_channel_time t (at_clock c s) (c + n) within w.1 q.0 in let past = q.1 in absurd (omega arith))
              (λ q. let m = in_device_time t (at_clock c s) (c + n) within w.1 q.0 in let past = q.1 in absurd (omega arith))
              w.2
        ],
  )

  -- the largest clock
  by_clock : (c n : ℕ) → (4294967295 < c + n) ↔ PastClock (at_clock c s) 12 n
  by_clock c n = (λ l. (refl, l), λ w. w.1)

-- a limit that is passed applies
held : (b : Bool) (x y : ℕ) → T (not (leb (cond b x 0) y)) → (b ≡ true) × (y < x)
held true x y h = (refl, nleb→lt x y h)
held false x y h = let l = nleb→lt 0 y h in absurd (omega arith)

-- ---- each step's answer
module _ (t : Table) (s : State) where
  abbrev Far : Step → ℕ → Type 0
  Far x k = HowFar t s (code_of x) (amount_of x) k (excess t s (Ok x) k)

  carries_nothing : (x : Step) (k : ℕ) → k < 9 → Far x k
  carries_nothing x k l = rw (none_below_9 t s (early_bound t s x) (effect s x).clock k l) (nothing t s (code_of x) (amount_of x) k l)

  untimed : (x : Step) → T (within 0 8 (checks t s (Ok x))) → Far x (guard t s (Ok x))
  untimed x h = let l = at_most 8 (checks t s (Ok x)) h in carries_nothing x (guard t s (Ok x)) (omega arith)

  take : Far Take (guard t s (Ok Take))
  take =
      behind (Far Take) (listed s ++ shifts_in s 3) (in_take_time t s) 7 tt (λ _. carries_nothing Take 7 (omega arith))
      (λ h.
      by_test (Far Take) (within_ex t s) 10 [] (λ e. carries_nothing Take 0 (omega arith))
      (λ e.
      let z : Shifting s = omega (arith, tests) in
      let w = too_late t s z e in
      let ex = ex_in_lem t s.phase z.0 (omega arith) in
      let past = w.1 in record {
        too_early = λ q. absurd (omega arith);
        too_late = λ _. record {
          some = omega arith;
          no_more = omega arith;
          then = λ q. let l = q.2 in omega arith;
          behind = λ c l. (refl, w.0, omega arith);
        };
        past_phase = λ q. absurd (omega arith);
        past_stage = λ q. absurd (omega arith);
        past_clock = λ q. absurd (omega arith);
        none = λ n. absurd (n (inr (inl refl)));
      }))

  -- 9: too early for a bound, as what is too early for it at any clock is described
  early_by :
      (code amount bound : ℕ) → ((c : ℕ) → (c < bound) ↔ TooEarly t (at_clock c s) code) → s.clock < bound
      → HowFar t s code amount 9 (bound - s.clock)
  early_by code amount bound same l = record {
    too_early = λ _. record {
      some = omega arith;
      then = λ q. let m = (same (s.clock + (bound - s.clock))).1 q in omega arith;
      before = λ c m. (same c).0 (omega arith);
    };
    too_late = λ q. absurd (omega arith);
    past_phase = λ q. absurd (omega arith);
    past_stage = λ q. absurd (omega arith);
    past_clock = λ q. absurd (omega arith);
    none = λ n. absurd (n (inl refl));
  }

  -- in an open or close phase that is the clock before a bound
  at_any_clock :
      (code bound : ℕ) → OpenOrClose s → ((c : ℕ) → (OpenOrClose s × (c < bound)) ↔ TooEarly t (at_clock c s) code)
      → (c : ℕ) → (c < bound) ↔ TooEarly t (at_clock c s) code
  at_any_clock code bound o same c = (λ l. (same c).0 (o, l), λ q. ((same c).1 q).1)

  good : Far DeviceGood (guard t s (Ok DeviceGood))
  good =
      behind (Far DeviceGood) (listed s ++ shifts_in s 2) (in_report_time s (good_bound t s)) 7 tt (λ _. carries_nothing DeviceGood 7 (omega arith))
      (λ h.
      by_test (Far DeviceGood) (within_report s (good_bound t s)) 9 [] (λ e. carries_nothing DeviceGood 0 (omega arith))
      (λ e.
      let z : Shifting s = omega (arith, tests) in
      let w = too_early s (good_bound t s) z e in
      early_by 5 0 (good_bound t s) (at_any_clock 5 (good_bound t s) w.0 (λ c. good_too_early t (at_clock c s) 0 z)) w.1))

  failed : Far DeviceFailed (guard t s (Ok DeviceFailed))
  failed =
      behind (Far DeviceFailed) (listed s ++ (shifts_in s 2 ++ in_device s)) (in_report_time s (failed_bound t s)) 7 tt (λ _. carries_nothing DeviceFailed 7 (omega arith))
      (λ h.
      by_test (Far DeviceFailed) (within_report s (failed_bound t s)) 9 [] (λ e. carries_nothing DeviceFailed 0 (omega arith))
      (λ e.
      let z : Shifting s = omega (arith, tests) in
      let w = too_early s (failed_bound t s) z e in
      early_by 6 0 (failed_bound t s) (at_any_clock 6 (failed_bound t s) w.0 (λ c. failed_too_early t (at_clock c s) 0 z)) w.1))

  ask : Far AskClutch (guard t s (Ok AskClutch))
  ask =
      behind (Far AskClutch) (listed s ++ (shifts_in s 5 ++ in_engine s)) (in_ask_time t s) 7 tt (λ _. carries_nothing AskClutch 7 (omega arith))
      (λ h.
      by_test (Far AskClutch) (leb (ask_bound t s) s.clock) 9 [] (λ e. carries_nothing AskClutch 0 (omega arith))
      (λ e.
      let z : Shifting s = omega (arith, tests) in
      early_by 9 0 (ask_bound t s) (λ c. ask_too_early t (at_clock c s) 0 z) (nleb→lt (ask_bound t s) s.clock e)))

  module _ (n : ℕ) where
    abbrev now : ℕ
    now = s.clock + n

    past_13 : T (not (leb now 4294967295)) → Far (Tick n) 13
    past_13 e = record {
      too_early = λ q. absurd (omega arith);
      too_late = λ q. absurd (omega arith);
      past_phase = λ q. absurd (omega arith);
      past_stage = λ q. absurd (omega arith);
      past_clock = λ _. past_by (λ c m. PastClock (at_clock c s) 12 m) 4294967295 now (by_clock t s) (nleb→lt now 4294967295 e);
      none = λ k. absurd (k (inr (inr (inr (inr (inl refl))))));
    }

    past_12 : T (not (within_stage t s now)) → Far (Tick n) 12
    past_12 e =
        let l = held (limited s) now (stage_bound t s) e in record {
          too_early = λ q. absurd (omega arith);
          too_late = λ q. absurd (omega arith);
          past_phase = λ q. absurd (omega arith);
          past_stage = λ _. past_by (λ c m. PastStage t (at_clock c s) 12 m) (stage_bound t s) now (by_stage t s l.0) l.1;
          past_clock = λ q. absurd (omega arith);
          none = λ k. absurd (k (inr (inr (inr (inl refl)))));
        }

    past_11 : T (not (within_phase t s now)) → Far (Tick n) 11
    past_11 e =
        let l = held (unfinished s.phase) now (phase_bound t s) e in record {
          too_early = λ q. absurd (omega arith);
          too_late = λ q. absurd (omega arith);
          past_phase = λ _. past_by (λ c m. PastPhase t (at_clock c s) 12 m) (phase_bound t s) now (by_phase t s l.0) l.1;
          past_stage = λ q. absurd (omega arith);
          past_clock = λ q. absurd (omega arith);
          none = λ k. absurd (k (inr (inr (inl refl))));
        }

    tick : Far (Tick n) (guard t s (Ok (Tick n)))
    tick =
        behind (Far (Tick n)) (listed s) (in_tick_time t s now) 7 tt (λ _. carries_nothing (Tick n) 7 (omega arith))
        (λ h.
        by_test (Far (Tick n)) (leb now 4294967295) 13 ((within_stage t s now ! 12) ∷ (within_phase t s now ! 11) ∷ [])
        (λ a.
        by_test (Far (Tick n)) (within_stage t s now) 12 ((within_phase t s now ! 11) ∷ [])
        (λ b. by_test (Far (Tick n)) (within_phase t s now) 11 [] (λ c. carries_nothing (Tick n) 0 (omega arith)) past_11)
        past_12)
        past_13)

  far : (x : Step) → Far x (guard t s (Ok x))
  far FromNeutral = untimed FromNeutral tt
  far GearToGear = untimed GearToGear tt
  far ToNeutral = untimed ToNeutral tt
  far Deliver = untimed Deliver tt
  far DeviceGood = good
  far DeviceFailed = failed
  far EngineWaits = untimed EngineWaits tt
  far Take = take
  far AskClutch = ask
  far RaiseError = untimed RaiseError tt
  far Finish = untimed Finish tt
  far (Tick n) = tick n
  far Reset = untimed Reset tt

  pub how_far :
      (code middle amount : ℕ) (r : Reading) → Reads code middle amount r
      → HowFar t s code amount (guard t s r) (excess t s r (guard t s r))
  how_far code middle amount (Ok x) h =
      subst (λ (c : ℕ). HowFar t s c amount (guard t s (Ok x)) (excess t s (Ok x) (guard t s (Ok x)))) h.2
      (subst (λ (n : ℕ). HowFar t s (code_of x) n (guard t s (Ok x)) (excess t s (Ok x) (guard t s (Ok x)))) h.3 (far x))
  how_far code middle amount (Err WrongCode) h = nothing t s code amount 5 (omega arith)
  how_far code middle amount (Err WrongAmount) h = nothing t s code amount 6 (omega arith)

-- ---- and nothing else is
module _ (t : Table) (s : State) (code : ℕ) (d e : ℕ) where
  same_early : EarlyBy t s code d → EarlyBy t s code e → d ≡ e
  same_early a b =
      let l : ¬ (d < e) = λ h. a.then (b.before (s.clock + d) (omega arith)) in
      let m : ¬ (e < d) = λ h. b.then (a.before (s.clock + e) (omega arith)) in
      omega arith

  same_late : LateBy t s code d → LateBy t s code e → d ≡ e
  same_late a b =
      let p = a.no_more in
      let q = b.no_more in
      let l : ¬ (d < e) = λ h. a.then (b.behind (s.clock - d) (omega arith)) in
      let m : ¬ (e < d) = λ h. b.then (a.behind (s.clock - e) (omega arith)) in
      omega arith

same_past : (Past : ℕ → ℕ → Type 0) (now d e : ℕ) → PastBy Past now d → PastBy Past now e → d ≡ e
same_past Past now d e a b =
    let p = a.no_more in
    let q = b.no_more in
    let l : ¬ (d < e) = λ h. a.kept (now - d) 0 (omega arith) (b.passed (now - d) 0 (omega arith)) in
    let m : ¬ (e < d) = λ h. b.kept (now - e) 0 (omega arith) (a.passed (now - e) 0 (omega arith)) in
    omega arith

pub no_other_excess :
    (t : Table) (s : State) (code amount k d e : ℕ) → HowFar t s code amount k d → HowFar t s code amount k e → d ≡ e
no_other_excess t s code amount k d e a b =
    among timed k
    (⊎_elim (λ q. same_early t s code d e (a.too_early q) (b.too_early q))
    (⊎_elim (λ q. same_late t s code d e (a.too_late q) (b.too_late q))
    (⊎_elim (λ q. same_past _ _ d e (a.past_phase q) (b.past_phase q))
    (⊎_elim (λ q. same_past _ _ d e (a.past_stage q) (b.past_stage q))
    (⊎_elim (λ q. same_past _ _ d e (a.past_clock q) (b.past_clock q))
    (λ q. absurd q))))))
    (λ n. a.none n ∙ sym (b.none n))
