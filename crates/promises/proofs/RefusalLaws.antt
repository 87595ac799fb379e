-- The number of a step's answer is the first of the document's numbers whose condition, in words, holds.
-- Assumes nothing.
use mathlib.Core.Path.{◌≡◌, refl, subst}
use mathlib.Core.Logic.{inl, inr, ⊎_elim, ◌↔◌}
use mathlib.Core.Bool.{Bool, true, false, not, ◌&&◌}
use mathlib.Core.List.{List, [], ◌∷◌, ◌++◌, append-nil}
use Prim.Native.Nat.{ℕ, ◌+◌, ◌≤◌, ◌<◌}
use native.Mathlib.Omega.{arith}
use lib.Dec.{T, leb, eqb, eqb→eq}
use Rattle.std.specs.Prelude.{Ok, Err}
use Rattle.checks.specs.Checks.{Check, ◌!◌, first}
use Rattle.checks.proofs.Checks.{Holds}
use Rattle.checks.specs.Conditions.{Condition, ◌gives◌, FirstOf, OneOf}
use Rattle.checks.proofs.ConditionLaws.{first_of}
use Rattle.checks.proofs.Tests.{tests, case, passes, left, right}
use Rattle.limits.specs.declared.Table.{Table}
use Rattle.phases.specs.Phases.{order_of}
use Rattle.phases.proofs.ByPhaseLaws.{each, de_in_lem, plain_delay_in_lem, error_delay_in_lem}
use Rattle.shift.specs.declared.State.{State}
use Rattle.shift.specs.declared.Step.{Step}
use Rattle.shift.specs.declared.Step.TheVariants.{FromNeutral, GearToGear, ToNeutral, Deliver, DeviceGood, DeviceFailed, EngineWaits, Take, AskClutch, RaiseError, Finish, Tick, Reset}
use Rattle.shift.specs.Readings.{Reading}
use Rattle.shift.specs.declared.Misread.TheVariants.{WrongCode, WrongAmount}
use Rattle.shift.specs.Steps.{rests_in, shifts_in, in_device, in_engine, in_report_time, in_take_time, in_ask_time, in_tick_time, good_bound, failed_bound, ask_bound}
use Rattle.shift.specs.Answers.{reading, listed, checks, guard}
use Rattle.promises.specs.Allowed.{Listed, Shifting, OpenOrClose, Permitted}
use Rattle.shift.specs.Refusals.{code_of, amount_of, Reads}
use Rattle.shift.proofs.Refusals.{reads}
use Rattle.promises.specs.Refusals.{placings, ByCode, Misplaced, WrongSide, TooEarly, TooLate, PastClock, PastStage, PastPhase, record_refusals}
use Rattle.promises.proofs.Permitted.{said, meant}
use Rattle.promises.proofs.PlaceLaws.{within_ex, within_report, engine_phase, engine_order, in_report_time_lem, too_early, in_take_time_lem, too_late, in_channel_time, in_device_time, past_stage, in_phase_time, past_phase}

-- ---- the number of some checks: by one, or by several with one number, and by those behind them
pub by_test :
    (P : ℕ → Type 0) (b : Bool) (k : ℕ) (rest : List Check) → (T b → P (first rest)) → (T (not b) → P k) → P (first ((b ! k) ∷ rest))
by_test P true k rest f g = f tt
by_test P false k rest f g = g tt

abbrev pub only : ℕ → List Check → Bool
only k [] = true
only k (c ∷ cs) = eqb c.number k && only k cs

pub behind :
    (P : ℕ → Type 0) (cs rest : List Check) (k : ℕ) → T (only k cs) → (¬ Holds cs → P k) → (Holds cs → P (first rest)) → P (first (cs ++ rest))
behind P [] rest k o f g = g tt
behind P (c ∷ cs) rest k o f g =
    case c.ok
    (λ e. rw e (behind P cs rest k (right (eqb c.number k) (only k cs) o) (λ n. f (λ h. n h.1)) (λ h. g (passes c.ok e, h))))
    (λ e. rw (e, eqb→eq c.number k (left (eqb c.number k) (only k cs) o)) (f (λ h. subst T e h.0)))

-- ---- a condition by the checks that test it
test :
    (b : Bool) (k : ℕ) (P : Type 0) (ws : List Condition) (rest : List Check)
    → (T b → ¬ P) → (T (not b) → P) → (T b → FirstOf ws (first rest)) → FirstOf ((P gives k) ∷ ws) (first ((b ! k) ∷ rest))
test b k P ws rest f g r = by_test (FirstOf ((P gives k) ∷ ws)) b k rest (λ t. inr (f t, r t)) (λ t. inl (g t, refl))

several :
    (cs rest : List Check) (k : ℕ) (P : Type 0) (ws : List Condition)
    → T (only k cs) → (Holds cs → ¬ P) → (¬ Holds cs → P) → (Holds cs → FirstOf ws (first rest))
    → FirstOf ((P gives k) ∷ ws) (first (cs ++ rest))
several cs rest k P ws o f g r =
    behind (FirstOf ((P gives k) ∷ ws)) cs rest k o (λ n. inl (g n, refl)) (λ h. inr (f h, r h))

-- ---- what a step is refused with, on the state: 7 and on, 8 and on, 9 and on, 13 and on
abbrev from_13 : Table → State → ℕ → ℕ → List Condition
from_13 t s code amount =
    (PastClock s code amount gives 13) ∷ (PastStage t s code amount gives 12) ∷ (PastPhase t s code amount gives 11) ∷ []

abbrev from_9 : Table → State → ℕ → ℕ → List Condition
from_9 t s code amount = (TooEarly t s code gives 9) ∷ (TooLate t s code gives 10) ∷ from_13 t s code amount

abbrev from_8 : Table → State → ℕ → ℕ → List Condition
from_8 t s code amount = (WrongSide s code gives 8) ∷ from_9 t s code amount

abbrev from_7 : Table → State → ℕ → ℕ → List Condition
from_7 t s code amount = (Misplaced s code gives 7) ∷ from_8 t s code amount

module _ (t : Table) (s : State) (amount : ℕ) where
  -- no request, no tick, nothing that has its time
  pub no_request : (code : ℕ) → 4 ≤ code → ¬ WrongSide s code
  no_request code l h =
      ⊎_elim
      (λ e. let q = e.0 in omega arith)
      (λ e. let q = each (λ k. k ≤ 3) (2 ∷ 3 ∷ []) (omega arith) code e.0 in omega arith)
      h.1

  no_tick : (code : ℕ) → ¬ (code ≡ 12) → FirstOf (from_13 t s code amount) 0
  no_tick code n = inr (λ h. n h.0, inr (λ h. n h.0, inr (λ h. n h.0, refl)))

  pub never_early : (code : ℕ) → ¬ (code ≡ 5) × ¬ (code ≡ 6) × ¬ (code ≡ 9) → ¬ TooEarly t s code
  never_early code n h = ⊎_elim (λ e. n.2 e.0) (⊎_elim (λ e. n.0 e.0) (λ e. n.1 e.0)) h

  untimed :
      (code : ℕ) → (¬ (code ≡ 5) × ¬ (code ≡ 6) × ¬ (code ≡ 9)) × ¬ (code ≡ 8) × ¬ (code ≡ 12) → FirstOf (from_9 t s code amount) 0
  untimed code n = inr (never_early code n.0, inr (λ h. n.1 h.0, no_tick code n.2))

  -- deliver, engine waits, raise error, finish and reset: 7
  placed :
      (code : ℕ) (x : Step) → T (only 7 (checks t s (Ok x)))
      → (Permitted t s (Ok x) ↔ (Listed s × ByCode (placings s) code))
      → (4 ≤ code) × (¬ (code ≡ 5) × ¬ (code ≡ 6) × ¬ (code ≡ 9)) × ¬ (code ≡ 8) × ¬ (code ≡ 12)
      → FirstOf (from_7 t s code amount) (guard t s (Ok x))
  placed code x o same n =
      let own = checks t s (Ok x) in
      subst (λ (cs : List Check). FirstOf (from_7 t s code amount) (first cs)) (append-nil own)
      (several own [] 7 (Misplaced s code) (from_8 t s code amount) o
      (λ h m. m (same.0 (said t s x h)))
      (λ h p. h (meant t s x (same.1 p)))
      (λ h. inr (no_request code n.0, untimed code (n.1, n.2, n.3))))

  -- the requests: 7 and 8
  request :
      (code side : ℕ) → code ≤ 3
      → ByCode (placings s) code ↔ (s.phase ≡ 0)
      → ((s.phase ≡ 0) × ¬ (s.gear_box ≡ side)) ↔ WrongSide s code
      → FirstOf (from_7 t s code amount) (first (listed s ++ rests_in s side))
  request code side l same wrong =
      several (listed s ++ ((eqb s.phase 0 ! 7) ∷ [])) ((eqb s.gear_box side ! 8) ∷ []) 7 (Misplaced s code) (from_8 t s code amount) tt
      (λ h m. m (omega (arith, tests), same.1 (omega (arith, tests))))
      (λ n p. n (let a = p.0 in let b = same.0 p.1 in omega (arith, tests)))
      (λ h.
      test (eqb s.gear_box side) 8 (WrongSide s code) (from_9 t s code amount) []
      (λ b w. let v = (wrong.1 w).1 in v (eqb→eq s.gear_box side b))
      (λ b. wrong.0 (omega (arith, tests), omega (arith, tests)))
      (λ b. untimed code (omega arith)))

  -- take: 7 and 10
  take : FirstOf (from_7 t s 8 amount) (guard t s (Ok Take))
  take =
      several (listed s ++ shifts_in s 3) (in_take_time t s) 7 (Misplaced s 8) (from_8 t s 8 amount) tt
      (λ h m. m (omega (arith, tests)))
      (λ n p. n (omega (arith, tests)))
      (λ h.
      let z : Shifting s = omega (arith, tests) in
      inr (
        no_request 8 (omega arith),
        inr (
          never_early 8 (omega arith),
          test (within_ex t s) 10 (TooLate t s 8) (from_13 t s 8 amount) []
              (λ b w. let l = in_take_time_lem t s b w.1 in let m = w.2 in omega arith)
              (λ b. let w = too_late t s z b in (refl, w.0, w.1))
              (λ b. no_tick 8 (omega arith)),
        ),
      ))

  -- device good and device failed, behind 7: 9
  reported :
      (code bound : ℕ) → (4 ≤ code) × ¬ (code ≡ 8) × ¬ (code ≡ 12) → Shifting s
      → (OpenOrClose s × (s.clock < bound)) ↔ TooEarly t s code
      → FirstOf (from_8 t s code amount) (first (in_report_time s bound))
  reported code bound n z early =
      inr (
        no_request code n.0,
        test (within_report s bound) 9 (TooEarly t s code) ((TooLate t s code gives 10) ∷ from_13 t s code amount) []
            (λ b w. let e = early.1 w in let l = in_report_time_lem s bound b e.0 in let m = e.1 in omega arith)
            (λ b. early.0 (too_early s bound z b))
            (λ b. inr (λ w. n.1 w.0, no_tick code n.2)),
      )

  pub good_too_early : Shifting s → (OpenOrClose s × (s.clock < good_bound t s)) ↔ TooEarly t s 5
  good_too_early z =
      let delay = plain_delay_in_lem t s.phase z.0 (let l = z.1 in omega arith) in (
        λ e. let l = e.1 in inr (inl (refl, e.0, omega arith)),
        ⊎_elim (λ w. absurd (let e = w.0 in omega arith)) (⊎_elim (λ w. let l = w.2 in (w.1, omega arith)) (λ w. absurd (let e = w.0 in omega arith))),
      )

  pub failed_too_early : Shifting s → (OpenOrClose s × (s.clock < failed_bound t s)) ↔ TooEarly t s 6
  failed_too_early z =
      let delay = error_delay_in_lem t s.phase z.0 (let l = z.1 in omega arith) in (
        λ e. let l = e.1 in inr (inr (refl, e.0, omega arith)),
        ⊎_elim (λ w. absurd (let e = w.0 in omega arith)) (⊎_elim (λ w. absurd (let e = w.0 in omega arith)) (λ w. let l = w.2 in (w.1, omega arith))),
      )

  pub ask_too_early : Shifting s → (s.clock < ask_bound t s) ↔ TooEarly t s 9
  ask_too_early z =
      let de = de_in_lem t s.phase z.0 (let l = z.1 in omega arith) in (
        λ l. inl (refl, omega arith),
        ⊎_elim (λ w. let l = w.1 in omega arith) (⊎_elim (λ w. absurd (let e = w.0 in omega arith)) (λ w. absurd (let e = w.0 in omega arith))),
      )

  good : FirstOf (from_7 t s 5 amount) (guard t s (Ok DeviceGood))
  good =
      several (listed s ++ shifts_in s 2) (in_report_time s (good_bound t s)) 7 (Misplaced s 5) (from_8 t s 5 amount) tt
      (λ h m. m (omega (arith, tests)))
      (λ n p. n (omega (arith, tests)))
      (λ h. let z : Shifting s = omega (arith, tests) in reported 5 (good_bound t s) (omega arith) z (good_too_early z))

  failed : FirstOf (from_7 t s 6 amount) (guard t s (Ok DeviceFailed))
  failed =
      several (listed s ++ (shifts_in s 2 ++ in_device s)) (in_report_time s (failed_bound t s)) 7 (Misplaced s 6) (from_8 t s 6 amount) tt
      (λ h m. m (omega (arith, tests), (omega (arith, tests), omega (arith, tests), λ e. let o = engine_order s e in omega (arith, tests))))
      (λ n p. n (let o : ¬ (order_of s.phase ≤ 2) = λ l. p.1.2 (engine_phase s p.1.0 l) in omega (arith, tests)))
      (λ h. let z : Shifting s = omega (arith, tests) in reported 6 (failed_bound t s) (omega arith) z (failed_too_early z))

  -- ask clutch: 7 and 9
  ask : FirstOf (from_7 t s 9 amount) (guard t s (Ok AskClutch))
  ask =
      several (listed s ++ (shifts_in s 5 ++ in_engine s)) (in_ask_time t s) 7 (Misplaced s 9) (from_8 t s 9 amount) tt
      (λ h m. m (omega (arith, tests), (engine_phase s (omega (arith, tests)) (omega (arith, tests)), omega (arith, tests))))
      (λ n p. n (let o = engine_order s p.1.0 in omega (arith, tests)))
      (λ h.
      let z : Shifting s = omega (arith, tests) in
      let early = ask_too_early z in
      inr (
        no_request 9 (omega arith),
        test (leb (ask_bound t s) s.clock) 9 (TooEarly t s 9) ((TooLate t s 9 gives 10) ∷ from_13 t s 9 amount) []
            (λ b w. let l = early.1 w in omega (arith, tests))
            (λ b. early.0 (omega (arith, tests)))
            (λ b. inr (λ w. absurd (omega arith), no_tick 9 (omega arith))),
      ))

  -- a tick: 7, 13, 12 and 11
  tick : FirstOf (from_7 t s 12 amount) (guard t s (Ok (Tick amount)))
  tick =
      let now = s.clock + amount in
      several (listed s) (in_tick_time t s now) 7 (Misplaced s 12) (from_8 t s 12 amount) tt
      (λ h m. m (omega (arith, tests), tt))
      (λ n p. n (let l = p.0 in omega (arith, tests)))
      (λ h.
      inr (
        no_request 12 (omega arith),
        inr (
          never_early 12 (omega arith),
          inr (
            λ w. absurd (omega arith),
            first_of (in_tick_time t s now) (from_13 t s 12 amount) (
              (λ b. (refl, omega (arith, tests)), (λ b w. let l = w.1 in omega (arith, tests), refl)),
              (
                (
                  λ b. let w = past_stage t s now b in (refl, w.0, w.1),
                  (
                    λ b w.
                        ⊎_elim
                        (λ q. let l = in_channel_time t s now b w.1 q.0 in let m = q.1 in omega arith)
                        (λ q. let l = in_device_time t s now b w.1 q.0 in let m = q.1 in omega arith)
                        w.2,
                    refl,
                  ),
                ),
                (
                  (
                    λ b. let w = past_phase t s now b in (refl, w.0, w.1),
                    (λ b w. let l = in_phase_time t s now b w.1 in let m = w.2 in omega arith, refl),
                  ),
                  tt,
                ),
              ),
            ),
          ),
        ),
      ))

-- ---- by step
module _ (s : State) where
  not_neutral : ((s.phase ≡ 0) × ¬ (s.gear_box ≡ 0)) ↔ WrongSide s 1
  not_neutral = (
    λ p. (p.0, inl (refl, p.1)),
    λ w. (w.0, ⊎_elim (λ e. e.1) (λ e. absurd (let l = each (λ k. 2 ≤ k) (2 ∷ 3 ∷ []) (omega arith) 1 e.0 in omega arith)) w.1),
  )

  not_in_gear : (code : ℕ) → OneOf (2 ∷ 3 ∷ []) code → ((s.phase ≡ 0) × ¬ (s.gear_box ≡ 1)) ↔ WrongSide s code
  not_in_gear code o =
      let l = each (λ k. 2 ≤ k) (2 ∷ 3 ∷ []) (omega arith) code o in
      (λ p. (p.0, inr (o, p.1)), λ w. (w.0, ⊎_elim (λ e. absurd (let q = e.0 in omega arith)) (λ e. e.1) w.1))

on_state : (t : Table) (s : State) (x : Step) → FirstOf (from_7 t s (code_of x) (amount_of x)) (guard t s (Ok x))
on_state t s FromNeutral = request t s 0 1 0 (omega arith) (λ p. p, λ p. p) (not_neutral s)
on_state t s GearToGear = request t s 0 2 1 (omega arith) (λ p. p, λ p. p) (not_in_gear s 2 (inl refl))
on_state t s ToNeutral = request t s 0 3 1 (omega arith) (λ p. p, λ p. p) (not_in_gear s 3 (inr (inl refl)))
on_state t s Deliver = placed t s 0 4 Deliver tt (λ p. p, λ p. p) (omega arith)
on_state t s DeviceGood = good t s 0
on_state t s DeviceFailed = failed t s 0
on_state t s EngineWaits = placed t s 0 7 EngineWaits tt (λ p. p, λ p. p) (omega arith)
on_state t s Take = take t s 0
on_state t s AskClutch = ask t s 0
on_state t s RaiseError = placed t s 0 10 RaiseError tt (λ p. p, λ p. p) (omega arith)
on_state t s Finish = placed t s 0 11 Finish tt (λ p. p, λ p. p) (omega arith)
on_state t s (Tick n) = tick t s n
on_state t s Reset = placed t s 0 13 Reset tt (λ p. p, λ p. p) (omega arith)

-- ---- by what was read
module _ (t : Table) (s : State) (code middle amount : ℕ) where
  of_reading : (r : Reading) → Reads code middle amount r → FirstOf (record_refusals t s code middle amount) (guard t s r)
  of_reading (Ok x) h =
      inr (
        h.0,
        inr (
          λ n. n h.1,
          subst (λ (c : ℕ). FirstOf (from_7 t s c amount) (guard t s (Ok x))) h.2
              (subst (λ (n : ℕ). FirstOf (from_7 t s (code_of x) n) (guard t s (Ok x))) h.3 (on_state t s x)),
        ),
      )
  of_reading (Err WrongCode) h = inl (h, refl)
  of_reading (Err WrongAmount) h = inr (h.0, inl (h.1, refl))

-- the number of a record, under a table that has been tested
pub first_refusal :
    (t : Table) (s : State) (code middle amount : ℕ) → FirstOf (record_refusals t s code middle amount) (guard t s (reading code middle amount))
first_refusal t s code middle amount = of_reading t s code middle amount (reading code middle amount) (reads middle amount code)
