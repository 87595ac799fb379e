-- Nothing changed for the old fleet: under a table with four zero delays the rules before request 6 and today's give every list from the
-- start the same run; and which given states answer otherwise.
-- Assumes nothing.
use mathlib.Core.Path.{◌≡◌, refl, sym, ap, subst, ◌∙◌}
use mathlib.Core.Logic.{◌⊎◌, inl, inr, ⊎_elim}
use mathlib.Core.List.{List, [], ◌∷◌, ◌++◌}
use Prim.Native.Nat.{ℕ, ◌-◌, ◌≤◌, ◌<◌, zero-le}
use native.Mathlib.Decide.{dec_lt}
use native.Mathlib.Omega.{arith}
use lib.Dec.{leb, eqb}
use borrow.Author.Tests.{le-leb, lt-leb, eqb-true, eqb-false}
use contract.Lifetimes.{Lfts}
use denote.Triple.Entry.{Args}
use denote.Triple.Clauses.{AtExit}
use Rattle.std.specs.Prelude.{Ok, Err}
use Rattle.checks.specs.Checks.{Check, first, numbered}
use Rattle.checks.proofs.Checks.{Holds, first→holds, holds→first, first_alone, first_left, first_right}
use Rattle.checks.proofs.Ranges.{below}
use Rattle.checks.proofs.Tests.{tests, case, passed, left}
use Rattle.limits.specs.declared.Table.{Table}
use Rattle.limits.specs.Rules.{set_rule, engine_rules, device_rules, ask_rules, route_rules, delay_rules, broken_rule}
use Rattle.limits.specs.Limits.{undelayed}
use Rattle.limits.specs.Refusals.{NoDelays}
use Rattle.limits.proofs.Refusals.{zeros}
use Rattle.phases.specs.Phases.{order_of, clutch_order, plain_entries, plain_delay, error_entries, error_delay}
use Rattle.phases.proofs.PhaseLaws.{no_limit}
use Rattle.phases.proofs.ByPhaseLaws.{open_or_close_of}
use Rattle.shift.specs.declared.State.{State}
use Rattle.shift.specs.declared.Answer.{Answer}
use Rattle.shift.specs.Readings.{Reading}
use Rattle.shift.specs.declared.Misread.TheVariants.{WrongCode, WrongAmount}
use Rattle.shift.specs.declared.Step.{Step}
use Rattle.shift.specs.declared.Step.TheVariants.{FromNeutral, GearToGear, ToNeutral, Deliver, DeviceGood, DeviceFailed, EngineWaits, Take, AskClutch, RaiseError, Finish, Tick, Reset}
use Rattle.shift.specs.States.{start, working}
use Rattle.shift.specs.Steps.{shifts_in, in_device, good_bound, failed_bound, in_report_time}
use Rattle.shift.specs.Answers.{reading, listed, guard, led, excess, answer_to, admitting}
use Rattle.shift.specs.Runs.{after, run}
use Rattle.shift.specs.contracts.State.step as step_call
use Rattle.shift.proofs.State.step.Reads as step_reads
use Rattle.promises.specs.Allowed.{Listed, Shifting, OpenOrClose}
use Rattle.promises.specs.OldFleet.{guard_before, rule_before, step_before, run_before, Ahead}
use Rattle.promises.proofs.PlaceLaws.{within_report, too_early}

module _ (t : Table) (z : NoDelays t) where
  -- every delay is 0
  plain_delay_lem : (o : ℕ) → plain_delay t o ≡ 0
  plain_delay_lem o =
      let a = z.plain_open in
      let b = z.plain_close in
      elim (dec_lt o 5) [
        | yes h ↦ below (λ k. plain_delay t k ≡ 0) 5 (omega arith) o h
        | no h ↦ sym (no_limit plain_entries t o (omega arith))
      ]

  error_delay_lem : (o : ℕ) → error_delay t o ≡ 0
  error_delay_lem o =
      let a = z.error_open in
      let b = z.error_close in
      elim (dec_lt o 5) [
        | yes h ↦ below (λ k. error_delay t k ≡ 0) 5 (omega arith) o h
        | no h ↦ sym (no_limit error_entries t o (omega arith))
      ]

  module _ (s : State) where
    good_bound_lem : good_bound t s ≡ s.stage_time
    good_bound_lem = let e = plain_delay_lem (order_of s.phase) in omega arith

    failed_bound_lem : failed_bound t s ≡ s.stage_time
    failed_bound_lem = let e = error_delay_lem (order_of s.phase) in omega arith

    -- ---- a stage time that is not ahead of the clock
    in_time : (bound : ℕ) → bound ≤ s.clock → first (in_report_time s bound) ≡ 0
    in_time bound l =
        case (clutch_order s.phase)
        (λ e. rw (e, le-leb bound s.clock l))
        (λ e. rw (e, le-leb 0 s.clock zero-le))

    same_guard : s.stage_time ≤ s.clock → (r : Reading) → guard_before t s r ≡ guard t s r
    same_guard k (Ok FromNeutral) = refl
    same_guard k (Ok GearToGear) = refl
    same_guard k (Ok ToNeutral) = refl
    same_guard k (Ok Deliver) = refl
    same_guard k (Ok DeviceGood) =
        sym (first_alone (listed s ++ shifts_in s working) (in_report_time s (good_bound t s)) (in_time (good_bound t s) (let e = good_bound_lem in omega arith)))
    same_guard k (Ok DeviceFailed) =
        sym (first_alone (listed s ++ (shifts_in s working ++ in_device s)) (in_report_time s (failed_bound t s)) (in_time (failed_bound t s) (let e = failed_bound_lem in omega arith)))
    same_guard k (Ok EngineWaits) = refl
    same_guard k (Ok Take) = refl
    same_guard k (Ok AskClutch) = refl
    same_guard k (Ok RaiseError) = refl
    same_guard k (Ok Finish) = refl
    same_guard k (Ok (Tick n)) = refl
    same_guard k (Ok Reset) = refl
    same_guard k (Err WrongCode) = refl
    same_guard k (Err WrongAmount) = refl

-- no step leaves it ahead
not_ahead : (s : State) → s.stage_time ≤ s.clock → (r : Reading) → (led s r).stage_time ≤ (led s r).clock
not_ahead s k (Ok FromNeutral) = omega arith
not_ahead s k (Ok GearToGear) = omega arith
not_ahead s k (Ok ToNeutral) = omega arith
not_ahead s k (Ok Deliver) = omega arith
not_ahead s k (Ok DeviceGood) = omega arith
not_ahead s k (Ok DeviceFailed) = omega arith
not_ahead s k (Ok EngineWaits) = omega arith
not_ahead s k (Ok Take) = omega arith
not_ahead s k (Ok AskClutch) = omega arith
not_ahead s k (Ok RaiseError) = omega arith
not_ahead s k (Ok Finish) = omega arith
not_ahead s k (Ok (Tick n)) = omega arith
not_ahead s k (Ok Reset) = omega arith
not_ahead s k (Err WrongCode) = k
not_ahead s k (Err WrongAmount) = k

-- ---- tables: rule 16 is kept by four zeros
pub admitted_as_before : (t : Table) → NoDelays t → rule_before t ≡ broken_rule t
admitted_as_before t z =
    let older = set_rule t ++ (engine_rules t ++ (device_rules t ++ (ask_rules t ++ route_rules t))) in
    let none = passed (undelayed t) ((zeros t).shown z) in
    sym (first_alone (numbered 1 older) (numbered 16 (delay_rules t)) (rw none))

-- ---- lists
same_run :
    (t : Table) → NoDelays t → (s : State) (rs : List Reading) → s.stage_time ≤ s.clock → run_before t s rs ≡ run t s rs
same_run t z s [] k = refl
same_run t z s (r ∷ rs) k =
    ap (λ g. after g (excess t s r g) s (run_before t (led s r) rs)) (same_guard t z s k r)
    ∙ ap (after (guard t s r) (excess t s r (guard t s r)) s) (same_run t z (led s r) rs (not_ahead s k r))

pub nothing_changed_for_the_old_fleet : (t : Table) → NoDelays t → (rs : List Reading) → run_before t start rs ≡ run t start rs
nothing_changed_for_the_old_fleet t z rs = same_run t z start rs (omega arith)

-- ---- given states
module _ (t : Table) (z : NoDelays t) (s : State) where
  -- what is asked before the time, and then the time: refused by it is what lies ahead
  kept :
      (x : Step) (own : List Check) (bound : ℕ) → bound ≡ s.stage_time
      → (first own ≡ 0 → Listed s × Shifting s × (s.stage ≡ 2)) → (◌≡◌ {A = Reading} (Ok x) (Ok DeviceGood)) ⊎ (◌≡◌ {A = Reading} (Ok x) (Ok DeviceFailed))
      → ¬ Ahead s (Ok x)
      → first own ≡ first (own ++ in_report_time s bound)
  kept x own bound e works which n =
      case (eqb (first own) 0)
      (λ q.
      let h = works (eqb-true (first own) 0 q) in
      case (within_report s bound)
      (λ w. sym (first_alone own (in_report_time s bound) (rw w)))
      (λ w.
      let a = too_early s bound h.1 (rw w tt) in
      let l = a.1 in
      absurd (n (record { listed = h.0; phase = a.0; stage = h.2; time = omega arith; step = which }))))
      (λ q. sym (first_left own (in_report_time s bound) (eqb-false (first own) 0 q)))

  pub as_before : (r : Reading) → ¬ Ahead s r → guard_before t s r ≡ guard t s r
  as_before (Ok FromNeutral) n = refl
  as_before (Ok GearToGear) n = refl
  as_before (Ok ToNeutral) n = refl
  as_before (Ok Deliver) n = refl
  as_before (Ok DeviceGood) n =
      let own = listed s ++ shifts_in s working in
      kept DeviceGood own (good_bound t s) (good_bound_lem t z s) (λ e. let h = (first→holds 0 own tt e).0 in omega (arith, tests)) (inl refl) n
  as_before (Ok DeviceFailed) n =
      let own = listed s ++ (shifts_in s working ++ in_device s) in
      kept DeviceFailed own (failed_bound t s) (failed_bound_lem t z s) (λ e. let h = (first→holds 0 own tt e).0 in omega (arith, tests)) (inr refl) n
  as_before (Ok EngineWaits) n = refl
  as_before (Ok Take) n = refl
  as_before (Ok AskClutch) n = refl
  as_before (Ok RaiseError) n = refl
  as_before (Ok Finish) n = refl
  as_before (Ok (Tick n)) m = refl
  as_before (Ok Reset) n = refl
  as_before (Err WrongCode) n = refl
  as_before (Err WrongAmount) n = refl

  -- and what lies ahead was accepted, and is too early by how far it lies ahead
  pub record Otherwise (r : Reading) : Type 0 where
    pub before : guard_before t s r ≡ 0
    pub now : guard t s r ≡ 9
    pub by : excess t s r 9 ≡ s.stage_time - s.clock

  refused_so : (own : List Check) (bound : ℕ) → bound ≡ s.stage_time → Holds own → OpenOrClose s → s.clock < s.stage_time → first (own ++ in_report_time s bound) ≡ 9
  refused_so own bound e h o l =
      let c = passed (clutch_order s.phase) (open_or_close_of s.phase o).0 in
      first_right own (in_report_time s bound) h ∙ rw (c, lt-leb bound s.clock (omega arith))

  module _ (l : Listed s) (o : OpenOrClose s) (g : s.stage ≡ 2) (ahead : s.clock < s.stage_time) where
    good_otherwise : Otherwise (Ok DeviceGood)
    good_otherwise =
        let p = open_or_close_of s.phase o in
        let own = listed s ++ shifts_in s working in
        let h : Holds own = omega (arith, tests) in
        record {
          before = holds→first own h;
          now = refused_so own (good_bound t s) (good_bound_lem t z s) h o ahead;
          by = ap (λ b. b - s.clock) (good_bound_lem t z s);
        }

    failed_otherwise : Otherwise (Ok DeviceFailed)
    failed_otherwise =
        let p = open_or_close_of s.phase o in
        let order = left (leb 3 (order_of s.phase)) (leb (order_of s.phase) 4) p.0 in
        let own = listed s ++ (shifts_in s working ++ in_device s) in
        let h : Holds own = omega (arith, tests) in
        record {
          before = holds→first own h;
          now = refused_so own (failed_bound t s) (failed_bound_lem t z s) h o ahead;
          by = ap (λ b. b - s.clock) (failed_bound_lem t z s);
        }

  pub otherwise : (r : Reading) → Ahead s r → Otherwise r
  otherwise r a =
      ⊎_elim
      (λ e. subst Otherwise (sym e) (good_otherwise a.listed a.phase a.stage a.time))
      (λ e. subst Otherwise (sym e) (failed_otherwise a.listed a.phase a.stage a.time))
      a.step

-- ---- whatever the contract of `State::step` allows under an admitted table with four zeros: as before, but for what lies ahead
module _
    (κs : Lfts 0) (given : Args step_call.signature κs) (a : Answer) (at : AtExit step_call.ended κs)
    (call : step_reads.Post κs given a at) where
  abbrev read : Reading
  read = reading given.1.1.0 0 given.1.1.1.0

  pub a_step_is_answered_as_before : NoDelays given.1.0 → ¬ Ahead given.0 read → a ≡ step_before given.1.0 given.0 given.1.1.0 given.1.1.1.0
  a_step_is_answered_as_before z n =
      let t = given.1.0 in
      let s = given.0 in
      call
      ∙ ap (λ k. admitting k (answer_to t s read (guard t s read)) s) (sym (admitted_as_before t z))
      ∙ ap (λ g. admitting (rule_before t) (answer_to t s read g) s) (sym (as_before t z s read n))

  pub a_step_that_is_answered_otherwise :
      NoDelays given.1.0 → broken_rule given.1.0 ≡ 0 → Ahead given.0 read
      → ((step_before given.1.0 given.0 given.1.1.0 given.1.1.1.0).number ≡ 0)
      × (a ≡ record { number = 9; rule = 0; excess = given.0.stage_time - given.0.clock; state = given.0 })
  a_step_that_is_answered_otherwise z admitted h =
      let t = given.1.0 in
      let s = given.0 in
      let o = otherwise t z s read h in (
        rw (admitted_as_before t z, admitted, o.before),
        call
            ∙ ap (λ k. admitting k (answer_to t s read (guard t s read)) s) admitted
            ∙ ap (λ g. answer_to t s read g) o.now
            ∙ ap (λ e. record { number = 9; rule = 0; excess = e; state = s }) o.by,
      )
