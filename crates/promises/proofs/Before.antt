-- Request 2's statement on the rules of before it: over the old twelve steps, old and new agree.
-- Assumes nothing.
use mathlib.Core.Path.{◌≡◌, refl, sym, ap, ◌∙◌}
use mathlib.Core.Bool.{Bool, true, false, cond, not, ◌&&◌, ◌||◌}
use mathlib.Core.List.{List, [], ◌∷◌}
use Prim.Native.Nat.{ℕ, zero, suc, ◌≤◌, ◌<◌}
use native.Mathlib.Omega.{arith}
use lib.Dec.{T, leb, eqb}
use lib.ListN.{get_or}
use borrow.Author.Tests.{eqb-true}
use Rattle.std.specs.Prelude.{Ok, Err}
use Rattle.checks.specs.Checks.{first}
use Rattle.checks.proofs.Tests.{tests, case}
use Rattle.checks.proofs.Checks.{Holds}
use Rattle.checks.proofs.Ranges.{from}
use Rattle.limits.specs.declared.Table.{Table}
use Rattle.phases.specs.Phases.{order_of, next_of, clutch_of}
use Rattle.shift.specs.declared.State.{State}
use Rattle.shift.specs.Readings.{Reading}
use Rattle.shift.specs.declared.Misread.TheVariants.{WrongCode, WrongAmount}
use Rattle.shift.specs.declared.Step.{Step}
use Rattle.shift.specs.declared.Step.TheVariants.{FromNeutral, GearToGear, ToNeutral, Deliver, DeviceGood, DeviceFailed, EngineWaits, Take, AskClutch, RaiseError, Finish, Tick, Reset}
use Rattle.shift.specs.States.{start}
use Rattle.shift.specs.Steps.{allowed, rests_in, boxed}
use Rattle.shift.specs.Answers.{listed, checks_of, checks, guard, led}
use Rattle.shift.specs.Runs.{Outcome, after, run_by, run}
use Rattle.shift.proofs.ListedLaws.{left_to_check, stays_listed}
use Rattle.promises.specs.Before.{led_before, WithoutReset, Agree}
use Rattle.promises.proofs.Runs.{each_step}
use Rattle.promises.proofs.Boxes.{boxes, side, Stands, kept_standing}

-- the old box beside today's: the same at rest and in 22
record Same (p old box : ℕ) : Type 0 where
  at_rest : p ≡ 0 → old ≡ box
  in_22 : p ≡ 22 → old ≡ box

-- the old box beside today's state, whose box stands by phase
record Beside (old : ℕ) (s : State) : Type 0 where
  holds : Holds (listed s)
  old_holds : T (leb old 1)
  stands : Stands s.phase s.gear_box
  same : Same s.phase old s.gear_box

-- ---- the guard looks at the box at rest alone
module _ (t : Table) (old : ℕ) (s : State) (b : Beside old s) where
  same_side : (side : ℕ) → first (rests_in (boxed old s) side) ≡ first (rests_in s side)
  same_side side =
      case (eqb s.phase 0)
      (λ e. rw (b.same.at_rest (eqb-true s.phase 0 e)))
      (λ e. rw e)

  same_checks : (r : Reading) → first (checks_of (allowed t (boxed old s)) r) ≡ first (checks_of (allowed t s) r)
  same_checks (Ok FromNeutral) = same_side 0
  same_checks (Ok GearToGear) = same_side 1
  same_checks (Ok ToNeutral) = same_side 1
  same_checks (Ok Deliver) = refl
  same_checks (Ok DeviceGood) = refl
  same_checks (Ok DeviceFailed) = refl
  same_checks (Ok EngineWaits) = refl
  same_checks (Ok Take) = refl
  same_checks (Ok AskClutch) = refl
  same_checks (Ok RaiseError) = refl
  same_checks (Ok Finish) = refl
  same_checks (Ok (Tick n)) = refl
  same_checks (Ok Reset) = refl
  same_checks (Err WrongCode) = refl
  same_checks (Err WrongAmount) = refl

  same_guard : (r : Reading) → guard t (boxed old s) r ≡ guard t s r
  same_guard r =
      let h = b.holds in
      sym (left_to_check t (boxed old s) (h.0, (h.1.0, (b.old_holds, tt))) r)
      ∙ same_checks r
      ∙ left_to_check t s h r

-- ---- the old box after a step
abbrev next : ℕ → State → Reading → ℕ
next old s r = (led_before (boxed old s) r).gear_box

-- what the old rules lead to is today's state with the old box
same_led : (old : ℕ) (s : State) (r : Reading) → led_before (boxed old s) r ≡ boxed (next old s r) (led s r)
same_led old s (Ok FromNeutral) = refl
same_led old s (Ok GearToGear) = refl
same_led old s (Ok ToNeutral) = refl
same_led old s (Ok Deliver) = refl
same_led old s (Ok DeviceGood) = refl
same_led old s (Ok DeviceFailed) = refl
same_led old s (Ok EngineWaits) = refl
same_led old s (Ok Take) = refl
same_led old s (Ok AskClutch) = refl
same_led old s (Ok RaiseError) = refl
same_led old s (Ok Finish) = refl
same_led old s (Ok (Tick n)) = refl
same_led old s (Ok Reset) = refl
same_led old s (Err WrongCode) = refl
same_led old s (Err WrongAmount) = refl

-- it is neutral or in gear
either_way : (b c : Bool) (old : ℕ) → T (leb old 1) → T (leb (cond b (cond c 0 1) old) 1)
either_way true true old h = tt
either_way true false old h = tt
either_way false c old h = h

-- it, on going from the phase p to the phase q
abbrev moved : ℕ → ℕ → ℕ → ℕ
moved p q old = cond (eqb q 22 && not (eqb p 22)) (cond (eqb p 19 || eqb p 21) 0 1) old

-- where the phase stays, 22 is not entered
stays : (p old : ℕ) → moved p p old ≡ old
stays p old = case (eqb p 22) (λ e. rw e) (λ e. rw e)

-- by the phase table: an order that is taken leads to a phase of the shift or, with the same box, to 22; an ask to a phase of the shift
no_rest : (p : ℕ) → 1 ≤ p → p < 22 → ¬ (next_of p ≡ 0)
no_rest = from _ 1 21 (omega arith)

taken :
    (old box p : ℕ) → 1 ≤ p → p < 22 → (box ≡ get_or boxes p 0) × (next_of p ≡ 22) → moved p (next_of p) old ≡ side box p
taken old box = from _ 1 21 (omega arith)

asked : (p : ℕ) → 1 ≤ p → p < 22 → order_of p ≤ 2 → ¬ (clutch_of p ≡ 0)
asked = from _ 1 21 (omega arith)

asked_on : (p : ℕ) → 1 ≤ p → p < 22 → order_of p ≤ 2 → ¬ (clutch_of p ≡ 22)
asked_on = from _ 1 21 (omega arith)

module _ (t : Table) (old : ℕ) (s : State) (b : Beside old s) where
  unmoved : Same s.phase (moved s.phase s.phase old) s.gear_box
  unmoved = rw (stays s.phase old) b.same

  kept : (x : Step) → Holds (checks t s (Ok x)) → ¬ (◌≡◌ {A = Reading} (Ok x) (Ok Reset)) → Same (led s (Ok x)).phase (next old s (Ok x)) (led s (Ok x)).gear_box
  kept FromNeutral h n = omega arith
  kept GearToGear h n = omega arith
  kept ToNeutral h n = omega arith
  kept Deliver h n = unmoved
  kept DeviceGood h n = unmoved
  kept DeviceFailed h n = unmoved
  kept EngineWaits h n = unmoved
  kept Take h n =
      let l : 1 ≤ s.phase = omega (arith, tests) in
      let m : s.phase ≤ 21 = omega (arith, tests) in record {
        at_rest = λ e. absurd (no_rest s.phase l (omega arith) e);
        in_22 = λ e. taken old s.gear_box s.phase l (omega arith) (b.stands l m, e);
      }
  kept AskClutch h n =
      let l : 1 ≤ s.phase = omega (arith, tests) in
      let m : s.phase < 22 = omega (arith, tests) in
      let o : order_of s.phase ≤ 2 = omega (arith, tests) in
      record { at_rest = λ e. absurd (asked s.phase l m o e); in_22 = λ e. absurd (asked_on s.phase l m o e) }
  kept RaiseError h n = omega arith
  kept Finish h n =
      let done : s.phase ≡ 22 = omega (arith, tests) in
      record { at_rest = λ e. b.same.in_22 done; in_22 = λ e. absurd (omega arith) }
  kept (Tick n) h m = unmoved
  kept Reset h n = absurd (n refl)

  goes_beside : (r : Reading) → ¬ (r ≡ Ok Reset) → guard t s r ≡ 0 → Beside (next old s r) (led s r)
  goes_beside r n z = record {
    holds = stays_listed s r b.holds;
    old_holds =
        either_way (eqb (led (boxed old s) r).phase 22 && not (eqb s.phase 22)) (eqb s.phase 19 || eqb s.phase 21) old b.old_holds;
    stands = kept_standing t s b.stands r z;
    same =
        each_step (λ q. ¬ (q ≡ Ok Reset) → Same (led s q).phase (next old s q) (led s q).gear_box) t s kept r z n;
  }

-- ---- over lists
ended :
    (old : ℕ) (s : State) (k d e : ℕ) → Beside old s
    → Agree (record { count = 0; number = k; excess = d; state = boxed old s }) (record { count = 0; number = k; excess = e; state = s })
ended old s k d e b = record {
  count = refl;
  number = refl;
  clock = refl;
  phase = refl;
  phase_time = refl;
  stage = refl;
  stage_time = refl;
  request_time = refl;
  failed_phase = refl;
  at_rest = λ e. ap (λ box. boxed box s) (b.same.at_rest e);
  in_22 = λ e. ap (λ box. boxed box s) (b.same.in_22 e);
}

goes_on :
    (old : ℕ) (s : State) (k d e : ℕ) (xs ys : Outcome) → Beside old s → (k ≡ 0 → Agree xs ys)
    → Agree (after k d (boxed old s) xs) (after k e s ys)
goes_on old s zero d e xs ys b f =
    let a = f refl in record {
      count = ap suc a.count;
      number = a.number;
      clock = a.clock;
      phase = a.phase;
      phase_time = a.phase_time;
      stage = a.stage;
      stage_time = a.stage_time;
      request_time = a.request_time;
      failed_phase = a.failed_phase;
      at_rest = a.at_rest;
      in_22 = a.in_22;
    }
goes_on old s (suc k) d e xs ys b f = ended old s (suc k) d e b

from_beside :
    (t : Table) (old : ℕ) (s : State) (rs : List Reading) → Beside old s → WithoutReset rs
    → Agree (run_by led_before t (boxed old s) rs) (run t s rs)
from_beside t old s [] b w = ended old s 0 0 0 b
from_beside t old s (r ∷ rs) b w =
    rw (same_guard t old s b r, same_led old s r)
    (goes_on old s (guard t s r) _ _ (run_by led_before t (boxed (next old s r) (led s r)) rs) (run t (led s r) rs) b
    (λ z. from_beside t (next old s r) (led s r) rs (goes_beside t old s b r w.0 z) w.1))

-- For every table and every list of the old twelve steps, old rules and new accept the same steps and refuse at the same record by the
-- same number; at rest and in phase 22 their states are the same, elsewhere but for the box. A beginning of a list is a list, so this
-- is so at each of its points.
pub old_and_new_agree :
    (t : Table) (rs : List Reading) → WithoutReset rs → Agree (run_by led_before t start rs) (run t start rs)
old_and_new_agree t rs =
    from_beside t 0 start rs (record {
      holds = (tt, (tt, (tt, tt)));
      old_holds = tt;
      stands = omega arith;
      same = omega arith;
    })
