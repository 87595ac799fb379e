-- Laws on listed states: what is left to check in them, and that a step leads from one to another.
-- Assumes nothing.
use mathlib.Core.Path.{◌≡◌, refl, sym, ap, subst, ◌∙◌}
use mathlib.Core.Bool.{Bool, true, false, cond}
use Prim.Native.Nat.{ℕ, zero, suc, ◌≤◌}
use native.Mathlib.Omega.{arith}
use lib.Dec.{T, leb, eqb, leb→le, le→leb}
use Rattle.std.specs.Prelude.{Ok, Err}
use Rattle.checks.specs.Checks.{first}
use Rattle.checks.proofs.Checks.{Holds, first_right}
use Rattle.limits.specs.declared.Table.{Table}
use Rattle.phases.specs.Phases.{set, release, order_of, unfinished}
use Rattle.phases.proofs.PhaseLaws.{next_listed, clutch_listed}
use Rattle.shift.specs.declared.State.{State}
use Rattle.shift.specs.declared.Step.{Step}
use Rattle.shift.specs.declared.Step.TheVariants.{FromNeutral, GearToGear, ToNeutral, Deliver, DeviceGood, DeviceFailed, EngineWaits, Take, AskClutch, RaiseError, Finish, Tick, Reset}
use Rattle.shift.specs.Readings.{Reading}
use Rattle.shift.specs.declared.Misread.TheVariants.{WrongCode, WrongAmount}
use Rattle.shift.specs.declared.Answer.{Answer}
use Rattle.shift.specs.States.{entered}
use Rattle.shift.specs.Steps.{allowed, requested, boxed, box_taken, effect}
use Rattle.shift.specs.Answers.{listed, checks_of, guard, led, excess, answer, answer_to, judged}

-- of a listed state nothing is checked but what its step asks
pub left_to_check : (t : Table) (s : State) → Holds (listed s) → (r : Reading) → first (checks_of (allowed t s) r) ≡ guard t s r
left_to_check t s h (Ok x) = sym (first_right (listed s) (allowed t s x) h)
left_to_check t s h (Err WrongCode) = refl
left_to_check t s h (Err WrongAmount) = refl

pub judged_as_listed :
    (t : Table) (s : State) (r : Reading) → Holds (listed s)
    → answer_to t s r (first (checks_of (allowed t s) r)) ≡ judged t s r
judged_as_listed t s r h = ap (answer_to t s r) (left_to_check t s h r)

-- entering a phase that is listed
either_way : (b : Bool) (x y n : ℕ) → T (leb x n) → T (leb y n) → T (leb (cond b x y) n)
either_way true x y n h k = h
either_way false x y n h k = k

enters : (p : ℕ) (s : State) → p ≤ 23 → Holds (listed s) → Holds (listed (entered p s))
enters p s l h = (le→leb p 23 l, (either_way (unfinished p) 1 0 5 tt tt, h.1.1))

-- taking an order
takes : (s : State) → Holds (listed s) → Holds (listed (boxed (box_taken s) s))
takes s h =
    let o = order_of s.phase in
    let released = either_way (eqb o release) 0 s.gear_box 1 tt h.1.1.0 in
    (h.0, (h.1.0, (either_way (eqb o set) 1 _ 1 tt released, tt)))

leads : (s : State) (x : Step) → Holds (listed s) → Holds (listed (effect s x))
leads s FromNeutral h = enters 1 (requested s) (omega arith) h
leads s GearToGear h = enters 6 (requested s) (omega arith) h
leads s ToNeutral h = enters 17 (requested s) (omega arith) h
leads s Deliver h = (h.0, (tt, h.1.1))
leads s DeviceGood h = (h.0, (tt, h.1.1))
leads s DeviceFailed h = (h.0, (tt, h.1.1))
leads s EngineWaits h = (h.0, (tt, h.1.1))
leads s Take h = enters _ (boxed (box_taken s) s) (next_listed s.phase (omega (arith, leb→le s.phase 23 h.0))) (takes s h)
leads s AskClutch h = enters _ s (clutch_listed s.phase (omega (arith, leb→le s.phase 23 h.0))) h
leads s RaiseError h = enters 23 s (omega arith) h
leads s Finish h = enters 0 s (omega arith) h
leads s (Tick n) h = h
leads s Reset h = enters 0 s (omega arith) h

pub stays_listed : (s : State) (r : Reading) → Holds (listed s) → Holds (listed (led s r))
stays_listed s (Ok x) h = leads s x h
stays_listed s (Err WrongCode) h = h
stays_listed s (Err WrongAmount) h = h

-- so an accepted step leads from a listed state to a listed one
pub led_to : (k over : ℕ) (next s : State) → (answer k over next s).number ≡ 0 → (answer k over next s).state ≡ next
led_to zero over next s z = refl
led_to (suc k) over next s z = absurd (omega arith)

pub accepted_listed :
    (t : Table) (s : State) (r : Reading) (a : Answer) → a ≡ judged t s r → a.number ≡ 0 → Holds (listed s) → Holds (listed a.state)
accepted_listed t s r a e z h =
    let there = led_to (guard t s r) (excess t s r (guard t s r)) (led s r) s (sym (ap (λ (q : Answer). q.number) e) ∙ z) in
    subst (λ (q : State). Holds (listed q)) (sym (ap (λ (q : Answer). q.state) e ∙ there)) (stays_listed s r h)
