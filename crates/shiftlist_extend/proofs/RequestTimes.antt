-- In the midst of a shift the walk along accepted records has the state's clock, phase and request time, and the last record's number.
-- Assumes nothing.
use mathlib.Core.Path.{◌≡◌, refl, sym, ap, subst, ◌∙◌}
use mathlib.Core.Bool.{Bool, true, false, cond}
use mathlib.Core.List.{List, [], ◌∷◌}
use Prim.Native.Nat.{ℕ, zero, suc, ◌+◌}
use native.Mathlib.Omega.{arith}
use lib.Dec.{T, eqb}
use lib.ListN.{length}
use borrow.Author.Tests.{ne_eqb}
use Rattle.std.specs.Prelude.{Ok, Err}
use Rattle.checks.proofs.Tests.{passes}
use Rattle.phases.specs.Phases.{next_of, clutch_of, unfinished}
use Rattle.phases.proofs.PhaseLaws.{unfinished_in}
use Rattle.promises.specs.Verdicts.{leads}
use Rattle.shift.specs.declared.State.{State}
use Rattle.shift.specs.declared.Step.{Step}
use Rattle.shift.specs.declared.Step.TheVariants.{FromNeutral, GearToGear, ToNeutral, Deliver, DeviceGood, DeviceFailed, EngineWaits, Take, AskClutch, RaiseError, Finish, Tick, Reset}
use Rattle.shift.specs.Readings.{Reading}
use Rattle.shift.specs.declared.Misread.TheVariants.{WrongCode, WrongAmount}
use Rattle.shift.specs.Answers.{led}
use Rattle.trace.specs.Traces.{Trace, trace_of, stepped, after}
use Rattle.trace.proofs.TraceLaws.{projects_step, allowed_in, Sound}
use Rattle.shiftlist.specs.declared.walk.Walk.{Walk}
use Rattle.shiftlist.specs.Shifts.{kind_in, asks_in, kind_of, asks}
use Rattle.shiftlist.specs.Walks.{trace_in, further}
use Rattle.shiftlist.proofs.PhaseSteps.{Moves, begins, goes, ends, rests, moves}
use Rattle.shiftlist.proofs.WalkLaws.{walked, at_end, same_trace}

falsely : {A : Type 0} → false ≡ true → A
falsely e = absurd (subst T (sym e) tt)

-- ---- the request time by a step's kind
abbrev time_by : ℕ → ℕ → ℕ → ℕ
time_by zero clock time = time
time_by (suc k) clock time = clock

kept : (q time : ℕ) → unfinished q ≡ true → cond (eqb q 0) 0 time ≡ time
kept q time u = let i = unfinished_in q (passes (unfinished q) u) in rw (ne_eqb q 0 (λ e. omega arith))

step_time :
    (s : State) (x : Step) → unfinished (led s (Ok x)).phase ≡ true
    → (led s (Ok x)).request_time ≡ time_by (kind_in x) s.clock s.request_time
step_time s FromNeutral u = refl
step_time s GearToGear u = refl
step_time s ToNeutral u = refl
step_time s Deliver u = refl
step_time s DeviceGood u = refl
step_time s DeviceFailed u = refl
step_time s EngineWaits u = refl
step_time s Take u = kept (next_of s.phase) s.request_time u
step_time s AskClutch u = kept (clutch_of s.phase) s.request_time u
step_time s RaiseError u = falsely u
step_time s Finish u = falsely u
step_time s (Tick n) u = refl
step_time s Reset u = falsely u

walk_time : (k : ℕ) (w : Walk) (i : ℕ) (b : Bool) (t : Trace) → (further k w i b t).request_time ≡ time_by k w.clock w.request_time
walk_time zero w i b t = refl
walk_time (suc k) w i b t = refl

-- ---- the walk keeps to the state
pub record Keeps (s : State) (w : Walk) : Type 0 where
  pub trace : trace_in w ≡ trace_of s
  pub time : unfinished s.phase ≡ true → w.request_time ≡ s.request_time

-- a step that is no request leads into the midst of a shift from there alone
from_midst : (k p q : ℕ) → Moves k p q → unfinished q ≡ true → k ≡ 0 → unfinished p ≡ true
from_midst k p q (begins m e u v c z) h n = absurd (omega arith)
from_midst k p q (goes e u v c z) h n = u
from_midst k p q (ends m e u v c z) h n = falsely (sym v ∙ h)
from_midst k p q (rests e u v c) h n = falsely (sym v ∙ h)

same_time :
    (k clock clock' time time' : ℕ) → clock ≡ clock' → (k ≡ 0 → time ≡ time') → time_by k clock time ≡ time_by k clock' time'
same_time zero clock clock' time time' e f = f refl
same_time (suc k) clock clock' time time' e f = e

keeps_step : (s : State) (w : Walk) (i : ℕ) (x : Step) → T (allowed_in s.phase x) → Keeps s w → Keeps (led s (Ok x)) (walked w i (Ok x))
keeps_step s w i x h k = record {
  trace = same_trace (kind_in x) w i (asks_in x) (stepped (trace_in w) x) ∙ ap (λ t. stepped t x) k.trace ∙ sym (projects_step s x);
  time =
      λ u.
      let there = ap (λ (t : Trace). t.phase) (projects_step s x) in
      let midst = from_midst (kind_in x) s.phase (stepped (trace_of s) x).phase (moves (trace_of s) x h) (ap unfinished (sym there) ∙ u) in
      walk_time (kind_in x) w i (asks_in x) (stepped (trace_in w) x)
      ∙ same_time (kind_in x) w.clock s.clock w.request_time s.request_time (ap (λ (t : Trace). t.clock) k.trace) (λ n. k.time (midst n))
      ∙ sym (step_time s x u);
}

pub keeps_to_the_end : (s : State) (w : Walk) (i : ℕ) (xs : List Reading) → Sound (trace_of s) xs → Keeps s w → Keeps (leads s xs) (at_end w i xs)
keeps_to_the_end s w i [] h k = k
keeps_to_the_end s w i (Ok x ∷ xs) h k =
    keeps_to_the_end (led s (Ok x)) (walked w i (Ok x)) (suc i) xs (subst (λ t. Sound t xs) (sym (projects_step s x)) h.2)
    (keeps_step s w i x h.0 k)
keeps_to_the_end s w i (Err WrongCode ∷ xs) h k = absurd h
keeps_to_the_end s w i (Err WrongAmount ∷ xs) h k = absurd h

-- ---- the last record that it went over
further_last : (k : ℕ) (w : Walk) (i : ℕ) (b : Bool) (t : Trace) → (further k w i b t).last ≡ i
further_last zero w i b t = refl
further_last (suc k) w i b t = refl

pub last_there : (w : Walk) (i : ℕ) (r : Reading) (rs : List Reading) → (at_end w i (r ∷ rs)).last + 1 ≡ i + length (r ∷ rs)
last_there w i r [] = let e = further_last (kind_of r) w i (asks r) (after (trace_in w) r) in omega arith
last_there w i r (q ∷ rs) = let h = last_there (walked w i r) (suc i) q rs in omega arith
