-- The trace is a projection of the state, step by step; an accepted list is sound along its trace.
-- Assumes nothing.
use mathlib.Core.Path.{◌≡◌, refl, sym, subst}
use mathlib.Core.Bool.{Bool, true, ◌&&◌}
use mathlib.Core.List.{List, [], ◌∷◌}
use Prim.Native.Nat.{ℕ, ◌≤◌}
use native.Mathlib.Omega.{arith}
use lib.Dec.{T, leb, eqb}
use Rattle.std.specs.Prelude.{Ok, Err}
use Rattle.checks.proofs.Checks.{Holds}
use Rattle.checks.proofs.Tests.{tests, both}
use Rattle.limits.specs.declared.Table.{Table}
use Rattle.phases.specs.Phases.{at_rest, done, error, order_of, unfinished, engine}
use Rattle.phases.proofs.PhaseLaws.{unfinished_in, ordered}
use Rattle.shift.specs.declared.State.{State}
use Rattle.shift.specs.declared.Step.{Step}
use Rattle.shift.specs.declared.Step.TheVariants.{FromNeutral, GearToGear, ToNeutral, Deliver, DeviceGood, DeviceFailed, EngineWaits, Take, AskClutch, RaiseError, Finish, Tick, Reset}
use Rattle.shift.specs.Readings.{Reading}
use Rattle.shift.specs.declared.Misread.TheVariants.{WrongCode, WrongAmount}
use Rattle.shift.specs.Answers.{checks, guard, led, excess}
use Rattle.shift.specs.Runs.{run}
use Rattle.promises.proofs.Runs.{checked, went_on}
use Rattle.trace.specs.Traces.{Trace, trace_of, stepped, after}

-- ---- projection
pub projects_step : (s : State) (x : Step) → trace_of (led s (Ok x)) ≡ stepped (trace_of s) x
projects_step s FromNeutral = refl
projects_step s GearToGear = refl
projects_step s ToNeutral = refl
projects_step s Deliver = refl
projects_step s DeviceGood = refl
projects_step s DeviceFailed = refl
projects_step s EngineWaits = refl
projects_step s Take = refl
projects_step s AskClutch = refl
projects_step s RaiseError = refl
projects_step s Finish = refl
projects_step s (Tick n) = refl
projects_step s Reset = refl

pub projects : (s : State) (r : Reading) → trace_of (led s r) ≡ after (trace_of s) r
projects s (Ok x) = projects_step s x
projects s (Err WrongCode) = refl
projects s (Err WrongAmount) = refl

-- ---- an accepted list
-- the phases in which a step can be accepted at all
abbrev pub allowed_in : ℕ → Step → Bool
allowed_in p FromNeutral = eqb p at_rest
allowed_in p GearToGear = eqb p at_rest
allowed_in p ToNeutral = eqb p at_rest
allowed_in p Deliver = unfinished p
allowed_in p DeviceGood = unfinished p
allowed_in p DeviceFailed = unfinished p
allowed_in p EngineWaits = unfinished p
allowed_in p Take = unfinished p
allowed_in p AskClutch = unfinished p && engine p
allowed_in p RaiseError = unfinished p
allowed_in p Finish = eqb p done
allowed_in p (Tick n) = true
allowed_in p Reset = eqb p error

-- each record of a list is a step that its phase can accept, and the clock stays within 32 bits
abbrev pub Sound : Trace → List Reading → Type 0
Sound t [] = Unit {0}
Sound t (Ok x ∷ rs) = T (allowed_in t.phase x) × ((stepped t x).clock ≤ 4294967295) × Sound (stepped t x) rs
Sound t (Err WrongCode ∷ rs) = ⊥
Sound t (Err WrongAmount ∷ rs) = ⊥

running : (p : ℕ) → T (leb 1 p) → T (leb p 21) → T (unfinished p)
running p a b = both (leb 1 p) (leb p 21) a b

allowed_step : (t : Table) (s : State) (x : Step) → Holds (checks t s (Ok x)) → T (allowed_in s.phase x)
allowed_step t s FromNeutral h = h.1.1.1.0
allowed_step t s GearToGear h = h.1.1.1.0
allowed_step t s ToNeutral h = h.1.1.1.0
allowed_step t s Deliver h = running s.phase h.1.1.1.0 h.1.1.1.1.0
allowed_step t s DeviceGood h = running s.phase h.1.1.1.0 h.1.1.1.1.0
allowed_step t s DeviceFailed h = running s.phase h.1.1.1.0 h.1.1.1.1.0
allowed_step t s EngineWaits h = running s.phase h.1.1.1.0 h.1.1.1.1.0
allowed_step t s Take h = running s.phase h.1.1.1.0 h.1.1.1.1.0
allowed_step t s AskClutch h =
    let p = s.phase in
    let a = h.1.1.1.0 in
    let b = h.1.1.1.1.0 in
    let i = unfinished_in p (running p a b) in
    let o : 1 ≤ order_of p = ordered p i.0 (omega arith) in
    both (unfinished p) (engine p) (running p a b) (both (leb 1 (order_of p)) (leb (order_of p) 2) (omega (arith, tests)) h.1.1.1.1.1.1.0)
allowed_step t s RaiseError h = running s.phase h.1.1.1.0 h.1.1.1.1.0
allowed_step t s Finish h = h.1.1.1.0
allowed_step t s (Tick n) h = tt
allowed_step t s Reset h = h.1.1.1.0

clocked_step : (t : Table) (s : State) (x : Step) → Holds (checks t s (Ok x)) → s.clock ≤ 4294967295 → (stepped (trace_of s) x).clock ≤ 4294967295
clocked_step t s FromNeutral h c = c
clocked_step t s GearToGear h c = c
clocked_step t s ToNeutral h c = c
clocked_step t s Deliver h c = c
clocked_step t s DeviceGood h c = c
clocked_step t s DeviceFailed h c = c
clocked_step t s EngineWaits h c = c
clocked_step t s Take h c = c
clocked_step t s AskClutch h c = c
clocked_step t s RaiseError h c = c
clocked_step t s Finish h c = c
clocked_step t s (Tick n) h c = omega (arith, tests)
clocked_step t s Reset h c = c

pub accepted_sound :
    (t : Table) (s : State) (rs : List Reading) → s.clock ≤ 4294967295 → (run t s rs).number ≡ 0 → Sound (trace_of s) rs
accepted_sound t s [] c e = tt
accepted_sound t s (Ok x ∷ rs) c e =
    let w = went_on (guard t s (Ok x)) (excess t s (Ok x) (guard t s (Ok x))) s (run t (led s (Ok x)) rs) e in
    let h = checked t s x w.0 in
    let k = clocked_step t s x h c in
    let same = projects_step s x in
    (allowed_step t s x h, k, subst (λ q. Sound q rs) same (accepted_sound t (led s (Ok x)) rs (subst (λ (q : Trace). q.clock ≤ 4294967295) (sym same) k) w.1))
accepted_sound t s (Err WrongCode ∷ rs) c e = let w = went_on (guard t s (Err WrongCode)) (excess t s (Err WrongCode) (guard t s (Err WrongCode))) s (run t (led s (Err WrongCode)) rs) e in absurd (omega arith)
accepted_sound t s (Err WrongAmount ∷ rs) c e = let w = went_on (guard t s (Err WrongAmount)) (excess t s (Err WrongAmount) (guard t s (Err WrongAmount))) s (run t (led s (Err WrongAmount)) rs) e in absurd (omega arith)
