-- What a step that its phase allows does to a shift: it begins one, goes on with it, ends it, or is outside of any.
-- Assumes nothing.
use Rattle.std.specs.Prelude.{Ok}
use Rattle.std.proofs.Common.{◌≡◌, ℕ, suc, ◌<◌, ◌≤◌, Bool, true, false, ◌&&◌, T, eqb, leb, refl, arith, ne_eqb, eqb-true, le-leb, leb-false, leb-true}
use borrow.Author.Tests.{lt-leb, eqb-false}
use Rattle.checks.proofs.Tests.{passed, left, right, case}
use Rattle.checks.proofs.Ranges.{from}
use Rattle.phases.specs.Phases.{next_of, clutch_of, unfinished, engine}
use Rattle.phases.proofs.PhaseLaws.{unfinished_in, next_listed, clutch_listed}
use Rattle.shift.specs.declared.Step.{Step}
use Rattle.shift.specs.declared.Step.TheVariants.{FromNeutral, GearToGear, ToNeutral, Deliver, DeviceGood, DeviceFailed, EngineWaits, Take, AskClutch, RaiseError, Finish, Tick, Reset}
use Rattle.trace.specs.Traces.{Trace, stepped}
use Rattle.trace.proofs.TraceLaws.{allowed_in}
use Rattle.shiftlist.specs.Shifts.{kind_of, end_of}
use Rattle.shiftlist.specs.Walks.{closes}

-- k is the step's kind, p the phase before it and q the phase after it
pub data Moves (k p q : ℕ) : Type 0 where
  begins : (m : ℕ) → k ≡ suc m → unfinished p ≡ false → unfinished q ≡ true → closes p q ≡ false → end_of q ≡ 0 → Moves k p q
  goes : k ≡ 0 → unfinished p ≡ true → unfinished q ≡ true → closes p q ≡ false → end_of q ≡ 0 → Moves k p q
  ends : (m : ℕ) → k ≡ 0 → unfinished p ≡ true → unfinished q ≡ false → closes p q ≡ true → end_of q ≡ suc m → Moves k p q
  rests : k ≡ 0 → unfinished p ≡ false → unfinished q ≡ false → closes p q ≡ false → Moves k p q

both : {a b : Bool} → a ≡ true → b ≡ true → a && b ≡ true
both e f = rw (e, f)

-- from an unfinished phase
pub moved : (p q : ℕ) → T (unfinished p) → 1 ≤ q → q ≤ 23 → Moves 0 p q
moved p q u l h =
    let i = unfinished_in p u in
    case (leb q 21)
    (λ e.
    let k = leb-true q 21 e in
    goes refl (passed (unfinished p) u) (both (le-leb 1 q l) e) (rw (lt-leb 22 q (omega arith), le-leb p 21 i.1))
    (rw (ne_eqb q 22 (λ z. omega arith), ne_eqb q 23 (λ z. omega arith))))
    (λ e.
    let k = leb-false q 21 e in
    let out : unfinished q ≡ false = rw (le-leb 1 q l, e) in
    let cl : closes p q ≡ true = both (le-leb p 21 i.1) (le-leb 22 q (omega arith)) in
    case (eqb q 22)
    (λ f. ends 0 refl (passed (unfinished p) u) out cl (rw f))
    (λ f. let z : q ≡ 23 = omega (arith, eqb-false q 22 f) in ends 1 refl (passed (unfinished p) u) out cl (rw z)))

next_from : (p : ℕ) → 1 ≤ p → p < 22 → 1 ≤ next_of p
next_from = from _ 1 21 (omega arith)

clutch_from : (p : ℕ) → 1 ≤ p → p < 22 → T (engine p) → 1 ≤ clutch_of p
clutch_from = from (λ p. T (engine p) → 1 ≤ clutch_of p) 1 21 (omega arith)

-- a tick, in any phase
waits : (p : ℕ) → Moves 0 p p
waits p =
    case (unfinished p)
    (λ u. let i = unfinished_in p (rw u tt) in moved p p (rw u tt) i.0 (omega arith))
    (λ u.
    let c : closes p p ≡ false = case (leb p 21) (λ e. let l = leb-true p 21 e in rw (e, lt-leb 22 p (omega arith))) (λ e. rw e) in
    rests refl u u c)

-- a request, at rest
asked : (k p q : ℕ) → eqb p 0 ≡ true → unfinished q ≡ true → leb 22 q ≡ false → end_of q ≡ 0 → Moves (suc k) p q
asked k p q e u c z = let r = eqb-true p 0 e in begins k refl (rw r) u (rw (r, c)) z

pub moves : (t : Trace) (x : Step) → T (allowed_in t.phase x) → Moves (kind_of (Ok x)) t.phase (stepped t x).phase
moves t FromNeutral h = asked 0 t.phase 1 (passed (eqb t.phase 0) h) refl refl refl
moves t GearToGear h = asked 1 t.phase 6 (passed (eqb t.phase 0) h) refl refl refl
moves t ToNeutral h = asked 2 t.phase 17 (passed (eqb t.phase 0) h) refl refl refl
moves t Deliver h = let i = unfinished_in t.phase h in moved t.phase t.phase h i.0 (omega arith)
moves t DeviceGood h = let i = unfinished_in t.phase h in moved t.phase t.phase h i.0 (omega arith)
moves t DeviceFailed h = let i = unfinished_in t.phase h in moved t.phase t.phase h i.0 (omega arith)
moves t EngineWaits h = let i = unfinished_in t.phase h in moved t.phase t.phase h i.0 (omega arith)
moves t Take h =
    let i = unfinished_in t.phase h in
    moved t.phase (next_of t.phase) h (next_from t.phase i.0 (omega arith)) (next_listed t.phase (omega arith))
moves t AskClutch h =
    let p = t.phase in
    let u = left (unfinished p) (engine p) h in
    let i = unfinished_in p u in
    moved p (clutch_of p) u (clutch_from p i.0 (omega arith) (right (unfinished p) (engine p) h)) (clutch_listed p (omega arith))
moves t RaiseError h = moved t.phase 23 h (omega arith) (omega arith)
moves t Finish h = let r = eqb-true t.phase 22 (passed (eqb t.phase 22) h) in rests refl (rw r) refl (rw r)
moves t (Tick n) h = waits t.phase
moves t Reset h = let r = eqb-true t.phase 23 (passed (eqb t.phase 23) h) in rests refl (rw r) refl (rw r)
