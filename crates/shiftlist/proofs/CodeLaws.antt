-- The walk by codes and amounts is the walk by what was read, on records that are accepted; and so is the count of requests.
-- Assumes nothing.
use Rattle.std.specs.Prelude.{Ok, Err}
use Rattle.std.proofs.Common.{◌≡◌, ℕ, zero, suc, ◌+◌, ◌*◌, ◌%◌, ◌≤◌, List, [], ◌∷◌, length, sym, refl, ap, ◌∙◌, subst, arith}
use Rattle.shift.specs.declared.Step.{Step}
use Rattle.shift.specs.declared.Step.TheVariants.{FromNeutral, GearToGear, ToNeutral, Deliver, DeviceGood, DeviceFailed, EngineWaits, Take, AskClutch, RaiseError, Finish, Tick, Reset}
use Rattle.shift.specs.Readings.{Reading}
use Rattle.shift.specs.declared.Misread.TheVariants.{WrongCode, WrongAmount}
use Rattle.stepfile.specs.Records.{record_of, records_in}
use Rattle.trace.specs.Traces.{Trace, stepped, after}
use Rattle.trace.proofs.TraceLaws.{Sound}
use Rattle.trace.proofs.CodeLaws.{code_of, amount_of, its_own}
use Rattle.shiftlist.specs.declared.Shift.{Shift}
use Rattle.shiftlist.specs.declared.walk.Walk.{Walk}
use Rattle.shiftlist.specs.Shifts.{kind_in, asks_in, kind_of, begun, entry_for}
use Rattle.shiftlist.specs.Walks.{coded_in, trace_in, in_hand, ticked, walked_by, closes, with, laid_by}
use Rattle.shiftlist.proofs.WalkLaws.{whole_on, shifts_on, walked, listed, same_trace}

-- ---- the walk by a step's code and amount
pub same_walk : (w : Walk) (i : ℕ) (x : Step) → (stepped (trace_in w) x).clock ≤ 4294967295 → walked_by w i (code_of x) (amount_of x) ≡ walked w i (Ok x)
same_walk w i FromNeutral h = refl
same_walk w i GearToGear h = refl
same_walk w i ToNeutral h = refl
same_walk w i Deliver h = refl
same_walk w i DeviceGood h = refl
same_walk w i DeviceFailed h = refl
same_walk w i EngineWaits h = refl
same_walk w i Take h = refl
same_walk w i AskClutch h = refl
same_walk w i RaiseError h = refl
same_walk w i Finish h = refl
same_walk w i (Tick n) h = let small : (w.clock + n) % 4294967296 ≡ w.clock + n = omega arith in ap (ticked w i) small
same_walk w i Reset h = refl

-- one more for a request
abbrev pub one_more : ℕ → ℕ → ℕ
one_more zero n = n
one_more (suc k) n = suc n

abbrev pub requests_in : List Reading → ℕ
requests_in [] = 0
requests_in (r ∷ rs) = one_more (kind_of r) (requests_in rs)

-- ---- a record of four bytes that is a step
record IsStep (r : Reading) : Type 0 where
  x : Step
  is : r ≡ Ok x

step_of : (r : Reading) (t : Trace) (rs : List Reading) → Sound t (r ∷ rs) → IsStep r
step_of (Ok x) t rs h = record { x = x; is = refl }
step_of (Err WrongCode) t rs h = absurd h
step_of (Err WrongAmount) t rs h = absurd h

module _ (a b c d : ℕ) (w : Walk) (i : ℕ) (rs : List Reading) (h : Sound (trace_in w) (record_of a b c d ∷ rs)) where
  abbrev n : ℕ
  n = c + 256 * d

  abbrev t : Trace
  t = trace_in w

  step : IsStep (record_of a b c d)
  step = step_of (record_of a b c d) t rs h

  abbrev x : Step
  x = step.x

  own : (code_of x ≡ a) × (amount_of x ≡ n)
  own = its_own b n x a step.is

  sound : Sound t (Ok x ∷ rs)
  sound = subst (λ r. Sound t (r ∷ rs)) step.is h

  pub walked_same : walked_by w i a n ≡ walked w i (record_of a b c d)
  walked_same =
      ap (λ k. walked_by w i k n) (sym own.0)
      ∙ ap (walked_by w i (code_of x)) (sym own.1)
      ∙ same_walk w i x sound.1
      ∙ ap (walked w i) (sym step.is)

  pub sound_on : Sound (trace_in (walked w i (record_of a b c d))) rs
  sound_on =
      subst (λ r. Sound (trace_in (walked w i r)) rs) (sym step.is)
      (subst (λ q. Sound q rs) (sym (same_trace (kind_in x) w i (asks_in x) (stepped t x))) sound.2)

-- ---- all records of a part
pub laid_as_listed : (w : Walk) (i : ℕ) (l : List ℕ) → Sound (trace_in w) (records_in l) → laid_by w i (coded_in l) ≡ listed w i (records_in l)
laid_as_listed w i [] h = refl
laid_as_listed w i (a ∷ []) h = refl
laid_as_listed w i (a ∷ b ∷ []) h = refl
laid_as_listed w i (a ∷ b ∷ c ∷ []) h = refl
laid_as_listed w i (a ∷ b ∷ c ∷ d ∷ l) h =
    let w' = walked w i (record_of a b c d) in
    ap (λ (v : Walk). with (closes w.phase v.phase) (in_hand v) (laid_by v (suc i) (coded_in l))) (walked_same a b c d w i (records_in l) h)
    ∙ ap (with (closes w.phase w'.phase) (in_hand w')) (laid_as_listed w' (suc i) l (sound_on a b c d w i (records_in l) h))

-- ---- there are as many shifts as requests
entry_more : (k n : ℕ) (e : Shift) (es : List Shift) → length es ≡ n → length (entry_for k e es) ≡ one_more k n
entry_more zero n e es h = h
entry_more (suc k) n e es h = ap suc h

pub as_many : (i : ℕ) (t : Trace) (rs : List Reading) → length (shifts_on i t rs) ≡ requests_in rs
as_many i t [] = refl
as_many i t (r ∷ rs) =
    entry_more (kind_of r) (requests_in rs) (whole_on (begun (kind_of r) i t.clock) (suc i) (after t r) rs) (shifts_on (suc i) (after t r) rs)
    (as_many (suc i) (after t r) rs)
