-- The walk makes the shifts of the definition, on every list that is sound along its trace.
-- Assumes nothing.
use Rattle.std.specs.Prelude.{Ok, Err}
use Rattle.std.proofs.Common.{◌≡◌, ℕ, zero, suc, ◌+◌, ◌-◌, Bool, true, false, List, [], ◌∷◌, ◌++◌, length, sym, refl, ap, ◌∙◌, subst, add-zero, arith}
use Rattle.phases.specs.Phases.{unfinished}
use Rattle.shift.specs.declared.State.{State}
use Rattle.shift.specs.declared.Step.{Step}
use Rattle.shift.specs.declared.Step.TheVariants.{FromNeutral, GearToGear, ToNeutral, Deliver, DeviceGood, DeviceFailed, EngineWaits, Take, AskClutch, RaiseError, Finish, Tick, Reset}
use Rattle.shift.specs.Readings.{Reading}
use Rattle.shift.specs.declared.Misread.TheVariants.{WrongCode, WrongAmount}
use Rattle.shift.specs.Answers.{led}
use Rattle.trace.specs.Traces.{Trace, trace_of, after, stepped}
use Rattle.trace.proofs.TraceLaws.{projects, Sound}
use Rattle.shiftlist.specs.declared.Shift.{Shift}
use Rattle.shiftlist.specs.declared.walk.Walk.{Walk}
use Rattle.shiftlist.specs.Shifts.{kind_of, asks, end_of, begun, grown, unless_ended, whole, entry_for, shifts_from}
use Rattle.shiftlist.specs.Walks.{trace_in, in_hand, further, closes, with}
use Rattle.shiftlist.proofs.PhaseSteps.{Moves, begins, goes, ends, rests, moves}

-- ---- the shifts along a trace
abbrev pub whole_on : Shift → ℕ → Trace → List Reading → Shift
whole_on e i t [] = e
whole_on e i t (r ∷ rs) =
    let next = after t r in
    let e' = grown e i r next.clock next.phase in
    unless_ended (end_of next.phase) e' (whole_on e' (suc i) next rs)

abbrev pub shifts_on : ℕ → Trace → List Reading → List Shift
shifts_on i t [] = []
shifts_on i t (r ∷ rs) =
    let next = after t r in
    entry_for (kind_of r) (whole_on (begun (kind_of r) i t.clock) (suc i) next rs) (shifts_on (suc i) next rs)

pub whole_same : (e : Shift) (i : ℕ) (s : State) (rs : List Reading) → whole e i s rs ≡ whole_on e i (trace_of s) rs
whole_same e i s [] = refl
whole_same e i s (r ∷ rs) =
    let next = led s r in
    let e' = grown e i r next.clock next.phase in
    ap (unless_ended (end_of next.phase) e') (whole_same e' (suc i) next rs)
    ∙ ap (λ (t : Trace). unless_ended (end_of t.phase) (grown e i r t.clock t.phase) (whole_on (grown e i r t.clock t.phase) (suc i) t rs))
    (projects s r)

pub shifts_same : (i : ℕ) (s : State) (rs : List Reading) → shifts_from i s rs ≡ shifts_on i (trace_of s) rs
shifts_same i s [] = refl
shifts_same i s (r ∷ rs) =
    let next = led s r in
    let e = begun (kind_of r) i s.clock in
    ap (λ h. entry_for (kind_of r) h (shifts_from (suc i) next rs)) (whole_same e (suc i) next rs)
    ∙ ap (entry_for (kind_of r) (whole_on e (suc i) (trace_of next) rs)) (shifts_same (suc i) next rs)
    ∙ ap (λ t. entry_for (kind_of r) (whole_on e (suc i) t rs) (shifts_on (suc i) t rs)) (projects s r)

-- ---- the walk by what was read of the records
abbrev pub walked : Walk → ℕ → Reading → Walk
walked w i r = further (kind_of r) w i (asks r) (after (trace_in w) r)

abbrev pub listed : Walk → ℕ → List Reading → List Shift
listed w i [] = with (unfinished w.phase) (in_hand w) []
listed w i (r ∷ rs) =
    let w' = walked w i r in
    with (closes w.phase w'.phase) (in_hand w') (listed w' (suc i) rs)

-- the entries that are made before the end, and what is in hand there
abbrev pub closed : Walk → ℕ → List Reading → List Shift
closed w i [] = []
closed w i (r ∷ rs) =
    let w' = walked w i r in
    with (closes w.phase w'.phase) (in_hand w') (closed w' (suc i) rs)

abbrev pub at_end : Walk → ℕ → List Reading → Walk
at_end w i [] = w
at_end w i (r ∷ rs) = at_end (walked w i r) (suc i) rs

-- what is still to be made: the shift in hand where one is open, then those that begin later
abbrev pub to_come : Walk → ℕ → List Reading → List Shift
to_come w i rs = with (unfinished w.phase) (whole_on (in_hand w) i (trace_in w) rs) (shifts_on i (trace_in w) rs)

-- by what the record does to a shift; k is its kind, t the trace after it
module _ (w : Walk) (i : ℕ) (r : Reading) (t : Trace) (rs : List Reading) where
  abbrev p : ℕ
  p = w.phase

  abbrev Steps : ℕ → Type 0
  Steps k =
      let w' = further k w i (asks r) t in
      with (closes p t.phase) (in_hand w') (to_come w' (suc i) rs)
      ≡ with (unfinished p)
      (unless_ended (end_of t.phase) (grown (in_hand w) i r t.clock t.phase) (whole_on (grown (in_hand w) i r t.clock t.phase) (suc i) t rs))
      (entry_for k (whole_on (begun k i w.clock) (suc i) t rs) (shifts_on (suc i) t rs))

  begun_same : (m : ℕ) → end_of t.phase ≡ 0 → t.clock ≡ w.clock → in_hand (further (suc m) w i (asks r) t) ≡ begun (suc m) i w.clock
  begun_same m z c =
      let aged : t.clock - w.clock ≡ 0 = omega arith in
      ap (λ n. record { first = i; last = i; kind = suc m; route = 0; end = n; request_time = w.clock; age = t.clock - w.clock }) z
      ∙ ap (λ n. record { first = i; last = i; kind = suc m; route = 0; end = 0; request_time = w.clock; age = n }) aged

  one_step : (k : ℕ) → Moves k p t.phase → (¬ (k ≡ 0) → t.clock ≡ w.clock) → Steps k
  one_step zero (begins m e u v c z) q = absurd (omega arith)
  one_step (suc k) (begins m e u v c z) q =
      rw (c, v, u) (ap (λ h. whole_on h (suc i) t rs ∷ shifts_on (suc i) t rs) (begun_same k z (q (λ y. omega arith))))
  one_step zero (goes e u v c z) q = rw (c, v, u) (ap (λ n. unless_ended n (grown (in_hand w) i r t.clock t.phase) (whole_on (grown (in_hand w) i r t.clock t.phase) (suc i) t rs) ∷ shifts_on (suc i) t rs) (sym z))
  one_step (suc k) (goes e u v c z) q = absurd (omega arith)
  one_step zero (ends m e u v c z) q = rw (c, v, u) (ap (λ n. unless_ended n (grown (in_hand w) i r t.clock t.phase) (whole_on (grown (in_hand w) i r t.clock t.phase) (suc i) t rs) ∷ shifts_on (suc i) t rs) (sym z))
  one_step (suc k) (ends m e u v c z) q = absurd (omega arith)
  one_step zero (rests e u v c) q = rw (c, v, u)
  one_step (suc k) (rests e u v c) q = absurd (omega arith)

clock_kept : (t : Trace) (x : Step) → ¬ (kind_of (Ok x) ≡ 0) → (stepped t x).clock ≡ t.clock
clock_kept t FromNeutral n = refl
clock_kept t GearToGear n = refl
clock_kept t ToNeutral n = refl
clock_kept t Deliver n = refl
clock_kept t DeviceGood n = refl
clock_kept t DeviceFailed n = refl
clock_kept t EngineWaits n = refl
clock_kept t Take n = refl
clock_kept t AskClutch n = refl
clock_kept t RaiseError n = refl
clock_kept t Finish n = refl
clock_kept t (Tick m) n = absurd (n refl)
clock_kept t Reset n = refl

pub same_trace : (k : ℕ) (w : Walk) (i : ℕ) (b : Bool) (t : Trace) → trace_in (further k w i b t) ≡ t
same_trace zero w i b t = refl
same_trace (suc k) w i b t = refl

-- the walk makes what is still to come
pub makes : (w : Walk) (i : ℕ) (rs : List Reading) → Sound (trace_in w) rs → listed w i rs ≡ to_come w i rs
makes w i [] h = refl
makes w i (Ok x ∷ rs) h =
    let r = Ok x in
    let t = stepped (trace_in w) x in
    let w' = walked w i r in
    let e = same_trace (kind_of r) w i (asks r) t in
    let rest = makes w' (suc i) rs (subst (λ q. Sound q rs) (sym e) h.2) in
    ap (λ (q : Trace). with (closes w.phase q.phase) (in_hand w') (listed w' (suc i) rs)) e
    ∙ ap (with (closes w.phase t.phase) (in_hand w')) rest
    ∙ one_step w i r t rs (kind_of r) (moves (trace_in w) x h.0) (clock_kept (trace_in w) x)
makes w i (Err WrongCode ∷ rs) h = absurd h
makes w i (Err WrongAmount ∷ rs) h = absurd h

-- ---- a list in two pieces: what was made stays, and the walk goes on with what is in hand
with_append : (b : Bool) (e : Shift) (xs ys : List Shift) → with b e (xs ++ ys) ≡ with b e xs ++ ys
with_append true e xs ys = refl
with_append false e xs ys = refl

pub pieces :
    (w : Walk) (i : ℕ) (xs ys : List Reading)
    → listed w i (xs ++ ys) ≡ closed w i xs ++ listed (at_end w i xs) (i + length xs) ys
pieces w i [] ys = ap (λ n. listed w n ys) (sym (add-zero i))
pieces w i (x ∷ xs) ys =
    let w' = walked w i x in
    let b = closes w.phase w'.phase in
    let n : suc i + length xs ≡ i + suc (length xs) = omega arith in
    ap (with b (in_hand w')) (pieces w' (suc i) xs ys ∙ ap (λ n. closed w' (suc i) xs ++ listed (at_end w' (suc i) xs) n ys) n)
    ∙ with_append b (in_hand w') (closed w' (suc i) xs) (listed (at_end w' (suc i) xs) (i + suc (length xs)) ys)
