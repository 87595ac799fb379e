-- The shifts of records in two pieces: those that the first piece ended stay, the walk goes on with the one in hand, and at most the
-- last is open.
-- Assumes nothing.
use Rattle.std.specs.Prelude.{Ok, Err}
use Rattle.std.proofs.Common.{◌≡◌, ℕ, suc, ◌+◌, Bool, true, false, T, List, [], ◌∷◌, ◌++◌, length, sym, refl, ap, ◌∙◌, subst, append-nil, arith}
use Rattle.phases.specs.Phases.{unfinished}
use Rattle.shift.specs.Readings.{Reading}
use Rattle.shift.specs.declared.Misread.TheVariants.{WrongCode, WrongAmount}
use Rattle.trace.specs.Traces.{Trace, after, stepped, traced}
use Rattle.trace.proofs.TraceLaws.{Sound}
use Rattle.shiftlist.specs.declared.Shift.{Shift}
use Rattle.shiftlist.specs.declared.walk.Walk.{Walk}
use Rattle.shiftlist.specs.Shifts.{kind_of, asks, end_of}
use Rattle.shiftlist.specs.Walks.{trace_in, in_hand, closes, with, idle}
use Rattle.shiftlist.proofs.PhaseSteps.{Moves, begins, goes, ends, rests, moves}
use Rattle.shiftlist.proofs.WalkLaws.{whole_on, shifts_on, walked, listed, closed, at_end, makes, pieces, same_trace}

pub sound_pieces : (t : Trace) (xs ys : List Reading) → Sound t (xs ++ ys) → Sound t xs × Sound (traced t xs) ys
sound_pieces t [] ys h = (tt, h)
sound_pieces t (Ok x ∷ xs) ys h = let r = sound_pieces (stepped t x) xs ys h.2 in ((h.0, h.1, r.0), r.1)
sound_pieces t (Err WrongCode ∷ xs) ys h = absurd h
sound_pieces t (Err WrongAmount ∷ xs) ys h = absurd h

pub end_trace : (w : Walk) (i : ℕ) (xs : List Reading) → trace_in (at_end w i xs) ≡ traced (trace_in w) xs
end_trace w i [] = refl
end_trace w i (x ∷ xs) =
    end_trace (walked w i x) (suc i) xs ∙ ap (λ t. traced t xs) (same_trace (kind_of x) w i (asks x) (after (trace_in w) x))

pub from_rest : (i : ℕ) (t : Trace) (rs : List Reading) → unfinished t.phase ≡ false → Sound t rs → listed (idle t) i rs ≡ shifts_on i t rs
from_rest i t rs u h = makes (idle t) i rs h ∙ ap (λ b. with b (whole_on (in_hand (idle t)) i t rs) (shifts_on i t rs)) u

-- ---- which entries are open: at most the last, and it exactly in phases 1 to 21
abbrev pub Each : (Shift → Type 0) → List Shift → Type 0
Each P [] = Unit {0}
Each P (e ∷ es) = P e × Each P es

abbrev pub Ended : Shift → Type 0
Ended e = ¬ (e.end ≡ 0)

with_each : (P : Shift → Type 0) (b : Bool) (e : Shift) (es : List Shift) → (b ≡ true → P e) → Each P es → Each P (with b e es)
with_each P true e es f h = (f refl, h)
with_each P false e es f h = h

falsely : {A : Type 0} → false ≡ true → A
falsely e = absurd (subst T (sym e) tt)

ending : (k p q : ℕ) → Moves k p q → closes p q ≡ true → ¬ (end_of q ≡ 0)
ending k p q (begins m e u v c z) b = falsely (sym c ∙ b)
ending k p q (goes e u v c z) b = falsely (sym c ∙ b)
ending k p q (ends m e u v c z) b = λ y. omega (arith, z, y)
ending k p q (rests e u v c) b = falsely (sym c ∙ b)

pub closed_ended : (w : Walk) (i : ℕ) (xs : List Reading) → Sound (trace_in w) xs → Each Ended (closed w i xs)
closed_ended w i [] h = tt
closed_ended w i (Ok x ∷ xs) h =
    let r = Ok x in
    let t = stepped (trace_in w) x in
    let w' = walked w i r in
    let e = same_trace (kind_of r) w i (asks r) t in
    let q = ap (λ (s : Trace). s.phase) e in
    with_each Ended (closes w.phase w'.phase) (in_hand w') (closed w' (suc i) xs)
    (λ b. subst (λ (p : ℕ). ¬ (end_of p ≡ 0)) (sym q)
    (ending (kind_of r) w.phase t.phase (moves (trace_in w) x h.0) (subst (λ p. closes w.phase p ≡ true) q b)))
    (closed_ended w' (suc i) xs (subst (λ s. Sound s xs) (sym e) h.2))
closed_ended w i (Err WrongCode ∷ xs) h = absurd h
closed_ended w i (Err WrongAmount ∷ xs) h = absurd h

-- the list from rest: ended entries, then one that is open where the phase at the end is unfinished
pub shape :
    (i : ℕ) (t : Trace) (xs : List Reading) → unfinished t.phase ≡ false → Sound t xs
    → (let z = at_end (idle t) i xs in
    (shifts_on i t xs ≡ closed (idle t) i xs ++ with (unfinished z.phase) (in_hand z) [])
    × Each Ended (closed (idle t) i xs)
    × (trace_in z ≡ traced t xs))
shape i t xs u h =
    let w = idle t in (
      sym (sym (pieces w i xs []) ∙ ap (listed w i) (append-nil xs) ∙ from_rest i t xs u h),
      closed_ended w i xs h,
      end_trace w i xs,
    )

-- with more records: the ended entries, then what the walk makes of them from what is in hand
pub grows :
    (i : ℕ) (t : Trace) (xs ys : List Reading) → unfinished t.phase ≡ false → Sound t (xs ++ ys)
    → shifts_on i t (xs ++ ys) ≡ closed (idle t) i xs ++ listed (at_end (idle t) i xs) (i + length xs) ys
grows i t xs ys u h = sym (from_rest i t (xs ++ ys) u h) ∙ pieces (idle t) i xs ys
