-- Document 02, requests 1 and 4: from the start the two engines accept the same steps, refuse at the same record by the same number and
-- with the same excess, and the variables read as our state.
-- Assumes nothing.
use mathlib.Core.Path.{◌≡◌, refl, ap, subst}
use mathlib.Core.Bool.{true}
use mathlib.Core.List.{List, [], ◌∷◌}
use Prim.Native.Nat.{ℕ, zero, suc}
use Rattle.std.specs.Prelude.{Ok, Err}
use Rattle.limits.specs.declared.Table.{Table}
use Rattle.limits.specs.Rules.{broken_rule}
use Rattle.shift.specs.declared.State.{State}
use Rattle.shift.specs.declared.Answer.{Answer}
use Rattle.shift.specs.Readings.{Reading}
use Rattle.shift.specs.declared.Misread.TheVariants.{WrongCode, WrongAmount}
use Rattle.shift.specs.States.{start}
use Rattle.shift.specs.Answers.{guard, led, excess, answer, judged, admitting}
use Rattle.shift.specs.Runs.{Outcome, after, run}
use Rattle.manual.specs.declared.Variables.{Variables}
use Rattle.manual.specs.declared.Moved.{Moved}
use Rattle.manual.specs.Variables.{initialisation}
use Rattle.manual.specs.Answers.{number_of, excess_of, led_to, move_to, moved}
use Rattle.manual.specs.Answers as theirs
use Rattle.manual.specs.Runs as manual
use Rattle.manual.proofs.Places.{vars_at, state_at}
use Rattle.manual.proofs.Places.Place.{rest}
use Rattle.manual_agreement.specs.Agreement.{Reads, Agrees, Alike}
use Rattle.manual_agreement.proofs.Joined.{Joined, answers, exceeds, leads_on}
use Rattle.manual_agreement.proofs.Readings.{reads}

pub at_start : Joined initialisation start
unfolding vars_at state_at
at_start = record { place = rest true; valid_place = tt; variables = refl; state = refl }

-- ---- one reading

same : (t : Table) (v : Variables) (s : State) (r : Reading) → Joined v s → number_of t v r ≡ guard t s r
same t v s (Ok x) i = answers t v s x i
same t v s (Err WrongCode) i = refl
same t v s (Err WrongAmount) i = refl

same_excess : (t : Table) (v : Variables) (s : State) (r : Reading) → Joined v s → excess_of t v r ≡ excess t s r (guard t s r)
same_excess t v s (Ok x) i = exceeds t v s x i
same_excess t v s (Err WrongCode) i = refl
same_excess t v s (Err WrongAmount) i = refl

goes_on :
    (t : Table) (v : Variables) (s : State) (r : Reading) → Joined v s → number_of t v r ≡ 0 → Joined (led_to t v r) (led s r)
goes_on t v s (Ok x) i e = leads_on t v s x i e
goes_on t v s (Err WrongCode) i e = i
goes_on t v s (Err WrongAmount) i e = i

-- answered alike, and joined again
pub record Together (m : Moved) (a : Answer) : Type 0 where
  pub alike : Alike m a
  pub joined : Joined m.variables a.state

by_number :
    (k over : ℕ) (v v' : Variables) (s s' : State) → Joined v s → (k ≡ 0 → Joined v' s')
    → Together (move_to k over v' v) (answer k over s' s)
by_number zero over v v' s s' i f =
    record { alike = record { number = refl; rule = refl; excess = refl; reads = reads v' s' (f refl) }; joined = f refl }
by_number (suc k) over v v' s s' i f =
    record { alike = record { number = refl; rule = refl; excess = refl; reads = reads v s i }; joined = i }

by_rule :
    (k : ℕ) (m : Moved) (a : Answer) (v : Variables) (s : State) → Joined v s → Together m a
    → Together (theirs.admitting k m v) (admitting k a s)
by_rule zero m a v s i b = b
by_rule (suc k) m a v s i b =
    record { alike = record { number = refl; rule = refl; excess = refl; reads = reads v s i }; joined = i }

pub one_reading :
    (t : Table) (v : Variables) (s : State) (r : Reading) → Joined v s
    → Together (theirs.admitting (broken_rule t) (moved t v r) v) (admitting (broken_rule t) (judged t s r) s)
one_reading t v s r i =
    by_rule (broken_rule t) (moved t v r) (judged t s r) v s i
    (subst (λ (k : ℕ). Together (moved t v r) (answer k (excess t s r (guard t s r)) (led s r) s)) (same t v s r i)
    (subst (λ (e : ℕ). Together (moved t v r) (answer (number_of t v r) e (led s r) s)) (same_excess t v s r i)
    (by_number (number_of t v r) (excess_of t v r) v (led_to t v r) s (led s r) i (goes_on t v s r i))))

-- ---- a list of readings

one_more :
    (k over : ℕ) (v : Variables) (s : State) (m : manual.Outcome) (o : Outcome) → Reads v s → (k ≡ 0 → Agrees m o)
    → Agrees (manual.after k over v m) (after k over s o)
one_more zero over v s m o r f =
    let a = f refl in
    record { count = ap suc a.count; number = a.number; excess = a.excess; reads = a.reads }
one_more (suc k) over v s m o r f = record { count = refl; number = refl; excess = refl; reads = r }

from_joined :
    (t : Table) (v : Variables) (s : State) (rs : List Reading) → Joined v s → Agrees (manual.run t v rs) (run t s rs)
from_joined t v s [] i = record { count = refl; number = refl; excess = refl; reads = reads v s i }
from_joined t v s (r ∷ rs) i =
    let m = manual.run t (led_to t v r) rs in
    let o = run t (led s r) rs in
    subst (λ (k : ℕ). Agrees (manual.run t v (r ∷ rs)) (after k (excess t s r (guard t s r)) s o)) (same t v s r i)
    (subst (λ (e : ℕ). Agrees (manual.run t v (r ∷ rs)) (after (number_of t v r) e s o)) (same_excess t v s r i)
    (one_more (number_of t v r) (excess_of t v r) v s m o (reads v s i)
    (λ e. from_joined t (led_to t v r) (led s r) rs (goes_on t v s r i e))))

-- for every table, admitted or not, and every list
pub the_manual's_engine_is_our_machine :
    (t : Table) (rs : List Reading) → Agrees (manual.run t initialisation rs) (run t start rs)
the_manual's_engine_is_our_machine t rs = from_joined t initialisation start rs at_start
