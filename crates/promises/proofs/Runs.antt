-- Laws on runs: what an accepted step tells, what every step keeps, and a list in two pieces.
-- Assumes nothing.
use mathlib.Core.Path.{◌≡◌, refl, ap}
use mathlib.Core.List.{List, [], ◌∷◌, ◌++◌}
use Prim.Native.Nat.{ℕ, zero, suc, ◌+◌}
use native.Mathlib.Nat.{zero-add, suc-add}
use native.Mathlib.Omega.{arith}
use lib.Dec.{T}
use Rattle.std.specs.Prelude.{Ok, Err}
use Rattle.checks.proofs.Checks.{Holds, absent, first→holds}
use Rattle.limits.specs.declared.Table.{Table}
use Rattle.shift.specs.declared.State.{State}
use Rattle.shift.specs.Readings.{Reading}
use Rattle.shift.specs.declared.Misread.TheVariants.{WrongCode, WrongAmount}
use Rattle.shift.specs.declared.Step.{Step}
use Rattle.shift.specs.declared.Step.TheVariants.{FromNeutral, GearToGear, ToNeutral, Deliver, DeviceGood, DeviceFailed, EngineWaits, Take, AskClutch, RaiseError, Finish, Tick, Reset}
use Rattle.shift.specs.declared.Answer.{Answer}
use Rattle.shift.specs.Answers.{checks, guard, led, excess, answer, judged}
use Rattle.shift.specs.Runs.{Outcome, after, run}

-- no check has the number 0
numbered_from_5 : (t : Table) (s : State) (x : Step) → T (absent 0 (checks t s (Ok x)))
numbered_from_5 t s FromNeutral = tt
numbered_from_5 t s GearToGear = tt
numbered_from_5 t s ToNeutral = tt
numbered_from_5 t s Deliver = tt
numbered_from_5 t s DeviceGood = tt
numbered_from_5 t s DeviceFailed = tt
numbered_from_5 t s EngineWaits = tt
numbered_from_5 t s Take = tt
numbered_from_5 t s AskClutch = tt
numbered_from_5 t s RaiseError = tt
numbered_from_5 t s Finish = tt
numbered_from_5 t s (Tick n) = tt
numbered_from_5 t s Reset = tt

-- of an accepted step all checks hold
pub checked : (t : Table) (s : State) (x : Step) → guard t s (Ok x) ≡ 0 → Holds (checks t s (Ok x))
checked t s x e = (first→holds 0 (checks t s (Ok x)) (numbered_from_5 t s x) e).0

-- what every accepted step is shown to have, every accepted reading has
pub each_step :
    (P : Reading → Type 0) (t : Table) (s : State) → ((x : Step) → Holds (checks t s (Ok x)) → P (Ok x))
    → (r : Reading) → guard t s r ≡ 0 → P r
each_step P t s f (Ok x) e = f x (checked t s x e)
each_step P t s f (Err WrongCode) e = absurd (omega arith)
each_step P t s f (Err WrongAmount) e = absurd (omega arith)

-- a run that is accepted accepted its first step, and the rest
pub went_on : (k over : ℕ) (s : State) (rest : Outcome) → (after k over s rest).number ≡ 0 → (k ≡ 0) × (rest.number ≡ 0)
went_on zero over s rest e = (refl, e)
went_on (suc k) over s rest e = absurd (omega arith)

-- ---- a list in two pieces
-- the first piece's outcome where it is refused, else the second's, with the counts added
abbrev pub resumed : ℕ → Outcome → Outcome → Outcome
resumed zero a b = record { count = a.count + b.count; number = b.number; excess = b.excess; state = b.state }
resumed (suc k) a b = a

abbrev pub joined : Outcome → Outcome → Outcome
joined a b = resumed a.number a b

resumes : (over : ℕ) (s : State) (k : ℕ) (a b : Outcome) → after 0 over s (resumed k a b) ≡ resumed k (after 0 over s a) b
resumes over s zero a b = rw suc-add
resumes over s (suc k) a b = refl

pub pieces :
    (t : Table) (s : State) (xs ys : List Reading) → run t s (xs ++ ys) ≡ joined (run t s xs) (run t (run t s xs).state ys)
pieces t s [] ys = rw zero-add
pieces t s (x ∷ xs) ys = go (guard t s x) (excess t s x (guard t s x)) (pieces t (led s x) xs ys)
  where
    go :
        (k over : ℕ)
        → run t (led s x) (xs ++ ys) ≡ joined (run t (led s x) xs) (run t (run t (led s x) xs).state ys)
        → after k over s (run t (led s x) (xs ++ ys))
        ≡ joined (after k over s (run t (led s x) xs)) (run t (after k over s (run t (led s x) xs)).state ys)
    go zero over e =
        let a = run t (led s x) xs in
        rw e (resumes over s a.number a (run t a.state ys))
    go (suc k) over e = refl

both_accepted : (k : ℕ) (a b : Outcome) → a.number ≡ k → (resumed k a b).number ≡ 0 → (a.number ≡ 0) × (b.number ≡ 0)
both_accepted zero a b e h = (e, h)
both_accepted (suc k) a b e h = absurd (omega arith)

-- a beginning of an accepted list is accepted, and so is the rest from where it ended
pub beginning :
    (t : Table) (s : State) (xs ys : List Reading) → (run t s (xs ++ ys)).number ≡ 0
    → ((run t s xs).number ≡ 0) × ((run t (run t s xs).state ys).number ≡ 0)
beginning t s xs ys h =
    let a = run t s xs in
    both_accepted a.number a (run t a.state ys) refl (rw (pieces t s xs ys) at h)

-- ---- a run by what each step answers; `rest` is what follows from a state
on :
    (k over : ℕ) (next s : State) (rest : State → Outcome) (a : Answer) → a ≡ answer k over next s → a.number ≡ 0
    → after k over s (rest next) ≡ after 0 0 s (rest a.state)
on zero over next s rest a e z = rw e
on (suc k) over next s rest a e z = let q = ap (λ (b : Answer). b.number) e in absurd (omega arith)

off :
    (k over : ℕ) (next s : State) (rest : Outcome) (a : Answer) → a ≡ answer k over next s → ¬ (a.number ≡ 0)
    → after k over s rest ≡ record { count = 0; number = a.number; excess = a.excess; state = s }
off zero over next s rest a e n = absurd (n (ap (λ (b : Answer). b.number) e))
off (suc k) over next s rest a e n = rw e

module _ (t : Table) (s : State) (r : Reading) (rs : List Reading) (a : Answer) (e : a ≡ judged t s r) where
  pub goes_on : a.number ≡ 0 → run t s (r ∷ rs) ≡ after 0 0 s (run t a.state rs)
  goes_on = on (guard t s r) (excess t s r (guard t s r)) (led s r) s (λ q. run t q rs) a e

  pub stops : ¬ (a.number ≡ 0) → run t s (r ∷ rs) ≡ record { count = 0; number = a.number; excess = a.excess; state = s }
  stops = off (guard t s r) (excess t s r (guard t s r)) (led s r) s (run t (led s r) rs) a e

-- an outcome after k that were accepted before
abbrev pub counted : ℕ → Outcome → Outcome
counted k o = record { count = k + o.count; number = o.number; excess = o.excess; state = o.state }

pub counted_one : (k : ℕ) (s : State) (o : Outcome) → counted k (after 0 0 s o) ≡ counted (k + 1) o
counted_one k s o = ap (λ n. record { count = n; number = o.number; excess = o.excess; state = o.state }) (omega arith)
