-- Document 01: what judging a list of steps answers, said of the answer alone.
-- Assumes nothing.
use Rattle.std.specs.Prelude.{◌≡◌, List, [], ◌∷◌, ℕ, ◌<◌, length, get_or, take, Err}
use Rattle.limits.specs.declared.Table.{Table}
use Rattle.shift.specs.declared.State.{State}
use Rattle.shift.specs.Readings.{Reading}
use Rattle.shift.specs.declared.Misread.TheVariants.{WrongCode}
use Rattle.shift.specs.Answers.{guard, led, excess}
use Rattle.shift.specs.Runs.{Outcome}
use Rattle.promises.specs.Allowed.{Permitted}

-- the state that steps lead to, one after the other
abbrev pub leads : State → List Reading → State
leads s [] = s
leads s (r ∷ rs) = leads (led s r) rs

-- what stands at an index of a list; past its end it is no step
abbrev pub at : List Reading → ℕ → Reading
at rs i = get_or rs i (Err WrongCode)

-- Accepted up to exactly the step that the rules first forbid: each step before the count is allowed in the state that the steps
-- before it lead to; where the number is not 0, the step at the count is refused with it, in the state that is given back, and so far
-- over; where it is 0, the count is the length, and nothing is over.
pub record Exact (t : Table) (s : State) (rs : List Reading) (o : Outcome) : Type 0 where
  pub allowed : (i : ℕ) → i < o.count → Permitted t (leads s (take i rs)) (at rs i)
  pub state : o.state ≡ leads s (take o.count rs)
  pub refused : ¬ (o.number ≡ 0) → (o.count < length rs) × (guard t o.state (at rs o.count) ≡ o.number)
  pub accepted : o.number ≡ 0 → o.count ≡ length rs
  pub over : o.excess ≡ excess t o.state (at rs o.count) o.number
