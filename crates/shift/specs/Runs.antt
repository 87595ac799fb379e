-- Document 01: a list of steps is accepted when each step is, one after the other from the start state; else it is refused at the
-- first that is not, with its index from 0, its number, its excess and the state before it.
-- Assumes nothing.
use Rattle.std.specs.Prelude.{List, [], ◌∷◌, ℕ, zero, suc}
use Rattle.limits.specs.declared.Table.{Table}
use Rattle.shift.specs.declared.State.{State}
use Rattle.shift.specs.Readings.{Reading}
use Rattle.shift.specs.Answers.{guard, led, excess}

-- how many were accepted, which is the index of the refused one; its number and its excess, or 0; the state after those accepted
pub record Outcome : Type 0 where
  pub count : ℕ
  pub number : ℕ
  pub excess : ℕ
  pub state : State

-- nothing is left, and all was accepted
abbrev pub ended : State → Outcome
ended s = record { count = 0; number = 0; excess = 0; state = s }

-- of a step that the guard answers so in the state s, and of the rest from the state that it leads to
abbrev pub after : ℕ → ℕ → State → Outcome → Outcome
after zero over s rest =
    record { count = suc rest.count; number = rest.number; excess = rest.excess; state = rest.state }
after (suc k) over s rest = record { count = 0; number = suc k; excess = over; state = s }

-- from any state, under an admitted table, each step leading on by the rule `to`; what a list holds is what was read of each record
abbrev pub run_by : (State → Reading → State) → Table → State → List Reading → Outcome
run_by to t s [] = ended s
run_by to t s (r ∷ rs) = let rest = run_by to t (to s r) rs in after (guard t s r) (excess t s r (guard t s r)) s rest

-- by the document's effects
abbrev pub run : Table → State → List Reading → Outcome
run = run_by led
