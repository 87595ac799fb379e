-- The manual's engine over a list of steps, as document 01 judges a list: up to the first that is refused.
-- Assumes nothing.
use Rattle.std.specs.Prelude.{List, [], ◌∷◌, ℕ, zero, suc}
use Rattle.limits.specs.declared.Table.{Table}
use Rattle.shift.specs.Readings.{Reading}
use Rattle.manual.specs.declared.Variables.{Variables}
use Rattle.manual.specs.Answers.{number_of, excess_of, led_to}

-- how many were accepted, which is the index of the refused one; its number and its excess, or 0; the variables after those accepted
pub record Outcome : Type 0 where
  pub count : ℕ
  pub number : ℕ
  pub excess : ℕ
  pub variables : Variables

abbrev pub after : ℕ → ℕ → Variables → Outcome → Outcome
after zero over v rest =
    record { count = suc rest.count; number = rest.number; excess = rest.excess; variables = rest.variables }
after (suc k) over v rest = record { count = 0; number = suc k; excess = over; variables = v }

abbrev pub run : Table → Variables → List Reading → Outcome
run t v [] = record { count = 0; number = 0; excess = 0; variables = v }
run t v (r ∷ rs) = let rest = run t (led_to t v r) rs in after (number_of t v r) (excess_of t v r) v rest
