-- One step on the manual's variables, under any table: document 01's numbers, document 02's excess, and the variables after it or those
-- that were given.
-- Assumes nothing.
use Rattle.std.specs.Prelude.{ℕ, zero, suc, Ok, Err}
use Rattle.limits.specs.declared.Table.{Table}
use Rattle.limits.specs.Rules.{broken_rule}
use Rattle.shift.specs.Readings.{Reading}
use Rattle.shift.specs.declared.Misread.TheVariants.{WrongCode, WrongAmount}
use Rattle.shift.specs.Answers.{reading, refusal}
use Rattle.manual.specs.declared.Variables.{Variables}
use Rattle.manual.specs.declared.Moved.{Moved}
use Rattle.manual.specs.Events.{answered, exceeded}
use Rattle.manual.specs.Steps.{stepped}

-- 0, or the number that refuses what was read
abbrev pub number_of : Table → Variables → Reading → ℕ
number_of t v (Ok x) = answered (stepped t v x)
number_of t v (Err WrongCode) = refusal (Err WrongCode)
number_of t v (Err WrongAmount) = refusal (Err WrongAmount)

-- the milliseconds by which it is too early or past the limit
abbrev pub excess_of : Table → Variables → Reading → ℕ
excess_of t v (Ok x) = exceeded (stepped t v x)
excess_of t v (Err WrongCode) = 0
excess_of t v (Err WrongAmount) = 0

-- the variables that it leads to
abbrev pub led_to : Table → Variables → Reading → Variables
led_to t v (Ok x) = (stepped t v x).after
led_to t v (Err WrongCode) = v
led_to t v (Err WrongAmount) = v

-- what is accepted, with the variables that it leads to, and what is refused, with those given
abbrev pub accepted : Variables → Moved
accepted after = record { number = 0; rule = 0; excess = 0; variables = after }

abbrev pub refused : ℕ → ℕ → Variables → Moved
refused number over v = record { number = number; rule = 0; excess = over; variables = v }

-- refused, the variables are those given
abbrev pub move_to : ℕ → ℕ → Variables → Variables → Moved
move_to zero over after v = record { number = 0; rule = 0; excess = 0; variables = after }
move_to (suc k) over after v = record { number = suc k; rule = 0; excess = over; variables = v }

-- under an admitted table
abbrev pub moved : Table → Variables → Reading → Moved
moved t v r = move_to (number_of t v r) (excess_of t v r) (led_to t v r) v

-- 4, with the rule, comes before all else
abbrev pub admitting : ℕ → Moved → Variables → Moved
admitting zero m v = m
admitting (suc k) m v = record { number = 4; rule = suc k; excess = 0; variables = v }

-- under any table
abbrev pub moved_on : Table → Variables → ℕ → ℕ → ℕ → Moved
moved_on t v code middle n = admitting (broken_rule t) (moved t v (reading code middle n)) v
