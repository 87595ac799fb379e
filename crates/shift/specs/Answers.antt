-- Document 01, "Numbers for what is refused": one step on any given state and table.
-- Assumes nothing.
use Rattle.std.specs.Prelude.{false, cond, ◌&&◌, List, [], ◌∷◌, ◌++◌, ℕ, zero, suc, leb, eqb, get_or, Ok, Err}
use Rattle.checks.specs.Checks.{Check, ◌!◌, first}
use Rattle.limits.specs.declared.Table.{Table}
use Rattle.limits.specs.Rules.{broken_rule}
use Rattle.shift.specs.declared.State.{State}
use Rattle.shift.specs.declared.Step.{Step}
use Rattle.shift.specs.declared.Step.TheVariants.{FromNeutral, GearToGear, ToNeutral, Deliver, DeviceGood, DeviceFailed, EngineWaits, Take, AskClutch, RaiseError, Finish, Tick, Reset}
use Rattle.shift.specs.Readings.{Reading}
use Rattle.shift.specs.declared.Misread.TheVariants.{WrongCode, WrongAmount}
use Rattle.shift.specs.declared.Answer.{Answer}
use Rattle.phases.specs.Phases.{error}
use Rattle.shift.specs.States.{waiting}
use Rattle.shift.specs.Steps.{allowed, effect}
use Rattle.shift.specs.Excess.{early_bound, excess_by}

-- ---- what a code, a middle byte and an amount mean

-- codes 1 to 11 and 13: the middle byte and the amount are 0
abbrev pub plain : Step → ℕ → ℕ → Reading
plain x middle n = cond (eqb middle 0 && eqb n 0) (Ok x) (Err WrongAmount)

-- code 12: the middle byte is 0, the amount is 1 to 65,535
abbrev pub ticking : ℕ → ℕ → Reading
ticking middle n = cond (eqb middle 0 && (leb 1 n && leb n 65535)) (Ok (Tick n)) (Err WrongAmount)

-- by code, from 0
abbrev pub readings : ℕ → ℕ → List Reading
readings middle n =
    Err WrongCode
    ∷ plain FromNeutral middle n
    ∷ plain GearToGear middle n
    ∷ plain ToNeutral middle n
    ∷ plain Deliver middle n
    ∷ plain DeviceGood middle n
    ∷ plain DeviceFailed middle n
    ∷ plain EngineWaits middle n
    ∷ plain Take middle n
    ∷ plain AskClutch middle n
    ∷ plain RaiseError middle n
    ∷ plain Finish middle n
    ∷ ticking middle n
    ∷ plain Reset middle n
    ∷ []

abbrev pub reading : ℕ → ℕ → ℕ → Reading
reading code middle n = get_or (readings middle n) code (Err WrongCode)

-- the number of a reading that is no step
abbrev pub refusal : Reading → ℕ
refusal (Ok x) = 0
refusal (Err WrongCode) = 5
refusal (Err WrongAmount) = 6

-- ---- the checks, in the order of their numbers

-- 7: the state has no phase above 23, no unlisted stage, no box above 1
abbrev pub listed : State → List Check
listed s = (leb s.phase error ! 7) ∷ (leb s.stage waiting ! 7) ∷ (leb s.gear_box 1 ! 7) ∷ []

-- of a reading: those of its step, or the one that refuses it
abbrev pub checks_of : (Step → List Check) → Reading → List Check
checks_of own (Ok x) = own x
checks_of own (Err WrongCode) = (false ! refusal (Err WrongCode)) ∷ []
checks_of own (Err WrongAmount) = (false ! refusal (Err WrongAmount)) ∷ []

abbrev pub checks : Table → State → Reading → List Check
checks t s = checks_of (λ x. listed s ++ allowed t s x)

-- 0 where the step is accepted, else the number that refuses it
abbrev pub guard : Table → State → Reading → ℕ
guard t s r = first (checks t s r)

-- the state that it leads to
abbrev pub led : State → Reading → State
led s (Ok x) = effect s x
led s (Err WrongCode) = s
led s (Err WrongAmount) = s

-- the clock before which it is too early
abbrev pub earliest : Table → State → Reading → ℕ
earliest t s (Ok x) = early_bound t s x
earliest t s (Err WrongCode) = 0
earliest t s (Err WrongAmount) = 0

-- by how many milliseconds what this number refuses is too early or past the limit
abbrev pub excess : Table → State → Reading → ℕ → ℕ
excess t s r number = excess_by t s (earliest t s r) (led s r).clock number

-- ---- the answer

-- a refused step gives back the state it was given
abbrev pub refused : ℕ → ℕ → State → Answer
refused number over s = record { number = number; rule = 0; excess = over; state = s }

abbrev pub answer : ℕ → ℕ → State → State → Answer
answer zero over next s = record { number = 0; rule = 0; excess = 0; state = next }
answer (suc k) over next s = refused (suc k) over s

-- to what was read, where this is its number
abbrev pub answer_to : Table → State → Reading → ℕ → Answer
answer_to t s r number = answer number (excess t s r number) (led s r) s

-- under an admitted table
abbrev pub judged : Table → State → Reading → Answer
judged t s r = answer_to t s r (guard t s r)

-- 4, with the rule, comes before all else
abbrev pub admitting : ℕ → Answer → State → Answer
admitting zero a s = a
admitting (suc k) a s = record { number = 4; rule = suc k; excess = 0; state = s }

-- under any table; a step that is given by code and amount has no middle byte
abbrev pub step_on : Table → State → ℕ → ℕ → Answer
step_on t s code n = admitting (broken_rule t) (judged t s (reading code 0 n)) s
