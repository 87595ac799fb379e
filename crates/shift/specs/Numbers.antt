-- Document 01's numbers of what refuses a step of a state: 7 to 13.
-- Assumes nothing.
use Rattle.std.specs.Prelude.{ℕ, Result, Ok, Err}
use Rattle.shift.specs.declared.Refused.{Refused}
use Rattle.shift.specs.declared.Refused.TheVariants.{NotAllowed, WrongSide, TooEarly, TooLate, PastPhase, PastStage, PastClock}

abbrev pub number_of : Refused → ℕ
number_of NotAllowed = 7
number_of WrongSide = 8
number_of TooEarly = 9
number_of TooLate = 10
number_of PastPhase = 11
number_of PastStage = 12
number_of PastClock = 13

-- 0 where nothing refuses it
abbrev pub number_in : Result (Unit {0}) Refused → ℕ
number_in (Ok u) = 0
number_in (Err e) = number_of e
