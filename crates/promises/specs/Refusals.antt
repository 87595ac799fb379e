-- Document 01, "Numbers for what is refused", with document 02's request 6, a second time: of one step on any given state and table
-- the condition of each number, in the document's words and by the numbers of codes, phases and stages. With the checks of `shift` it
-- shares nothing but the fields of a state and of a table.
-- Assumes nothing.
use Rattle.std.specs.Prelude.{◌≡◌, ◌⊎◌, List, [], ◌∷◌, ℕ, zero, suc, ◌+◌, ◌<◌}
use Rattle.checks.specs.Conditions.{Condition, ◌gives◌, OneOf}
use Rattle.limits.specs.declared.Table.{Table}
use Rattle.limits.specs.Refusals.{Admitted}
use Rattle.phases.specs.ByPhase.{device_limit_in, phase_limit_in, ex_in, de_in, plain_delay_in, error_delay_in}
use Rattle.shift.specs.declared.State.{State}
use Rattle.shift.specs.Refusals.{NoCode, Malformed}
use Rattle.promises.specs.Allowed.{Listed, Shifting, Engine, OpenOrClose}

-- 4: the table breaks a rule
abbrev pub NotAdmitted : Table → Type 0
NotAdmitted t = ¬ Admitted t

-- 7: the state is not listed, or its phase or its stage does not allow the step; which do, by code from 0
abbrev pub placings : State → List (Type 0)
placings s =
    Unit {0}
    ∷ (s.phase ≡ 0)  -- 1 request from neutral
    ∷ (s.phase ≡ 0)  -- 2 gear to gear
    ∷ (s.phase ≡ 0)  -- 3 to neutral
    ∷ (Shifting s × (s.stage ≡ 1))  -- 4 deliver
    ∷ (Shifting s × (s.stage ≡ 2))  -- 5 device good
    ∷ (Shifting s × (s.stage ≡ 2) × ¬ Engine s)  -- 6 device failed
    ∷ (Engine s × (s.stage ≡ 2))  -- 7 engine waits for clutch
    ∷ (Shifting s × (s.stage ≡ 3))  -- 8 take
    ∷ (Engine s × (s.stage ≡ 5))  -- 9 ask clutch
    ∷ (Shifting s × (s.stage ≡ 4))  -- 10 raise error
    ∷ (s.phase ≡ 22)  -- 11 finish
    ∷ Unit {0}  -- 12 tick
    ∷ (s.phase ≡ 23)  -- 13 reset
    ∷ []

abbrev pub ByCode : List (Type 0) → ℕ → Type 0
ByCode [] i = Unit {0}
ByCode (P ∷ Ps) zero = P
ByCode (P ∷ Ps) (suc i) = ByCode Ps i

abbrev pub Misplaced : State → ℕ → Type 0
Misplaced s code = ¬ (Listed s × ByCode (placings s) code)

-- 8: at rest, but the box is not neutral for 1, not in gear for 2 and 3
abbrev pub WrongSide : State → ℕ → Type 0
WrongSide s code =
    (s.phase ≡ 0) × (((code ≡ 1) × ¬ (s.gear_box ≡ 0)) ⊎ (OneOf (2 ∷ 3 ∷ []) code × ¬ (s.gear_box ≡ 1)))

-- 9: ask clutch too early; in open and close phases device good before the plain delay, device failed before the error delay
abbrev pub TooEarly : Table → State → ℕ → Type 0
TooEarly t s code =
    ((code ≡ 9) × (s.clock < s.phase_time + de_in t s.phase))
    ⊎ (((code ≡ 5) × OpenOrClose s × (s.clock < s.stage_time + plain_delay_in t s.phase))
    ⊎ ((code ≡ 6) × OpenOrClose s × (s.clock < s.stage_time + error_delay_in t s.phase)))

-- 10: take too late
abbrev pub TooLate : Table → State → ℕ → Type 0
TooLate t s code = (code ≡ 8) × Engine s × (s.phase_time + ex_in t s.phase < s.clock)

-- 13: the clock would pass its largest value
abbrev pub PastClock : State → ℕ → ℕ → Type 0
PastClock s code amount = (code ≡ 12) × (4294967295 < s.clock + amount)

-- 12: a tick past the channel's limit in stages sent and good, past the device's in stage working
abbrev pub PastStage : Table → State → ℕ → ℕ → Type 0
PastStage t s code amount =
    (code ≡ 12)
    × Shifting s
    × ((OneOf (1 ∷ 3 ∷ []) s.stage × (s.stage_time + t.channel_dl < s.clock + amount))
    ⊎ ((s.stage ≡ 2) × (s.stage_time + device_limit_in t s.phase < s.clock + amount)))

-- 11: a tick past the phase limit
abbrev pub PastPhase : Table → State → ℕ → ℕ → Type 0
PastPhase t s code amount = (code ≡ 12) × Shifting s × (s.phase_time + phase_limit_in t s.phase < s.clock + amount)

-- in the order of one step, 4 to 10, and of a tick, 4 to 7, 13, 12 and 11; the table once tested, from 5 on
abbrev pub record_refusals : Table → State → ℕ → ℕ → ℕ → List Condition
record_refusals t s code middle amount =
    (NoCode code gives 5)
    ∷ (Malformed code middle amount gives 6)
    ∷ (Misplaced s code gives 7)
    ∷ (WrongSide s code gives 8)
    ∷ (TooEarly t s code gives 9)
    ∷ (TooLate t s code gives 10)
    ∷ (PastClock s code amount gives 13)
    ∷ (PastStage t s code amount gives 12)
    ∷ (PastPhase t s code amount gives 11)
    ∷ []

abbrev pub refusals : Table → State → ℕ → ℕ → ℕ → List Condition
refusals t s code middle amount = (NotAdmitted t gives 4) ∷ record_refusals t s code middle amount
