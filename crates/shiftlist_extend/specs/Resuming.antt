-- The walk of shiftlist/specs/Walks.antt where a file ended, and the place of what it lays; the number and the rule of each ground that
-- refuses. For functions inside.
-- Assumes nothing.
use Rattle.std.specs.Prelude.{cond, ℕ, ◌-◌, Result, Ok, Err}
use Rattle.limits.specs.Rules as limits
use Rattle.phases.specs.Phases.{unfinished}
use Rattle.shift.specs.declared.State.{State}
use Rattle.trace.specs.Traces.{trace_of}
use Rattle.shiftlist.specs.declared.Shift.{Shift}
use Rattle.shiftlist.specs.declared.walk.Walk.{Walk}
use Rattle.shiftlist.specs.Walks.{holding, idle}
use Rattle.shiftlist_extend.specs.declared.Ground.{Ground}
use Rattle.shiftlist_extend.specs.declared.Ground.TheVariants.{Short, Header, Length, Broken, Unfit, NoRoom}

-- the number of each ground, and the rule that is told with it
abbrev pub number_of : Ground → ℕ
number_of Short = 1
number_of Header = 2
number_of Length = 3
number_of (Broken rule) = 4
number_of Unfit = 14
number_of NoRoom = 15

abbrev pub rule_of : Ground → ℕ
rule_of Short = 0
rule_of Header = 0
rule_of Length = 0
rule_of (Broken rule) = limits.number_of rule
rule_of Unfit = 0
rule_of NoRoom = 0

-- both are 0 where there is none
abbrev pub number_in : {A : Type 0} → Result A Ground → ℕ
number_in (Ok x) = 0
number_in (Err why) = number_of why

abbrev pub rule_in : {A : Type 0} → Result A Ground → ℕ
rule_in (Ok x) = 0
rule_in (Err why) = rule_of why

-- where entries are laid from: the last entry's place in the midst of a shift, else behind the list
abbrev pub place_of : ℕ → State → ℕ
place_of held s = held - cond (unfinished s.phase) 16 0

-- in the midst of a shift it holds this entry's, else none
abbrev pub resumed_on : State → Shift → Walk
resumed_on s e =
    cond (unfinished s.phase)
    (holding s.clock s.phase e.first e.last e.kind e.route e.request_time)
    (idle (trace_of s))
