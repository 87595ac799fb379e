-- Document 01, "State and phases": the box, the stages, the start, and what entering a phase does.
-- Assumes nothing.
use Rattle.std.specs.Prelude.{cond, ℕ, eqb}
use Rattle.phases.specs.Phases.{at_rest, error, unfinished}
use Rattle.shift.specs.declared.State.{State}

-- the box
abbrev pub neutral : ℕ
neutral = 0

abbrev pub in_gear : ℕ
in_gear = 1

-- stages
abbrev pub none : ℕ
none = 0

abbrev pub sent : ℕ
sent = 1

abbrev pub working : ℕ
working = 2

abbrev pub good : ℕ
good = 3

abbrev pub failed : ℕ
failed = 4

abbrev pub waiting : ℕ
waiting = 5

-- at the start all are 0, the box is neutral, the stage is none
abbrev pub start : State
start = record {
  clock = 0;
  gear_box = neutral;
  phase = at_rest;
  phase_time = 0;
  stage = none;
  stage_time = 0;
  request_time = 0;
  failed_phase = 0;
}

-- entering a phase leaves the box as it is
abbrev pub entered : ℕ → State → State
entered p s = record {
  clock = s.clock;
  gear_box = s.gear_box;
  phase = p;
  phase_time = s.clock;
  stage = cond (unfinished p) sent none;
  stage_time = s.clock;
  request_time = cond (eqb p at_rest) 0 s.request_time;
  failed_phase = cond (eqb p error) s.phase 0;
}
