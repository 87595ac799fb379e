-- Document 02, requests 1 and 4: the manual's engine answers as ours does, excess and all, and its variables read as our state.
-- Assumes nothing.
use Rattle.std.specs.Prelude.{◌≡◌, T}
use Rattle.shift.specs.declared.State.{State}
use Rattle.shift.specs.declared.Answer.{Answer}
use Rattle.shift.specs.Runs.{Outcome}
use Rattle.shift.specs.Steps.{limited}
use Rattle.manual.specs.declared.Variables.{Variables}
use Rattle.manual.specs.declared.Moved.{Moved}
use Rattle.manual.specs.Runs as manual
use Rattle.manual_reading.specs.Reading.{reading}

-- the reading is our phase, stage, box and clock, and in phases 1 to 21, stage sent, working or good, our other times
pub record Reads (v : Variables) (s : State) : Type 0 where
  pub clock : (reading v).clock ≡ s.clock
  pub box : (reading v).gear_box ≡ s.gear_box
  pub phase : (reading v).phase ≡ s.phase
  pub stage : (reading v).stage ≡ s.stage
  pub phase_time : T (limited s) → (reading v).phase_time ≡ s.phase_time
  pub stage_time : T (limited s) → (reading v).stage_time ≡ s.stage_time
  pub request_time : T (limited s) → (reading v).request_time ≡ s.request_time

-- of a list: the same steps accepted, refused at the same record by the same number and with the same excess, and the variables read as
-- the state
pub record Agrees (m : manual.Outcome) (o : Outcome) : Type 0 where
  pub count : m.count ≡ o.count
  pub number : m.number ≡ o.number
  pub excess : m.excess ≡ o.excess
  pub reads : Reads m.variables o.state

-- of one call: the same number, rule and excess, and the variables read as the state
pub record Alike (m : Moved) (a : Answer) : Type 0 where
  pub number : m.number ≡ a.number
  pub rule : m.rule ≡ a.rule
  pub excess : m.excess ≡ a.excess
  pub reads : Reads m.variables a.state
