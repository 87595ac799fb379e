-- The rules before request 2, for the statement alone that old and new agree. Then, entering 22 made the box in gear, or neutral from
-- phases 19 and 21, and nothing else moved it; reset was no step. When the other steps are allowed is as today; OldFleet.antt has how that
-- was before request 6.
-- Assumes nothing.
use Rattle.std.specs.Prelude.{cond, not, ◌&&◌, ◌||◌, ◌≡◌, List, [], ◌∷◌, eqb, Ok}
use Rattle.phases.specs.Phases.{done}
use Rattle.shift.specs.declared.State.{State}
use Rattle.shift.specs.Readings.{Reading}
use Rattle.shift.specs.declared.Step.TheVariants.{Reset}
use Rattle.shift.specs.States.{neutral, in_gear}
use Rattle.shift.specs.Steps.{boxed}
use Rattle.shift.specs.Answers.{led}
use Rattle.shift.specs.Runs.{Outcome}

-- the state that a step led to: today's, but for the box; so the run of then is `run_by led_before`
abbrev pub led_before : State → Reading → State
led_before s r =
    let enters22 = eqb (led s r).phase done && not (eqb s.phase done) in
    let from19or21 = eqb s.phase 19 || eqb s.phase 21 in
    boxed (cond enters22 (cond from19or21 neutral in_gear) s.gear_box) (led s r)

-- a list of the old twelve steps, and of records that do not read
abbrev pub WithoutReset : List Reading → Type 0
WithoutReset [] = Unit {0}
WithoutReset (r ∷ rs) = ¬ (r ≡ Ok Reset) × WithoutReset rs

-- the same steps accepted, refused at the same record by the same number; at rest and in phase 22 the same state, elsewhere the same
-- but for the box
pub record Agree (old new : Outcome) : Type 0 where
  pub count : old.count ≡ new.count
  pub number : old.number ≡ new.number
  pub clock : old.state.clock ≡ new.state.clock
  pub phase : old.state.phase ≡ new.state.phase
  pub phase_time : old.state.phase_time ≡ new.state.phase_time
  pub stage : old.state.stage ≡ new.state.stage
  pub stage_time : old.state.stage_time ≡ new.state.stage_time
  pub request_time : old.state.request_time ≡ new.state.request_time
  pub failed_phase : old.state.failed_phase ≡ new.state.failed_phase
  pub at_rest : new.state.phase ≡ 0 → old.state ≡ new.state
  pub in_22 : new.state.phase ≡ 22 → old.state ≡ new.state
