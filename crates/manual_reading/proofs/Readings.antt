-- At each place the reading of the variables is our state, found by computing.
-- Assumes nothing.
use mathlib.Core.Path.{◌≡◌, refl}
use mathlib.Core.Bool.{Bool, cond}
use mathlib.Core.List.{map}
use Prim.Native.Nat.{ℕ}
use Rattle.shift.specs.declared.State.{State}
use Rattle.shift.specs.Steps.{limited}
use Rattle.manual.specs.declared.Variables.{Variables}
use Rattle.manual.proofs.Places.{Place, vars_at, state_at, orders, lasts, fallible, stages}
use Rattle.manual.proofs.Places.Place.{rest, at, done, error}
use Rattle.manual_reading.specs.declared.Read.{Read}
use Rattle.manual_reading.specs.Reading.{or_phase, outside, from_neutral, gear_to_gear, to_neutral, stage_by, stage_of, reading}

-- the times where there is a limit of the channel or the device, else 0
abbrev seen : Bool → Read → Read
seen b r = record {
  clock = r.clock;
  gear_box = r.gear_box;
  phase = r.phase;
  phase_time = cond b r.phase_time 0;
  stage = r.stage;
  stage_time = cond b r.stage_time 0;
  request_time = cond b r.request_time 0;
}

-- our state, in the form of a reading
abbrev read_of : State → Read
read_of s = record {
  clock = s.clock;
  gear_box = s.gear_box;
  phase = s.phase;
  phase_time = s.phase_time;
  stage = s.stage;
  stage_time = s.stage_time;
  request_time = s.request_time;
}

module _ (w : Variables) (s : State) where
  -- what is read at a place, and what is due there
  unfoldable pub got : Place → Read
  got c = seen (limited (state_at c w s)) (reading (vars_at c w))

  unfoldable pub due : Place → Read
  due c = seen (limited (state_at c w s)) (read_of (state_at c w s))

  pub shifting :
      map (λ (g : ℕ). map (λ (p : ℕ). got (at p g)) orders) stages
      ≡ map (λ (g : ℕ). map (λ (p : ℕ). due (at p g)) orders) stages
  unfolding got due vars_at state_at reading outside from_neutral gear_to_gear to_neutral or_phase stage_of stage_by
  shifting = refl

  pub ended : map (λ (p : ℕ). got (done p)) lasts ≡ map (λ (p : ℕ). due (done p)) lasts
  unfolding got due vars_at state_at reading outside from_neutral gear_to_gear to_neutral or_phase stage_of stage_by
  ended = refl

  pub failed : map (λ (p : ℕ). got (error p)) fallible ≡ map (λ (p : ℕ). due (error p)) fallible
  unfolding got due vars_at state_at reading outside from_neutral gear_to_gear to_neutral or_phase stage_of stage_by
  failed = refl

  pub resting : (b : Bool) → got (rest b) ≡ due (rest b)
  unfolding got due vars_at state_at reading outside from_neutral gear_to_gear to_neutral or_phase stage_of stage_by
  resting b = refl
