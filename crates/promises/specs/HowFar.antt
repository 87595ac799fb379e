-- Document 02, request 4, a second time and by what it means: how far a refused step is over, in the words of Refusals.antt. With the
-- excess of `shift` it shares nothing but the fields of a state.
-- Assumes nothing.
use Rattle.std.specs.Prelude.{◌≡◌, [], ◌∷◌, ℕ, ◌+◌, ◌-◌, ◌≤◌, ◌<◌}
use Rattle.checks.specs.Conditions.{OneOf}
use Rattle.limits.specs.declared.Table.{Table}
use Rattle.shift.specs.declared.State.{State}
use Rattle.promises.specs.Refusals.{TooEarly, TooLate, PastClock, PastStage, PastPhase}

-- the state at another clock
abbrev pub at_clock : ℕ → State → State
at_clock c s = record {
  clock = c;
  gear_box = s.gear_box;
  phase = s.phase;
  phase_time = s.phase_time;
  stage = s.stage;
  stage_time = s.stage_time;
  request_time = s.request_time;
  failed_phase = s.failed_phase;
}

-- too early by e: with the clock e later it is not too early, with any clock before that it is
pub record EarlyBy (t : Table) (s : State) (code e : ℕ) : Type 0 where
  pub some : 1 ≤ e
  pub then : ¬ TooEarly t (at_clock (s.clock + e) s) code
  pub before : (c : ℕ) → c < s.clock + e → TooEarly t (at_clock c s) code

-- too late by e: with the clock e earlier it would not have been too late, with any later one it would
pub record LateBy (t : Table) (s : State) (code e : ℕ) : Type 0 where
  pub some : 1 ≤ e
  pub no_more : e ≤ s.clock
  pub then : ¬ TooLate t (at_clock (s.clock - e) s) code
  pub behind : (c : ℕ) → s.clock - e < c → TooLate t (at_clock c s) code

-- A tick to the clock `now` that is past a limit by e, whatever the clock that it begins at: to a clock that is e earlier the limit
-- is kept, to any clock behind that it is passed. With the clock as it is, that is said of amounts: one that is e smaller keeps the
-- limit, every one between passes it.
pub record PastBy (Past : ℕ → ℕ → Type 0) (now e : ℕ) : Type 0 where
  pub some : 1 ≤ e
  pub no_more : e ≤ now
  pub kept : (clock amount : ℕ) → clock + amount + e ≡ now → ¬ Past clock amount
  pub passed : (clock amount : ℕ) → now < clock + amount + e → Past clock amount

-- by the number that refuses, each against its own limit; every other answer carries 0
pub record HowFar (t : Table) (s : State) (code amount number excess : ℕ) : Type 0 where
  pub too_early : number ≡ 9 → EarlyBy t s code excess
  pub too_late : number ≡ 10 → LateBy t s code excess
  pub past_phase : number ≡ 11 → PastBy (λ c n. PastPhase t (at_clock c s) code n) (s.clock + amount) excess
  pub past_stage : number ≡ 12 → PastBy (λ c n. PastStage t (at_clock c s) code n) (s.clock + amount) excess
  pub past_clock : number ≡ 13 → PastBy (λ c n. PastClock (at_clock c s) code n) (s.clock + amount) excess
  pub none : ¬ OneOf (9 ∷ 10 ∷ 11 ∷ 12 ∷ 13 ∷ []) number → excess ≡ 0
