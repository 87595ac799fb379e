-- At each place the two engines give the same number and excess for each step, and what is allowed leads both to the same place: by
-- computing.
-- Assumes nothing.
use mathlib.Core.Path.{◌≡◌, refl}
use mathlib.Core.Bool.{Bool, true, false, cond}
use mathlib.Core.List.{List, [], ◌∷◌, map, ◌++◌}
use Prim.Native.Nat.{ℕ, suc}
use Rattle.checks.specs.Checks.{first}
use Rattle.limits.specs.declared.Table.{Table}
use Rattle.shift.specs.declared.State.{State}
use Rattle.shift.specs.declared.Step.{Step}
use Rattle.shift.specs.declared.Step.TheVariants.{FromNeutral, GearToGear, ToNeutral, Deliver, DeviceGood, DeviceFailed, EngineWaits, Take, AskClutch, RaiseError, Finish, Tick, Reset}
use Rattle.shift.specs.Steps.{effect}
use Rattle.shift.specs.Answers.{listed}
use Rattle.manual.specs.declared.Variables.{Variables}
use Rattle.manual.specs.Events.{answered, exceeded, or_else}
use Rattle.manual.specs.Ticks.{past, past_else}
use Rattle.manual.specs.Steps.{stepped}
use Rattle.manual.proofs.Places.{Place, vars_at, state_at, orders, lasts, fallible, valid}
use Rattle.manual.proofs.Places.Place.{rest, at, done, error}
use Rattle.manual.proofs.Ways.{goes, leads, refusal}
use Rattle.manual.proofs.Plainly.{plainly, plain_over}

-- what is said of a step at a place: the manual's number and excess, our number where the flags don't allow the step, and where they do
-- the variables and the state after it, and that it leads to a place
pub record Fact : Type 0 where
  pub number : ℕ
  pub excess : ℕ
  pub refusal : ℕ
  pub variables : Variables
  pub state : State
  pub place : Bool

abbrev pub steps : ℕ → List Step
steps n =
    FromNeutral ∷ GearToGear ∷ ToNeutral ∷ Deliver ∷ DeviceGood ∷ DeviceFailed ∷ EngineWaits ∷ Take ∷ AskClutch ∷ RaiseError ∷ Finish ∷ Tick n ∷ Reset ∷ []

module _ (t : Table) (w : Variables) (s : State) where
  abbrev pub theirs : Place → Step → ℕ
  theirs c x = answered (stepped t (vars_at c w) x)

  abbrev pub ours : Place → Step → ℕ
  ours c x = first (listed (state_at c w s) ++ plainly t (state_at c w s) x)

  abbrev pub theirs_over : Place → Step → ℕ
  theirs_over c x = exceeded (stepped t (vars_at c w) x)

  abbrev pub ours_over : Place → Step → ℕ
  ours_over c x = plain_over t (state_at c w s) x

  abbrev pub after : Place → Step → Variables
  after c x = (stepped t (vars_at c w) x).after

  abbrev pub next : Place → Step → State
  next c x = effect (state_at c w s) x

  unfoldable pub found : Place → Step → Fact
  found c x = record {
    number = theirs c x;
    excess = theirs_over c x;
    refusal = cond (goes c x) 0 (ours c x);
    variables = cond (goes c x) (after c x) w;
    state = cond (goes c x) (next c x) s;
    place = cond (goes c x) (valid (leads c x)) true;
  }

  unfoldable pub wanted : Place → Step → Fact
  wanted c x = record {
    number = ours c x;
    excess = ours_over c x;
    refusal = cond (goes c x) 0 (suc (refusal c x));
    variables = cond (goes c x) (vars_at (leads c x) (after c x)) w;
    state = cond (goes c x) (state_at (leads c x) (after c x) (next c x)) s;
    place = true;
  }

  -- of every step at a place
  module _ (n : ℕ) where
    abbrev pub all_found : Place → List Fact
    all_found c = map (found c) (steps n)

    abbrev pub all_wanted : Place → List Fact
    all_wanted c = map (wanted c) (steps n)

    pub resting : (b : Bool) → all_found (rest b) ≡ all_wanted (rest b)
    unfolding or_else past past_else vars_at state_at found wanted
    resting true = refl
    resting false = refl

    pub sent : map (λ (p : ℕ). all_found (at p 1)) orders ≡ map (λ (p : ℕ). all_wanted (at p 1)) orders
    unfolding or_else past past_else vars_at state_at found wanted
    sent = refl

    pub working : map (λ (p : ℕ). all_found (at p 2)) orders ≡ map (λ (p : ℕ). all_wanted (at p 2)) orders
    unfolding or_else past past_else vars_at state_at found wanted
    working = refl

    pub ready : map (λ (p : ℕ). all_found (at p 3)) orders ≡ map (λ (p : ℕ). all_wanted (at p 3)) orders
    unfolding or_else past past_else vars_at state_at found wanted
    ready = refl

    pub held : map (λ (p : ℕ). all_found (at p 4)) orders ≡ map (λ (p : ℕ). all_wanted (at p 4)) orders
    unfolding or_else past past_else vars_at state_at found wanted
    held = refl

    pub ended : map (λ (p : ℕ). all_found (done p)) lasts ≡ map (λ (p : ℕ). all_wanted (done p)) lasts
    unfolding or_else past past_else vars_at state_at found wanted
    ended = refl

    pub failed : map (λ (p : ℕ). all_found (error p)) fallible ≡ map (λ (p : ℕ). all_wanted (error p)) fallible
    unfolding or_else past past_else vars_at state_at found wanted
    failed = refl
