-- Document 01, "Numbers for what is refused", and document 02, request 4, a second time: what one step on any given state and table is
-- answered.
-- Assumes nothing.
use Rattle.std.specs.Prelude.{◌≡◌, ℕ}
use Rattle.checks.specs.Conditions.{FirstOf}
use Rattle.limits.specs.declared.Table.{Table}
use Rattle.shift.specs.declared.State.{State}
use Rattle.shift.specs.declared.Step.{Step}
use Rattle.shift.specs.Refusals.{code_of, amount_of}
use Rattle.promises.specs.Effects.{Effect}
use Rattle.promises.specs.Refusals.{refusals}
use Rattle.promises.specs.HowFar.{HowFar}

-- the number of the first condition that holds, or 0 where none does, and how far over the step is; refused, the state is the one given;
-- accepted, it is the one that the step of this code and this amount makes of it
pub record Answered (t : Table) (s : State) (code middle amount number excess : ℕ) (s' : State) : Type 0 where
  pub first : FirstOf (refusals t s code middle amount) number
  pub how_far : HowFar t s code amount number excess
  pub refused : ¬ (number ≡ 0) → s' ≡ s
  pub accepted : number ≡ 0 → (x : Step) × (code_of x ≡ code) × (amount_of x ≡ amount) × Effect s x s'
