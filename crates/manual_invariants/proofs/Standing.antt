-- Where the manual's variables stand in a run: at a place, which tells every flag; and what accepted steps keep holds at its end.
-- Assumes nothing.
use mathlib.Core.Path.{◌≡◌, refl, sym, subst}
use mathlib.Core.Bool.{true}
use mathlib.Core.List.{List, [], ◌∷◌}
use Prim.Native.Nat.{ℕ, zero, suc}
use lib.Dec.{T}
use Rattle.std.specs.Prelude.{Ok, Err}
use Rattle.checks.proofs.Tests.{case}
use Rattle.limits.specs.declared.Table.{Table}
use Rattle.limits.specs.Rules.{broken_rule}
use Rattle.shift.specs.declared.Step.{Step}
use Rattle.shift.specs.Readings.{Reading}
use Rattle.shift.specs.declared.Misread.TheVariants.{WrongCode, WrongAmount}
use Rattle.shift.specs.States.{start}
use Rattle.shift.specs.Answers.{reading}
use Rattle.manual.specs.declared.Variables.{Variables}
use Rattle.manual.specs.declared.Moved.{Moved}
use Rattle.manual.specs.Variables.{initialisation}
use Rattle.manual.specs.Events.{answered}
use Rattle.manual.specs.Steps.{stepped}
use Rattle.manual.specs.Answers.{number_of, excess_of, led_to, move_to, moved, admitting, moved_on}
use Rattle.manual.specs.Runs.{Outcome, after, run}
use Rattle.manual.proofs.Places.{Place, vars_at, valid}
use Rattle.manual.proofs.Ways.{goes, leads}
use Rattle.manual.proofs.Places.Place.{rest}
use Rattle.manual_agreement.proofs.Joined.{goes_where_accepted, same_after, still_valid}

pub record StandsAt (c : Place) (v : Variables) : Type 0 where
  pub valid_place : T (valid c)
  pub variables : v ≡ vars_at c v

pub at_start : StandsAt (rest true) initialisation
unfolding vars_at
at_start = record { valid_place = tt; variables = refl }

module _ (t : Table) (v : Variables) (x : Step) (c : Place) (i : StandsAt c v) where
  -- an accepted step is one that the place allows
  pub goes_there : answered (stepped t v x) ≡ 0 → goes c x ≡ true
  goes_there z =
      case (goes c x)
      (λ e. e)
      (λ e. absurd (goes_where_accepted t v start c i.valid_place x (subst (λ (u : Variables). answered (stepped t u x) ≡ 0) i.variables z) e))

  pub stands_on : goes c x ≡ true → StandsAt (leads c x) (stepped t v x).after
  stands_on e = record {
    valid_place = still_valid t v start c i.valid_place x e;
    variables =
        subst (λ (u : Variables). (stepped t u x).after ≡ vars_at (leads c x) (stepped t u x).after) (sym i.variables)
        (same_after t v start c i.valid_place x e);
  }

-- ---- runs
module _ (t : Table) (P : Variables → Type 0) (keeps : (v : Variables) (x : Step) → P v → answered (stepped t v x) ≡ 0 → P (stepped t v x).after) where
  goes_on : (v : Variables) (r : Reading) → P v → number_of t v r ≡ 0 → P (led_to t v r)
  goes_on v (Ok x) i z = keeps v x i z
  goes_on v (Err WrongCode) i z = i
  goes_on v (Err WrongAmount) i z = i

  one_more : (k over : ℕ) (v : Variables) (o : Outcome) → P v → (k ≡ 0 → P o.variables) → P (after k over v o).variables
  one_more zero over v o i f = f refl
  one_more (suc k) over v o i f = i

  -- what each accepted step keeps holds at the end of a run
  pub run_keeps : (v : Variables) (rs : List Reading) → P v → P (run t v rs).variables
  run_keeps v [] i = i
  run_keeps v (r ∷ rs) i =
      one_more (number_of t v r) (excess_of t v r) v (run t (led_to t v r) rs) i
      (λ z. run_keeps (led_to t v r) rs (goes_on v r i z))

  -- and after a call that answers as the definition of one step says
  answered_so : (k over : ℕ) (v v' : Variables) → P v → (k ≡ 0 → P v') → P (move_to k over v' v).variables
  answered_so zero over v v' i f = f refl
  answered_so (suc k) over v v' i f = i

  admitted_so : (k : ℕ) (m : Moved) (v : Variables) → P v → P m.variables → P (admitting k m v).variables
  admitted_so zero m v i j = j
  admitted_so (suc k) m v i j = i

  pub call_keeps : (v : Variables) (code middle n : ℕ) → P v → P (moved_on t v code middle n).variables
  call_keeps v code middle n i =
      let r = reading code middle n in
      admitted_so (broken_rule t) (moved t v r) v i
      (answered_so (number_of t v r) (excess_of t v r) v (led_to t v r) i (goes_on v r i))
