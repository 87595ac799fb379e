-- Where both engines stand at one place, the reading of the variables is our state.
-- Assumes nothing.
use mathlib.Core.Path.{◌≡◌, sym, ap, subst}
use mathlib.Core.Bool.{Bool, true, false, cond}
use Prim.Native.Nat.{ℕ}
use lib.Dec.{T}
use Rattle.shift.specs.declared.State.{State}
use Rattle.shift.specs.Steps.{limited}
use Rattle.manual.specs.declared.Variables.{Variables}
use Rattle.manual.proofs.Places.{Place, vars_at, state_at, valid}
use Rattle.manual_reading.specs.declared.Read.{Read}
use Rattle.manual_reading.specs.Reading.{reading}
use Rattle.manual_reading.proofs.Readings.{got, due, shifting, ended, failed, resting}
use Rattle.manual_agreement.specs.Agreement.{Reads}
use Rattle.manual_agreement.proofs.Every.{at_each_place}
use Rattle.manual_agreement.proofs.Joined.{Joined}

read_at : (w : Variables) (s : State) (c : Place) → T (valid c) → got w s c ≡ due w s c
read_at w s = at_each_place (got w s) (due w s) (resting w s) (shifting w s) (ended w s) (failed w s)

shown : (b : Bool) (x y : ℕ) → cond b x 0 ≡ cond b y 0 → T b → x ≡ y
shown true x y e h = e
shown false x y e h = absurd h

reads_at : (w : Variables) (s : State) (c : Place) → T (valid c) → Reads (vars_at c w) (state_at c w s)
unfolding got due
reads_at w s c h =
    let e = read_at w s c h in
    let l = limited (state_at c w s) in
    let r = reading (vars_at c w) in
    record {
      clock = ap (λ (x : Read). x.clock) e;
      box = ap (λ (x : Read). x.gear_box) e;
      phase = ap (λ (x : Read). x.phase) e;
      stage = ap (λ (x : Read). x.stage) e;
      phase_time = shown l r.phase_time (state_at c w s).phase_time (ap (λ (x : Read). x.phase_time) e);
      stage_time = shown l r.stage_time (state_at c w s).stage_time (ap (λ (x : Read). x.stage_time) e);
      request_time = shown l r.request_time (state_at c w s).request_time (ap (λ (x : Read). x.request_time) e);
    }

pub reads : (v : Variables) (s : State) → Joined v s → Reads v s
reads v s i =
    subst (λ (u : Variables). Reads u s) (sym i.variables)
    (subst (λ (r : State). Reads (vars_at i.place v) r) (sym i.state) (reads_at v s i.place i.valid_place))
