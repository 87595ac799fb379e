-- Laws on what a step is answered: by its event, by the table's broken rule, and where it is no step.
-- Assumes nothing.
use mathlib.Core.Path.{◌≡◌, refl, sym, ap, ◌∙◌}
use Prim.Native.Nat.{ℕ, zero, suc}
use Rattle.std.specs.Prelude.{Ok, Err}
use Rattle.limits.specs.declared.Table.{Table}
use Rattle.shift.specs.declared.Step.{Step}
use Rattle.shift.specs.declared.Misread.{Misread}
use Rattle.shift.specs.declared.Misread.TheVariants.{WrongCode, WrongAmount}
use Rattle.shift.specs.Answers.{refusal}
use Rattle.manual.specs.declared.Variables.{Variables}
use Rattle.manual.specs.declared.Event.{Event}
use Rattle.manual.specs.declared.Moved.{Moved}
use Rattle.manual.specs.Events.{answered, exceeded}
use Rattle.manual.specs.Steps.{stepped}
use Rattle.manual.specs.Answers.{move_to, moved, admitting}

-- a step is answered by its event
pub settles :
    {r : Moved} (t : Table) (v : Variables) (x : Step) (e : Event) → r ≡ move_to (answered e) (exceeded e) e.after v
    → e ≡ stepped t v x → r ≡ moved t v (Ok x)
settles t v x e p q = p ∙ ap (λ (k : Event). move_to (answered k) (exceeded k) k.after v) q

-- its event is that of the step that was matched
pub matched : {x y : Step} {e r : Event} (t : Table) (v : Variables) → x ≡ y → r ≡ stepped t v y → e ≡ r → e ≡ stepped t v x
matched t v p q s = s ∙ q ∙ sym (ap (stepped t v) p)

pub breaks : (k : ℕ) (m : Moved) (v : Variables) → ¬ (k ≡ 0) → record { number = 4; rule = k; excess = 0; variables = v } ≡ admitting k m v
breaks zero m v h = absurd (h refl)
breaks (suc k) m v h = refl

-- what is no step is refused by its own number
pub no_step :
    (t : Table) (v : Variables) (m : Misread) → record { number = refusal (Err m); rule = 0; excess = 0; variables = v } ≡ moved t v (Err m)
no_step t v WrongCode = refl
no_step t v WrongAmount = refl
