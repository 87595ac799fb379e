-- Laws on what a number makes of a step.
-- Assumes nothing.
use mathlib.Core.Path.{◌≡◌, refl}
use Prim.Native.Nat.{ℕ, zero, suc}
use Rattle.manual.specs.declared.Variables.{Variables}
use Rattle.manual.specs.Answers.{move_to}

refusal :
    (n over : ℕ) (after v : Variables) → ¬ (n ≡ 0)
    → record { number = n; rule = 0; excess = over; variables = v } ≡ move_to n over after v
refusal zero over after v h = absurd (h refl)
refusal (suc n) over after v h = refl

pub refuses :
    {n over : ℕ} (k e : ℕ) (after v : Variables)
    → k ≡ n → e ≡ over → ¬ (k ≡ 0) → record { number = k; rule = 0; excess = e; variables = v } ≡ move_to n over after v
refuses k e after v p q h = rw (← p, ← q) (refusal k e after v h)

pub accepts :
    {n : ℕ} (over : ℕ) (after v : Variables)
    → n ≡ 0 → record { number = 0; rule = 0; excess = 0; variables = after } ≡ move_to n over after v
accepts over after v e = rw e
