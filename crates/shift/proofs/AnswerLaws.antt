-- Laws on the answers: what an answer is by its number.
-- Assumes nothing.
use mathlib.Core.Path.{◌≡◌, refl}
use Prim.Native.Nat.{ℕ, zero, suc}
use native.Mathlib.Omega.{arith}
use Rattle.shift.specs.declared.State.{State}
use Rattle.shift.specs.declared.Answer.{Answer}
use Rattle.shift.specs.Answers.{refused, answer, admitting}

pub refuses : (k over : ℕ) (next s : State) → ¬ (k ≡ 0) → refused k over s ≡ answer k over next s
refuses zero over next s h = absurd (h refl)
refuses (suc k) over next s h = refl

pub accepts : (k over : ℕ) (next s : State) → k ≡ 0 → record { number = 0; rule = 0; excess = 0; state = next } ≡ answer k over next s
accepts zero over next s h = refl
accepts (suc k) over next s h = absurd (omega arith)

pub breaks : (k : ℕ) (a : Answer) (s : State) → ¬ (k ≡ 0) → record { number = 4; rule = k; excess = 0; state = s } ≡ admitting k a s
breaks zero a s h = absurd (h refl)
breaks (suc k) a s h = refl
