-- Laws on what a code, a middle byte and an amount mean: past the last code none, and all but a tick alike.
-- Assumes nothing.
use mathlib.Core.Path.{◌≡◌, refl}
use mathlib.Core.Bool.{Bool, true, false, cond, ◌&&◌}
use Prim.Native.Nat.{ℕ, ◌≤◌, ◌<◌}
use lib.Dec.{eqb}
use lib.ListN.{get_or-eq_default}
use Rattle.std.specs.Prelude.{Ok, Err}
use Rattle.checks.proofs.Ranges.{from}
use Rattle.shift.specs.declared.Step.{Step}
use Rattle.shift.specs.declared.Step.TheVariants.{Finish}
use Rattle.shift.specs.declared.Misread.TheVariants.{WrongCode, WrongAmount}
use Rattle.shift.specs.Answers.{plain, readings, reading, refusal}

same_refusal : (b : Bool) (x y : Step) → refusal (cond b (Ok x) (Err WrongAmount)) ≡ refusal (cond b (Ok y) (Err WrongAmount))
same_refusal true x y = refl
same_refusal false x y = refl

module _ (middle n : ℕ) where
  pub past_codes : (c : ℕ) → 13 < c → reading c middle n ≡ Err WrongCode
  past_codes c h = get_or-eq_default (readings middle n) (Err WrongCode) {n = c} h

  one : (x : Step) → refusal (plain Finish middle n) ≡ refusal (plain x middle n)
  one = same_refusal (eqb middle 0 && eqb n 0) Finish

  pub alike : (c : ℕ) → 1 ≤ c → c < 14 → ¬ (c ≡ 12) → refusal (plain Finish middle n) ≡ refusal (reading c middle n)
  alike =
      from (λ k. ¬ (k ≡ 12) → refusal (plain Finish middle n) ≡ refusal (reading k middle n)) 1 13
      (λ _. one _, (λ _. one _, (λ _. one _, (λ _. one _, (λ _. one _, (λ _. one _, (λ _. one _, (λ _. one _, (λ _. one _, (λ _. one _, (λ _. one _, (λ n. absurd (n refl), (λ _. one _, tt)))))))))))))
