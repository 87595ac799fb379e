-- Laws on the first number of a range that passes a test.
-- Assumes nothing.
use mathlib.Core.Path.{◌≡◌, subst}
use mathlib.Core.Logic.{⊎_elim}
use mathlib.Core.Bool.{Bool, true, false, not, cond}
use Prim.Native.Nat.{ℕ, zero, suc, ◌+◌, ◌≤◌, ◌<◌}
use native.Mathlib.Nat.{eq-or-lt_of_le}
use native.Mathlib.Omega.{arith}
use lib.Dec.{T}
use Rattle.std.specs.Prelude.{unwrap_or}
use Rattle.std.specs.List.{find, range_with_len}
use Rattle.checks.proofs.Tests.{case}
use Rattle.admission.specs.FirstTighter.{first_from}

-- a choice has what both of its sides have
chosen : (P : ℕ → Type 0) (b : Bool) (x y : ℕ) → (T b → P x) → (T (not b) → P y) → P (cond b x y)
chosen P true x y p q = p tt
chosen P false x y p q = q tt

module _ (test : ℕ → Bool) where
  pub at_most : (i n : ℕ) → first_from test i n ≤ i + n
  at_most i zero = omega arith
  at_most i (suc n) =
      let rest = at_most (suc i) n in
      chosen (λ r. r ≤ i + suc n) (test i) i (first_from test (suc i) n) (λ _. omega arith) (λ _. omega arith)

  pub passes_there : (i n : ℕ) → first_from test i n < i + n → T (test (first_from test i n))
  passes_there i zero h = absurd (omega arith)
  passes_there i (suc n) h =
      chosen (λ r. r < i + suc n → T (test r)) (test i) i (first_from test (suc i) n)
      (λ t _. t)
      (λ _ l. passes_there (suc i) n (omega arith))
      h

  pub fails_before : (i n k : ℕ) → i ≤ k → k < first_from test i n → T (not (test k))
  fails_before i zero k l h = absurd (omega arith)
  fails_before i (suc n) k l h =
      chosen (λ r. k < r → T (not (test k))) (test i) i (first_from test (suc i) n)
      (λ _ b. absurd (omega arith))
      (λ no b. ⊎_elim (λ e. subst (λ (j : ℕ). T (not (test j))) e no) (λ m. fails_before (suc i) n k m b) (eq-or-lt_of_le l))
      h

  -- what looking for it finds
  pub found : (i n : ℕ) → unwrap_or (find test (range_with_len i n)) (i + n) ≡ first_from test i n
  found i zero = omega arith
  found i (suc n) =
      let end : i + suc n ≡ suc i + n = omega arith in
      let one : i + 1 ≡ suc i = omega arith in
      case (test i)
      (λ t. rw t)
      (λ t. rw (t, end, one) (found (suc i) n))
