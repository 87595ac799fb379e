-- A law on a choice by cases of the phase: what none of them has.
-- Assumes nothing.
use mathlib.Core.Path.{◌≡◌}
use mathlib.Core.Logic.{⊎_elim}
use mathlib.Core.Bool.{◌||◌}
use mathlib.Core.List.{List, [], ◌∷◌}
use Prim.Native.Nat.{ℕ, ◌+◌, ◌≤◌, ◌<◌}
use lib.Dec.{T, eqb, eqb→eq}
use Rattle.checks.specs.Conditions.{OneOf}
use Rattle.checks.specs.Ranges.{From}
use Rattle.checks.proofs.Ranges.{from}
use Rattle.checks.proofs.Tests.{either}
use Rattle.phases.specs.ByPhase.{has}
use Rattle.phases.proofs.ByPhaseLaws.{found}

-- none of these numbers, the last one outermost, as a `match` leaves them to its `_`
abbrev pub NoneOf : List ℕ → ℕ → Type 0
NoneOf [] p = Unit {0}
NoneOf (k ∷ ks) p = NoneOf ks p × (p ≡ k → ⊥)

no_case : (cases : List ℕ) (p : ℕ) → NoneOf cases p → OneOf cases p → ⊥
no_case [] p r h = h
no_case (k ∷ ks) p r h = ⊎_elim r.1 (no_case ks p r.0) h

-- a range in which f has one value but at the cases: what none of the cases has
pub otherwise :
    (v : ℕ) (f : ℕ → ℕ) (cases : List ℕ) (i n : ℕ)
    → From (λ k. T (has cases k || eqb v (f k))) i n
    → (p : ℕ) → i ≤ p → p < i + n → NoneOf cases p → v ≡ f p
otherwise v f cases i n each p l h r =
    ⊎_elim
    (λ c. absurd (no_case cases p r (found cases p c)))
    (λ z. eqb→eq v (f p) z)
    (either (has cases p) (eqb v (f p)) (from (λ k. T (has cases k || eqb v (f k))) i n each p l h))
