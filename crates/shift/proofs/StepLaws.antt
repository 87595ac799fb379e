-- Laws on the steps: where a limit applies, and which it is.
-- Assumes nothing.
use mathlib.Core.Path.{◌≡◌}
use mathlib.Core.Bool.{cond, ◌&&◌}
use mathlib.Core.List.{[], ◌∷◌}
use Prim.Native.Nat.{ℕ, ◌≤◌, ◌<◌}
use native.Mathlib.Omega.{arith}
use lib.Dec.{T, leb, leb→le}
use lib.ListN.{get_or}
use borrow.Author.Tests.{le-leb}
use Rattle.checks.proofs.Tests.{left, right}
use Rattle.checks.proofs.Ranges.{from}
use Rattle.phases.proofs.PhaseLaws.{unfinished_in}
use Rattle.shift.specs.declared.State.{State}
use Rattle.phases.specs.Phases.{unfinished}
use Rattle.shift.specs.Steps.{limited}

-- ---- the phase limit, in phases 1 to 21
module _ (p x : ℕ) where
  pub shifting : 1 ≤ p → p ≤ 21 → cond (unfinished p) x 0 ≡ x
  shifting l m = rw (le-leb 1 p l, le-leb p 21 m)

-- ---- the channel's or the device's limit, there in stages 1 to 3
module _ (s : State) (x : ℕ) where
  pub limits : 1 ≤ s.phase → s.phase ≤ 21 → 1 ≤ s.stage → s.stage ≤ 3 → cond (limited s) x 0 ≡ x
  limits l m i j = rw (le-leb 1 s.phase l, le-leb s.phase 21 m, le-leb 1 s.stage i, le-leb s.stage 3 j)

-- where it applies
pub limited_in : (s : State) → T (limited s) → (1 ≤ s.phase) × (s.phase ≤ 21) × (1 ≤ s.stage) × (s.stage ≤ 3)
limited_in s h =
    let p = unfinished_in s.phase (left (unfinished s.phase) (leb 1 s.stage && leb s.stage 3) h) in
    let g = right (unfinished s.phase) (leb 1 s.stage && leb s.stage 3) h in (
      p.0,
      p.1,
      leb→le 1 s.stage (left (leb 1 s.stage) (leb s.stage 3) g),
      leb→le s.stage 3 (right (leb 1 s.stage) (leb s.stage 3) g),
    )

-- the channel's limit in stages 1 and 3
pub by_channel : (ch device g : ℕ) → 1 ≤ g → g < 4 → ¬ (g ≡ 2) → get_or (0 ∷ ch ∷ device ∷ ch ∷ []) g 0 ≡ ch
by_channel ch device = from _ 1 3 (omega arith)
