-- Laws on how far over a refused step is: which numbers carry nothing.
-- Assumes nothing.
use mathlib.Core.Path.{◌≡◌}
use Prim.Native.Nat.{ℕ, ◌<◌}
use native.Mathlib.Omega.{arith}
use Rattle.checks.proofs.Ranges.{below}
use Rattle.limits.specs.declared.Table.{Table}
use Rattle.shift.specs.declared.State.{State}
use Rattle.shift.specs.Excess.{excess_by}

module _ (t : Table) (s : State) (early now : ℕ) where
  -- none below 9
  pub none_below_9 : (k : ℕ) → k < 9 → excess_by t s early now k ≡ 0
  none_below_9 = below _ 9 (omega arith)
