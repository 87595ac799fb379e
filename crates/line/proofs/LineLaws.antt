-- A text laid into a buffer.
-- Assumes nothing.
use Prim.Native.Nat.{ℕ, ◌≤◌}
use mathlib.Core.List.{List}
use native.Mathlib.Omega.{arith}
use lib.ListN.{length}
use lib.Dec.{leb}
use borrow.Author.Tests.{leb-true}
use Rattle.checks.proofs.Tests.{case}
use Rattle.line.specs.Laying.{laid}

-- what is laid lies within the buffer
pub within : (text out : List ℕ) → (laid text out).length ≤ length out
within text out =
    case (leb (length text) (length out))
    (λ e. rw e (leb-true (length text) (length out) e))
    (λ e. rw e (omega arith))
