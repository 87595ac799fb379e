-- Laws on the phase table and the limits by order.
-- Assumes nothing.
use mathlib.Core.Path.{◌≡◌}
use mathlib.Core.List.{List}
use Prim.Native.Nat.{ℕ, ◌≤◌, ◌<◌}
use native.Mathlib.Omega.{arith}
use lib.Dec.{T, leb, leb→le}
use lib.ListN.{length, get_or-eq_default}
use Rattle.limits.specs.declared.Table.{Table}
use Rattle.checks.proofs.Tests.{left, right}
use Rattle.checks.proofs.Ranges.{below, from}
use Rattle.phases.specs.Phases.{order_of, next_of, clutch_of, unfinished, limit_by}

-- past the last order there is no entry
pub no_limit : (numbers : List ℕ) (t : Table) (o : ℕ) → length numbers ≤ o → 0 ≡ limit_by numbers t o
no_limit numbers t o h = rw (get_or-eq_default numbers 22 h)

-- phases 1 to 21 have an order
pub ordered : (p : ℕ) → 1 ≤ p → p < 22 → 1 ≤ order_of p
ordered = from _ 1 21 (omega arith)

-- there are six orders, and none
pub orders : (p : ℕ) → p < 24 → order_of p < 7
orders = below _ 24 (omega arith)

-- a phase leads to phases that are listed
pub next_listed : (p : ℕ) → p < 24 → next_of p ≤ 23
next_listed = below _ 24 (omega arith)

pub clutch_listed : (p : ℕ) → p < 24 → clutch_of p ≤ 23
clutch_listed = below _ 24 (omega arith)

-- an unfinished phase is one of 1 to 21
pub unfinished_in : (p : ℕ) → T (unfinished p) → (1 ≤ p) × (p ≤ 21)
unfinished_in p h = (leb→le 1 p (left (leb 1 p) (leb p 21) h), leb→le p 21 (right (leb 1 p) (leb p 21) h))
