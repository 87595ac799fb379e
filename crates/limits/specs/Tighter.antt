-- Document 01, "The limit table", and document 02, request 6: when the second of two tables is nowhere tighter than the first.
-- Assumes nothing.
use Rattle.std.specs.Prelude.{◌≤◌}
use Rattle.checks.specs.Ranges.{From}
use Rattle.limits.specs.declared.Table.{Table}
use Rattle.limits.specs.Limits.{entry}

-- entries 0 to 10 and 13 to 16 are no smaller, and entries 11, 12 and 18 to 21, which are waiting times, no larger; ChangeDL, entry 17,
-- is free
pub record NowhereTighter (t u : Table) : Type 0 where
  pub limits : From (λ i. entry t i ≤ entry u i) 0 11
  pub delays : From (λ i. entry u i ≤ entry t i) 11 2
  pub phases : From (λ i. entry t i ≤ entry u i) 13 4
  pub clutches : From (λ i. entry u i ≤ entry t i) 18 4
