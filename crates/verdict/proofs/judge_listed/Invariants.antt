-- `judge_listed` meets its contract: before every record the loop stands where those accepted so far lead, and keeps its state's deadline.
-- Assumes nothing.
use mathlib.Core.Path.{◌≡◌}
use Rattle.limits.specs.Limits.{entries}
use Rattle.verdict.proofs.Standing.{Stands, Kept}
use Rattle.verdict.proofs.judge_listed.Given as goal

abbrev pub invariant-loop-index : goal.invariant-loop-index
invariant-loop-index l =
    Stands l.table l.records l.initial.state l.count l.state l.index
    × Kept l.table l.state l.phase_end l.device l.deadline
    × (l.limits ≡ entries l.table)
