-- `munasirel_judge` meets its contract: the number of the verdict.
-- Assumes nothing.
use mathlib.Core.Path.{ap}
use Rattle.verdict.specs.declared.Verdict.{Verdict}
use Rattle.munasirel.proofs.munasirel_judge.Goals as goal

pub returns : goal.returns
returns c = ap (λ (v : Verdict). v.number) c.judge.ensures
