-- `State::judged_listed` meets its contract: a step is as it is judged. What is no step is found alone.
-- Assumes nothing.
use mathlib.Core.Path.{sym, ap, ◌∙◌}
use Rattle.checks.specs.Checks.{first}
use Rattle.shift.specs.Readings.{Reading}
use Rattle.shift.specs.Steps.{allowed}
use Rattle.shift.specs.Answers.{checks_of, answer_to}
use Rattle.shift.proofs.State.judged_listed.Goals as goal

pub returns : goal.returns
returns c =
    let a = c.args in
    c.judged_step.ensures
    ∙ sym (ap (λ (r : Reading). answer_to a.table a.self r (first (checks_of (allowed a.table a.self) r))) c.in-Ok.is)
