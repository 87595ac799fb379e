-- `refusal_of` meets its contract: every code but a tick's is read alike.
-- Assumes nothing.
use mathlib.Core.Path.{ap, ◌∙◌}
use native.Mathlib.Omega.{arith}
use Rattle.shift.specs.Answers.{refusal}
use Rattle.shift.proofs.ReadingLaws.{alike}
use Rattle.shift.proofs.refusal_of.Goals as goal

pub returns-in_default : goal.returns-in_default
returns-in_default c =
    let a = c.args in
    c.refusal-in_default.ensures ∙ ap refusal c.plain.ensures ∙ alike a.middle a.amount a.code (omega arith) (omega arith) (omega arith)
