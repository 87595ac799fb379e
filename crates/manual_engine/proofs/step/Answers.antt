-- `step` meets its contract: the table's broken rule first, then what is no step by its own number, then the step.
-- Assumes nothing.
use mathlib.Core.Path.{sym, ap, ◌∙◌}
use Rattle.limits.proofs.NumberLaws.{some_number}
use Rattle.shift.specs.Answers.{reading}
use Rattle.manual.specs.Answers.{refused, moved}
use Rattle.manual_engine.proofs.AnswerLaws.{breaks, no_step}
use Rattle.manual_engine.proofs.step.Goals as goal

pub returns-in-Err : goal.returns-in-Err
returns-in-Err c =
    let a = c.args in
    let rule = c.number in
    let broken = rule.ensures ∙ c.in-Err.ensures in
    rw (← broken)
    (breaks rule.result (moved a.table a.v (reading a.code a.middle a.amount)) a.v (λ z. some_number c.in-Err.rule (sym rule.ensures ∙ z)))

pub returns-in_default-reading : goal.returns-in_default-reading
returns-in_default-reading c =
    let a = c.args in
    rw (← c.in_default.ensures, ← c.of-reading.ensures, c.in_default-reading.is)
    (c.refused.ensures ∙ ap (λ k. refused k 0 a.v) c.refusal.ensures
    ∙ rw c.in_default-reading.is (no_step a.table a.v c.in_default-reading.field-0))

pub returns : goal.returns
returns c =
    rw (
      ← c.in_default.ensures,
      ← c.of-reading.ensures,
      c.in-Ok.is,
    )
    c.moved.ensures
