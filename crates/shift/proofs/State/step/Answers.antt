-- `State::step` meets its contract: under an admitted table, the answer to what the code and the amount mean; else 4 with the rule.
-- Assumes nothing.
use mathlib.Core.Path.{sym, ap, ◌∙◌}
use Rattle.limits.proofs.NumberLaws.{some_number}
use Rattle.shift.specs.Answers.{judged, reading, admitting}
use Rattle.shift.proofs.AnswerLaws.{breaks}
use Rattle.shift.proofs.State.step.Goals as goal

pub returns-in-Err : goal.returns-in-Err
returns-in-Err c =
    let a = c.args in
    let rule = c.number in
    let broken = rule.ensures ∙ c.in-Err.ensures in
    rw (← broken)
    (breaks rule.result (judged a.table a.self (reading a.code 0 a.amount)) a.self (λ z. some_number c.in-Err.rule (sym rule.ensures ∙ z)))

pub returns : goal.returns
returns c =
    let a = c.args in
    let admitted = sym c.in_default.ensures in
    c.judged.ensures
    ∙ ap (judged a.table a.self) c.of.ensures
    ∙ sym (ap (λ k. admitting k (judged a.table a.self (reading a.code 0 a.amount)) a.self) admitted)
