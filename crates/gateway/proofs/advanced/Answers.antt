-- `advanced` meets its contract: the table's broken rule first, then a block of one record.
-- Assumes nothing.
use mathlib.Core.Path.{sym, ap, ◌∙◌}
use mathlib.Core.List.{[], ◌∷◌}
use Rattle.limits.proofs.NumberLaws.{some_number}
use Rattle.shift.specs.Answers.{judged}
use Rattle.shift.proofs.AnswerLaws.{breaks}
use Rattle.stepfile.specs.Records.{record_of}
use Rattle.verdict.specs.declared.Verdict.{Verdict}
use Rattle.gateway.specs.Advancing.{advanced_on}
use Rattle.gateway.proofs.Blocks.{admitted, a_block_of_one_record}
use Rattle.gateway.proofs.advanced.Goals as goal

pub returns-in-Err : goal.returns-in-Err
unfolding advanced_on
returns-in-Err c =
    let a = c.args in
    let rule = c.number in
    let broken = rule.ensures ∙ c.in-Err.ensures in
    rw (← broken)
    (breaks rule.result (judged a.table a.state (record_of a.code a.middle a.low a.high)) a.state (λ z. some_number c.in-Err.broken (sym rule.ensures ∙ z)))

pub returns : goal.returns
returns c =
    let a = c.args in
    let record_bytes_lem = a.code ∷ a.middle ∷ a.low ∷ a.high ∷ [] in
    let block = c.judge_records-verdict.ensures ∙ admitted a.table a.state record_bytes_lem (sym c.in_default.ensures) in
    ap (λ (v : Verdict). record { number = v.number; rule = v.rule; excess = v.excess; state = v.state }) block
    ∙ a_block_of_one_record a.table a.state a.code a.middle a.low a.high
