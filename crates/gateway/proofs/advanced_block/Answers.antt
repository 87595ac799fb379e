-- `advanced_block` meets its contract: a table that breaks a rule refuses the first record, if there is one; else the records are judged.
-- Assumes nothing.
use mathlib.Core.Path.{sym, ap, ◌∙◌}
use native.Mathlib.Omega.{arith}
use Rattle.limits.proofs.NumberLaws.{some_number}
use Rattle.gateway.proofs.Blocks.{admitted, no_record, not_admitted}
use Rattle.gateway.proofs.advanced_block.Goals as goal

pub returns-then-records-lt4 : goal.returns-then-records-lt4
returns-then-records-lt4 c =
    let a = c.args in
    no_record a.table a.state a.records.now (omega arith)

pub returns-in-Err : goal.returns-in-Err
returns-in-Err c =
    let a = c.args in
    let broken = c.number.ensures ∙ c.in-Err.ensures in
    ap (λ k. record { number = 4; rule = k; index = 0; excess = 0; state = a.state }) broken
    ∙ not_admitted a.table a.state a.records.now (λ z. some_number c.in-Err.rule (c.in-Err.ensures ∙ z)) (omega arith)

pub returns : goal.returns
returns c =
    let a = c.args in
    c.judge_records.ensures
    ∙ admitted a.table a.state a.records.now (sym c.in_default.ensures)
