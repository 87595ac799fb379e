-- `munasirel_advance` meets its contract: a record that is refused leaves the state that was lent.
-- Assumes nothing.
use mathlib.Core.Path.{sym, ap, ◌∙◌}
use Rattle.shift.specs.declared.Answer.{Answer}
use Rattle.gateway.proofs.Answers.{a_record}
use Rattle.munasirel.proofs.munasirel_advance.Goals as goal

pub returns-else-a-eq0 : goal.returns-else-a-eq0
returns-else-a-eq0 c =
    let a = c.args in
    let e = c.advanced-a.ensures in
    let same =
    (a_record a.table a.state.now a.code a.middle a.low a.high).refused
    (λ z. c.if-a-eq0.false (ap (λ (r : Answer). r.number) e ∙ z)) in
    (ap (λ (r : Answer). r.number) e, sym same, ap (λ (r : Answer). r.excess) e)
