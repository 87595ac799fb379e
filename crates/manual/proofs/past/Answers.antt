-- `past` meets its contract: what was found before stands, else the guard is asked.
-- Assumes nothing.
use Rattle.manual.specs.Ticks.{past, past_else}
use Rattle.manual.proofs.GuardLaws.{before}
use Rattle.manual.proofs.past.Goals as goal

pub returns-then-before-ne0 : goal.returns-then-before-ne0
returns-then-before-ne0 c =
    let a = c.args in
    before a.before (past a.flags a.now a.since a.limit) c.if-before-ne0.true

pub returns : goal.returns
unfolding past_else
returns c = rw c.if-before-ne0.false c.past.ensures
