-- `or_else` meets its contract: a return for each of the two.
-- Assumes nothing.
use Rattle.manual.specs.Events.{or_else}
use Rattle.manual.proofs.or_else.Goals as goal

pub returns-then-a : goal.returns-then-a
unfolding or_else
returns-then-a c = rw c.if-a.true

pub returns-else-a : goal.returns-else-a
unfolding or_else
returns-else-a c = rw c.if-a.false
