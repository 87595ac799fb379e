-- `Guard::past` meets its contract: a return where its flags stand so, and one where they do not.
-- Assumes nothing.
use Rattle.std.proofs.Common.{rules}
use Rattle.manual.specs.Ticks.{past}
use Rattle.manual.proofs.Guard.past.Goals as goal

pub returns-then-self : goal.returns-then-self
unfolding past
returns-then-self c = search rules

pub returns-else-self : goal.returns-else-self
unfolding past
returns-else-self c = search rules
