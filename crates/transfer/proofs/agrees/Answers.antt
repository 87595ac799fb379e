-- `agrees` meets its contract: the beginnings that it compares are as long as both reach.
-- Assumes nothing.
use Rattle.transfer.proofs.JoinLaws.{agree_beginnings}
use Rattle.transfer.proofs.agrees.Goals as goal

pub returns : goal.returns
returns c = rw (c.eq.ensures, c.min-both.ensures) (agree_beginnings c.args.held.now c.args.part.now)
