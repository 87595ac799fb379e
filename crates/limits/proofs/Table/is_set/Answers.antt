-- `Table::is_set` meets its contract: entry after entry.
-- Assumes nothing.
use Rattle.limits.proofs.Table.is_set.Goals as goal

pub returns : goal.returns
returns c = rw (c.are_set.ensures, c.entries.ensures)
