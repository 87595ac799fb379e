-- `table` meets its contract: the twenty-two or eighteen entries that stand there, else the old default.
-- Assumes nothing.
use Rattle.stepfile.specs.Files.{table_in}
use Rattle.stepfile.proofs.table.Goals as goal

pub returns-then-entries-len : goal.returns-then-entries-len
unfolding table_in
returns-then-entries-len c =
    rw (
      ← c.u16_at-entries.ensures,
      c.if-entries-len.true,
      c.of.ensures,
      c.entries_at.ensures,
    )

pub returns-then-entries-len-2 : goal.returns-then-entries-len-2
unfolding table_in
returns-then-entries-len-2 c =
    rw (
      ← c.u16_at-entries.ensures,
      c.if-entries-len.false,
      c.if-entries-len-2.true,
      c.of-then-entries-len-2.ensures,
      c.entries_at-then-entries-len-2.ensures,
    )

pub returns : goal.returns
unfolding table_in
returns c =
    rw (← c.u16_at-entries.ensures, c.if-entries-len.false, c.if-entries-len-2.false) c.old_default.ensures
