-- `table_at` meets its contract: the table of the entries that stand there.
-- Assumes nothing.
use mathlib.Core.Path.{ap, ◌∙◌}
use Rattle.limits.specs.Limits.{table_of}
use Rattle.vectors.proofs.fields.table_at.Goals as goal

pub returns : goal.returns
returns c = c.of.ensures ∙ ap table_of c.entries_at.ensures
