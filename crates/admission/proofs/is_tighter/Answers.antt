-- `is_tighter` meets its contract: both entries by their number, and their comparison by its kind.
-- Assumes nothing.
use mathlib.Core.Path.{ap, ◌∙◌}
use Rattle.limits.specs.Limits.{entry, table_of}
use Rattle.admission.proofs.is_tighter.Goals as goal

pub returns : goal.returns
returns c =
    let i = c.args.entry in
    rw (
      c.is_wait.ensures,
      c.is_limit.ensures,
      c.entry_at-after.ensures ∙ ap (λ es. entry (table_of es) i) c.entries-2.ensures,
      c.entry_at-before.ensures ∙ ap (λ es. entry (table_of es) i) c.entries.ensures,
    )
