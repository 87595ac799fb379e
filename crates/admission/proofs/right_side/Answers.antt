-- `right_side` meets its contract: the entry of the rule's number.
-- Assumes nothing.
use mathlib.Core.Path.{ap, ◌∙◌}
use lib.ListN.{get_or}
use Rattle.limits.specs.Limits.{entry, table_of}
use Rattle.admission.specs.Broken.{right_entries}
use Rattle.admission.proofs.right_side.Goals as goal

pub returns : goal.returns
returns c =
    let entries = c.entries in
    let rule = c.args.rule in
    c.from.ensures
    ∙ c.entry_at.ensures
    ∙ ap (entry (table_of entries.result)) c.right_entry.ensures
    ∙ ap (λ es. entry (table_of es) (get_or right_entries rule 22)) entries.ensures
