-- `name` meets its contract: the name that stands at that place, and past the last one there is none.
-- Assumes nothing.
use mathlib.Core.Path.{ap, ◌∙◌}
use mathlib.Core.List.{[]}
use lib.ListN.{get_or}
use Rattle.tablewords.proofs.NameLaws.{content_read}
use Rattle.tablewords.proofs.names.name.Goals as goal

pub returns : goal.returns
returns c =
    let g = c.get in
    rw (c.unwrap_or.ensures, c.copied.ensures)
    (content_read c.names.result.now c.args.entry g.result _ g.ensures.lookup ∙ ap (λ l. get_or l c.args.entry []) c.names.ensures)
