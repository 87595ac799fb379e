-- `table` meets its contract, entry by entry.
-- Assumes nothing.
use Rattle.std.proofs.Common.{rules, tests}
use mathlib.Core.Path.{ap, ◌∙◌}
use Rattle.std.specs.Prelude.{None}
use Rattle.limits.specs.Limits.{table_of}
use Rattle.tabletext.proofs.GivenLaws.{table_entries}
use Rattle.tabletext.proofs.Entries.table.Goals as goal

pub returns : goal.returns
returns c =
    let items = c.map.ensures.items in
    let is = table_entries c.args.self.now.given c.map.result (search rules) (search rules)
    (λ i k. let a = items.at i None 0 (search rules) in let b = a.1 in let d = a.2 in search (rules, tests)) in
    c.of.ensures ∙ ap table_of is
