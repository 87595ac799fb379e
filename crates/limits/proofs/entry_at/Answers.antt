-- `entry_at` meets its contract: one of the twenty-two, and past them there is none.
-- Assumes nothing.
use mathlib.Core.Path.{◌≡◌, ◌∙◌}
use lib.ListN.{get_or}
use Rattle.std.proofs.Common.{rules}
use Rattle.std.proofs.lemmas.Option.{unwrap_or-slice_get}
use Rattle.limits.proofs.EntryLaws.{at_any_place}
use Rattle.limits.proofs.entry_at.Goals as goal

pub returns : goal.returns
returns c =
    let a = c.args in
    let there : c.unwrap_or.result ≡ get_or a.entries.now a.number 0 = search (rules, unwrap_or-slice_get) in
    there ∙ at_any_place a.entries.now a.number c.told-entries
