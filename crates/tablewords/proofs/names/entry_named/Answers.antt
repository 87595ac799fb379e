-- `entry_named` meets its contract: the place of the first name that is the word.
-- Assumes nothing.
use Rattle.std.proofs.Common.{rules, tests}
use mathlib.Core.Path.{◌∙◌}
use lib.Dec.{eqb}
use Rattle.std.specs.Cmp.Lexicographic.{pointwise}
use Rattle.std.proofs.lemmas.Iterator.{YieldsList-from_slice}
use Rattle.std.proofs.lemmas.Iterator.Search.{position_from_yields_List}
use Rattle.tablewords.proofs.NameLaws.{answered}
use Rattle.tablewords.proofs.names.entry_named.Goals as goal

pub returns : goal.returns
returns c =
    let w = c.args.word.now in
    let ns = c.names.result.now in
    position_from_yields_List (λ n. pointwise eqb w n.now) _ _ c.position.result c.position.ensures.ran
    (YieldsList-from_slice ns c.iter.ensures.rest) (λ x b q k. search (rules, tests))
    ∙ answered w ns c.names.ensures
