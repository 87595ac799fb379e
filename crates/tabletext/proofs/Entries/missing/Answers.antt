-- `missing` meets its contract: the first of those that are wanted.
-- Assumes nothing.
use Rattle.std.proofs.Common.{rules, tests}
use mathlib.Core.Path.{◌∙◌}
use native.Mathlib.Omega.{arith}
use lib.ListN.{take}
use Rattle.std.proofs.lemmas.Iterator.{YieldsList-from_slice}
use Rattle.std.proofs.lemmas.Iterator.Search.{position_from_yields_List}
use Rattle.std.specs.Option.{is_none}
use Rattle.tabletext.specs.Answers.{values_in}
use Rattle.tabletext.proofs.GivenInWords.{wanted_fits}
use Rattle.tabletext.proofs.GivenLaws.{missing_is}
use Rattle.tabletext.proofs.Entries.missing.Goals as goal

pub returns : goal.returns
returns c =
    let g = c.args.self.now.given in
    let w = c.wanted-wanted in
    position_from_yields_List is_none _ _ c.position.result c.position.ensures.ran
    (YieldsList-from_slice (take w.result g) c.iter.ensures.rest) (λ x b q k. search (rules, tests))
    ∙ missing_is g w.result (omega arith) (search rules) (omega (arith, w.ensures, wanted_fits (values_in g))) w.ensures
