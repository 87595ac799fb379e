-- `wanted` meets its contract: the last four are looked at.
-- Assumes nothing.
use Rattle.std.proofs.Common.{rules, tests}
use native.Mathlib.Omega.{arith}
use mathlib.Core.Path.{sym, ◌∙◌}
use lib.ListN.{take, drop}
use Rattle.std.proofs.lemmas.Iterator.{YieldsList-from_slice}
use Rattle.std.proofs.lemmas.Iterator.Search.{all_from_yields_List}
use Rattle.std.specs.Option.{is_none}
use Rattle.tabletext.proofs.GivenLaws.{undelayed_is}
use Rattle.tabletext.proofs.Entries.wanted.Goals as goal

pub returns-then-all : goal.returns-then-all
returns-then-all c =
    let g = c.args.self.now.given in
    let all = all_from_yields_List is_none _ _ c.all.result c.all.ensures.ran
    (YieldsList-from_slice (take 4 (drop 18 g)) c.iter.ensures.rest) (λ x b q k. search (rules, tests)) in
    rw (sym (undelayed_is g (omega arith) (search rules)) ∙ sym all ∙ c.if-all.true)

pub returns-else-all : goal.returns-else-all
returns-else-all c =
    let g = c.args.self.now.given in
    let all = all_from_yields_List is_none _ _ c.all.result c.all.ensures.ran
    (YieldsList-from_slice (take 4 (drop 18 g)) c.iter.ensures.rest) (λ x b q k. search (rules, tests)) in
    rw (sym (undelayed_is g (omega arith) (search rules)) ∙ sym all ∙ c.if-all.false)
