-- `first_of` meets its contract: the events are asked from the first on.
-- Assumes nothing.
use mathlib.Core.Path.{◌≡◌, ◌∙◌}
use Rattle.std.proofs.Common.{arith, fold}
use Rattle.std.proofs.lemmas.Grind.{common_steps}
use Rattle.manual.specs.Events.{or_else}
use Rattle.manual.proofs.EventLaws.{is_folded}
use Rattle.manual.proofs.first_of.Goals as goal

pub returns : goal.returns
returns c =
    let folded : c.fold.result ≡ fold or_else c.args.first c.args.others.now = grind (arith, common_steps) in
    folded ∙ is_folded c.args.first c.args.others.now
