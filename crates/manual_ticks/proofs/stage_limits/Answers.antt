-- `stage_limits` meets its contract: what is found of its guards is the first that is passed.
-- Assumes nothing.
use mathlib.Core.Path.{◌∙◌}
use Rattle.manual.specs.Ticks.{stage_limits}
use Rattle.manual.proofs.GuardLaws.{is_found}
use Rattle.manual_ticks.proofs.stage_limits.Goals as goal

pub returns : goal.returns
returns c = c.first_past.ensures ∙ is_found (stage_limits c.args.table c.args.v c.args.now)
