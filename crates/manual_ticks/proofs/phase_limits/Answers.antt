-- `phase_limits` meets its contract: what is found of its guards is the first that is passed.
-- Assumes nothing.
use mathlib.Core.Path.{◌∙◌}
use Rattle.manual.specs.Ticks.{phase_limits}
use Rattle.manual.proofs.GuardLaws.{is_found}
use Rattle.manual_ticks.proofs.phase_limits.Goals as goal

pub returns : goal.returns
returns c = c.first_past.ensures ∙ is_found (phase_limits c.args.table c.args.v c.args.now)
