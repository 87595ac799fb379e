-- `Device::stage` meets its contract: a return for each stage.
-- Assumes nothing.
use Rattle.std.proofs.Common.{rules}
use Rattle.manual_reading.specs.Reading.{stage_by}
use Rattle.manual_reading.proofs.Device.stage.Goals as goal

pub returns-then-self : goal.returns-then-self
unfolding stage_by
returns-then-self c = search rules

pub returns-then-self-2 : goal.returns-then-self-2
unfolding stage_by
returns-then-self-2 c = search rules

pub returns-then-self-3 : goal.returns-then-self-3
unfolding stage_by
returns-then-self-3 c = search rules

pub returns-else-self-3 : goal.returns-else-self-3
unfolding stage_by
returns-else-self-3 c = search rules
