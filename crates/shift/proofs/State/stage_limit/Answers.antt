-- `State::stage_limit` meets its contract: in the stage working the device's limit.
-- Assumes nothing.
use Rattle.shift.proofs.State.stage_limit.Goals as goal

pub returns-in-2 : goal.returns-in-2
returns-in-2 c = rw (c.in-2.is, c.device_limit.ensures, c.order_of.ensures)
