-- `reading` meets its contract: by what its calls ensure.
-- Assumes nothing.
use Rattle.manual_reading.specs.Reading.{reading}
use Rattle.manual_reading.proofs.reading.Goals as goal

pub returns : goal.returns
unfolding reading
returns c = rw (c.box_of.ensures, c.stage_of-s.ensures, c.order_of.ensures, c.phase_of-p.ensures)
