-- What a code, a middle byte and an amount mean: a step, or why they are none.
-- Assumes nothing.
use Rattle.std.specs.Prelude.{Result}
use Rattle.shift.specs.declared.Step.{Step}
use Rattle.shift.specs.declared.Misread.{Misread}

abbrev pub Reading : Type 0
Reading = Result Step Misread
