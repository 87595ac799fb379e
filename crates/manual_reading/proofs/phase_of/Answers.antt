-- `phase_of` meets its contract: what is found of the phases is the one that they make one after the other.
-- Assumes nothing.
use mathlib.Core.Path.{refl, ap, sym, ◌∙◌}
use Rattle.manual_reading.specs.Reading.{or_phase, outside, from_neutral, gear_to_gear, to_neutral}
use Rattle.manual_reading.proofs.PhaseLaws.{found, by_fold}
use Rattle.manual_reading.proofs.phase_of.Goals as goal

pub returns-in-Some : goal.returns-in-Some
unfolding or_phase outside from_neutral gear_to_gear to_neutral
returns-in-Some c = ap found (sym c.in-Some.is) ∙ by_fold _ refl c.first_entered.ensures ∙ rw c.erred.ensures

pub returns-in-None : goal.returns-in-None
unfolding or_phase outside from_neutral gear_to_gear to_neutral
returns-in-None c = ap found (sym c.in-None.is) ∙ by_fold _ refl c.first_entered.ensures ∙ rw c.erred.ensures
