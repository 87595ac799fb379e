-- `stage_of` meets its contract: by the device of each order, and none where there is no order.
-- Assumes nothing.
use mathlib.Core.Path.{◌≡◌, sym, ◌∙◌}
use native.Mathlib.Decide.{dec_lt}
use native.Mathlib.Omega.{arith}
use lib.ListN.{get_or-eq_default}
use Rattle.manual_reading.specs.Reading.{stage, stages, stage_of}
use Rattle.manual_reading.proofs.stage_of.Goals as goal
use Rattle.manual_reading.proofs.stage_of.Goals.{in-1, in-2, in-3, in-4, in-5, in-6}

pub returns-in_default : goal.returns-in_default
unfolding stage_of
returns-in_default c =
    let a = c.args in
    elim (dec_lt a.order 7) [
      | yes h ↦ let none : a.order ≡ 0 = omega arith in rw none
      | no h ↦ sym (get_or-eq_default (stages a.v a.start) (stage 0 0) {n = a.order} (omega arith))
    ]

pub returns : goal.returns
unfolding stage_of
returns c =
    c.stage.ensures
    ∙ elim c.match-order.branch [
      | in-1 w ↦ rw (w.device-is, w.in-1.is)
      | in-2 w ↦ rw (w.device-is, w.in-2.is)
      | in-3 w ↦ rw (w.device-is, w.in-3.is)
      | in-4 w ↦ rw (w.device-is, w.in-4.is)
      | in-5 w ↦ rw (w.device-is, w.in-5.is)
      | in-6 w ↦ rw (w.device-is, w.in-6.is)
    ]
