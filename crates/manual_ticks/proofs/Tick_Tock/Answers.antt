-- `Tick_Tock` meets its contract: a return for each number, and one for none.
-- Assumes nothing.
use mathlib.Core.Path.{◌∙◌}
use Rattle.manual_ticks.proofs.TickLaws.{clock_passed, stage_passed, phase_passed, none_passed}
use Rattle.manual_ticks.proofs.Tick_Tock.Goals as goal

pub returns-in_default : goal.returns-in_default
returns-in_default c =
    let a = c.args in
    c.refused.ensures ∙ clock_passed a.table a.v a.tick c.beyond.ensures c.in_default.ensures

pub returns-in-Some-stage_limits : goal.returns-in-Some-stage_limits
returns-in-Some-stage_limits c =
    let a = c.args in
    let time = c.in-Some.ensures in
    c.refused-in-Some-stage_limits.ensures
    ∙ stage_passed a.table a.v a.tick time.0 c.stage_limits.ensures c.in-Some-stage_limits.is

pub returns-in-Some-phase_limits : goal.returns-in-Some-phase_limits
returns-in-Some-phase_limits c =
    let a = c.args in
    let time = c.in-Some.ensures in
    c.refused-in-Some-phase_limits.ensures
    ∙ phase_passed a.table a.v a.tick time.0 c.stage_limits.ensures c.in_default-stage_limits.is c.phase_limits.ensures c.in-Some-phase_limits.is

pub returns : goal.returns
returns c =
    let a = c.args in
    let time = c.in-Some.ensures in
    c.accepted.ensures
    ∙ none_passed a.table a.v a.tick time.0 c.stage_limits.ensures c.in_default-stage_limits.is c.phase_limits.ensures c.in_default-phase_limits.is time.1
