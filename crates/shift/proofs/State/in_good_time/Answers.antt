-- `State::in_good_time` meets its contract: after the checks of `shifts_in` the plain delay.
-- Assumes nothing.
use mathlib.Core.Path.{ap}
use Rattle.checks.proofs.Checks.{found_right}
use Rattle.phases.specs.Phases.{order_of, plain_delay}
use Rattle.shift.specs.States.{working}
use Rattle.shift.specs.Steps.{shifts_in, good_bound, in_report_time}
use Rattle.shift.specs.Numbers.{number_in}
use Rattle.shift.proofs.State.in_good_time.Goals as goal

pub returns : goal.returns
returns c =
    let a = c.args in
    let own = c.in_report_time.ensures (plain_delay a.table (order_of a.self.phase)) (λ e. ap (plain_delay a.table) e) (λ e. ap (plain_delay a.table) e) in
    found_right (shifts_in a.self working) (in_report_time a.self (good_bound a.table a.self)) tt c.shifts_in.ensures (ap number_in c.in_ok-shifts_in.was) own
