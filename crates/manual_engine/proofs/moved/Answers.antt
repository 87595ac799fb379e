-- `moved` meets its contract: a tick by its own call, any other step by the event that it is.
-- Assumes nothing.
use Rattle.manual_engine.proofs.AnswerLaws.{settles, matched}
use Rattle.manual_engine.proofs.moved.Goals as goal
use Rattle.manual_engine.proofs.moved.Goals.{in-FromNeutral, in-GearToGear, in-ToNeutral, in-Deliver, in-DeviceGood, in-DeviceFailed, in-EngineWaits, in-Take, in-AskClutch, in-RaiseError, in-Finish, in-Reset}

pub returns-in-Tick : goal.returns-in-Tick
returns-in-Tick c = rw c.in-Tick.is c.Tick_Tock.ensures

pub returns : goal.returns
returns c =
    let a = c.args in
    settles a.table a.v a.x c.match-x.e c.settled.ensures
    (elim c.match-x.branch [
      | in-FromNeutral w ↦ matched a.table a.v w.in-FromNeutral.is w.RequestFromNeu-e.ensures w.e-is
      | in-GearToGear w ↦ matched a.table a.v w.in-GearToGear.is w.RequestNoNeu-e.ensures w.e-is
      | in-ToNeutral w ↦ matched a.table a.v w.in-ToNeutral.is w.RequestToNeu-e.ensures w.e-is
      | in-Deliver w ↦ matched a.table a.v w.in-Deliver.is w.deliver-e.ensures w.e-is
      | in-DeviceGood w ↦ matched a.table a.v w.in-DeviceGood.is w.device_good-e.ensures w.e-is
      | in-DeviceFailed w ↦ matched a.table a.v w.in-DeviceFailed.is w.device_failed-e.ensures w.e-is
      | in-EngineWaits w ↦ matched a.table a.v w.in-EngineWaits.is w.engine_waits-e.ensures w.e-is
      | in-Take w ↦ matched a.table a.v w.in-Take.is w.take-e.ensures w.e-is
      | in-AskClutch w ↦ matched a.table a.v w.in-AskClutch.is w.ask_clutch-e.ensures w.e-is
      | in-RaiseError w ↦ matched a.table a.v w.in-RaiseError.is w.raise_error-e.ensures w.e-is
      | in-Finish w ↦ matched a.table a.v w.in-Finish.is w.FINAL-e.ensures w.e-is
      | in-Reset w ↦ matched a.table a.v w.in-Reset.is w.RESET-e.ensures w.e-is
    ])
