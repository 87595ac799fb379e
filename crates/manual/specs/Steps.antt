-- Document 01's twelve steps and document 02's thirteenth on the manual's variables: the events that are a step's, in the manual's order.
-- Assumes nothing.
use Rattle.std.specs.Prelude.{[], ◌∷◌}
use Rattle.limits.specs.declared.Table.{Table}
use Rattle.shift.specs.declared.Step.{Step}
use Rattle.shift.specs.declared.Step.TheVariants.{FromNeutral, GearToGear, ToNeutral, Deliver, DeviceGood, DeviceFailed, EngineWaits, Take, AskClutch, RaiseError, Finish, Tick, Reset}
use Rattle.manual.specs.declared.Variables.{Variables}
use Rattle.manual.specs.declared.Event.{Event}
use Rattle.manual.specs.Events.{first_of}
use Rattle.manual.specs.Requests.{RequestFromNeu, RequestNoNeu, RequestToNeu}
use Rattle.manual.specs.FromNeutral.{FromNeu_SyncSpeed, FromNeu_RequestOpenClutch, FromNeu_OpenClutch, Error_FromNeu_OpenClutch, FromNeu_SetGear_NoClutch, Error_FromNeu_SetGear_NoClutch, FromNeu_SetGear_Clutch, Error_FromNeu_SetGear_Clutch, FromNeu_CloseClutch, Error_FromNeu_CloseClutch}
use Rattle.manual.specs.ToNeutral.{ToNeu_ZeroTorque, ToNeu_RequestOpenClutch, ToNeu_OpenClutch, Error_ToNeu_OpenClutch, ToNeu_Release_NoClutch, Error_ToNeu_Release_NoClutch, ToNeu_Release_Clutch, Error_ToNeu_Release_Clutch, ToNeu_CloseClutch, Error_ToNeu_CloseClutch}
use Rattle.manual.specs.GearToGear.{NoNeu_ZeroTorque, NoNeu_RequestOpenClutch_Releasing, NoNeu_OpenClutch_Releasing, Error_NoNeu_OpenClutch_Releasing, NoNeu_Release_NoClutch, Error_NoNeu_Release_NoClutch, NoNeu_Release_Clutch, Error_NoNeu_Release_Clutch, NoNeu_SyncSpeed, NoNeu_RequestOpenClutch_Setting, NoNeu_OpenClutch_Setting, Error_NoNeu_OpenClutch_Setting, NoNeu_SetGear_NoClutch, Error_NoNeu_SetGear_NoClutch, NoNeu_SetGear_ReleasingClutch, Error_NoNeu_SetGear_ReleasingClutch, NoNeu_SetGear_SettingClutch, Error_NoNeu_SetGear_SettingClutch, NoNeu_CloseClutch_Setting, Error_NoNeu_CloseClutch_Setting, NoNeu_CloseClutch_Releasing, Error_NoNeu_CloseClutch_Releasing}
use Rattle.manual.specs.Devices.{Engine_Request_SyncSpeed, Engine_SyncSpeed, Engine_WaitForSyncClutch, Engine_Request_ZeroTorque, Engine_ZeroTorque, Engine_WaitForZeroClutch, Clutch_Request_Open, Clutch_Open, Error_Clutch_Open, Clutch_Request_Close, Clutch_Close, Error_Clutch_Close, Gear_Request_Release, Gear_Release, Error_Gear_Release, Gear_Request_Set, Gear_Set, Error_Gear_Set}
use Rattle.manual.specs.Final.{FINAL}
use Rattle.manual.specs.Reset.{RESET}
use Rattle.manual.specs.Ticks.{Tick_Tock}

abbrev pub deliver : Variables → Event
deliver v =
    first_of
    (Engine_Request_SyncSpeed v)
    (Engine_Request_ZeroTorque v
    ∷ Clutch_Request_Open v
    ∷ Clutch_Request_Close v
    ∷ Gear_Request_Release v
    ∷ Gear_Request_Set v
    ∷ [])

abbrev pub device_good : Table → Variables → Event
device_good t v =
    first_of
    (Engine_SyncSpeed v)
    (Engine_ZeroTorque v
    ∷ Clutch_Open t v
    ∷ Clutch_Close t v
    ∷ Gear_Release v
    ∷ Gear_Set v
    ∷ [])

abbrev pub device_failed : Table → Variables → Event
device_failed t v =
    first_of
    (Error_Clutch_Open t v)
    (Error_Clutch_Close t v
    ∷ Error_Gear_Release v
    ∷ Error_Gear_Set v
    ∷ [])

abbrev pub engine_waits : Variables → Event
engine_waits v =
    first_of
    (Engine_WaitForSyncClutch v)
    (Engine_WaitForZeroClutch v
    ∷ [])

abbrev pub take_from_neutral : Table → Variables → Event
take_from_neutral t v =
    first_of
    (FromNeu_SyncSpeed t v)
    (FromNeu_OpenClutch v
    ∷ FromNeu_SetGear_NoClutch v
    ∷ FromNeu_SetGear_Clutch v
    ∷ FromNeu_CloseClutch v
    ∷ [])

abbrev pub take_to_neutral : Table → Variables → Event
take_to_neutral t v =
    first_of
    (ToNeu_ZeroTorque t v)
    (ToNeu_OpenClutch v
    ∷ ToNeu_Release_NoClutch v
    ∷ ToNeu_Release_Clutch v
    ∷ ToNeu_CloseClutch v
    ∷ [])

abbrev pub take_gear_to_gear : Table → Variables → Event
take_gear_to_gear t v =
    first_of
    (NoNeu_ZeroTorque t v)
    (NoNeu_OpenClutch_Releasing v
    ∷ NoNeu_Release_NoClutch v
    ∷ NoNeu_Release_Clutch v
    ∷ NoNeu_SyncSpeed t v
    ∷ NoNeu_OpenClutch_Setting v
    ∷ NoNeu_SetGear_NoClutch v
    ∷ NoNeu_SetGear_ReleasingClutch v
    ∷ NoNeu_SetGear_SettingClutch v
    ∷ NoNeu_CloseClutch_Setting v
    ∷ NoNeu_CloseClutch_Releasing v
    ∷ [])

abbrev pub ask_clutch : Table → Variables → Event
ask_clutch t v =
    first_of
    (FromNeu_RequestOpenClutch t v)
    (ToNeu_RequestOpenClutch t v
    ∷ NoNeu_RequestOpenClutch_Releasing t v
    ∷ NoNeu_RequestOpenClutch_Setting t v
    ∷ [])

abbrev pub error_from_neutral : Variables → Event
error_from_neutral v =
    first_of
    (Error_FromNeu_OpenClutch v)
    (Error_FromNeu_SetGear_NoClutch v
    ∷ Error_FromNeu_SetGear_Clutch v
    ∷ Error_FromNeu_CloseClutch v
    ∷ [])

abbrev pub error_to_neutral : Variables → Event
error_to_neutral v =
    first_of
    (Error_ToNeu_OpenClutch v)
    (Error_ToNeu_Release_NoClutch v
    ∷ Error_ToNeu_Release_Clutch v
    ∷ Error_ToNeu_CloseClutch v
    ∷ [])

abbrev pub error_gear_to_gear : Variables → Event
error_gear_to_gear v =
    first_of
    (Error_NoNeu_OpenClutch_Releasing v)
    (Error_NoNeu_Release_NoClutch v
    ∷ Error_NoNeu_Release_Clutch v
    ∷ Error_NoNeu_OpenClutch_Setting v
    ∷ Error_NoNeu_SetGear_NoClutch v
    ∷ Error_NoNeu_SetGear_ReleasingClutch v
    ∷ Error_NoNeu_SetGear_SettingClutch v
    ∷ Error_NoNeu_CloseClutch_Setting v
    ∷ Error_NoNeu_CloseClutch_Releasing v
    ∷ [])

abbrev pub take : Table → Variables → Event
take t v = first_of (take_from_neutral t v) (take_to_neutral t v ∷ take_gear_to_gear t v ∷ [])

abbrev pub raise_error : Variables → Event
raise_error v = first_of (error_from_neutral v) (error_to_neutral v ∷ error_gear_to_gear v ∷ [])

-- the event that a step is: of several the first that is enabled
abbrev pub stepped : Table → Variables → Step → Event
stepped t v FromNeutral = RequestFromNeu v
stepped t v GearToGear = RequestNoNeu v
stepped t v ToNeutral = RequestToNeu v
stepped t v Deliver = deliver v
stepped t v DeviceGood = device_good t v
stepped t v DeviceFailed = device_failed t v
stepped t v EngineWaits = engine_waits v
stepped t v Take = take t v
stepped t v AskClutch = ask_clutch t v
stepped t v RaiseError = raise_error v
stepped t v Finish = FINAL v
stepped t v (Tick n) = Tick_Tock t v n
stepped t v Reset = RESET v
