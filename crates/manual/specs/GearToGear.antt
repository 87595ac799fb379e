-- Machine m9: scenario 2, gear to gear, in the manual's order and under its labels. What documents 01 and 02
-- settle is marked on its line.
-- Assumes nothing.
use Rattle.std.specs.Prelude.{true, false, not, [], ◌∷◌, ◌+◌, ◌-◌, leb}
use Rattle.checks.specs.Checks.{◌!◌}
use Rattle.limits.specs.declared.Table.{Table}
use Rattle.manual.specs.declared.Variables.{Variables}
use Rattle.manual.specs.declared.Event.{Event}
use Rattle.manual.specs.Names.{Flag, Time}
use Rattle.manual.specs.Variables.{raise, stamp, set_neu}
use Rattle.manual.specs.Events.{timed, event}

abbrev pub NoNeu_ZeroTorque : Table → Variables → Event
NoNeu_ZeroTorque t v =
    timed
    (v.time - (v.RequestNoNeuT + t.zero_ex))  -- past grd4
    ((v.RequestNoNeu ! 7)  -- grd1
    ∷ (not v.NoNeu_ZeroTorque ! 7)  -- grd2
    ∷ (not v.NoNeu_RequestOpenClutch_Releasing ! 7)  -- grd3
    ∷ (leb v.time (v.RequestNoNeuT + t.zero_ex) ! 10)  -- grd4
    ∷ (v.Engine_ZeroTorque ! 7)  -- grd5
    ∷ [])
    (raise Flag.NoNeu_ZeroTorque  -- act1
    ∷ stamp Time.NoNeu_ZeroTorqueT  -- act2
    ∷ [])
    v

abbrev pub NoNeu_RequestOpenClutch_Releasing : Table → Variables → Event
NoNeu_RequestOpenClutch_Releasing t v =
    timed
    ((v.RequestNoNeuT + t.zero_de) - v.time)  -- before grd4
    ((v.RequestNoNeu ! 7)  -- grd1
    ∷ (not v.NoNeu_ZeroTorque ! 7)  -- grd2
    ∷ (not v.NoNeu_RequestOpenClutch_Releasing ! 7)  -- grd3
    ∷ (leb (v.RequestNoNeuT + t.zero_de) v.time ! 9)  -- grd4
    ∷ (v.Engine_WaitForZeroClutch ! 7)  -- 01: the engine waits; not printed
    ∷ [])
    (raise Flag.NoNeu_RequestOpenClutch_Releasing  -- act1
    ∷ stamp Time.NoNeu_RequestOpenClutch_ReleasingT  -- act2
    ∷ [])
    v

abbrev pub NoNeu_OpenClutch_Releasing : Variables → Event
NoNeu_OpenClutch_Releasing v =
    event
    ((v.NoNeu_RequestOpenClutch_Releasing ! 7)  -- grd1; 01: phase 7 is entered by the ask; printed NoNeu_OpenClutch_Releasing
    ∷ (not v.NoNeu_OpenClutch_Releasing ! 7)  -- grd2
    ∷ (not v.Error_NoNeu_OpenClutch_Releasing ! 7)  -- grd3
    ∷ (v.Clutch_Open ! 7)  -- grd4
    ∷ [])
    (raise Flag.NoNeu_OpenClutch_Releasing  -- act1
    ∷ stamp Time.NoNeu_OpenClutch_ReleasingT  -- act2
    ∷ [])
    v

abbrev pub Error_NoNeu_OpenClutch_Releasing : Variables → Event
Error_NoNeu_OpenClutch_Releasing v =
    event
    ((v.NoNeu_RequestOpenClutch_Releasing ! 7)  -- grd1
    ∷ (not v.NoNeu_OpenClutch_Releasing ! 7)  -- grd2
    ∷ (not v.Error_NoNeu_OpenClutch_Releasing ! 7)  -- grd3
    ∷ (v.Error_Clutch_Open ! 7)  -- 01: the device has failed; not printed
    ∷ [])
    (raise Flag.Error_NoNeu_OpenClutch_Releasing  -- act1
    ∷ [])
    v

abbrev pub NoNeu_Release_NoClutch : Variables → Event
NoNeu_Release_NoClutch v =
    event
    ((v.NoNeu_ZeroTorque ! 7)  -- grd1
    ∷ (not v.NoNeu_Release_NoClutch ! 7)  -- grd2
    ∷ (not v.Error_NoNeu_Release_NoClutch ! 7)  -- grd3
    ∷ (v.Gear_Release ! 7)  -- grd4
    ∷ [])
    (raise Flag.NoNeu_Release_NoClutch  -- act1
    ∷ stamp Time.NoNeu_Release_NoClutchT  -- act2
    ∷ set_neu true  -- 02: taking a release order makes the box neutral; not printed
    ∷ [])
    v

abbrev pub Error_NoNeu_Release_NoClutch : Variables → Event
Error_NoNeu_Release_NoClutch v =
    event
    ((v.NoNeu_ZeroTorque ! 7)  -- grd1
    ∷ (not v.NoNeu_Release_NoClutch ! 7)  -- grd2
    ∷ (not v.Error_NoNeu_Release_NoClutch ! 7)  -- grd3
    ∷ (v.Error_Gear_Release ! 7)  -- 01: the device has failed; not printed
    ∷ [])
    (raise Flag.Error_NoNeu_Release_NoClutch  -- act1
    ∷ [])
    v

abbrev pub NoNeu_Release_Clutch : Variables → Event
NoNeu_Release_Clutch v =
    event
    ((v.NoNeu_OpenClutch_Releasing ! 7)  -- grd1
    ∷ (not v.NoNeu_Release_Clutch ! 7)  -- grd2
    ∷ (not v.Error_NoNeu_Release_Clutch ! 7)  -- grd3
    ∷ (v.Gear_Release ! 7)  -- grd4
    ∷ [])
    (raise Flag.NoNeu_Release_Clutch  -- act1
    ∷ stamp Time.NoNeu_Release_ClutchT  -- act2
    ∷ set_neu true  -- 02: taking a release order makes the box neutral; not printed
    ∷ [])
    v

abbrev pub Error_NoNeu_Release_Clutch : Variables → Event
Error_NoNeu_Release_Clutch v =
    event
    ((v.NoNeu_OpenClutch_Releasing ! 7)  -- grd1
    ∷ (not v.NoNeu_Release_Clutch ! 7)  -- grd2
    ∷ (not v.Error_NoNeu_Release_Clutch ! 7)  -- grd3
    ∷ (v.Error_Gear_Release ! 7)  -- 01: the device has failed; not printed
    ∷ [])
    (raise Flag.Error_NoNeu_Release_Clutch  -- act1
    ∷ [])
    v

abbrev pub NoNeu_SyncSpeed : Table → Variables → Event
NoNeu_SyncSpeed t v =
    timed
    (v.time - (v.NoNeu_Release_NoClutchT + t.sync_ex))  -- past grd5
    ((v.NoNeu_Release_NoClutch ! 7)  -- grd1
    ∷ (not v.NoNeu_SyncSpeed ! 7)  -- grd2
    ∷ (not v.NoNeu_RequestOpenClutch_Setting ! 7)  -- grd3
    ∷ (v.Engine_SyncSpeed ! 7)  -- grd4
    ∷ (leb v.time (v.NoNeu_Release_NoClutchT + t.sync_ex) ! 10)  -- grd5
    ∷ [])
    (raise Flag.NoNeu_SyncSpeed  -- act1
    ∷ stamp Time.NoNeu_SyncSpeedT  -- act2
    ∷ [])
    v

abbrev pub NoNeu_RequestOpenClutch_Setting : Table → Variables → Event
NoNeu_RequestOpenClutch_Setting t v =
    timed
    ((v.NoNeu_Release_NoClutchT + t.sync_de) - v.time)  -- before grd4
    ((v.NoNeu_Release_NoClutch ! 7)  -- grd1
    ∷ (not v.NoNeu_SyncSpeed ! 7)  -- grd2
    ∷ (not v.NoNeu_RequestOpenClutch_Setting ! 7)  -- grd3
    ∷ (leb (v.NoNeu_Release_NoClutchT + t.sync_de) v.time ! 9)  -- grd4
    ∷ (v.Engine_WaitForSyncClutch ! 7)  -- 01: the engine waits; not printed
    ∷ [])
    (raise Flag.NoNeu_RequestOpenClutch_Setting  -- act1
    ∷ stamp Time.NoNeu_RequestOpenClutch_SettingT  -- act2
    ∷ [])
    v

abbrev pub NoNeu_OpenClutch_Setting : Variables → Event
NoNeu_OpenClutch_Setting v =
    event
    ((v.NoNeu_RequestOpenClutch_Setting ! 7)  -- grd1
    ∷ (not v.Error_NoNeu_OpenClutch_Setting ! 7)  -- grd2
    ∷ (not v.NoNeu_OpenClutch_Setting ! 7)  -- grd3
    ∷ (v.Clutch_Open ! 7)  -- grd4
    ∷ [])
    (raise Flag.NoNeu_OpenClutch_Setting  -- act1
    ∷ stamp Time.NoNeu_OpenClutch_SettingT  -- act2
    ∷ [])
    v

abbrev pub Error_NoNeu_OpenClutch_Setting : Variables → Event
Error_NoNeu_OpenClutch_Setting v =
    event
    ((v.NoNeu_RequestOpenClutch_Setting ! 7)  -- grd1
    ∷ (not v.Error_NoNeu_OpenClutch_Setting ! 7)  -- grd2
    ∷ (not v.NoNeu_OpenClutch_Setting ! 7)  -- grd3
    ∷ (v.Error_Clutch_Open ! 7)  -- 01: the device has failed; not printed
    ∷ [])
    (raise Flag.Error_NoNeu_OpenClutch_Setting  -- act1
    ∷ [])
    v

abbrev pub NoNeu_SetGear_NoClutch : Variables → Event
NoNeu_SetGear_NoClutch v =
    event
    ((v.NoNeu_SyncSpeed ! 7)  -- grd1
    ∷ (not v.Error_NoNeu_SetGear_NoClutch ! 7)  -- grd2
    ∷ (not v.NoNeu_SetGear_NoClutch ! 7)  -- grd3
    ∷ (v.Gear_Set ! 7)  -- grd4
    ∷ [])
    (raise Flag.NoNeu_SetGear_NoClutch  -- act1
    ∷ set_neu false  -- 02: taking a set order makes the box in gear; not printed
    ∷ [])
    v

abbrev pub Error_NoNeu_SetGear_NoClutch : Variables → Event
Error_NoNeu_SetGear_NoClutch v =
    event
    ((v.NoNeu_SyncSpeed ! 7)  -- grd1
    ∷ (not v.Error_NoNeu_SetGear_NoClutch ! 7)  -- grd2
    ∷ (not v.NoNeu_SetGear_NoClutch ! 7)  -- grd3
    ∷ (v.Error_Gear_Set ! 7)  -- 01: the device has failed; not printed
    ∷ [])
    (raise Flag.Error_NoNeu_SetGear_NoClutch  -- act1
    ∷ [])
    v

abbrev pub NoNeu_SetGear_ReleasingClutch : Variables → Event
NoNeu_SetGear_ReleasingClutch v =
    event
    ((v.NoNeu_Release_Clutch ! 7)  -- grd1
    ∷ (not v.Error_NoNeu_SetGear_ReleasingClutch ! 7)  -- grd2
    ∷ (not v.NoNeu_SetGear_ReleasingClutch ! 7)  -- grd3
    ∷ (v.Gear_Set ! 7)  -- grd4
    ∷ [])
    (raise Flag.NoNeu_SetGear_ReleasingClutch  -- act1
    ∷ stamp Time.NoNeu_SetGear_ReleasingClutchT  -- act2
    ∷ set_neu false  -- 02: taking a set order makes the box in gear; not printed
    ∷ [])
    v

abbrev pub Error_NoNeu_SetGear_ReleasingClutch : Variables → Event
Error_NoNeu_SetGear_ReleasingClutch v =
    event
    ((v.NoNeu_Release_Clutch ! 7)  -- grd1
    ∷ (not v.Error_NoNeu_SetGear_ReleasingClutch ! 7)  -- grd2
    ∷ (not v.NoNeu_SetGear_ReleasingClutch ! 7)  -- grd3
    ∷ (v.Error_Gear_Set ! 7)  -- 01: the device has failed; not printed
    ∷ [])
    (raise Flag.Error_NoNeu_SetGear_ReleasingClutch  -- act1
    ∷ [])
    v

abbrev pub NoNeu_SetGear_SettingClutch : Variables → Event
NoNeu_SetGear_SettingClutch v =
    event
    ((v.NoNeu_OpenClutch_Setting ! 7)  -- grd1
    ∷ (not v.Error_NoNeu_SetGear_SettingClutch ! 7)  -- grd2
    ∷ (not v.NoNeu_SetGear_SettingClutch ! 7)  -- grd3
    ∷ (v.Gear_Set ! 7)  -- grd4
    ∷ [])
    (raise Flag.NoNeu_SetGear_SettingClutch  -- act1
    ∷ stamp Time.NoNeu_SetGear_SettingClutchT  -- act2
    ∷ set_neu false  -- 02: taking a set order makes the box in gear; not printed
    ∷ [])
    v

abbrev pub Error_NoNeu_SetGear_SettingClutch : Variables → Event
Error_NoNeu_SetGear_SettingClutch v =
    event
    ((v.NoNeu_OpenClutch_Setting ! 7)  -- grd1
    ∷ (not v.Error_NoNeu_SetGear_SettingClutch ! 7)  -- grd2
    ∷ (not v.NoNeu_SetGear_SettingClutch ! 7)  -- grd3
    ∷ (v.Error_Gear_Set ! 7)  -- 01: the device has failed; not printed
    ∷ [])
    (raise Flag.Error_NoNeu_SetGear_SettingClutch  -- act1
    ∷ [])
    v

abbrev pub NoNeu_CloseClutch_Setting : Variables → Event
NoNeu_CloseClutch_Setting v =
    event
    ((v.NoNeu_SetGear_SettingClutch ! 7)  -- grd1
    ∷ (not v.Error_NoNeu_CloseClutch_Setting ! 7)  -- grd2
    ∷ (not v.NoNeu_CloseClutch_Setting ! 7)  -- grd3
    ∷ (v.Clutch_Close ! 7)  -- grd4
    ∷ [])
    (raise Flag.NoNeu_CloseClutch_Setting  -- act1
    ∷ [])
    v

abbrev pub Error_NoNeu_CloseClutch_Setting : Variables → Event
Error_NoNeu_CloseClutch_Setting v =
    event
    ((v.NoNeu_SetGear_SettingClutch ! 7)  -- grd1
    ∷ (not v.Error_NoNeu_CloseClutch_Setting ! 7)  -- grd2
    ∷ (not v.NoNeu_CloseClutch_Setting ! 7)  -- grd3
    ∷ (v.Error_Clutch_Close ! 7)  -- 01: the device has failed; not printed
    ∷ [])
    (raise Flag.Error_NoNeu_CloseClutch_Setting  -- act1
    ∷ [])
    v

abbrev pub NoNeu_CloseClutch_Releasing : Variables → Event
NoNeu_CloseClutch_Releasing v =
    event
    ((v.NoNeu_SetGear_ReleasingClutch ! 7)  -- grd1
    ∷ (not v.Error_NoNeu_CloseClutch_Releasing ! 7)  -- grd2
    ∷ (not v.NoNeu_CloseClutch_Releasing ! 7)  -- grd3
    ∷ (v.Clutch_Close ! 7)  -- grd4
    ∷ [])
    (raise Flag.NoNeu_CloseClutch_Releasing  -- act1
    ∷ [])
    v

abbrev pub Error_NoNeu_CloseClutch_Releasing : Variables → Event
Error_NoNeu_CloseClutch_Releasing v =
    event
    ((v.NoNeu_SetGear_ReleasingClutch ! 7)  -- grd1
    ∷ (not v.Error_NoNeu_CloseClutch_Releasing ! 7)  -- grd2
    ∷ (not v.NoNeu_CloseClutch_Releasing ! 7)  -- grd3
    ∷ (v.Error_Clutch_Close ! 7)  -- 01: the device has failed; not printed
    ∷ [])
    (raise Flag.Error_NoNeu_CloseClutch_Releasing  -- act1
    ∷ [])
    v
