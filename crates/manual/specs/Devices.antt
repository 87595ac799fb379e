-- Machine m9: engine, clutch and gear, in the manual's order and under its labels. What documents 01 and 02 settle is marked on its line.
-- Assumes nothing.
use Rattle.std.specs.Prelude.{not, ◌||◌, [], ◌∷◌, ◌+◌, ◌-◌, leb}
use Rattle.checks.specs.Checks.{◌!◌}
use Rattle.limits.specs.declared.Table.{Table}
use Rattle.manual.specs.declared.Variables.{Variables}
use Rattle.manual.specs.declared.Event.{Event}
use Rattle.manual.specs.Names.{Flag, Time}
use Rattle.manual.specs.Variables.{raise, stamp}
use Rattle.manual.specs.Events.{timed, event}

abbrev pub Engine_Request_SyncSpeed : Variables → Event
Engine_Request_SyncSpeed v =
    event
    (((v.RequestFromNeu || v.NoNeu_Release_NoClutch) ! 7)  -- grd1
    ∷ (not v.Engine_Request_SyncSpeed ! 7)  -- grd2
    ∷ [])
    (raise Flag.Engine_Request_SyncSpeed  -- act1
    ∷ stamp Time.Engine_Request_SyncSpeedT  -- act2
    ∷ [])
    v

abbrev pub Engine_SyncSpeed : Variables → Event
Engine_SyncSpeed v =
    event
    ((v.Engine_Request_SyncSpeed ! 7)  -- grd1
    ∷ (not v.Engine_SyncSpeed ! 7)  -- grd2
    ∷ (not v.Engine_WaitForSyncClutch ! 7)  -- grd3
    ∷ [])
    (raise Flag.Engine_SyncSpeed  -- act1
    ∷ stamp Time.Engine_SyncSpeedT  -- act2
    ∷ [])
    v

abbrev pub Engine_WaitForSyncClutch : Variables → Event
Engine_WaitForSyncClutch v =
    event
    ((v.Engine_Request_SyncSpeed ! 7)  -- grd1
    ∷ (not v.Engine_SyncSpeed ! 7)  -- grd2
    ∷ (not v.Engine_WaitForSyncClutch ! 7)  -- grd3
    ∷ [])
    (raise Flag.Engine_WaitForSyncClutch  -- act1
    ∷ [])
    v

abbrev pub Engine_Request_ZeroTorque : Variables → Event
Engine_Request_ZeroTorque v =
    event
    (((v.RequestToNeu || v.RequestNoNeu) ! 7)  -- grd1
    ∷ (not v.Engine_Request_ZeroTorque ! 7)  -- grd2
    ∷ [])
    (raise Flag.Engine_Request_ZeroTorque  -- act1
    ∷ stamp Time.Engine_Request_ZeroTorqueT  -- act2
    ∷ [])
    v

abbrev pub Engine_ZeroTorque : Variables → Event
Engine_ZeroTorque v =
    event
    ((v.Engine_Request_ZeroTorque ! 7)  -- grd1
    ∷ (not v.Engine_ZeroTorque ! 7)  -- grd2
    ∷ (not v.Engine_WaitForZeroClutch ! 7)  -- grd3
    ∷ [])
    (raise Flag.Engine_ZeroTorque  -- act1
    ∷ stamp Time.Engine_ZeroTorqueT  -- act2
    ∷ [])
    v

abbrev pub Engine_WaitForZeroClutch : Variables → Event
Engine_WaitForZeroClutch v =
    event
    ((v.Engine_Request_ZeroTorque ! 7)  -- grd1
    ∷ (not v.Engine_ZeroTorque ! 7)  -- grd2
    ∷ (not v.Engine_WaitForZeroClutch ! 7)  -- grd3
    ∷ [])
    (raise Flag.Engine_WaitForZeroClutch  -- act1
    ∷ [])
    v

abbrev pub Clutch_Request_Open : Variables → Event
Clutch_Request_Open v =
    event
    (((v.FromNeu_RequestOpenClutch || v.ToNeu_RequestOpenClutch || v.NoNeu_RequestOpenClutch_Releasing || v.NoNeu_RequestOpenClutch_Setting) ! 7)  -- grd1
    ∷ (not v.Clutch_Request_Open ! 7)  -- grd2
    ∷ [])
    (raise Flag.Clutch_Request_Open  -- act1
    ∷ stamp Time.Clutch_Request_OpenT  -- act2
    ∷ [])
    v

-- Request 6: a clutch reports no earlier than its delay after its order was delivered. The decomposed machine Clutch1 prints these
-- guards as grd4, but those of closing from Clutch_Request_OpenT.

abbrev pub Clutch_Open : Table → Variables → Event
Clutch_Open t v =
    timed
    ((v.Clutch_Request_OpenT + t.clutch_open_de) - v.time)  -- before 02
    ((v.Clutch_Request_Open ! 7)  -- grd1
    ∷ (not v.Clutch_Open ! 7)  -- grd2
    ∷ (not v.Error_Clutch_Open ! 7)  -- grd3
    ∷ (leb (v.Clutch_Request_OpenT + t.clutch_open_de) v.time ! 9)  -- 02: request 6, the delay from delivery; not printed
    ∷ [])
    (raise Flag.Clutch_Open  -- act1
    ∷ stamp Time.Clutch_OpenT  -- act2
    ∷ [])
    v

abbrev pub Error_Clutch_Open : Table → Variables → Event
Error_Clutch_Open t v =
    timed
    ((v.Clutch_Request_OpenT + t.error_clutch_open_de) - v.time)  -- before 02
    ((v.Clutch_Request_Open ! 7)  -- grd1
    ∷ (not v.Clutch_Open ! 7)  -- grd2
    ∷ (not v.Error_Clutch_Open ! 7)  -- grd3
    ∷ (leb (v.Clutch_Request_OpenT + t.error_clutch_open_de) v.time ! 9)  -- 02: request 6, the delay from delivery; not printed
    ∷ [])
    (raise Flag.Error_Clutch_Open  -- act1
    ∷ [])
    v

abbrev pub Clutch_Request_Close : Variables → Event
Clutch_Request_Close v =
    event
    (((v.FromNeu_SetGear_Clutch || v.ToNeu_Release_Clutch || v.NoNeu_SetGear_ReleasingClutch || v.NoNeu_SetGear_SettingClutch) ! 7)  -- grd1
    ∷ (not v.Clutch_Request_Close ! 7)  -- grd2
    ∷ [])
    (raise Flag.Clutch_Request_Close  -- act1
    ∷ stamp Time.Clutch_Request_CloseT  -- act2
    ∷ [])
    v

abbrev pub Clutch_Close : Table → Variables → Event
Clutch_Close t v =
    timed
    ((v.Clutch_Request_CloseT + t.clutch_close_de) - v.time)  -- before 02
    ((v.Clutch_Request_Close ! 7)  -- grd1
    ∷ (not v.Clutch_Close ! 7)  -- grd2
    ∷ (not v.Error_Clutch_Close ! 7)  -- grd3
    ∷ (leb (v.Clutch_Request_CloseT + t.clutch_close_de) v.time ! 9)  -- 02: request 6, the delay from delivery; not printed
    ∷ [])
    (raise Flag.Clutch_Close  -- act1
    ∷ stamp Time.Clutch_CloseT  -- act2
    ∷ [])
    v

abbrev pub Error_Clutch_Close : Table → Variables → Event
Error_Clutch_Close t v =
    timed
    ((v.Clutch_Request_CloseT + t.error_clutch_close_de) - v.time)  -- before 02
    ((v.Clutch_Request_Close ! 7)  -- grd1
    ∷ (not v.Clutch_Close ! 7)  -- grd2
    ∷ (not v.Error_Clutch_Close ! 7)  -- grd3
    ∷ (leb (v.Clutch_Request_CloseT + t.error_clutch_close_de) v.time ! 9)  -- 02: request 6, the delay from delivery; not printed
    ∷ [])
    (raise Flag.Error_Clutch_Close  -- act1
    ∷ [])
    v

abbrev pub Gear_Request_Release : Variables → Event
Gear_Request_Release v =
    event
    (((v.ToNeu_ZeroTorque || v.ToNeu_OpenClutch || v.NoNeu_ZeroTorque || v.NoNeu_OpenClutch_Releasing) ! 7)  -- grd1
    ∷ (not v.Gear_Request_Release ! 7)  -- grd2
    ∷ [])
    (raise Flag.Gear_Request_Release  -- act1
    ∷ stamp Time.Gear_Request_ReleaseT  -- act2
    ∷ [])
    v

abbrev pub Gear_Release : Variables → Event
Gear_Release v =
    event
    ((v.Gear_Request_Release ! 7)  -- grd1
    ∷ (not v.Gear_Release ! 7)  -- grd2
    ∷ (not v.Error_Gear_Release ! 7)  -- grd3
    ∷ [])
    (raise Flag.Gear_Release  -- act1
    ∷ stamp Time.Gear_ReleaseT  -- act2
    ∷ [])
    v

abbrev pub Error_Gear_Release : Variables → Event
Error_Gear_Release v =
    event
    ((v.Gear_Request_Release ! 7)  -- grd1
    ∷ (not v.Gear_Release ! 7)  -- grd2
    ∷ (not v.Error_Gear_Release ! 7)  -- grd3
    ∷ [])
    (raise Flag.Error_Gear_Release  -- act1
    ∷ [])
    v

abbrev pub Gear_Request_Set : Variables → Event
Gear_Request_Set v =
    event
    (((v.FromNeu_SyncSpeed || v.FromNeu_OpenClutch || v.NoNeu_Release_Clutch || v.NoNeu_SyncSpeed || v.NoNeu_OpenClutch_Setting) ! 7)  -- grd1
    ∷ (not v.Gear_Request_Set ! 7)  -- grd2
    ∷ [])
    (raise Flag.Gear_Request_Set  -- act1
    ∷ stamp Time.Gear_Request_SetT  -- act2
    ∷ [])
    v

abbrev pub Gear_Set : Variables → Event
Gear_Set v =
    event
    ((v.Gear_Request_Set ! 7)  -- grd1
    ∷ (not v.Gear_Set ! 7)  -- grd2
    ∷ (not v.Error_Gear_Set ! 7)  -- grd3
    ∷ [])
    (raise Flag.Gear_Set  -- act1
    ∷ stamp Time.Gear_SetT  -- act2
    ∷ [])
    v

abbrev pub Error_Gear_Set : Variables → Event
Error_Gear_Set v =
    event
    ((v.Gear_Request_Set ! 7)  -- grd1
    ∷ (not v.Gear_Set ! 7)  -- grd2
    ∷ (not v.Error_Gear_Set ! 7)  -- grd3
    ∷ [])
    (raise Flag.Error_Gear_Set  -- act1
    ∷ [])
    v
