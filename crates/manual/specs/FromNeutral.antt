-- Machine m9: scenario 1, from neutral, in the manual's order and under its labels. What documents 01 and 02
-- settle is marked on its line.
-- Assumes nothing.
use Rattle.std.specs.Prelude.{false, not, [], ◌∷◌, ◌+◌, ◌-◌, leb}
use Rattle.checks.specs.Checks.{◌!◌}
use Rattle.limits.specs.declared.Table.{Table}
use Rattle.manual.specs.declared.Variables.{Variables}
use Rattle.manual.specs.declared.Event.{Event}
use Rattle.manual.specs.Names.{Flag, Time}
use Rattle.manual.specs.Variables.{raise, stamp, set_neu}
use Rattle.manual.specs.Events.{timed, event}

abbrev pub FromNeu_SyncSpeed : Table → Variables → Event
FromNeu_SyncSpeed t v =
    timed
    (v.time - (v.RequestFromNeuT + t.sync_ex))  -- past grd5
    ((v.RequestFromNeu ! 7)  -- grd1
    ∷ (not v.FromNeu_SyncSpeed ! 7)  -- grd2
    ∷ (not v.FromNeu_RequestOpenClutch ! 7)  -- grd3
    ∷ (v.Engine_SyncSpeed ! 7)  -- grd4
    ∷ (leb v.time (v.RequestFromNeuT + t.sync_ex) ! 10)  -- grd5
    ∷ [])
    (raise Flag.FromNeu_SyncSpeed  -- act1
    ∷ stamp Time.FromNeu_SyncSpeedT  -- act2
    ∷ [])
    v

abbrev pub FromNeu_RequestOpenClutch : Table → Variables → Event
FromNeu_RequestOpenClutch t v =
    timed
    ((v.RequestFromNeuT + t.sync_de) - v.time)  -- before grd4
    ((v.RequestFromNeu ! 7)  -- grd1
    ∷ (not v.FromNeu_SyncSpeed ! 7)  -- grd2
    ∷ (not v.FromNeu_RequestOpenClutch ! 7)  -- grd3
    ∷ (leb (v.RequestFromNeuT + t.sync_de) v.time ! 9)  -- grd4; 01: the delay of an engine that synchronizes; printed OpenClutch_Zero_DE
    ∷ (v.Engine_WaitForSyncClutch ! 7)  -- 01: the engine waits; not printed
    ∷ [])
    (raise Flag.FromNeu_RequestOpenClutch  -- act1
    ∷ stamp Time.FromNeu_RequestOpenClutchT  -- act2
    ∷ [])
    v

abbrev pub FromNeu_OpenClutch : Variables → Event
FromNeu_OpenClutch v =
    event
    ((v.FromNeu_RequestOpenClutch ! 7)  -- grd1
    ∷ (not v.Error_FromNeu_OpenClutch ! 7)  -- grd2
    ∷ (not v.FromNeu_OpenClutch ! 7)  -- grd3
    ∷ (v.Clutch_Open ! 7)  -- grd4
    ∷ [])
    (raise Flag.FromNeu_OpenClutch  -- act1
    ∷ stamp Time.FromNeu_OpenClutchT  -- act2
    ∷ [])
    v

abbrev pub Error_FromNeu_OpenClutch : Variables → Event
Error_FromNeu_OpenClutch v =
    event
    ((v.FromNeu_RequestOpenClutch ! 7)  -- grd1
    ∷ (not v.Error_FromNeu_OpenClutch ! 7)  -- grd2
    ∷ (not v.FromNeu_OpenClutch ! 7)  -- grd3
    ∷ (v.Error_Clutch_Open ! 7)  -- 01: the device has failed; not printed
    ∷ [])
    (raise Flag.Error_FromNeu_OpenClutch  -- act1
    ∷ [])
    v

abbrev pub FromNeu_SetGear_NoClutch : Variables → Event
FromNeu_SetGear_NoClutch v =
    event
    ((v.FromNeu_SyncSpeed ! 7)  -- grd1
    ∷ (not v.Error_FromNeu_SetGear_NoClutch ! 7)  -- grd2
    ∷ (not v.FromNeu_SetGear_NoClutch ! 7)  -- grd3
    ∷ (v.Gear_Set ! 7)  -- grd4
    ∷ [])
    (raise Flag.FromNeu_SetGear_NoClutch  -- act1
    ∷ set_neu false  -- act2
    ∷ [])
    v

abbrev pub Error_FromNeu_SetGear_NoClutch : Variables → Event
Error_FromNeu_SetGear_NoClutch v =
    event
    ((v.FromNeu_SyncSpeed ! 7)  -- grd1
    ∷ (not v.Error_FromNeu_SetGear_NoClutch ! 7)  -- grd2
    ∷ (not v.FromNeu_SetGear_NoClutch ! 7)  -- grd3
    ∷ (v.Error_Gear_Set ! 7)  -- grd4; 01: the device has failed; printed Gear_Set
    ∷ [])
    (raise Flag.Error_FromNeu_SetGear_NoClutch  -- act1
    ∷ [])
    v

abbrev pub FromNeu_SetGear_Clutch : Variables → Event
FromNeu_SetGear_Clutch v =
    event
    ((v.FromNeu_OpenClutch ! 7)  -- grd1
    ∷ (not v.Error_FromNeu_SetGear_Clutch ! 7)  -- grd2
    ∷ (not v.FromNeu_SetGear_Clutch ! 7)  -- grd3
    ∷ (v.Gear_Set ! 7)  -- grd4
    ∷ [])
    (raise Flag.FromNeu_SetGear_Clutch  -- act1
    ∷ stamp Time.FromNeu_SetGear_ClutchT  -- act2
    ∷ set_neu false  -- 02: taking a set order makes the box in gear; not printed
    ∷ [])
    v

abbrev pub Error_FromNeu_SetGear_Clutch : Variables → Event
Error_FromNeu_SetGear_Clutch v =
    event
    ((v.FromNeu_OpenClutch ! 7)  -- grd1
    ∷ (not v.Error_FromNeu_SetGear_Clutch ! 7)  -- grd2
    ∷ (not v.FromNeu_SetGear_Clutch ! 7)  -- grd3
    ∷ (v.Error_Gear_Set ! 7)  -- 01: the device has failed; not printed
    ∷ [])
    (raise Flag.Error_FromNeu_SetGear_Clutch  -- act1
    ∷ [])
    v

abbrev pub FromNeu_CloseClutch : Variables → Event
FromNeu_CloseClutch v =
    event
    ((v.FromNeu_SetGear_Clutch ! 7)  -- grd1
    ∷ (not v.Error_FromNeu_CloseClutch ! 7)  -- grd2
    ∷ (not v.FromNeu_CloseClutch ! 7)  -- grd3
    ∷ (v.Clutch_Close ! 7)  -- grd4
    ∷ [])
    (raise Flag.FromNeu_CloseClutch  -- act1
    -- act2; 02: left out, as entering 22 no longer moves the box; printed isNeu := FALSE
    ∷ [])
    v

abbrev pub Error_FromNeu_CloseClutch : Variables → Event
Error_FromNeu_CloseClutch v =
    event
    ((v.FromNeu_SetGear_Clutch ! 7)  -- grd1
    ∷ (not v.Error_FromNeu_CloseClutch ! 7)  -- grd2
    ∷ (not v.FromNeu_CloseClutch ! 7)  -- grd3
    ∷ (v.Error_Clutch_Close ! 7)  -- 01: the device has failed; not printed
    ∷ [])
    (raise Flag.Error_FromNeu_CloseClutch  -- act1
    ∷ [])
    v
