-- Machine m9: scenario 3, to neutral, in the manual's order and under its labels. What documents 01 and 02
-- settle is marked on its line.
-- Assumes nothing.
use Rattle.std.specs.Prelude.{true, not, [], ◌∷◌, ◌+◌, ◌-◌, leb}
use Rattle.checks.specs.Checks.{◌!◌}
use Rattle.limits.specs.declared.Table.{Table}
use Rattle.manual.specs.declared.Variables.{Variables}
use Rattle.manual.specs.declared.Event.{Event}
use Rattle.manual.specs.Names.{Flag, Time}
use Rattle.manual.specs.Variables.{raise, stamp, set_neu}
use Rattle.manual.specs.Events.{timed, event}

abbrev pub ToNeu_ZeroTorque : Table → Variables → Event
ToNeu_ZeroTorque t v =
    timed
    (v.time - (v.RequestToNeuT + t.zero_ex))  -- past grd5
    ((v.RequestToNeu ! 7)  -- grd1
    ∷ (not v.ToNeu_ZeroTorque ! 7)  -- grd2
    ∷ (not v.ToNeu_RequestOpenClutch ! 7)  -- grd3
    ∷ (v.Engine_ZeroTorque ! 7)  -- grd4
    ∷ (leb v.time (v.RequestToNeuT + t.zero_ex) ! 10)  -- grd5
    ∷ [])
    (raise Flag.ToNeu_ZeroTorque  -- act1
    ∷ stamp Time.ToNeu_ZeroTorqueT  -- act2
    ∷ [])
    v

abbrev pub ToNeu_RequestOpenClutch : Table → Variables → Event
ToNeu_RequestOpenClutch t v =
    timed
    ((v.RequestToNeuT + t.zero_de) - v.time)  -- before grd4
    ((v.RequestToNeu ! 7)  -- grd1
    ∷ (not v.ToNeu_ZeroTorque ! 7)  -- grd2
    ∷ (not v.ToNeu_RequestOpenClutch ! 7)  -- grd3
    ∷ (leb (v.RequestToNeuT + t.zero_de) v.time ! 9)  -- grd4
    ∷ (v.Engine_WaitForZeroClutch ! 7)  -- 01: the engine waits; not printed
    ∷ [])
    (raise Flag.ToNeu_RequestOpenClutch  -- act1
    ∷ stamp Time.ToNeu_RequestOpenClutchT  -- act2
    ∷ [])
    v

abbrev pub ToNeu_OpenClutch : Variables → Event
ToNeu_OpenClutch v =
    event
    ((v.ToNeu_RequestOpenClutch ! 7)  -- grd1
    ∷ (not v.ToNeu_OpenClutch ! 7)  -- grd2
    ∷ (not v.Error_ToNeu_OpenClutch ! 7)  -- grd3
    ∷ (v.Clutch_Open ! 7)  -- grd4
    ∷ [])
    (raise Flag.ToNeu_OpenClutch  -- act1
    ∷ stamp Time.ToNeu_OpenClutchT  -- act2
    ∷ [])
    v

abbrev pub Error_ToNeu_OpenClutch : Variables → Event
Error_ToNeu_OpenClutch v =
    event
    ((v.ToNeu_RequestOpenClutch ! 7)  -- grd1
    ∷ (not v.ToNeu_OpenClutch ! 7)  -- grd2
    ∷ (not v.Error_ToNeu_OpenClutch ! 7)  -- grd3
    ∷ (v.Error_Clutch_Open ! 7)  -- 01: the device has failed; not printed
    ∷ [])
    (raise Flag.Error_ToNeu_OpenClutch  -- act1
    ∷ [])
    v

abbrev pub ToNeu_Release_NoClutch : Variables → Event
ToNeu_Release_NoClutch v =
    event
    ((v.ToNeu_ZeroTorque ! 7)  -- grd1
    ∷ (not v.ToNeu_Release_NoClutch ! 7)  -- grd2
    ∷ (not v.Error_ToNeu_Release_NoClutch ! 7)  -- grd3
    ∷ (v.Gear_Release ! 7)  -- grd4
    ∷ [])
    (raise Flag.ToNeu_Release_NoClutch  -- act1
    ∷ set_neu true  -- act2
    ∷ [])
    v

abbrev pub Error_ToNeu_Release_NoClutch : Variables → Event
Error_ToNeu_Release_NoClutch v =
    event
    ((v.ToNeu_ZeroTorque ! 7)  -- grd1
    ∷ (not v.ToNeu_Release_NoClutch ! 7)  -- grd2
    ∷ (not v.Error_ToNeu_Release_NoClutch ! 7)  -- grd3
    ∷ (v.Error_Gear_Release ! 7)  -- 01: the device has failed; not printed
    ∷ [])
    (raise Flag.Error_ToNeu_Release_NoClutch  -- act1
    ∷ [])
    v

abbrev pub ToNeu_Release_Clutch : Variables → Event
ToNeu_Release_Clutch v =
    event
    ((v.ToNeu_OpenClutch ! 7)  -- grd1
    ∷ (not v.ToNeu_Release_Clutch ! 7)  -- grd2
    ∷ (not v.Error_ToNeu_Release_Clutch ! 7)  -- grd3
    ∷ (v.Gear_Release ! 7)  -- grd4
    ∷ [])
    (raise Flag.ToNeu_Release_Clutch  -- act1
    ∷ stamp Time.ToNeu_Release_ClutchT  -- act2
    ∷ set_neu true  -- 02: taking a release order makes the box neutral; not printed
    ∷ [])
    v

abbrev pub Error_ToNeu_Release_Clutch : Variables → Event
Error_ToNeu_Release_Clutch v =
    event
    ((v.ToNeu_OpenClutch ! 7)  -- grd1
    ∷ (not v.ToNeu_Release_Clutch ! 7)  -- grd2
    ∷ (not v.Error_ToNeu_Release_Clutch ! 7)  -- grd3
    ∷ (v.Error_Gear_Release ! 7)  -- 01: the device has failed; not printed
    ∷ [])
    (raise Flag.Error_ToNeu_Release_Clutch  -- act1
    ∷ [])
    v

abbrev pub ToNeu_CloseClutch : Variables → Event
ToNeu_CloseClutch v =
    event
    ((v.ToNeu_Release_Clutch ! 7)  -- grd1
    ∷ (not v.ToNeu_CloseClutch ! 7)  -- grd2
    ∷ (not v.Error_ToNeu_CloseClutch ! 7)  -- grd3
    ∷ (v.Clutch_Close ! 7)  -- grd4
    ∷ [])
    (raise Flag.ToNeu_CloseClutch  -- act1
    -- act2; 02: left out, as entering 22 no longer moves the box; printed isNeu := TRUE
    ∷ [])
    v

abbrev pub Error_ToNeu_CloseClutch : Variables → Event
Error_ToNeu_CloseClutch v =
    event
    ((v.ToNeu_Release_Clutch ! 7)  -- grd1
    ∷ (not v.ToNeu_CloseClutch ! 7)  -- grd2
    ∷ (not v.Error_ToNeu_CloseClutch ! 7)  -- grd3
    ∷ (v.Error_Clutch_Close ! 7)  -- 01: the device has failed; not printed
    ∷ [])
    (raise Flag.Error_ToNeu_CloseClutch  -- act1
    ∷ [])
    v
