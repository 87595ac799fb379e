-- Machine m9: Tick_Tock, its guards in the manual's order and under its labels. What document 01 settles is marked on its line.
-- Assumes nothing.
use Rattle.std.specs.Prelude.{Bool, true, not, cond, ◌&&◌, List, [], ◌∷◌, ◌++◌, Option, None, Some, ℕ, zero, suc, ◌+◌, ◌-◌, eqb}
use Rattle.checks.specs.Checks.{Check, ◌!◌, first}
use Rattle.limits.specs.declared.Table.{Table}
use Rattle.manual.specs.declared.Variables.{Variables}
use Rattle.manual.specs.declared.Event.{Event}
use Rattle.manual.specs.declared.Guard.{Guard}
use Rattle.manual.specs.Variables.{pass}

-- The guards are said by the milliseconds by which they are passed, 0 where they hold.

-- where these flags stand so, the time after the tick is at most a time + its limit
unfoldable pub past : Bool → ℕ → ℕ → ℕ → ℕ
past flags now time limit = cond flags (now - (time + limit)) 0

-- the same of a guard in code
abbrev pub past_at : ℕ → Guard → ℕ
past_at now g = past g.flags now g.since g.limit

-- grd2 to grd6: from neutral
abbrev pub scenario1 : Table → Variables → ℕ → List ℕ
scenario1 t v now =
    past ((v.RequestFromNeu && not v.FromNeu_RequestOpenClutch) && not v.FromNeu_SyncSpeed) now v.RequestFromNeuT t.sync_dl  -- grd2
    ∷ past ((v.FromNeu_RequestOpenClutch && not v.FromNeu_OpenClutch) && not v.Error_FromNeu_OpenClutch) now v.FromNeu_RequestOpenClutchT t.open_clutch_dl  -- grd3
    ∷ past ((v.FromNeu_OpenClutch && not v.FromNeu_SetGear_Clutch) && not v.Error_FromNeu_SetGear_Clutch) now v.FromNeu_OpenClutchT t.set_gear_dl  -- grd4
    ∷ past ((v.FromNeu_SyncSpeed && not v.FromNeu_SetGear_NoClutch) && not v.Error_FromNeu_SetGear_NoClutch) now v.FromNeu_SyncSpeedT t.set_gear_dl  -- grd5
    ∷ past ((v.FromNeu_SetGear_Clutch && not v.FromNeu_CloseClutch) && not v.Error_FromNeu_CloseClutch) now v.FromNeu_SetGear_ClutchT t.close_clutch_dl  -- grd6
    ∷ []

-- grd7 to grd11: to neutral
abbrev pub scenario3 : Table → Variables → ℕ → List ℕ
scenario3 t v now =
    past ((v.RequestToNeu && not v.ToNeu_RequestOpenClutch) && not v.ToNeu_ZeroTorque) now v.RequestToNeuT t.zero_dl  -- grd7
    ∷ past ((v.ToNeu_RequestOpenClutch && not v.ToNeu_OpenClutch) && not v.Error_ToNeu_OpenClutch) now v.ToNeu_RequestOpenClutchT t.open_clutch_dl  -- grd8
    ∷ past ((v.ToNeu_ZeroTorque && not v.ToNeu_Release_NoClutch) && not v.Error_ToNeu_Release_NoClutch) now v.ToNeu_ZeroTorqueT t.release_dl  -- grd9
    ∷ past ((v.ToNeu_OpenClutch && not v.ToNeu_Release_Clutch) && not v.Error_ToNeu_Release_Clutch) now v.ToNeu_OpenClutchT t.release_dl  -- grd10
    ∷ past ((v.ToNeu_Release_Clutch && not v.ToNeu_CloseClutch) && not v.Error_ToNeu_CloseClutch) now v.ToNeu_Release_ClutchT t.close_clutch_dl  -- grd11
    ∷ []

-- grd12 to grd22: gear to gear
abbrev pub scenario2 : Table → Variables → ℕ → List ℕ
scenario2 t v now =
    past ((v.RequestNoNeu && not v.NoNeu_ZeroTorque) && not v.NoNeu_RequestOpenClutch_Releasing) now v.RequestNoNeuT t.zero_dl  -- grd12
    ∷ past ((v.NoNeu_RequestOpenClutch_Releasing && not v.NoNeu_OpenClutch_Releasing) && not v.Error_NoNeu_OpenClutch_Releasing) now v.NoNeu_RequestOpenClutch_ReleasingT t.open_clutch_dl  -- grd13
    ∷ past ((v.NoNeu_ZeroTorque && not v.NoNeu_Release_NoClutch) && not v.Error_NoNeu_Release_NoClutch) now v.NoNeu_ZeroTorqueT t.release_dl  -- grd14
    ∷ past ((v.NoNeu_Release_NoClutch && not v.NoNeu_SyncSpeed) && not v.NoNeu_RequestOpenClutch_Setting) now v.NoNeu_Release_NoClutchT t.sync_dl  -- grd15
    ∷ past ((v.NoNeu_RequestOpenClutch_Setting && not v.NoNeu_OpenClutch_Setting) && not v.Error_NoNeu_OpenClutch_Setting) now v.NoNeu_RequestOpenClutch_SettingT t.open_clutch_dl  -- grd16
    ∷ past ((v.NoNeu_SyncSpeed && not v.NoNeu_SetGear_NoClutch) && not v.Error_NoNeu_SetGear_NoClutch) now v.NoNeu_SyncSpeedT t.set_gear_dl  -- grd17
    ∷ past ((v.NoNeu_OpenClutch_Setting && not v.NoNeu_SetGear_SettingClutch) && not v.Error_NoNeu_SetGear_SettingClutch) now v.NoNeu_OpenClutch_SettingT t.set_gear_dl  -- grd18
    ∷ past ((v.NoNeu_SetGear_SettingClutch && not v.NoNeu_CloseClutch_Setting) && not v.Error_NoNeu_CloseClutch_Setting) now v.NoNeu_SetGear_SettingClutchT t.close_clutch_dl  -- grd19
    ∷ past ((v.NoNeu_OpenClutch_Releasing && not v.NoNeu_Release_Clutch) && not v.Error_NoNeu_Release_Clutch) now v.NoNeu_OpenClutch_ReleasingT t.release_dl  -- grd20
    ∷ past ((v.NoNeu_Release_Clutch && not v.NoNeu_SetGear_ReleasingClutch) && not v.Error_NoNeu_SetGear_ReleasingClutch) now v.NoNeu_Release_ClutchT t.set_gear_dl  -- grd21
    ∷ past ((v.NoNeu_SetGear_ReleasingClutch && not v.NoNeu_CloseClutch_Releasing) && not v.Error_NoNeu_CloseClutch_Releasing) now v.NoNeu_SetGear_ReleasingClutchT t.close_clutch_dl  -- grd22
    ∷ []

-- grd23 to grd28: the channel to and from the engine
abbrev pub engine_channel : Table → Variables → ℕ → List ℕ
engine_channel t v now =
    past (v.RequestFromNeu && not v.Engine_Request_SyncSpeed) now v.RequestFromNeuT t.channel_dl  -- grd23
    ∷ past (v.NoNeu_Release_NoClutch && not v.Engine_Request_SyncSpeed) now v.NoNeu_Release_NoClutchT t.channel_dl  -- grd24
    ∷ past (v.RequestToNeu && not v.Engine_Request_ZeroTorque) now v.RequestToNeuT t.channel_dl  -- grd25
    ∷ past (v.RequestNoNeu && not v.Engine_Request_ZeroTorque) now v.RequestNoNeuT t.channel_dl  -- grd26
    ∷ past ((v.Engine_ZeroTorque && not v.ToNeu_ZeroTorque) && not v.NoNeu_ZeroTorque) now v.Engine_ZeroTorqueT t.channel_dl  -- grd27
    ∷ past ((v.Engine_SyncSpeed && not v.FromNeu_SyncSpeed) && not v.NoNeu_SyncSpeed) now v.Engine_SyncSpeedT t.channel_dl  -- grd28
    ∷ []

-- grd29 to grd38: the channel to and from the clutch
abbrev pub clutch_channel : Table → Variables → ℕ → List ℕ
clutch_channel t v now =
    past (v.FromNeu_RequestOpenClutch && not v.Clutch_Request_Open) now v.FromNeu_RequestOpenClutchT t.channel_dl  -- grd29
    ∷ past (v.ToNeu_RequestOpenClutch && not v.Clutch_Request_Open) now v.ToNeu_RequestOpenClutchT t.channel_dl  -- grd30
    ∷ past (v.NoNeu_RequestOpenClutch_Releasing && not v.Clutch_Request_Open) now v.NoNeu_RequestOpenClutch_ReleasingT t.channel_dl  -- grd31
    ∷ past (v.NoNeu_RequestOpenClutch_Setting && not v.Clutch_Request_Open) now v.NoNeu_RequestOpenClutch_SettingT t.channel_dl  -- grd32
    ∷ past (v.FromNeu_SetGear_Clutch && not v.Clutch_Request_Close) now v.FromNeu_SetGear_ClutchT t.channel_dl  -- grd33
    ∷ past (v.NoNeu_SetGear_ReleasingClutch && not v.Clutch_Request_Close) now v.NoNeu_SetGear_ReleasingClutchT t.channel_dl  -- grd34
    ∷ past (v.NoNeu_SetGear_SettingClutch && not v.Clutch_Request_Close) now v.NoNeu_SetGear_SettingClutchT t.channel_dl  -- grd35; 01: an order runs from its own phase; printed FromNeu_SetGear_ClutchT
    ∷ past (v.ToNeu_Release_Clutch && not v.Clutch_Request_Close) now v.ToNeu_Release_ClutchT t.channel_dl  -- grd36
    ∷ past ((((v.Clutch_Open && not v.FromNeu_OpenClutch) && not v.ToNeu_OpenClutch) && not v.NoNeu_OpenClutch_Releasing) && not v.NoNeu_OpenClutch_Setting) now v.Clutch_OpenT t.channel_dl  -- grd37
    ∷ past ((((v.Clutch_Close && not v.FromNeu_CloseClutch) && not v.ToNeu_CloseClutch) && not v.NoNeu_CloseClutch_Releasing) && not v.NoNeu_CloseClutch_Setting) now v.Clutch_CloseT t.channel_dl  -- grd38
    ∷ []

-- grd39 to grd49: the channel to and from the gear
abbrev pub gear_channel : Table → Variables → ℕ → List ℕ
gear_channel t v now =
    past (v.ToNeu_ZeroTorque && not v.Gear_Request_Release) now v.ToNeu_ZeroTorqueT t.channel_dl  -- grd39
    ∷ past (v.ToNeu_OpenClutch && not v.Gear_Request_Release) now v.ToNeu_OpenClutchT t.channel_dl  -- grd40
    ∷ past (v.NoNeu_ZeroTorque && not v.Gear_Request_Release) now v.NoNeu_ZeroTorqueT t.channel_dl  -- grd41
    ∷ past (v.NoNeu_OpenClutch_Releasing && not v.Gear_Request_Release) now v.NoNeu_OpenClutch_ReleasingT t.channel_dl  -- grd42
    ∷ past (v.NoNeu_SyncSpeed && not v.Gear_Request_Set) now v.NoNeu_SyncSpeedT t.channel_dl  -- grd43
    ∷ past (v.NoNeu_OpenClutch_Setting && not v.Gear_Request_Set) now v.NoNeu_OpenClutch_SettingT t.channel_dl  -- grd44
    ∷ past (v.NoNeu_Release_Clutch && not v.Gear_Request_Set) now v.NoNeu_Release_ClutchT t.channel_dl  -- grd45
    ∷ past (v.FromNeu_SyncSpeed && not v.Gear_Request_Set) now v.FromNeu_SyncSpeedT t.channel_dl  -- grd46; 01: until the order is delivered; printed Gear_Set
    ∷ past (v.FromNeu_OpenClutch && not v.Gear_Request_Set) now v.FromNeu_OpenClutchT t.channel_dl  -- grd47; 01: phase 4 and until its order is delivered; printed ToNeu_OpenClutch, its time, and Gear_Set
    ∷ past ((((v.Gear_Release && not v.ToNeu_Release_Clutch) && not v.ToNeu_Release_NoClutch) && not v.NoNeu_Release_NoClutch) && not v.NoNeu_Release_Clutch) now v.Gear_ReleaseT t.channel_dl  -- grd48
    ∷ past (((((v.Gear_Set && not v.FromNeu_SetGear_Clutch) && not v.FromNeu_SetGear_NoClutch) && not v.NoNeu_SetGear_NoClutch) && not v.NoNeu_SetGear_ReleasingClutch) && not v.NoNeu_SetGear_SettingClutch) now v.Gear_SetT t.channel_dl  -- grd49
    ∷ []

-- grd50 to grd55: the devices
abbrev pub devices : Table → Variables → ℕ → List ℕ
devices t v now =
    past ((v.Engine_Request_SyncSpeed && not v.Engine_SyncSpeed) && not v.Engine_WaitForSyncClutch) now v.Engine_Request_SyncSpeedT t.engine_sync_dl  -- grd50
    ∷ past ((v.Engine_Request_ZeroTorque && not v.Engine_ZeroTorque) && not v.Engine_WaitForZeroClutch) now v.Engine_Request_ZeroTorqueT t.engine_zero_dl  -- grd51
    ∷ past ((v.Clutch_Request_Open && not v.Clutch_Open) && not v.Error_Clutch_Open) now v.Clutch_Request_OpenT t.clutch_open_dl  -- grd52
    ∷ past ((v.Clutch_Request_Close && not v.Clutch_Close) && not v.Error_Clutch_Close) now v.Clutch_Request_CloseT t.clutch_close_dl  -- grd53
    ∷ past ((v.Gear_Request_Release && not v.Gear_Release) && not v.Error_Gear_Release) now v.Gear_Request_ReleaseT t.gear_release_dl  -- grd54
    ∷ past ((v.Gear_Request_Set && not v.Gear_Set) && not v.Error_Gear_Set) now v.Gear_Request_SetT t.gear_set_dl  -- grd55
    ∷ []

-- guards with the number that refuses where one of them is passed
abbrev pub refusing : ℕ → List ℕ → List Check
refusing n [] = []
refusing n (x ∷ xs) = (eqb x 0 ! n) ∷ refusing n xs

-- the first of two that is passed
unfoldable pub past_else : ℕ → ℕ → ℕ
past_else zero y = y
past_else (suc x) y = suc x

-- the first that is passed, 0 where none is
abbrev pub first_past : List ℕ → ℕ
first_past [] = 0
first_past (x ∷ xs) = past_else x (first_past xs)

-- the milliseconds by which one is passed, none where they are 0
abbrev pub passed : ℕ → Option ℕ
passed zero = None
passed (suc x) = Some (suc x)

-- grd2 to grd22, the limits of the phases
abbrev pub phase_limits : Table → Variables → ℕ → List ℕ
phase_limits t v now = scenario1 t v now ++ (scenario3 t v now ++ scenario2 t v now)

-- grd23 to grd55, the limits of the channel and of the devices
abbrev pub stage_limits : Table → Variables → ℕ → List ℕ
stage_limits t v now =
    engine_channel t v now ++ (clutch_channel t v now ++ (gear_channel t v now ++ devices t v now))

-- the clock's end
abbrev pub clock_limit : ℕ → List ℕ
clock_limit now = (now - 4294967295) ∷ []  -- 01: the clock has 32 bits; not printed

-- The numbers come in document 01's order, so that the phases are asked last. grd1, tick > 0, is asked of the record, with 6.
abbrev pub tick_guards : Table → Variables → ℕ → List Check
tick_guards t v now =
    refusing 13 (clock_limit now) ++ (refusing 12 (stage_limits t v now) ++ refusing 11 (phase_limits t v now))

-- the excess is that of the guard that gives the number
abbrev pub tick_excess : Table → Variables → ℕ → ℕ
tick_excess t v now = first_past (clock_limit now ++ (stage_limits t v now ++ phase_limits t v now))

-- none of its guards is on flags alone, so it is always enabled
abbrev pub Tick_Tock : Table → Variables → ℕ → Event
Tick_Tock t v tick = record {
  enabled = true;
  number = first (tick_guards t v (v.time + tick));
  excess = tick_excess t v (v.time + tick);
  after = pass tick v;  -- act1
}
