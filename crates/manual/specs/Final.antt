-- Machine m9: FINAL, in the manual's order and under its labels. What document 01 settles is marked on its line.
-- Assumes nothing.
use Rattle.std.specs.Prelude.{◌||◌, [], ◌∷◌}
use Rattle.checks.specs.Checks.{◌!◌}
use Rattle.manual.specs.declared.Variables.{Variables}
use Rattle.manual.specs.declared.Event.{Event}
use Rattle.manual.specs.Names.{Flag}
use Rattle.manual.specs.Variables.{lower}
use Rattle.manual.specs.Events.{event}

abbrev pub FINAL : Variables → Event
FINAL v =
    event
    (((v.FromNeu_SetGear_NoClutch || v.NoNeu_SetGear_NoClutch || v.ToNeu_Release_NoClutch || v.FromNeu_CloseClutch || v.NoNeu_CloseClutch_Setting || v.NoNeu_CloseClutch_Releasing || v.ToNeu_CloseClutch) ! 7)  -- grd1
    ∷ [])
    (lower Flag.RequestFromNeu  -- act1
    ∷ lower Flag.RequestNoNeu  -- act2
    ∷ lower Flag.RequestToNeu  -- act3
    ∷ lower Flag.FromNeu_SyncSpeed  -- act4
    ∷ lower Flag.FromNeu_OpenClutch  -- act5
    ∷ lower Flag.FromNeu_SetGear_NoClutch  -- act6
    ∷ lower Flag.FromNeu_SetGear_Clutch  -- act7
    ∷ lower Flag.FromNeu_CloseClutch  -- act8
    ∷ lower Flag.ToNeu_Release_NoClutch  -- act9
    ∷ lower Flag.ToNeu_CloseClutch  -- act10
    ∷ lower Flag.ToNeu_ZeroTorque  -- act11
    ∷ lower Flag.ToNeu_OpenClutch  -- act12
    ∷ lower Flag.ToNeu_Release_Clutch  -- act13
    ∷ lower Flag.NoNeu_ZeroTorque  -- act14
    ∷ lower Flag.NoNeu_OpenClutch_Releasing  -- act15
    ∷ lower Flag.NoNeu_Release_NoClutch  -- act16
    ∷ lower Flag.NoNeu_Release_Clutch  -- act17
    ∷ lower Flag.NoNeu_SyncSpeed  -- act18
    ∷ lower Flag.NoNeu_OpenClutch_Setting  -- act19
    ∷ lower Flag.NoNeu_SetGear_NoClutch  -- act20
    ∷ lower Flag.NoNeu_SetGear_ReleasingClutch  -- act21
    ∷ lower Flag.NoNeu_SetGear_SettingClutch  -- act22
    ∷ lower Flag.NoNeu_CloseClutch_Setting  -- act23
    ∷ lower Flag.NoNeu_CloseClutch_Releasing  -- act24
    ∷ lower Flag.Engine_SyncSpeed  -- act25
    ∷ lower Flag.Engine_WaitForSyncClutch  -- act26
    ∷ lower Flag.Engine_ZeroTorque  -- act27
    ∷ lower Flag.Engine_WaitForZeroClutch  -- act28
    ∷ lower Flag.Clutch_Open  -- act29
    ∷ lower Flag.Clutch_Close  -- act30
    ∷ lower Flag.Gear_Release  -- act31
    ∷ lower Flag.Gear_Set  -- act32
    ∷ lower Flag.FromNeu_RequestOpenClutch  -- act33
    ∷ lower Flag.ToNeu_RequestOpenClutch  -- act34
    ∷ lower Flag.NoNeu_RequestOpenClutch_Releasing  -- act35
    ∷ lower Flag.NoNeu_RequestOpenClutch_Setting  -- act36
    ∷ lower Flag.Engine_Request_SyncSpeed  -- act37
    ∷ lower Flag.Engine_Request_ZeroTorque  -- act38
    ∷ lower Flag.Clutch_Request_Open  -- act39
    ∷ lower Flag.Clutch_Request_Close  -- act40
    ∷ lower Flag.Gear_Request_Release  -- act41
    ∷ lower Flag.Gear_Request_Set  -- act42
    ∷ [])
    v
