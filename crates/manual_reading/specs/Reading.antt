-- Document 02, request 1: what the manual's variables say in our terms.
-- Assumes nothing.
use Rattle.std.specs.Prelude.{Bool, false, not, cond, ◌&&◌, ◌||◌, List, [], ◌∷◌, Option, ℕ, eqb, get_or}
use Rattle.std.specs.List.{find}
use Rattle.phases.specs.Phases.{at_rest, done, error, order_of}
use Rattle.shift.specs.States.{neutral, in_gear, none, sent, working, good, failed, waiting}
use Rattle.manual.specs.declared.Variables.{Variables}
use Rattle.manual.specs.Final.{FINAL}
use Rattle.manual.specs.Reset.{erred}
use Rattle.manual_reading.specs.declared.Phase.{Phase}
use Rattle.manual_reading.specs.declared.Candidate.{Candidate}
use Rattle.manual_reading.specs.declared.Device.{Device}
use Rattle.manual_reading.specs.declared.Stage.{Stage}
use Rattle.manual_reading.specs.declared.Read.{Read}

-- ---- the phase: its number, when it was entered and when its shift was requested
abbrev pub phase : ℕ → ℕ → ℕ → Phase
phase number time request = record { number = number; time = time; request = request }

-- what was found before, and where that is none this one, if its entering flag is up and its leaving flags are down
unfoldable pub or_phase : Phase → ℕ → Bool → Bool → ℕ → ℕ → Phase
or_phase found number entered left time request = cond (eqb found.number at_rest && entered && not left) (phase number time request) found

-- the first of some phases in code that was entered and not left
unfoldable pub first_entered : List Candidate → Option Candidate
first_entered phases = find (λ p. p.entered && not p.left) phases

-- 23 by an error, 22 by what FINAL asks for; no flag leaves these two, and there they have no times
unfoldable pub outside : Variables → Phase
outside v =
    let p = or_phase (phase at_rest 0 0) error (erred v) false 0 0 in
    or_phase p done (FINAL v).enabled false 0 0

-- in document 01's order, each phase by its number, the flag that enters it, those that leave it, its time and its request's

-- phases 1 to 5
unfoldable pub from_neutral : Variables → Phase → Phase
from_neutral v found =
    let p = or_phase found 1 v.RequestFromNeu (v.FromNeu_SyncSpeed || v.FromNeu_RequestOpenClutch) v.RequestFromNeuT v.RequestFromNeuT in
    let p = or_phase p 2 v.FromNeu_RequestOpenClutch v.FromNeu_OpenClutch v.FromNeu_RequestOpenClutchT v.RequestFromNeuT in
    let p = or_phase p 3 v.FromNeu_SyncSpeed v.FromNeu_SetGear_NoClutch v.FromNeu_SyncSpeedT v.RequestFromNeuT in
    let p = or_phase p 4 v.FromNeu_OpenClutch v.FromNeu_SetGear_Clutch v.FromNeu_OpenClutchT v.RequestFromNeuT in
    or_phase p 5 v.FromNeu_SetGear_Clutch v.FromNeu_CloseClutch v.FromNeu_SetGear_ClutchT v.RequestFromNeuT

-- phases 6 to 16
unfoldable pub gear_to_gear : Variables → Phase → Phase
gear_to_gear v found =
    let p = or_phase found 6 v.RequestNoNeu (v.NoNeu_ZeroTorque || v.NoNeu_RequestOpenClutch_Releasing) v.RequestNoNeuT v.RequestNoNeuT in
    let p = or_phase p 7 v.NoNeu_RequestOpenClutch_Releasing v.NoNeu_OpenClutch_Releasing v.NoNeu_RequestOpenClutch_ReleasingT v.RequestNoNeuT in
    let p = or_phase p 8 v.NoNeu_ZeroTorque v.NoNeu_Release_NoClutch v.NoNeu_ZeroTorqueT v.RequestNoNeuT in
    let p = or_phase p 9 v.NoNeu_OpenClutch_Releasing v.NoNeu_Release_Clutch v.NoNeu_OpenClutch_ReleasingT v.RequestNoNeuT in
    let p = or_phase p 10 v.NoNeu_Release_NoClutch (v.NoNeu_SyncSpeed || v.NoNeu_RequestOpenClutch_Setting) v.NoNeu_Release_NoClutchT v.RequestNoNeuT in
    let p = or_phase p 11 v.NoNeu_RequestOpenClutch_Setting v.NoNeu_OpenClutch_Setting v.NoNeu_RequestOpenClutch_SettingT v.RequestNoNeuT in
    let p = or_phase p 12 v.NoNeu_SyncSpeed v.NoNeu_SetGear_NoClutch v.NoNeu_SyncSpeedT v.RequestNoNeuT in
    let p = or_phase p 13 v.NoNeu_OpenClutch_Setting v.NoNeu_SetGear_SettingClutch v.NoNeu_OpenClutch_SettingT v.RequestNoNeuT in
    let p = or_phase p 14 v.NoNeu_Release_Clutch v.NoNeu_SetGear_ReleasingClutch v.NoNeu_Release_ClutchT v.RequestNoNeuT in
    let p = or_phase p 15 v.NoNeu_SetGear_SettingClutch v.NoNeu_CloseClutch_Setting v.NoNeu_SetGear_SettingClutchT v.RequestNoNeuT in
    or_phase p 16 v.NoNeu_SetGear_ReleasingClutch v.NoNeu_CloseClutch_Releasing v.NoNeu_SetGear_ReleasingClutchT v.RequestNoNeuT

-- phases 17 to 21
unfoldable pub to_neutral : Variables → Phase → Phase
to_neutral v found =
    let p = or_phase found 17 v.RequestToNeu (v.ToNeu_ZeroTorque || v.ToNeu_RequestOpenClutch) v.RequestToNeuT v.RequestToNeuT in
    let p = or_phase p 18 v.ToNeu_RequestOpenClutch v.ToNeu_OpenClutch v.ToNeu_RequestOpenClutchT v.RequestToNeuT in
    let p = or_phase p 19 v.ToNeu_ZeroTorque v.ToNeu_Release_NoClutch v.ToNeu_ZeroTorqueT v.RequestToNeuT in
    let p = or_phase p 20 v.ToNeu_OpenClutch v.ToNeu_Release_Clutch v.ToNeu_OpenClutchT v.RequestToNeuT in
    or_phase p 21 v.ToNeu_Release_Clutch v.ToNeu_CloseClutch v.ToNeu_Release_ClutchT v.RequestToNeuT

-- ---- the stage: its number and its time
abbrev pub stage : ℕ → ℕ → Stage
stage number time = record { number = number; time = time }

-- by a device: its request and that it is good, each a flag and its time, and the flag that it ended otherwise, with that stage;
-- `start` is when the phase was entered
unfoldable pub stage_by : Bool → ℕ → Bool → ℕ → Bool → ℕ → ℕ → Stage
stage_by request request_t is_good good_t ended otherwise start =
    cond ended (stage otherwise 0) (cond is_good (stage good good_t) (cond request (stage working request_t) (stage sent start)))

-- the same of a device in code
abbrev pub by_device : Device → ℕ → Stage
by_device d start = stage_by d.request d.request_time d.good d.good_time d.ended d.otherwise start

-- by order: an engine ends otherwise by waiting for the clutch, the others by failing
abbrev pub stages : Variables → ℕ → List Stage
stages v start =
    stage none 0  -- no order
    ∷ stage_by v.Engine_Request_SyncSpeed v.Engine_Request_SyncSpeedT v.Engine_SyncSpeed v.Engine_SyncSpeedT v.Engine_WaitForSyncClutch waiting start  -- sync
    ∷ stage_by v.Engine_Request_ZeroTorque v.Engine_Request_ZeroTorqueT v.Engine_ZeroTorque v.Engine_ZeroTorqueT v.Engine_WaitForZeroClutch waiting start  -- zero torque
    ∷ stage_by v.Clutch_Request_Open v.Clutch_Request_OpenT v.Clutch_Open v.Clutch_OpenT v.Error_Clutch_Open failed start  -- open
    ∷ stage_by v.Clutch_Request_Close v.Clutch_Request_CloseT v.Clutch_Close v.Clutch_CloseT v.Error_Clutch_Close failed start  -- close
    ∷ stage_by v.Gear_Request_Set v.Gear_Request_SetT v.Gear_Set v.Gear_SetT v.Error_Gear_Set failed start  -- set
    ∷ stage_by v.Gear_Request_Release v.Gear_Request_ReleaseT v.Gear_Release v.Gear_ReleaseT v.Error_Gear_Release failed start  -- release
    ∷ []

unfoldable pub stage_of : Variables → ℕ → ℕ → Stage
stage_of v order start = get_or (stages v start) order (stage none 0)

abbrev pub box_of : Bool → ℕ
box_of isNeu = cond isNeu neutral in_gear

-- ---- the reading
unfoldable pub reading : Variables → Read
reading v =
    let p = to_neutral v (gear_to_gear v (from_neutral v (outside v))) in
    let s = stage_of v (order_of p.number) p.time in
    record {
      clock = v.time;
      gear_box = box_of v.isNeu;
      phase = p.number;
      phase_time = p.time;
      stage = s.number;
      stage_time = s.time;
      request_time = p.request;
    }
