-- The places that a run reaches: which flags are up there, and our state there.
-- Assumes nothing.
use mathlib.Core.Bool.{Bool, true, false, cond, ◌&&◌, ◌||◌}
use mathlib.Core.List.{List, [], ◌∷◌, map}
use Prim.Native.Nat.{ℕ}
use lib.Dec.{eqb}
use lib.ListN.{get_or}
use Rattle.shift.specs.declared.State.{State}
use Rattle.shift.specs.States.{neutral, in_gear, none, failed, waiting}
use Rattle.manual.specs.declared.Variables.{Variables}
use Rattle.manual.specs.Names.{Flag, Time, flag_number}
use Rattle.manual.specs.Variables.{time_of, variables}

-- ---- devices and phases

-- the flags of its request, of its good end and of the other one, and the times of the first two
pub record Device : Type 0 where
  pub request : Flag
  pub good : Flag
  pub other : Flag
  pub request_t : Time
  pub good_t : Time

abbrev device : Flag → Flag → Flag → Time → Time → Device
device a b c d e = record { request = a; good = b; other = c; request_t = d; good_t = e }

abbrev sync : Device
sync = device Flag.Engine_Request_SyncSpeed Flag.Engine_SyncSpeed Flag.Engine_WaitForSyncClutch Time.Engine_Request_SyncSpeedT Time.Engine_SyncSpeedT

abbrev zeroing : Device
zeroing = device Flag.Engine_Request_ZeroTorque Flag.Engine_ZeroTorque Flag.Engine_WaitForZeroClutch Time.Engine_Request_ZeroTorqueT Time.Engine_ZeroTorqueT

abbrev opening : Device
opening = device Flag.Clutch_Request_Open Flag.Clutch_Open Flag.Error_Clutch_Open Time.Clutch_Request_OpenT Time.Clutch_OpenT

abbrev closing : Device
closing = device Flag.Clutch_Request_Close Flag.Clutch_Close Flag.Error_Clutch_Close Time.Clutch_Request_CloseT Time.Clutch_CloseT

abbrev releasing : Device
releasing = device Flag.Gear_Request_Release Flag.Gear_Release Flag.Error_Gear_Release Time.Gear_Request_ReleaseT Time.Gear_ReleaseT

abbrev setting : Device
setting = device Flag.Gear_Request_Set Flag.Gear_Set Flag.Error_Gear_Set Time.Gear_Request_SetT Time.Gear_SetT

-- its device, the flags that are up on entering it, the time of that and of its request, the flag of taking it and of its error, and
-- whether the box is neutral
pub record Phase : Type 0 where
  pub device : Device
  pub entered : List Flag
  pub start_t : Time
  pub requested_t : Time
  pub taken : Flag
  pub error : Flag
  pub neutral : Bool

abbrev phase : Device → List Flag → Time → Time → Flag → Flag → Bool → Phase
phase d up a b c e n = record { device = d; entered = up; start_t = a; requested_t = b; taken = c; error = e; neutral = n }

-- what is up after the phase before, whose device was good, and after an ask, where it waits
abbrev taken : Device → Flag → List Flag → List Flag
taken d f up = f ∷ d.good ∷ d.request ∷ up

abbrev asked : Device → Flag → List Flag → List Flag
asked d f up = f ∷ d.other ∷ d.request ∷ up

-- phases 1 to 21; an engine's has no error, and the flag of taking stands there
abbrev phases : List Phase
phases =
    let up1 = Flag.RequestFromNeu ∷ [] in
    let up2 = asked sync Flag.FromNeu_RequestOpenClutch up1 in
    let up3 = taken sync Flag.FromNeu_SyncSpeed up1 in
    let up4 = taken opening Flag.FromNeu_OpenClutch up2 in
    let up5 = taken setting Flag.FromNeu_SetGear_Clutch up4 in
    let up6 = Flag.RequestNoNeu ∷ [] in
    let up7 = asked zeroing Flag.NoNeu_RequestOpenClutch_Releasing up6 in
    let up8 = taken zeroing Flag.NoNeu_ZeroTorque up6 in
    let up9 = taken opening Flag.NoNeu_OpenClutch_Releasing up7 in
    let up10 = taken releasing Flag.NoNeu_Release_NoClutch up8 in
    let up11 = asked sync Flag.NoNeu_RequestOpenClutch_Setting up10 in
    let up12 = taken sync Flag.NoNeu_SyncSpeed up10 in
    let up13 = taken opening Flag.NoNeu_OpenClutch_Setting up11 in
    let up14 = taken releasing Flag.NoNeu_Release_Clutch up9 in
    let up15 = taken setting Flag.NoNeu_SetGear_SettingClutch up13 in
    let up16 = taken setting Flag.NoNeu_SetGear_ReleasingClutch up14 in
    let up17 = Flag.RequestToNeu ∷ [] in
    let up18 = asked zeroing Flag.ToNeu_RequestOpenClutch up17 in
    let up19 = taken zeroing Flag.ToNeu_ZeroTorque up17 in
    let up20 = taken opening Flag.ToNeu_OpenClutch up18 in
    let up21 = taken releasing Flag.ToNeu_Release_Clutch up20 in
    (phase sync up1 Time.RequestFromNeuT Time.RequestFromNeuT Flag.FromNeu_SyncSpeed Flag.FromNeu_SyncSpeed true
    ∷ phase opening up2 Time.FromNeu_RequestOpenClutchT Time.RequestFromNeuT Flag.FromNeu_OpenClutch Flag.Error_FromNeu_OpenClutch true
    ∷ phase setting up3 Time.FromNeu_SyncSpeedT Time.RequestFromNeuT Flag.FromNeu_SetGear_NoClutch Flag.Error_FromNeu_SetGear_NoClutch true
    ∷ phase setting up4 Time.FromNeu_OpenClutchT Time.RequestFromNeuT Flag.FromNeu_SetGear_Clutch Flag.Error_FromNeu_SetGear_Clutch true
    ∷ phase closing up5 Time.FromNeu_SetGear_ClutchT Time.RequestFromNeuT Flag.FromNeu_CloseClutch Flag.Error_FromNeu_CloseClutch false
    ∷ phase zeroing up6 Time.RequestNoNeuT Time.RequestNoNeuT Flag.NoNeu_ZeroTorque Flag.NoNeu_ZeroTorque false
    ∷ phase opening up7 Time.NoNeu_RequestOpenClutch_ReleasingT Time.RequestNoNeuT Flag.NoNeu_OpenClutch_Releasing Flag.Error_NoNeu_OpenClutch_Releasing false
    ∷ phase releasing up8 Time.NoNeu_ZeroTorqueT Time.RequestNoNeuT Flag.NoNeu_Release_NoClutch Flag.Error_NoNeu_Release_NoClutch false
    ∷ phase releasing up9 Time.NoNeu_OpenClutch_ReleasingT Time.RequestNoNeuT Flag.NoNeu_Release_Clutch Flag.Error_NoNeu_Release_Clutch false
    ∷ phase sync up10 Time.NoNeu_Release_NoClutchT Time.RequestNoNeuT Flag.NoNeu_SyncSpeed Flag.NoNeu_SyncSpeed true
    ∷ phase opening up11 Time.NoNeu_RequestOpenClutch_SettingT Time.RequestNoNeuT Flag.NoNeu_OpenClutch_Setting Flag.Error_NoNeu_OpenClutch_Setting true
    ∷ phase setting up12 Time.NoNeu_SyncSpeedT Time.RequestNoNeuT Flag.NoNeu_SetGear_NoClutch Flag.Error_NoNeu_SetGear_NoClutch true
    ∷ phase setting up13 Time.NoNeu_OpenClutch_SettingT Time.RequestNoNeuT Flag.NoNeu_SetGear_SettingClutch Flag.Error_NoNeu_SetGear_SettingClutch true
    ∷ phase setting up14 Time.NoNeu_Release_ClutchT Time.RequestNoNeuT Flag.NoNeu_SetGear_ReleasingClutch Flag.Error_NoNeu_SetGear_ReleasingClutch true
    ∷ phase closing up15 Time.NoNeu_SetGear_SettingClutchT Time.RequestNoNeuT Flag.NoNeu_CloseClutch_Setting Flag.Error_NoNeu_CloseClutch_Setting false
    ∷ phase closing up16 Time.NoNeu_SetGear_ReleasingClutchT Time.RequestNoNeuT Flag.NoNeu_CloseClutch_Releasing Flag.Error_NoNeu_CloseClutch_Releasing false
    ∷ phase zeroing up17 Time.RequestToNeuT Time.RequestToNeuT Flag.ToNeu_ZeroTorque Flag.ToNeu_ZeroTorque false
    ∷ phase opening up18 Time.ToNeu_RequestOpenClutchT Time.RequestToNeuT Flag.ToNeu_OpenClutch Flag.Error_ToNeu_OpenClutch false
    ∷ phase releasing up19 Time.ToNeu_ZeroTorqueT Time.RequestToNeuT Flag.ToNeu_Release_NoClutch Flag.Error_ToNeu_Release_NoClutch false
    ∷ phase releasing up20 Time.ToNeu_OpenClutchT Time.RequestToNeuT Flag.ToNeu_Release_Clutch Flag.Error_ToNeu_Release_Clutch false
    ∷ phase closing up21 Time.ToNeu_Release_ClutchT Time.RequestToNeuT Flag.ToNeu_CloseClutch Flag.Error_ToNeu_CloseClutch true
    ∷ [])

abbrev nowhere : Phase
nowhere = phase sync [] Time.RequestFromNeuT Time.RequestFromNeuT Flag.RequestFromNeu Flag.RequestFromNeu true

abbrev pub phase_of : ℕ → Phase
phase_of p = get_or (nowhere ∷ phases) p nowhere

-- ---- places

-- at rest, with a neutral box or not; a phase with its stage, where 4 is failed or waiting; done and error, with the phase left
pub data Place : Type 0 where
  rest : Bool → Place
  at : ℕ → ℕ → Place
  done : ℕ → Place
  error : ℕ → Place

abbrev pub has : ℕ → List ℕ → Bool
has p [] = false
has p (k ∷ ks) = eqb p k || has p ks

abbrev pub orders : List ℕ
orders = 1 ∷ 2 ∷ 3 ∷ 4 ∷ 5 ∷ 6 ∷ 7 ∷ 8 ∷ 9 ∷ 10 ∷ 11 ∷ 12 ∷ 13 ∷ 14 ∷ 15 ∷ 16 ∷ 17 ∷ 18 ∷ 19 ∷ 20 ∷ 21 ∷ []

abbrev pub engines : List ℕ
engines = 1 ∷ 6 ∷ 10 ∷ 17 ∷ []

-- the phases that lead to done, and those whose device can fail
abbrev pub lasts : List ℕ
lasts = 3 ∷ 5 ∷ 12 ∷ 15 ∷ 16 ∷ 19 ∷ 21 ∷ []

abbrev pub fallible : List ℕ
fallible = 2 ∷ 3 ∷ 4 ∷ 5 ∷ 7 ∷ 8 ∷ 9 ∷ 11 ∷ 12 ∷ 13 ∷ 14 ∷ 15 ∷ 16 ∷ 18 ∷ 19 ∷ 20 ∷ 21 ∷ []

abbrev pub stages : List ℕ
stages = 1 ∷ 2 ∷ 3 ∷ 4 ∷ []

abbrev pub valid : Place → Bool
valid (rest b) = true
valid (at p g) = has p orders && has g stages
valid (done p) = has p lasts
valid (error p) = has p fallible

-- ---- the variables at a place

abbrev up_in : Phase → ℕ → List Flag
up_in f stage =
    let d = f.device in
    get_or
    ([]
    ∷ f.entered
    ∷ (d.request ∷ f.entered)
    ∷ (d.good ∷ d.request ∷ f.entered)
    ∷ (d.other ∷ d.request ∷ f.entered)
    ∷ [])
    stage
    []

abbrev up : Place → List Flag
up (rest b) = []
up (at p g) = up_in (phase_of p) g
up (done p) = (phase_of p).taken ∷ up_in (phase_of p) 3
up (error p) = (phase_of p).error ∷ up_in (phase_of p) 4

-- a shift is done in neutral by phase 19, which releases, or 21
abbrev pub neutral_at : Place → Bool
neutral_at (rest b) = b
neutral_at (at p g) = (phase_of p).neutral
neutral_at (done p) = eqb p 19 || eqb p 21
neutral_at (error p) = (phase_of p).neutral

-- its flags, with the times of w
unfoldable pub vars_at : Place → Variables → Variables
vars_at c w =
    let numbers = map flag_number (up c) in
    variables w.time (neutral_at c) (λ (f : Flag). has (flag_number f) numbers) (time_of w)

-- ---- our state at a place: times by the variables and, where these don't tell, by s itself

abbrev state : ℕ → Bool → ℕ → ℕ → ℕ → ℕ → ℕ → ℕ → State
state now b p pt g gt rt fp = record {
  clock = now;
  gear_box = cond b neutral in_gear;
  phase = p;
  phase_time = pt;
  stage = g;
  stage_time = gt;
  request_time = rt;
  failed_phase = fp;
}

abbrev outside : ℕ → Place → Variables → State → State
outside p c w s =
    state w.time (neutral_at c) p s.phase_time none s.stage_time s.request_time s.failed_phase

abbrev stage_of : ℕ → ℕ → ℕ
stage_of p g = cond (eqb g 4) (cond (has p engines) waiting failed) g

abbrev stage_time_of : Phase → ℕ → Variables → State → ℕ
stage_time_of f stage w s =
    let d = f.device in
    get_or
    (0
    ∷ time_of w f.start_t
    ∷ time_of w d.request_t
    ∷ time_of w d.good_t
    ∷ s.stage_time
    ∷ [])
    stage
    0

unfoldable pub state_at : Place → Variables → State → State
state_at (rest b) w s = outside 0 (rest b) w s
state_at (at p g) w s =
    let f = phase_of p in
    state w.time f.neutral p (time_of w f.start_t) (stage_of p g) (stage_time_of f g w s) (time_of w f.requested_t) s.failed_phase
state_at (done p) w s = outside 22 (done p) w s
state_at (error p) w s = outside 23 (error p) w s
