-- Machine m9's variables by their names, INITIALISATION, and what an action does to them.
-- Assumes nothing.
use Rattle.std.specs.Prelude.{Bool, true, false, not, cond, ◌&&◌, ◌||◌, ℕ, ◌+◌, eqb}
use Rattle.manual.specs.declared.Variables.{Variables}
use Rattle.manual.specs.Names.{Flag, Time, flag_number, time_number}
use Rattle.manual.specs.Names.Flag.{RequestFromNeu, RequestNoNeu, RequestToNeu, FromNeu_SyncSpeed, FromNeu_OpenClutch, FromNeu_SetGear_NoClutch, FromNeu_SetGear_Clutch, FromNeu_CloseClutch, Error_FromNeu_OpenClutch, Error_FromNeu_SetGear_NoClutch, Error_FromNeu_SetGear_Clutch, Error_FromNeu_CloseClutch, ToNeu_ZeroTorque, ToNeu_OpenClutch, Error_ToNeu_OpenClutch, ToNeu_Release_NoClutch, Error_ToNeu_Release_NoClutch, ToNeu_Release_Clutch, Error_ToNeu_Release_Clutch, ToNeu_CloseClutch, Error_ToNeu_CloseClutch, NoNeu_ZeroTorque, NoNeu_Release_NoClutch, NoNeu_OpenClutch_Releasing, NoNeu_Release_Clutch, NoNeu_SyncSpeed, NoNeu_OpenClutch_Setting, NoNeu_SetGear_NoClutch, NoNeu_SetGear_ReleasingClutch, NoNeu_SetGear_SettingClutch, NoNeu_CloseClutch_Releasing, NoNeu_CloseClutch_Setting, Error_NoNeu_OpenClutch_Releasing, Error_NoNeu_Release_Clutch, Error_NoNeu_Release_NoClutch, Error_NoNeu_OpenClutch_Setting, Error_NoNeu_SetGear_NoClutch, Error_NoNeu_SetGear_ReleasingClutch, Error_NoNeu_SetGear_SettingClutch, Error_NoNeu_CloseClutch_Releasing, Error_NoNeu_CloseClutch_Setting, Engine_SyncSpeed, Engine_WaitForSyncClutch, Engine_ZeroTorque, Engine_WaitForZeroClutch, Clutch_Open, Error_Clutch_Open, Clutch_Close, Error_Clutch_Close, Gear_Release, Error_Gear_Release, Gear_Set, Error_Gear_Set, FromNeu_RequestOpenClutch, ToNeu_RequestOpenClutch, NoNeu_RequestOpenClutch_Releasing, NoNeu_RequestOpenClutch_Setting, Engine_Request_SyncSpeed, Engine_Request_ZeroTorque, Clutch_Request_Open, Clutch_Request_Close, Gear_Request_Release, Gear_Request_Set}
use Rattle.manual.specs.Names.Time.{RequestFromNeuT, RequestNoNeuT, RequestToNeuT, FromNeu_OpenClutchT, FromNeu_SyncSpeedT, FromNeu_SetGear_ClutchT, ToNeu_ZeroTorqueT, ToNeu_OpenClutchT, ToNeu_Release_ClutchT, NoNeu_ZeroTorqueT, NoNeu_Release_NoClutchT, NoNeu_OpenClutch_ReleasingT, NoNeu_Release_ClutchT, NoNeu_SetGear_ReleasingClutchT, NoNeu_SetGear_SettingClutchT, NoNeu_SyncSpeedT, NoNeu_OpenClutch_SettingT, FromNeu_RequestOpenClutchT, ToNeu_RequestOpenClutchT, NoNeu_RequestOpenClutch_ReleasingT, NoNeu_RequestOpenClutch_SettingT, Engine_Request_SyncSpeedT, Engine_Request_ZeroTorqueT, Clutch_Request_OpenT, Clutch_Request_CloseT, Gear_Request_ReleaseT, Gear_Request_SetT, Engine_SyncSpeedT, Engine_ZeroTorqueT, Clutch_OpenT, Clutch_CloseT, Gear_ReleaseT, Gear_SetT}

-- the value of a flag
abbrev pub flag : Variables → Flag → Bool
flag v RequestFromNeu = v.RequestFromNeu
flag v RequestNoNeu = v.RequestNoNeu
flag v RequestToNeu = v.RequestToNeu
flag v FromNeu_SyncSpeed = v.FromNeu_SyncSpeed
flag v FromNeu_OpenClutch = v.FromNeu_OpenClutch
flag v FromNeu_SetGear_NoClutch = v.FromNeu_SetGear_NoClutch
flag v FromNeu_SetGear_Clutch = v.FromNeu_SetGear_Clutch
flag v FromNeu_CloseClutch = v.FromNeu_CloseClutch
flag v Error_FromNeu_OpenClutch = v.Error_FromNeu_OpenClutch
flag v Error_FromNeu_SetGear_NoClutch = v.Error_FromNeu_SetGear_NoClutch
flag v Error_FromNeu_SetGear_Clutch = v.Error_FromNeu_SetGear_Clutch
flag v Error_FromNeu_CloseClutch = v.Error_FromNeu_CloseClutch
flag v ToNeu_ZeroTorque = v.ToNeu_ZeroTorque
flag v ToNeu_OpenClutch = v.ToNeu_OpenClutch
flag v Error_ToNeu_OpenClutch = v.Error_ToNeu_OpenClutch
flag v ToNeu_Release_NoClutch = v.ToNeu_Release_NoClutch
flag v Error_ToNeu_Release_NoClutch = v.Error_ToNeu_Release_NoClutch
flag v ToNeu_Release_Clutch = v.ToNeu_Release_Clutch
flag v Error_ToNeu_Release_Clutch = v.Error_ToNeu_Release_Clutch
flag v ToNeu_CloseClutch = v.ToNeu_CloseClutch
flag v Error_ToNeu_CloseClutch = v.Error_ToNeu_CloseClutch
flag v NoNeu_ZeroTorque = v.NoNeu_ZeroTorque
flag v NoNeu_Release_NoClutch = v.NoNeu_Release_NoClutch
flag v NoNeu_OpenClutch_Releasing = v.NoNeu_OpenClutch_Releasing
flag v NoNeu_Release_Clutch = v.NoNeu_Release_Clutch
flag v NoNeu_SyncSpeed = v.NoNeu_SyncSpeed
flag v NoNeu_OpenClutch_Setting = v.NoNeu_OpenClutch_Setting
flag v NoNeu_SetGear_NoClutch = v.NoNeu_SetGear_NoClutch
flag v NoNeu_SetGear_ReleasingClutch = v.NoNeu_SetGear_ReleasingClutch
flag v NoNeu_SetGear_SettingClutch = v.NoNeu_SetGear_SettingClutch
flag v NoNeu_CloseClutch_Releasing = v.NoNeu_CloseClutch_Releasing
flag v NoNeu_CloseClutch_Setting = v.NoNeu_CloseClutch_Setting
flag v Error_NoNeu_OpenClutch_Releasing = v.Error_NoNeu_OpenClutch_Releasing
flag v Error_NoNeu_Release_Clutch = v.Error_NoNeu_Release_Clutch
flag v Error_NoNeu_Release_NoClutch = v.Error_NoNeu_Release_NoClutch
flag v Error_NoNeu_OpenClutch_Setting = v.Error_NoNeu_OpenClutch_Setting
flag v Error_NoNeu_SetGear_NoClutch = v.Error_NoNeu_SetGear_NoClutch
flag v Error_NoNeu_SetGear_ReleasingClutch = v.Error_NoNeu_SetGear_ReleasingClutch
flag v Error_NoNeu_SetGear_SettingClutch = v.Error_NoNeu_SetGear_SettingClutch
flag v Error_NoNeu_CloseClutch_Releasing = v.Error_NoNeu_CloseClutch_Releasing
flag v Error_NoNeu_CloseClutch_Setting = v.Error_NoNeu_CloseClutch_Setting
flag v Engine_SyncSpeed = v.Engine_SyncSpeed
flag v Engine_WaitForSyncClutch = v.Engine_WaitForSyncClutch
flag v Engine_ZeroTorque = v.Engine_ZeroTorque
flag v Engine_WaitForZeroClutch = v.Engine_WaitForZeroClutch
flag v Clutch_Open = v.Clutch_Open
flag v Error_Clutch_Open = v.Error_Clutch_Open
flag v Clutch_Close = v.Clutch_Close
flag v Error_Clutch_Close = v.Error_Clutch_Close
flag v Gear_Release = v.Gear_Release
flag v Error_Gear_Release = v.Error_Gear_Release
flag v Gear_Set = v.Gear_Set
flag v Error_Gear_Set = v.Error_Gear_Set
flag v FromNeu_RequestOpenClutch = v.FromNeu_RequestOpenClutch
flag v ToNeu_RequestOpenClutch = v.ToNeu_RequestOpenClutch
flag v NoNeu_RequestOpenClutch_Releasing = v.NoNeu_RequestOpenClutch_Releasing
flag v NoNeu_RequestOpenClutch_Setting = v.NoNeu_RequestOpenClutch_Setting
flag v Engine_Request_SyncSpeed = v.Engine_Request_SyncSpeed
flag v Engine_Request_ZeroTorque = v.Engine_Request_ZeroTorque
flag v Clutch_Request_Open = v.Clutch_Request_Open
flag v Clutch_Request_Close = v.Clutch_Request_Close
flag v Gear_Request_Release = v.Gear_Request_Release
flag v Gear_Request_Set = v.Gear_Request_Set

-- the value of a time
abbrev pub time_of : Variables → Time → ℕ
time_of v RequestFromNeuT = v.RequestFromNeuT
time_of v RequestNoNeuT = v.RequestNoNeuT
time_of v RequestToNeuT = v.RequestToNeuT
time_of v FromNeu_OpenClutchT = v.FromNeu_OpenClutchT
time_of v FromNeu_SyncSpeedT = v.FromNeu_SyncSpeedT
time_of v FromNeu_SetGear_ClutchT = v.FromNeu_SetGear_ClutchT
time_of v ToNeu_ZeroTorqueT = v.ToNeu_ZeroTorqueT
time_of v ToNeu_OpenClutchT = v.ToNeu_OpenClutchT
time_of v ToNeu_Release_ClutchT = v.ToNeu_Release_ClutchT
time_of v NoNeu_ZeroTorqueT = v.NoNeu_ZeroTorqueT
time_of v NoNeu_Release_NoClutchT = v.NoNeu_Release_NoClutchT
time_of v NoNeu_OpenClutch_ReleasingT = v.NoNeu_OpenClutch_ReleasingT
time_of v NoNeu_Release_ClutchT = v.NoNeu_Release_ClutchT
time_of v NoNeu_SetGear_ReleasingClutchT = v.NoNeu_SetGear_ReleasingClutchT
time_of v NoNeu_SetGear_SettingClutchT = v.NoNeu_SetGear_SettingClutchT
time_of v NoNeu_SyncSpeedT = v.NoNeu_SyncSpeedT
time_of v NoNeu_OpenClutch_SettingT = v.NoNeu_OpenClutch_SettingT
time_of v FromNeu_RequestOpenClutchT = v.FromNeu_RequestOpenClutchT
time_of v ToNeu_RequestOpenClutchT = v.ToNeu_RequestOpenClutchT
time_of v NoNeu_RequestOpenClutch_ReleasingT = v.NoNeu_RequestOpenClutch_ReleasingT
time_of v NoNeu_RequestOpenClutch_SettingT = v.NoNeu_RequestOpenClutch_SettingT
time_of v Engine_Request_SyncSpeedT = v.Engine_Request_SyncSpeedT
time_of v Engine_Request_ZeroTorqueT = v.Engine_Request_ZeroTorqueT
time_of v Clutch_Request_OpenT = v.Clutch_Request_OpenT
time_of v Clutch_Request_CloseT = v.Clutch_Request_CloseT
time_of v Gear_Request_ReleaseT = v.Gear_Request_ReleaseT
time_of v Gear_Request_SetT = v.Gear_Request_SetT
time_of v Engine_SyncSpeedT = v.Engine_SyncSpeedT
time_of v Engine_ZeroTorqueT = v.Engine_ZeroTorqueT
time_of v Clutch_OpenT = v.Clutch_OpenT
time_of v Clutch_CloseT = v.Clutch_CloseT
time_of v Gear_ReleaseT = v.Gear_ReleaseT
time_of v Gear_SetT = v.Gear_SetT

-- the variables with these values
abbrev pub variables : ℕ → Bool → (Flag → Bool) → (Time → ℕ) → Variables
variables now neutral f τ = record {
  time = now;
  RequestFromNeuT = τ RequestFromNeuT;
  RequestNoNeuT = τ RequestNoNeuT;
  RequestToNeuT = τ RequestToNeuT;
  isNeu = neutral;
  RequestFromNeu = f RequestFromNeu;
  RequestNoNeu = f RequestNoNeu;
  RequestToNeu = f RequestToNeu;
  FromNeu_SyncSpeed = f FromNeu_SyncSpeed;
  FromNeu_OpenClutch = f FromNeu_OpenClutch;
  FromNeu_SetGear_NoClutch = f FromNeu_SetGear_NoClutch;
  FromNeu_SetGear_Clutch = f FromNeu_SetGear_Clutch;
  FromNeu_CloseClutch = f FromNeu_CloseClutch;
  Error_FromNeu_OpenClutch = f Error_FromNeu_OpenClutch;
  Error_FromNeu_SetGear_NoClutch = f Error_FromNeu_SetGear_NoClutch;
  Error_FromNeu_SetGear_Clutch = f Error_FromNeu_SetGear_Clutch;
  Error_FromNeu_CloseClutch = f Error_FromNeu_CloseClutch;
  FromNeu_OpenClutchT = τ FromNeu_OpenClutchT;
  FromNeu_SyncSpeedT = τ FromNeu_SyncSpeedT;
  FromNeu_SetGear_ClutchT = τ FromNeu_SetGear_ClutchT;
  ToNeu_ZeroTorque = f ToNeu_ZeroTorque;
  ToNeu_OpenClutch = f ToNeu_OpenClutch;
  Error_ToNeu_OpenClutch = f Error_ToNeu_OpenClutch;
  ToNeu_Release_NoClutch = f ToNeu_Release_NoClutch;
  Error_ToNeu_Release_NoClutch = f Error_ToNeu_Release_NoClutch;
  ToNeu_Release_Clutch = f ToNeu_Release_Clutch;
  Error_ToNeu_Release_Clutch = f Error_ToNeu_Release_Clutch;
  ToNeu_CloseClutch = f ToNeu_CloseClutch;
  Error_ToNeu_CloseClutch = f Error_ToNeu_CloseClutch;
  ToNeu_ZeroTorqueT = τ ToNeu_ZeroTorqueT;
  ToNeu_OpenClutchT = τ ToNeu_OpenClutchT;
  ToNeu_Release_ClutchT = τ ToNeu_Release_ClutchT;
  NoNeu_ZeroTorque = f NoNeu_ZeroTorque;
  NoNeu_Release_NoClutch = f NoNeu_Release_NoClutch;
  NoNeu_OpenClutch_Releasing = f NoNeu_OpenClutch_Releasing;
  NoNeu_Release_Clutch = f NoNeu_Release_Clutch;
  NoNeu_SyncSpeed = f NoNeu_SyncSpeed;
  NoNeu_OpenClutch_Setting = f NoNeu_OpenClutch_Setting;
  NoNeu_SetGear_NoClutch = f NoNeu_SetGear_NoClutch;
  NoNeu_SetGear_ReleasingClutch = f NoNeu_SetGear_ReleasingClutch;
  NoNeu_SetGear_SettingClutch = f NoNeu_SetGear_SettingClutch;
  NoNeu_CloseClutch_Releasing = f NoNeu_CloseClutch_Releasing;
  NoNeu_CloseClutch_Setting = f NoNeu_CloseClutch_Setting;
  Error_NoNeu_OpenClutch_Releasing = f Error_NoNeu_OpenClutch_Releasing;
  Error_NoNeu_Release_Clutch = f Error_NoNeu_Release_Clutch;
  Error_NoNeu_Release_NoClutch = f Error_NoNeu_Release_NoClutch;
  Error_NoNeu_OpenClutch_Setting = f Error_NoNeu_OpenClutch_Setting;
  Error_NoNeu_SetGear_NoClutch = f Error_NoNeu_SetGear_NoClutch;
  Error_NoNeu_SetGear_ReleasingClutch = f Error_NoNeu_SetGear_ReleasingClutch;
  Error_NoNeu_SetGear_SettingClutch = f Error_NoNeu_SetGear_SettingClutch;
  Error_NoNeu_CloseClutch_Releasing = f Error_NoNeu_CloseClutch_Releasing;
  Error_NoNeu_CloseClutch_Setting = f Error_NoNeu_CloseClutch_Setting;
  NoNeu_ZeroTorqueT = τ NoNeu_ZeroTorqueT;
  NoNeu_Release_NoClutchT = τ NoNeu_Release_NoClutchT;
  NoNeu_OpenClutch_ReleasingT = τ NoNeu_OpenClutch_ReleasingT;
  NoNeu_Release_ClutchT = τ NoNeu_Release_ClutchT;
  NoNeu_SetGear_ReleasingClutchT = τ NoNeu_SetGear_ReleasingClutchT;
  NoNeu_SetGear_SettingClutchT = τ NoNeu_SetGear_SettingClutchT;
  NoNeu_SyncSpeedT = τ NoNeu_SyncSpeedT;
  NoNeu_OpenClutch_SettingT = τ NoNeu_OpenClutch_SettingT;
  Engine_SyncSpeed = f Engine_SyncSpeed;
  Engine_WaitForSyncClutch = f Engine_WaitForSyncClutch;
  Engine_ZeroTorque = f Engine_ZeroTorque;
  Engine_WaitForZeroClutch = f Engine_WaitForZeroClutch;
  Clutch_Open = f Clutch_Open;
  Error_Clutch_Open = f Error_Clutch_Open;
  Clutch_Close = f Clutch_Close;
  Error_Clutch_Close = f Error_Clutch_Close;
  Gear_Release = f Gear_Release;
  Error_Gear_Release = f Error_Gear_Release;
  Gear_Set = f Gear_Set;
  Error_Gear_Set = f Error_Gear_Set;
  FromNeu_RequestOpenClutch = f FromNeu_RequestOpenClutch;
  ToNeu_RequestOpenClutch = f ToNeu_RequestOpenClutch;
  NoNeu_RequestOpenClutch_Releasing = f NoNeu_RequestOpenClutch_Releasing;
  NoNeu_RequestOpenClutch_Setting = f NoNeu_RequestOpenClutch_Setting;
  FromNeu_RequestOpenClutchT = τ FromNeu_RequestOpenClutchT;
  ToNeu_RequestOpenClutchT = τ ToNeu_RequestOpenClutchT;
  NoNeu_RequestOpenClutch_ReleasingT = τ NoNeu_RequestOpenClutch_ReleasingT;
  NoNeu_RequestOpenClutch_SettingT = τ NoNeu_RequestOpenClutch_SettingT;
  Engine_Request_SyncSpeed = f Engine_Request_SyncSpeed;
  Engine_Request_ZeroTorque = f Engine_Request_ZeroTorque;
  Clutch_Request_Open = f Clutch_Request_Open;
  Clutch_Request_Close = f Clutch_Request_Close;
  Gear_Request_Release = f Gear_Request_Release;
  Gear_Request_Set = f Gear_Request_Set;
  Engine_Request_SyncSpeedT = τ Engine_Request_SyncSpeedT;
  Engine_Request_ZeroTorqueT = τ Engine_Request_ZeroTorqueT;
  Clutch_Request_OpenT = τ Clutch_Request_OpenT;
  Clutch_Request_CloseT = τ Clutch_Request_CloseT;
  Gear_Request_ReleaseT = τ Gear_Request_ReleaseT;
  Gear_Request_SetT = τ Gear_Request_SetT;
  Engine_SyncSpeedT = τ Engine_SyncSpeedT;
  Engine_ZeroTorqueT = τ Engine_ZeroTorqueT;
  Clutch_OpenT = τ Clutch_OpenT;
  Clutch_CloseT = τ Clutch_CloseT;
  Gear_ReleaseT = τ Gear_ReleaseT;
  Gear_SetT = τ Gear_SetT;
}

-- INITIALISATION: isNeu is TRUE, every flag FALSE, time and every time 0
abbrev pub initialisation : Variables
initialisation = variables 0 true (λ (f : Flag). false) (λ (τ : Time). 0)

-- ---- actions

-- a flag := TRUE
abbrev pub raise : Flag → Variables → Variables
raise f v =
    variables v.time v.isNeu (λ (g : Flag). eqb (flag_number f) (flag_number g) || flag v g) (time_of v)

-- a flag := FALSE
abbrev pub lower : Flag → Variables → Variables
lower f v =
    variables v.time v.isNeu (λ (g : Flag). not (eqb (flag_number f) (flag_number g)) && flag v g) (time_of v)

-- a time := time
abbrev pub stamp : Time → Variables → Variables
stamp τ v =
    variables v.time v.isNeu (flag v) (λ (σ : Time). cond (eqb (time_number τ) (time_number σ)) v.time (time_of v σ))

-- isNeu := b
abbrev pub set_neu : Bool → Variables → Variables
set_neu b v = variables v.time b (flag v) (time_of v)

-- time := time + tick
abbrev pub pass : ℕ → Variables → Variables
pass tick v = variables (v.time + tick) v.isNeu (flag v) (time_of v)
