-- The names of machine m9's variables but time and isNeu: flags and times, each with its number in the manual's list.
-- Assumes nothing.
use Rattle.std.specs.Prelude.{ℕ}

pub data Flag : Type 0 where
  RequestFromNeu : Flag
  RequestNoNeu : Flag
  RequestToNeu : Flag
  FromNeu_SyncSpeed : Flag
  FromNeu_OpenClutch : Flag
  FromNeu_SetGear_NoClutch : Flag
  FromNeu_SetGear_Clutch : Flag
  FromNeu_CloseClutch : Flag
  Error_FromNeu_OpenClutch : Flag
  Error_FromNeu_SetGear_NoClutch : Flag
  Error_FromNeu_SetGear_Clutch : Flag
  Error_FromNeu_CloseClutch : Flag
  ToNeu_ZeroTorque : Flag
  ToNeu_OpenClutch : Flag
  Error_ToNeu_OpenClutch : Flag
  ToNeu_Release_NoClutch : Flag
  Error_ToNeu_Release_NoClutch : Flag
  ToNeu_Release_Clutch : Flag
  Error_ToNeu_Release_Clutch : Flag
  ToNeu_CloseClutch : Flag
  Error_ToNeu_CloseClutch : Flag
  NoNeu_ZeroTorque : Flag
  NoNeu_Release_NoClutch : Flag
  NoNeu_OpenClutch_Releasing : Flag
  NoNeu_Release_Clutch : Flag
  NoNeu_SyncSpeed : Flag
  NoNeu_OpenClutch_Setting : Flag
  NoNeu_SetGear_NoClutch : Flag
  NoNeu_SetGear_ReleasingClutch : Flag
  NoNeu_SetGear_SettingClutch : Flag
  NoNeu_CloseClutch_Releasing : Flag
  NoNeu_CloseClutch_Setting : Flag
  Error_NoNeu_OpenClutch_Releasing : Flag
  Error_NoNeu_Release_Clutch : Flag
  Error_NoNeu_Release_NoClutch : Flag
  Error_NoNeu_OpenClutch_Setting : Flag
  Error_NoNeu_SetGear_NoClutch : Flag
  Error_NoNeu_SetGear_ReleasingClutch : Flag
  Error_NoNeu_SetGear_SettingClutch : Flag
  Error_NoNeu_CloseClutch_Releasing : Flag
  Error_NoNeu_CloseClutch_Setting : Flag
  Engine_SyncSpeed : Flag
  Engine_WaitForSyncClutch : Flag
  Engine_ZeroTorque : Flag
  Engine_WaitForZeroClutch : Flag
  Clutch_Open : Flag
  Error_Clutch_Open : Flag
  Clutch_Close : Flag
  Error_Clutch_Close : Flag
  Gear_Release : Flag
  Error_Gear_Release : Flag
  Gear_Set : Flag
  Error_Gear_Set : Flag
  FromNeu_RequestOpenClutch : Flag
  ToNeu_RequestOpenClutch : Flag
  NoNeu_RequestOpenClutch_Releasing : Flag
  NoNeu_RequestOpenClutch_Setting : Flag
  Engine_Request_SyncSpeed : Flag
  Engine_Request_ZeroTorque : Flag
  Clutch_Request_Open : Flag
  Clutch_Request_Close : Flag
  Gear_Request_Release : Flag
  Gear_Request_Set : Flag

pub data Time : Type 0 where
  RequestFromNeuT : Time
  RequestNoNeuT : Time
  RequestToNeuT : Time
  FromNeu_OpenClutchT : Time
  FromNeu_SyncSpeedT : Time
  FromNeu_SetGear_ClutchT : Time
  ToNeu_ZeroTorqueT : Time
  ToNeu_OpenClutchT : Time
  ToNeu_Release_ClutchT : Time
  NoNeu_ZeroTorqueT : Time
  NoNeu_Release_NoClutchT : Time
  NoNeu_OpenClutch_ReleasingT : Time
  NoNeu_Release_ClutchT : Time
  NoNeu_SetGear_ReleasingClutchT : Time
  NoNeu_SetGear_SettingClutchT : Time
  NoNeu_SyncSpeedT : Time
  NoNeu_OpenClutch_SettingT : Time
  FromNeu_RequestOpenClutchT : Time
  ToNeu_RequestOpenClutchT : Time
  NoNeu_RequestOpenClutch_ReleasingT : Time
  NoNeu_RequestOpenClutch_SettingT : Time
  Engine_Request_SyncSpeedT : Time
  Engine_Request_ZeroTorqueT : Time
  Clutch_Request_OpenT : Time
  Clutch_Request_CloseT : Time
  Gear_Request_ReleaseT : Time
  Gear_Request_SetT : Time
  Engine_SyncSpeedT : Time
  Engine_ZeroTorqueT : Time
  Clutch_OpenT : Time
  Clutch_CloseT : Time
  Gear_ReleaseT : Time
  Gear_SetT : Time

abbrev pub flag_number : Flag → ℕ
flag_number RequestFromNeu = 6
flag_number RequestNoNeu = 7
flag_number RequestToNeu = 8
flag_number FromNeu_SyncSpeed = 9
flag_number FromNeu_OpenClutch = 10
flag_number FromNeu_SetGear_NoClutch = 11
flag_number FromNeu_SetGear_Clutch = 12
flag_number FromNeu_CloseClutch = 13
flag_number Error_FromNeu_OpenClutch = 14
flag_number Error_FromNeu_SetGear_NoClutch = 15
flag_number Error_FromNeu_SetGear_Clutch = 16
flag_number Error_FromNeu_CloseClutch = 17
flag_number ToNeu_ZeroTorque = 21
flag_number ToNeu_OpenClutch = 22
flag_number Error_ToNeu_OpenClutch = 23
flag_number ToNeu_Release_NoClutch = 24
flag_number Error_ToNeu_Release_NoClutch = 25
flag_number ToNeu_Release_Clutch = 26
flag_number Error_ToNeu_Release_Clutch = 27
flag_number ToNeu_CloseClutch = 28
flag_number Error_ToNeu_CloseClutch = 29
flag_number NoNeu_ZeroTorque = 33
flag_number NoNeu_Release_NoClutch = 34
flag_number NoNeu_OpenClutch_Releasing = 35
flag_number NoNeu_Release_Clutch = 36
flag_number NoNeu_SyncSpeed = 37
flag_number NoNeu_OpenClutch_Setting = 38
flag_number NoNeu_SetGear_NoClutch = 39
flag_number NoNeu_SetGear_ReleasingClutch = 40
flag_number NoNeu_SetGear_SettingClutch = 41
flag_number NoNeu_CloseClutch_Releasing = 42
flag_number NoNeu_CloseClutch_Setting = 43
flag_number Error_NoNeu_OpenClutch_Releasing = 44
flag_number Error_NoNeu_Release_Clutch = 45
flag_number Error_NoNeu_Release_NoClutch = 46
flag_number Error_NoNeu_OpenClutch_Setting = 47
flag_number Error_NoNeu_SetGear_NoClutch = 48
flag_number Error_NoNeu_SetGear_ReleasingClutch = 49
flag_number Error_NoNeu_SetGear_SettingClutch = 50
flag_number Error_NoNeu_CloseClutch_Releasing = 51
flag_number Error_NoNeu_CloseClutch_Setting = 52
flag_number Engine_SyncSpeed = 61
flag_number Engine_WaitForSyncClutch = 62
flag_number Engine_ZeroTorque = 63
flag_number Engine_WaitForZeroClutch = 64
flag_number Clutch_Open = 65
flag_number Error_Clutch_Open = 66
flag_number Clutch_Close = 67
flag_number Error_Clutch_Close = 68
flag_number Gear_Release = 69
flag_number Error_Gear_Release = 70
flag_number Gear_Set = 71
flag_number Error_Gear_Set = 72
flag_number FromNeu_RequestOpenClutch = 73
flag_number ToNeu_RequestOpenClutch = 74
flag_number NoNeu_RequestOpenClutch_Releasing = 75
flag_number NoNeu_RequestOpenClutch_Setting = 76
flag_number Engine_Request_SyncSpeed = 81
flag_number Engine_Request_ZeroTorque = 82
flag_number Clutch_Request_Open = 83
flag_number Clutch_Request_Close = 84
flag_number Gear_Request_Release = 85
flag_number Gear_Request_Set = 86

abbrev pub time_number : Time → ℕ
time_number RequestFromNeuT = 2
time_number RequestNoNeuT = 3
time_number RequestToNeuT = 4
time_number FromNeu_OpenClutchT = 18
time_number FromNeu_SyncSpeedT = 19
time_number FromNeu_SetGear_ClutchT = 20
time_number ToNeu_ZeroTorqueT = 30
time_number ToNeu_OpenClutchT = 31
time_number ToNeu_Release_ClutchT = 32
time_number NoNeu_ZeroTorqueT = 53
time_number NoNeu_Release_NoClutchT = 54
time_number NoNeu_OpenClutch_ReleasingT = 55
time_number NoNeu_Release_ClutchT = 56
time_number NoNeu_SetGear_ReleasingClutchT = 57
time_number NoNeu_SetGear_SettingClutchT = 58
time_number NoNeu_SyncSpeedT = 59
time_number NoNeu_OpenClutch_SettingT = 60
time_number FromNeu_RequestOpenClutchT = 77
time_number ToNeu_RequestOpenClutchT = 78
time_number NoNeu_RequestOpenClutch_ReleasingT = 79
time_number NoNeu_RequestOpenClutch_SettingT = 80
time_number Engine_Request_SyncSpeedT = 87
time_number Engine_Request_ZeroTorqueT = 88
time_number Clutch_Request_OpenT = 89
time_number Clutch_Request_CloseT = 90
time_number Gear_Request_ReleaseT = 91
time_number Gear_Request_SetT = 92
time_number Engine_SyncSpeedT = 93
time_number Engine_ZeroTorqueT = 94
time_number Clutch_OpenT = 95
time_number Clutch_CloseT = 96
time_number Gear_ReleaseT = 97
time_number Gear_SetT = 98
