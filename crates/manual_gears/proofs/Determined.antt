-- Any two outcomes that a public contract of this crate allows are equal.
-- Assumes nothing.
use mathlib.Core.Path.{sym, ◌∙◌}
use Rattle.checks.specs.Determined.{Determined}
use Rattle.manual_gears.proofs.NoNeu_ZeroTorque.Reads as NoNeu_ZeroTorque_reads
use Rattle.manual_gears.proofs.NoNeu_RequestOpenClutch_Releasing.Reads as NoNeu_RequestOpenClutch_Releasing_reads
use Rattle.manual_gears.proofs.NoNeu_OpenClutch_Releasing.Reads as NoNeu_OpenClutch_Releasing_reads
use Rattle.manual_gears.proofs.Error_NoNeu_OpenClutch_Releasing.Reads as Error_NoNeu_OpenClutch_Releasing_reads
use Rattle.manual_gears.proofs.NoNeu_Release_NoClutch.Reads as NoNeu_Release_NoClutch_reads
use Rattle.manual_gears.proofs.Error_NoNeu_Release_NoClutch.Reads as Error_NoNeu_Release_NoClutch_reads
use Rattle.manual_gears.proofs.NoNeu_Release_Clutch.Reads as NoNeu_Release_Clutch_reads
use Rattle.manual_gears.proofs.Error_NoNeu_Release_Clutch.Reads as Error_NoNeu_Release_Clutch_reads
use Rattle.manual_gears.proofs.NoNeu_SyncSpeed.Reads as NoNeu_SyncSpeed_reads
use Rattle.manual_gears.proofs.NoNeu_RequestOpenClutch_Setting.Reads as NoNeu_RequestOpenClutch_Setting_reads
use Rattle.manual_gears.proofs.NoNeu_OpenClutch_Setting.Reads as NoNeu_OpenClutch_Setting_reads
use Rattle.manual_gears.proofs.Error_NoNeu_OpenClutch_Setting.Reads as Error_NoNeu_OpenClutch_Setting_reads
use Rattle.manual_gears.proofs.NoNeu_SetGear_NoClutch.Reads as NoNeu_SetGear_NoClutch_reads
use Rattle.manual_gears.proofs.Error_NoNeu_SetGear_NoClutch.Reads as Error_NoNeu_SetGear_NoClutch_reads
use Rattle.manual_gears.proofs.NoNeu_SetGear_ReleasingClutch.Reads as NoNeu_SetGear_ReleasingClutch_reads
use Rattle.manual_gears.proofs.Error_NoNeu_SetGear_ReleasingClutch.Reads as Error_NoNeu_SetGear_ReleasingClutch_reads
use Rattle.manual_gears.proofs.NoNeu_SetGear_SettingClutch.Reads as NoNeu_SetGear_SettingClutch_reads
use Rattle.manual_gears.proofs.Error_NoNeu_SetGear_SettingClutch.Reads as Error_NoNeu_SetGear_SettingClutch_reads
use Rattle.manual_gears.proofs.NoNeu_CloseClutch_Setting.Reads as NoNeu_CloseClutch_Setting_reads
use Rattle.manual_gears.proofs.Error_NoNeu_CloseClutch_Setting.Reads as Error_NoNeu_CloseClutch_Setting_reads
use Rattle.manual_gears.proofs.NoNeu_CloseClutch_Releasing.Reads as NoNeu_CloseClutch_Releasing_reads
use Rattle.manual_gears.proofs.Error_NoNeu_CloseClutch_Releasing.Reads as Error_NoNeu_CloseClutch_Releasing_reads

pub NoNeu_ZeroTorque : Determined NoNeu_ZeroTorque_reads.Post
NoNeu_ZeroTorque κs a x y at at' p q = p ∙ sym q

pub NoNeu_RequestOpenClutch_Releasing : Determined NoNeu_RequestOpenClutch_Releasing_reads.Post
NoNeu_RequestOpenClutch_Releasing κs a x y at at' p q = p ∙ sym q

pub NoNeu_OpenClutch_Releasing : Determined NoNeu_OpenClutch_Releasing_reads.Post
NoNeu_OpenClutch_Releasing κs a x y at at' p q = p ∙ sym q

pub Error_NoNeu_OpenClutch_Releasing : Determined Error_NoNeu_OpenClutch_Releasing_reads.Post
Error_NoNeu_OpenClutch_Releasing κs a x y at at' p q = p ∙ sym q

pub NoNeu_Release_NoClutch : Determined NoNeu_Release_NoClutch_reads.Post
NoNeu_Release_NoClutch κs a x y at at' p q = p ∙ sym q

pub Error_NoNeu_Release_NoClutch : Determined Error_NoNeu_Release_NoClutch_reads.Post
Error_NoNeu_Release_NoClutch κs a x y at at' p q = p ∙ sym q

pub NoNeu_Release_Clutch : Determined NoNeu_Release_Clutch_reads.Post
NoNeu_Release_Clutch κs a x y at at' p q = p ∙ sym q

pub Error_NoNeu_Release_Clutch : Determined Error_NoNeu_Release_Clutch_reads.Post
Error_NoNeu_Release_Clutch κs a x y at at' p q = p ∙ sym q

pub NoNeu_SyncSpeed : Determined NoNeu_SyncSpeed_reads.Post
NoNeu_SyncSpeed κs a x y at at' p q = p ∙ sym q

pub NoNeu_RequestOpenClutch_Setting : Determined NoNeu_RequestOpenClutch_Setting_reads.Post
NoNeu_RequestOpenClutch_Setting κs a x y at at' p q = p ∙ sym q

pub NoNeu_OpenClutch_Setting : Determined NoNeu_OpenClutch_Setting_reads.Post
NoNeu_OpenClutch_Setting κs a x y at at' p q = p ∙ sym q

pub Error_NoNeu_OpenClutch_Setting : Determined Error_NoNeu_OpenClutch_Setting_reads.Post
Error_NoNeu_OpenClutch_Setting κs a x y at at' p q = p ∙ sym q

pub NoNeu_SetGear_NoClutch : Determined NoNeu_SetGear_NoClutch_reads.Post
NoNeu_SetGear_NoClutch κs a x y at at' p q = p ∙ sym q

pub Error_NoNeu_SetGear_NoClutch : Determined Error_NoNeu_SetGear_NoClutch_reads.Post
Error_NoNeu_SetGear_NoClutch κs a x y at at' p q = p ∙ sym q

pub NoNeu_SetGear_ReleasingClutch : Determined NoNeu_SetGear_ReleasingClutch_reads.Post
NoNeu_SetGear_ReleasingClutch κs a x y at at' p q = p ∙ sym q

pub Error_NoNeu_SetGear_ReleasingClutch : Determined Error_NoNeu_SetGear_ReleasingClutch_reads.Post
Error_NoNeu_SetGear_ReleasingClutch κs a x y at at' p q = p ∙ sym q

pub NoNeu_SetGear_SettingClutch : Determined NoNeu_SetGear_SettingClutch_reads.Post
NoNeu_SetGear_SettingClutch κs a x y at at' p q = p ∙ sym q

pub Error_NoNeu_SetGear_SettingClutch : Determined Error_NoNeu_SetGear_SettingClutch_reads.Post
Error_NoNeu_SetGear_SettingClutch κs a x y at at' p q = p ∙ sym q

pub NoNeu_CloseClutch_Setting : Determined NoNeu_CloseClutch_Setting_reads.Post
NoNeu_CloseClutch_Setting κs a x y at at' p q = p ∙ sym q

pub Error_NoNeu_CloseClutch_Setting : Determined Error_NoNeu_CloseClutch_Setting_reads.Post
Error_NoNeu_CloseClutch_Setting κs a x y at at' p q = p ∙ sym q

pub NoNeu_CloseClutch_Releasing : Determined NoNeu_CloseClutch_Releasing_reads.Post
NoNeu_CloseClutch_Releasing κs a x y at at' p q = p ∙ sym q

pub Error_NoNeu_CloseClutch_Releasing : Determined Error_NoNeu_CloseClutch_Releasing_reads.Post
Error_NoNeu_CloseClutch_Releasing κs a x y at at' p q = p ∙ sym q
