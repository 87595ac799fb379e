-- Any two outcomes that a public contract of this crate allows are equal.
-- Assumes nothing.
use mathlib.Core.Path.{sym, ◌∙◌}
use Rattle.checks.specs.Determined.{Determined}
use Rattle.manual_neutral.proofs.FromNeu_SyncSpeed.Reads as FromNeu_SyncSpeed_reads
use Rattle.manual_neutral.proofs.FromNeu_RequestOpenClutch.Reads as FromNeu_RequestOpenClutch_reads
use Rattle.manual_neutral.proofs.FromNeu_OpenClutch.Reads as FromNeu_OpenClutch_reads
use Rattle.manual_neutral.proofs.Error_FromNeu_OpenClutch.Reads as Error_FromNeu_OpenClutch_reads
use Rattle.manual_neutral.proofs.FromNeu_SetGear_NoClutch.Reads as FromNeu_SetGear_NoClutch_reads
use Rattle.manual_neutral.proofs.Error_FromNeu_SetGear_NoClutch.Reads as Error_FromNeu_SetGear_NoClutch_reads
use Rattle.manual_neutral.proofs.FromNeu_SetGear_Clutch.Reads as FromNeu_SetGear_Clutch_reads
use Rattle.manual_neutral.proofs.Error_FromNeu_SetGear_Clutch.Reads as Error_FromNeu_SetGear_Clutch_reads
use Rattle.manual_neutral.proofs.FromNeu_CloseClutch.Reads as FromNeu_CloseClutch_reads
use Rattle.manual_neutral.proofs.Error_FromNeu_CloseClutch.Reads as Error_FromNeu_CloseClutch_reads
use Rattle.manual_neutral.proofs.ToNeu_ZeroTorque.Reads as ToNeu_ZeroTorque_reads
use Rattle.manual_neutral.proofs.ToNeu_RequestOpenClutch.Reads as ToNeu_RequestOpenClutch_reads
use Rattle.manual_neutral.proofs.ToNeu_OpenClutch.Reads as ToNeu_OpenClutch_reads
use Rattle.manual_neutral.proofs.Error_ToNeu_OpenClutch.Reads as Error_ToNeu_OpenClutch_reads
use Rattle.manual_neutral.proofs.ToNeu_Release_NoClutch.Reads as ToNeu_Release_NoClutch_reads
use Rattle.manual_neutral.proofs.Error_ToNeu_Release_NoClutch.Reads as Error_ToNeu_Release_NoClutch_reads
use Rattle.manual_neutral.proofs.ToNeu_Release_Clutch.Reads as ToNeu_Release_Clutch_reads
use Rattle.manual_neutral.proofs.Error_ToNeu_Release_Clutch.Reads as Error_ToNeu_Release_Clutch_reads
use Rattle.manual_neutral.proofs.ToNeu_CloseClutch.Reads as ToNeu_CloseClutch_reads
use Rattle.manual_neutral.proofs.Error_ToNeu_CloseClutch.Reads as Error_ToNeu_CloseClutch_reads

pub FromNeu_SyncSpeed : Determined FromNeu_SyncSpeed_reads.Post
FromNeu_SyncSpeed κs a x y at at' p q = p ∙ sym q

pub FromNeu_RequestOpenClutch : Determined FromNeu_RequestOpenClutch_reads.Post
FromNeu_RequestOpenClutch κs a x y at at' p q = p ∙ sym q

pub FromNeu_OpenClutch : Determined FromNeu_OpenClutch_reads.Post
FromNeu_OpenClutch κs a x y at at' p q = p ∙ sym q

pub Error_FromNeu_OpenClutch : Determined Error_FromNeu_OpenClutch_reads.Post
Error_FromNeu_OpenClutch κs a x y at at' p q = p ∙ sym q

pub FromNeu_SetGear_NoClutch : Determined FromNeu_SetGear_NoClutch_reads.Post
FromNeu_SetGear_NoClutch κs a x y at at' p q = p ∙ sym q

pub Error_FromNeu_SetGear_NoClutch : Determined Error_FromNeu_SetGear_NoClutch_reads.Post
Error_FromNeu_SetGear_NoClutch κs a x y at at' p q = p ∙ sym q

pub FromNeu_SetGear_Clutch : Determined FromNeu_SetGear_Clutch_reads.Post
FromNeu_SetGear_Clutch κs a x y at at' p q = p ∙ sym q

pub Error_FromNeu_SetGear_Clutch : Determined Error_FromNeu_SetGear_Clutch_reads.Post
Error_FromNeu_SetGear_Clutch κs a x y at at' p q = p ∙ sym q

pub FromNeu_CloseClutch : Determined FromNeu_CloseClutch_reads.Post
FromNeu_CloseClutch κs a x y at at' p q = p ∙ sym q

pub Error_FromNeu_CloseClutch : Determined Error_FromNeu_CloseClutch_reads.Post
Error_FromNeu_CloseClutch κs a x y at at' p q = p ∙ sym q

pub ToNeu_ZeroTorque : Determined ToNeu_ZeroTorque_reads.Post
ToNeu_ZeroTorque κs a x y at at' p q = p ∙ sym q

pub ToNeu_RequestOpenClutch : Determined ToNeu_RequestOpenClutch_reads.Post
ToNeu_RequestOpenClutch κs a x y at at' p q = p ∙ sym q

pub ToNeu_OpenClutch : Determined ToNeu_OpenClutch_reads.Post
ToNeu_OpenClutch κs a x y at at' p q = p ∙ sym q

pub Error_ToNeu_OpenClutch : Determined Error_ToNeu_OpenClutch_reads.Post
Error_ToNeu_OpenClutch κs a x y at at' p q = p ∙ sym q

pub ToNeu_Release_NoClutch : Determined ToNeu_Release_NoClutch_reads.Post
ToNeu_Release_NoClutch κs a x y at at' p q = p ∙ sym q

pub Error_ToNeu_Release_NoClutch : Determined Error_ToNeu_Release_NoClutch_reads.Post
Error_ToNeu_Release_NoClutch κs a x y at at' p q = p ∙ sym q

pub ToNeu_Release_Clutch : Determined ToNeu_Release_Clutch_reads.Post
ToNeu_Release_Clutch κs a x y at at' p q = p ∙ sym q

pub Error_ToNeu_Release_Clutch : Determined Error_ToNeu_Release_Clutch_reads.Post
Error_ToNeu_Release_Clutch κs a x y at at' p q = p ∙ sym q

pub ToNeu_CloseClutch : Determined ToNeu_CloseClutch_reads.Post
ToNeu_CloseClutch κs a x y at at' p q = p ∙ sym q

pub Error_ToNeu_CloseClutch : Determined Error_ToNeu_CloseClutch_reads.Post
Error_ToNeu_CloseClutch κs a x y at at' p q = p ∙ sym q
