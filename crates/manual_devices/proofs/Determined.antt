-- Any two outcomes that a public contract of this crate allows are equal.
-- Assumes nothing.
use mathlib.Core.Path.{sym, ◌∙◌}
use Rattle.checks.specs.Determined.{Determined}
use Rattle.manual_devices.proofs.RequestFromNeu.Reads as RequestFromNeu_reads
use Rattle.manual_devices.proofs.RequestNoNeu.Reads as RequestNoNeu_reads
use Rattle.manual_devices.proofs.RequestToNeu.Reads as RequestToNeu_reads
use Rattle.manual_devices.proofs.Engine_Request_SyncSpeed.Reads as Engine_Request_SyncSpeed_reads
use Rattle.manual_devices.proofs.Engine_SyncSpeed.Reads as Engine_SyncSpeed_reads
use Rattle.manual_devices.proofs.Engine_WaitForSyncClutch.Reads as Engine_WaitForSyncClutch_reads
use Rattle.manual_devices.proofs.Engine_Request_ZeroTorque.Reads as Engine_Request_ZeroTorque_reads
use Rattle.manual_devices.proofs.Engine_ZeroTorque.Reads as Engine_ZeroTorque_reads
use Rattle.manual_devices.proofs.Engine_WaitForZeroClutch.Reads as Engine_WaitForZeroClutch_reads
use Rattle.manual_devices.proofs.Clutch_Request_Open.Reads as Clutch_Request_Open_reads
use Rattle.manual_devices.proofs.Clutch_Open.Reads as Clutch_Open_reads
use Rattle.manual_devices.proofs.Error_Clutch_Open.Reads as Error_Clutch_Open_reads
use Rattle.manual_devices.proofs.Clutch_Request_Close.Reads as Clutch_Request_Close_reads
use Rattle.manual_devices.proofs.Clutch_Close.Reads as Clutch_Close_reads
use Rattle.manual_devices.proofs.Error_Clutch_Close.Reads as Error_Clutch_Close_reads
use Rattle.manual_devices.proofs.Gear_Request_Release.Reads as Gear_Request_Release_reads
use Rattle.manual_devices.proofs.Gear_Release.Reads as Gear_Release_reads
use Rattle.manual_devices.proofs.Error_Gear_Release.Reads as Error_Gear_Release_reads
use Rattle.manual_devices.proofs.Gear_Request_Set.Reads as Gear_Request_Set_reads
use Rattle.manual_devices.proofs.Gear_Set.Reads as Gear_Set_reads
use Rattle.manual_devices.proofs.Error_Gear_Set.Reads as Error_Gear_Set_reads
use Rattle.manual_devices.proofs.FINAL.Reads as FINAL_reads
use Rattle.manual_devices.proofs.RESET.Reads as RESET_reads

pub RequestFromNeu : Determined RequestFromNeu_reads.Post
RequestFromNeu κs a x y at at' p q = p ∙ sym q

pub RequestNoNeu : Determined RequestNoNeu_reads.Post
RequestNoNeu κs a x y at at' p q = p ∙ sym q

pub RequestToNeu : Determined RequestToNeu_reads.Post
RequestToNeu κs a x y at at' p q = p ∙ sym q

pub Engine_Request_SyncSpeed : Determined Engine_Request_SyncSpeed_reads.Post
Engine_Request_SyncSpeed κs a x y at at' p q = p ∙ sym q

pub Engine_SyncSpeed : Determined Engine_SyncSpeed_reads.Post
Engine_SyncSpeed κs a x y at at' p q = p ∙ sym q

pub Engine_WaitForSyncClutch : Determined Engine_WaitForSyncClutch_reads.Post
Engine_WaitForSyncClutch κs a x y at at' p q = p ∙ sym q

pub Engine_Request_ZeroTorque : Determined Engine_Request_ZeroTorque_reads.Post
Engine_Request_ZeroTorque κs a x y at at' p q = p ∙ sym q

pub Engine_ZeroTorque : Determined Engine_ZeroTorque_reads.Post
Engine_ZeroTorque κs a x y at at' p q = p ∙ sym q

pub Engine_WaitForZeroClutch : Determined Engine_WaitForZeroClutch_reads.Post
Engine_WaitForZeroClutch κs a x y at at' p q = p ∙ sym q

pub Clutch_Request_Open : Determined Clutch_Request_Open_reads.Post
Clutch_Request_Open κs a x y at at' p q = p ∙ sym q

pub Clutch_Open : Determined Clutch_Open_reads.Post
Clutch_Open κs a x y at at' p q = p ∙ sym q

pub Error_Clutch_Open : Determined Error_Clutch_Open_reads.Post
Error_Clutch_Open κs a x y at at' p q = p ∙ sym q

pub Clutch_Request_Close : Determined Clutch_Request_Close_reads.Post
Clutch_Request_Close κs a x y at at' p q = p ∙ sym q

pub Clutch_Close : Determined Clutch_Close_reads.Post
Clutch_Close κs a x y at at' p q = p ∙ sym q

pub Error_Clutch_Close : Determined Error_Clutch_Close_reads.Post
Error_Clutch_Close κs a x y at at' p q = p ∙ sym q

pub Gear_Request_Release : Determined Gear_Request_Release_reads.Post
Gear_Request_Release κs a x y at at' p q = p ∙ sym q

pub Gear_Release : Determined Gear_Release_reads.Post
Gear_Release κs a x y at at' p q = p ∙ sym q

pub Error_Gear_Release : Determined Error_Gear_Release_reads.Post
Error_Gear_Release κs a x y at at' p q = p ∙ sym q

pub Gear_Request_Set : Determined Gear_Request_Set_reads.Post
Gear_Request_Set κs a x y at at' p q = p ∙ sym q

pub Gear_Set : Determined Gear_Set_reads.Post
Gear_Set κs a x y at at' p q = p ∙ sym q

pub Error_Gear_Set : Determined Error_Gear_Set_reads.Post
Error_Gear_Set κs a x y at at' p q = p ∙ sym q

pub FINAL : Determined FINAL_reads.Post
FINAL κs a x y at at' p q = p ∙ sym q

pub RESET : Determined RESET_reads.Post
RESET κs a x y at at' p q = p ∙ sym q
