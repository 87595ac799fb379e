-- Any two outcomes that a public contract of this crate allows are equal.
-- Assumes nothing.
use mathlib.Core.Path.{sym, ◌∙◌}
use Rattle.checks.specs.Determined.{Determined}
use Rattle.deadlines.proofs.phase_end.Reads as phase_end_reads
use Rattle.deadlines.proofs.device_limit.Reads as device_limit_reads
use Rattle.deadlines.proofs.deadline.Reads as deadline_reads
use Rattle.deadlines.proofs.late.Reads as late_reads
use Rattle.deadlines.proofs.over.Reads as over_reads
use Rattle.deadlines.proofs.enters.Reads as enters_reads

pub phase_end : Determined phase_end_reads.Post
phase_end κs a x y at at' p q = p ∙ sym q

pub device_limit : Determined device_limit_reads.Post
device_limit κs a x y at at' p q = p ∙ sym q

pub deadline : Determined deadline_reads.Post
deadline κs a x y at at' p q = p ∙ sym q

pub late : Determined late_reads.Post
late κs a x y at at' p q = p ∙ sym q

pub over : Determined over_reads.Post
over κs a x y at at' p q = p ∙ sym q

pub enters : Determined enters_reads.Post
enters κs a x y at at' p q = p ∙ sym q
