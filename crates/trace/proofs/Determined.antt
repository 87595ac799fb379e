-- Any two outcomes that the public contract of this crate allows are equal.
-- Assumes nothing.
use mathlib.Core.Path.{sym, ◌∙◌}
use Rattle.checks.specs.Determined.{Determined}
use Rattle.trace.proofs.phase_after.Reads as phase_after_reads

pub phase_after : Determined phase_after_reads.Post
phase_after κs a x y at at' p q = p ∙ sym q
