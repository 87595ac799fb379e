-- Any two outcomes that a public contract of this crate allows are equal.
-- Assumes nothing.
use mathlib.Core.Path.{sym, ◌∙◌}
use Rattle.checks.specs.Determined.{Determined}
use Rattle.times.proofs.overruns.Reads as overruns_reads
use Rattle.times.proofs.passes.Reads as passes_reads
use Rattle.times.proofs.is_late.Reads as is_late_reads
use Rattle.times.proofs.is_early.Reads as is_early_reads
use Rattle.times.proofs.bound.Reads as bound_reads
use Rattle.times.proofs.beyond.Reads as beyond_reads

pub overruns : Determined overruns_reads.Post
overruns κs a x y at at' p q = p ∙ sym q

pub passes : Determined passes_reads.Post
passes κs a x y at at' p q = p ∙ sym q

pub is_late : Determined is_late_reads.Post
is_late κs a x y at at' p q = p ∙ sym q

pub is_early : Determined is_early_reads.Post
is_early κs a x y at at' p q = p ∙ sym q

pub bound : Determined bound_reads.Post
bound κs a x y at at' p q = p ∙ sym q

pub beyond : Determined beyond_reads.Post
beyond κs a x y at at' p q = p ∙ sym q
