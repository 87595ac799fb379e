-- Any two outcomes that a public contract of this crate allows are equal.
-- Assumes nothing.
use mathlib.Core.Path.{sym, ◌∙◌}
use Rattle.checks.specs.Determined.{Determined}
use Rattle.manual_reading.proofs.reading.Reads as reading_reads

pub reading : Determined reading_reads.Post
reading κs a x y at at' p q = p ∙ sym q
