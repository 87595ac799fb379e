-- Any two outcomes that a public contract of this crate allows are equal.
-- Assumes nothing.
use mathlib.Core.Path.{sym, ◌∙◌}
use Rattle.checks.specs.Determined.{Determined}
use Rattle.munasirel_m9.proofs.munasirel_m9_start.Reads as start_reads
use Rattle.munasirel_m9.proofs.munasirel_m9_advance.Reads as advance_reads
use Rattle.munasirel_m9.proofs.munasirel_m9_reading.Reads as reading_reads

pub munasirel_m9_start : Determined start_reads.Post
munasirel_m9_start κs a x y at at' p q = p ∙ sym q

pub munasirel_m9_advance : Determined advance_reads.Post
munasirel_m9_advance κs a x y at at' p q = p ∙ sym q

pub munasirel_m9_reading : Determined reading_reads.Post
munasirel_m9_reading κs a x y at at' p q = p ∙ sym q
