-- Any two outcomes that a public contract of this crate allows are equal.
-- Assumes nothing.
use mathlib.Core.Path.{sym, ◌∙◌}
use Rattle.checks.specs.Determined.{Determined}
use Rattle.gateway.proofs.advanced.Reads as advanced_reads
use Rattle.gateway.proofs.advanced_block.Reads as advanced_block_reads

pub advanced : Determined advanced_reads.Post
advanced κs a x y at at' p q = p ∙ sym q

pub advanced_block : Determined advanced_block_reads.Post
advanced_block κs a x y at at' p q = p ∙ sym q
