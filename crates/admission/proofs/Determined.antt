-- Any two outcomes that a public contract of this crate allows are equal.
-- Assumes nothing.
use mathlib.Core.Path.{sym, ◌∙◌}
use Rattle.checks.specs.Determined.{Determined}
use Rattle.admission.proofs.first_tighter.Reads as first_tighter_reads
use Rattle.admission.proofs.is_broken.Reads as is_broken_reads
use Rattle.admission.proofs.is_strict.Reads as is_strict_reads
use Rattle.admission.proofs.is_tighter.Reads as is_tighter_reads
use Rattle.admission.proofs.left_side.Reads as left_side_reads
use Rattle.admission.proofs.right_entry.Reads as right_entry_reads
use Rattle.admission.proofs.sums.Reads as sums_reads

pub is_tighter : Determined is_tighter_reads.Post
is_tighter κs a x y at at' p q = p ∙ sym q

pub first_tighter_lem : Determined first_tighter_reads.Post
first_tighter_lem κs a x y at at' p q = p ∙ sym q

pub is_broken_lem : Determined is_broken_reads.Post
is_broken_lem κs a x y at at' p q = p ∙ sym q

pub is_strict : Determined is_strict_reads.Post
is_strict κs a x y at at' p q = p ∙ sym q

pub sums : Determined sums_reads.Post
sums κs a x y at at' p q = p ∙ sym q

pub left_side : Determined left_side_reads.Post
left_side κs a x y at at' p q = p ∙ sym q

pub right_entry : Determined right_entry_reads.Post
right_entry κs a x y at at' p q = p ∙ sym q
