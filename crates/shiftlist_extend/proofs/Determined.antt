-- Any two outcomes that the public contract of this crate allows are equal, in the result and in the lent list.
-- Assumes nothing.
use mathlib.Core.Path.{sym, ◌∙◌}
use Rattle.checks.specs.Determined.{DeterminedLent}
use Rattle.shiftlist_extend.proofs.extend.Reads as extend_reads

pub extend : DeterminedLent (λ κs at. at.0.now) extend_reads.Post
extend κs a x y at at' p q = (p.0 ∙ sym q.0, p.1 ∙ sym q.1)
