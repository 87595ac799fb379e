-- Any two outcomes that a public contract of this crate allows are equal, in the result and in the lent buffer.
-- Assumes nothing.
use Rattle.std.proofs.Common.{sym, ◌∙◌}
use Rattle.checks.specs.Determined.{Determined, DeterminedLent}
use Rattle.shiftlist.proofs.build.Reads as build_reads
use Rattle.shiftlist.proofs.fetch.Reads as fetch_reads
use Rattle.shiftlist.proofs.shift_at.Reads as shift_at_reads
use Rattle.shiftlist.proofs.lay.lay.Reads as lay_reads
use Rattle.shiftlist.proofs.walk.age_of.Reads as age_of_reads
use Rattle.shiftlist.proofs.Listed.long.Reads as long_reads
use Rattle.shiftlist.proofs.Listed.refused.Reads as refused_reads

pub build : DeterminedLent (λ κs at. at.1.0.now) build_reads.Post
build κs a x y at at' p q = (p.0 ∙ sym q.0, p.1 ∙ sym q.1)

pub refused : Determined refused_reads.Post
refused κs a x y at at' p q = p ∙ sym q

pub long : Determined long_reads.Post
long κs a x y at at' p q = p ∙ sym q

pub age_of : Determined age_of_reads.Post
age_of κs a x y at at' p q = p ∙ sym q

pub fetch : Determined fetch_reads.Post
fetch κs a x y at at' p q = p ∙ sym q

pub shift_at : Determined shift_at_reads.Post
shift_at κs a x y at at' p q = p ∙ sym q

pub lay : DeterminedLent (λ κs at. at.0.now) lay_reads.Post
lay κs a x y at at' p q = (p.0 ∙ sym q.0, p.1 ∙ sym q.1)
