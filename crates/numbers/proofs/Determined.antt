-- Any two outcomes that a public contract of this crate allows are equal, in the result and in the lent buffer.
-- Assumes nothing.
use mathlib.Core.Path.{refl, sym, ◌∙◌}
use Rattle.checks.specs.Determined.{Determined, DeterminedLent}
use Rattle.numbers.proofs.byte_at.Reads as byte_at_reads
use Rattle.numbers.proofs.u16_at.Reads as u16_at_reads
use Rattle.numbers.proofs.u32_at.Reads as u32_at_reads
use Rattle.numbers.proofs.put.Reads as put_reads
use Rattle.numbers.proofs.put32.Reads as put32_reads

pub byte_at : Determined byte_at_reads.Post
byte_at κs a x y at at' p q = p ∙ sym q

pub u16_at : Determined u16_at_reads.Post
u16_at κs a x y at at' p q = p ∙ sym q

pub u32_at : Determined u32_at_reads.Post
u32_at κs a x y at at' p q = p ∙ sym q

pub put : DeterminedLent (λ κs at. at.0.now) put_reads.Post
put κs a x y at at' p q = (refl, p ∙ sym q)

pub put32 : DeterminedLent (λ κs at. at.0.now) put32_reads.Post
put32 κs a x y at at' p q = (refl, p ∙ sym q)
