-- Any two outcomes that a public contract of this crate allows are equal: the result, and the lent buffer at exit.
-- Assumes nothing.
use mathlib.Core.Path.{sym, ◌∙◌}
use Rattle.checks.specs.Determined.{Determined, DeterminedLent}
use Rattle.line.proofs.Determined as line
use Rattle.tabletext.proofs.AnswerLaws.{same_answer}
use Rattle.tabletext.proofs.lay.lay.Reads as lay_reads
use Rattle.tabletext.proofs.read.Reads as read_reads

pub read : Determined read_reads.Post
read κs a x y at at' p q = same_answer x y (p ∙ sym q)

pub lay : DeterminedLent (λ κs at. at.1.0.now) lay_reads.Post
lay κs a x y at at' p q = (line.same_answer x y (p.1.0 ∙ sym q.1.0), p.1.1 ∙ sym q.1.1)
