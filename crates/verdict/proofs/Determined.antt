-- Any two outcomes that a public contract of this crate allows are equal, in the result and in the lent buffer.
-- Assumes nothing.
use mathlib.Core.Path.{sym, ◌∙◌}
use Rattle.line.proofs.Determined.{same_answer}
use Rattle.checks.specs.Determined.{Determined, DeterminedLent}
use Rattle.verdict.proofs.judge.Reads as judge_reads
use Rattle.verdict.proofs.judge_records.Reads as judge_records_reads
use Rattle.verdict.proofs.line.Reads as line_reads_lem

pub judge : Determined judge_reads.Post
judge κs a x y at at' p q = p ∙ sym q

pub judge_records : Determined judge_records_reads.Post
judge_records κs a x y at at' p q = p ∙ sym q

pub line : DeterminedLent (λ κs at. at.1.0.now) line_reads_lem.Post
line κs a x y at at' p q = (same_answer x y (p.0 ∙ sym q.0), p.1 ∙ sym q.1)
