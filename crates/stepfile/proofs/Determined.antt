-- Any two outcomes that a public contract of this crate allows are equal: the result, of the writer the buffer at exit too, and of a
-- part that is handed back its content.
-- Assumes nothing.
use mathlib.Core.Path.{sym, ◌∙◌}
use Rattle.checks.specs.Determined.{Determined, DeterminedLent, DeterminedPart}
use Rattle.stepfile.proofs.FileLaws.{one_answer}
use Rattle.stepfile.proofs.WriteLaws.{one_answer as one_write}
use Rattle.stepfile.proofs.Unread.number.Reads as unread_number_reads
use Rattle.stepfile.proofs.Unread.rule.Reads as unread_rule_reads
use Rattle.stepfile.proofs.from_offset.Reads as from_offset_reads
use Rattle.stepfile.proofs.record.Reads as record_reads
use Rattle.stepfile.proofs.record_refusal.Reads as record_refusal_reads
use Rattle.stepfile.proofs.records.Reads as records_reads
use Rattle.stepfile.proofs.refused.Reads as refused_reads
use Rattle.stepfile.proofs.table.Reads as table_reads
use Rattle.stepfile.proofs.write.Unwritten.index.Reads as index_reads
use Rattle.stepfile.proofs.write.Unwritten.number.Reads as number_reads
use Rattle.stepfile.proofs.write.Unwritten.rule.Reads as rule_reads
use Rattle.stepfile.proofs.write.entries_for.Reads as entries_for_reads
use Rattle.stepfile.proofs.write.most_for.Reads as most_for_reads
use Rattle.stepfile.proofs.write.write.Reads as write_reads

pub refused : Determined refused_reads.Post
refused κs a x y at at' p q = one_answer x y (p ∙ sym q)

pub table : Determined table_reads.Post
table κs a x y at at' p q = p ∙ sym q

pub record_of : Determined record_reads.Post
record_of κs a x y at at' p q = p ∙ sym q

pub record_refusal : Determined record_refusal_reads.Post
record_refusal κs a x y at at' p q = p ∙ sym q

pub entries_for : Determined entries_for_reads.Post
entries_for κs a x y at at' p q = p ∙ sym q

pub most_for : Determined most_for_reads.Post
most_for κs a x y at at' p q = p ∙ sym q

pub write : DeterminedLent (λ κs at. at.1.1.1.0.now) write_reads.Post
write κs a x y at at' p q = (one_write x y (p.0 ∙ sym q.0), p.1 ∙ sym q.1)

pub records : DeterminedPart (λ κs r. r.now) records_reads.Post
records κs a x y at at' p q = p ∙ sym q

pub from_offset : DeterminedPart (λ κs r. r.now) from_offset_reads.Post
from_offset κs a x y at at' p q = p ∙ sym q

pub number_of : Determined unread_number_reads.Post
number_of κs a x y at at' p q = p ∙ sym q

pub rule_of : Determined unread_rule_reads.Post
rule_of κs a x y at at' p q = p ∙ sym q

pub number : Determined number_reads.Post
number κs a x y at at' p q = p ∙ sym q

pub rule : Determined rule_reads.Post
rule κs a x y at at' p q = p ∙ sym q

pub index : Determined index_reads.Post
index κs a x y at at' p q = p ∙ sym q
