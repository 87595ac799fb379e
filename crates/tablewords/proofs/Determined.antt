-- Any two outcomes that a public contract of this crate allows are equal: the result, or the content of the parts that are handed back.
-- Assumes nothing.
use mathlib.Core.Path.{sym, ◌∙◌}
use mathlib.Core.List.{List}
use Prim.Native.Nat.{ℕ}
use Rattle.checks.specs.Determined.{Determined, DeterminedPart}
use Rattle.tablewords.proofs.run.Reads as run_reads
use Rattle.tablewords.proofs.first_word.Reads as first_word_reads
use Rattle.tablewords.proofs.word.Reads as word_reads
use Rattle.tablewords.proofs.behind.Reads as behind_reads
use Rattle.tablewords.proofs.number_of.Reads as number_of_reads
use Rattle.tablewords.proofs.names.name.Reads as name_reads
use Rattle.tablewords.proofs.names.entry_named.Reads as entry_named_reads

pub run : Determined run_reads.Post
run κs a x y at at' p q = p ∙ sym q

pub first_word : DeterminedPart {L = List ℕ × List ℕ} (λ κs parts. (parts.0.now, parts.1.now)) first_word_reads.Post
first_word κs a x y at at' p q = cc

pub word : DeterminedPart (λ κs part. part.now) word_reads.Post
word κs a x y at at' p q = p ∙ sym q

pub behind : DeterminedPart (λ κs part. part.now) behind_reads.Post
behind κs a x y at at' p q = p ∙ sym q

pub number_of : Determined number_of_reads.Post
number_of κs a x y at at' p q = p ∙ sym q

pub name : DeterminedPart (λ κs part. part.now) name_reads.Post
name κs a x y at at' p q = p ∙ sym q

pub entry_named : Determined entry_named_reads.Post
entry_named κs a x y at at' p q = p ∙ sym q
