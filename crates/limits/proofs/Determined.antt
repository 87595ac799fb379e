-- Any two outcomes that a public contract of this crate allows are equal.
-- Assumes nothing.
use mathlib.Core.Path.{sym, ◌∙◌}
use Rattle.checks.specs.Determined.{Determined}
use Rattle.limits.proofs.Table.broken_rule.Reads as broken_rule_reads
use Rattle.limits.proofs.Table.entries.Reads as entries_reads
use Rattle.limits.proofs.Table.house.Reads as house_reads
use Rattle.limits.proofs.Table.is_set.Reads as is_set_reads
use Rattle.limits.proofs.Table.is_undelayed.Reads as is_undelayed_reads
use Rattle.limits.proofs.Table.new_default.Reads as new_default_reads
use Rattle.limits.proofs.Table.of.Reads as of_reads
use Rattle.limits.proofs.Table.old_default.Reads as old_default_reads
use Rattle.limits.proofs.both_ways.Reads as both_ways_reads
use Rattle.limits.proofs.entry_at.Reads as entry_at_reads
use Rattle.limits.proofs.sum.Reads as sum_reads
use Rattle.limits.proofs.waits.Reads as waits_reads
use Rattle.limits.proofs.wide.Reads as wide_reads
use Rattle.limits.proofs.NumberLaws.{same_answer}
use Rattle.limits.proofs.Table.admit.Reads as admit_reads
use Rattle.limits.proofs.Rule.number.Reads as number_reads

pub old_default : Determined old_default_reads.Post
old_default κs a x y at at' p q = p ∙ sym q

pub new_default : Determined new_default_reads.Post
new_default κs a x y at at' p q = p ∙ sym q

pub house : Determined house_reads.Post
house κs a x y at at' p q = p ∙ sym q

pub is_undelayed : Determined is_undelayed_reads.Post
is_undelayed κs a x y at at' p q = p ∙ sym q

pub broken_rule_lem : Determined broken_rule_reads.Post
broken_rule_lem κs a x y at at' p q = p ∙ sym q

pub admit : Determined admit_reads.Post
admit κs a x y at at' p q = same_answer x y (p ∙ sym q)

pub number : Determined number_reads.Post
number κs a x y at at' p q = p ∙ sym q

pub of : Determined of_reads.Post
of κs a x y at at' p q = p ∙ sym q

pub entries : Determined entries_reads.Post
entries κs a x y at at' p q = p ∙ sym q

pub entry_at : Determined entry_at_reads.Post
entry_at κs a x y at at' p q = p ∙ sym q

pub is_set : Determined is_set_reads.Post
is_set κs a x y at at' p q = p ∙ sym q

pub waits : Determined waits_reads.Post
waits κs a x y at at' p q = p ∙ sym q

pub both_ways : Determined both_ways_reads.Post
both_ways κs a x y at at' p q = p.0 ∙ sym q.0

pub sum : Determined sum_reads.Post
sum κs a x y at at' p q = p.0 ∙ sym q.0

pub wide : Determined wide_reads.Post
wide κs a x y at at' p q = p.0 ∙ sym q.0
