-- Any two outcomes that a public contract of this crate allows are equal.
-- Assumes nothing.
use mathlib.Core.Path.{sym, ◌∙◌}
use Rattle.checks.specs.Determined.{Determined}
use Rattle.shift.proofs.NumberLaws.{one_answer}
use Rattle.shift.proofs.refusal.Reads as refusal_reads
use Rattle.shift.proofs.Refused.number.Reads as number_reads
use Rattle.shift.proofs.State.start.Reads as start_reads
use Rattle.shift.proofs.State.step.Reads as step_reads
use Rattle.shift.proofs.State.unlisted.Reads as unlisted_reads
use Rattle.shift.proofs.State.judged_listed.Reads as judged_listed_reads
use Rattle.shift.proofs.State.judged_step.Reads as judged_step_reads
use Rattle.shift.proofs.Step.of.Reads as of_reads
use Rattle.shift.proofs.Step.of_head.Reads as of_head_reads
use Rattle.shift.proofs.refusal_of.Reads as refusal_of_reads

pub start : Determined start_reads.Post
start κs a x y at at' p q = p ∙ sym q

pub step : Determined step_reads.Post
step κs a x y at at' p q = p ∙ sym q

pub unlisted : Determined unlisted_reads.Post
unlisted κs a x y at at' p q = one_answer x y (p ∙ sym q)

pub judged_listed : Determined judged_listed_reads.Post
judged_listed κs a x y at at' p q = p ∙ sym q

pub of : Determined of_reads.Post
of κs a x y at at' p q = p ∙ sym q

pub refusal : Determined refusal_reads.Post
refusal κs a x y at at' p q = p ∙ sym q

pub refusal_of : Determined refusal_of_reads.Post
refusal_of κs a x y at at' p q = p ∙ sym q

pub of_head : Determined of_head_reads.Post
of_head κs a x y at at' p q = p ∙ sym q

pub judged_step : Determined judged_step_reads.Post
judged_step κs a x y at at' p q = p ∙ sym q

pub number : Determined number_reads.Post
number κs a x y at at' p q = p ∙ sym q
