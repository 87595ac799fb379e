-- Any two outcomes that a public contract of this crate allows are equal.
-- Assumes nothing.
use mathlib.Core.Path.{sym, ◌∙◌}
use Rattle.checks.specs.Determined.{Determined}
use Rattle.manual.proofs.Variables.initialisation.Reads as initialisation_reads
use Rattle.manual.proofs.on_side.Reads as on_side_reads
use Rattle.manual.proofs.late.Reads as late_reads
use Rattle.manual.proofs.early.Reads as early_reads
use Rattle.manual.proofs.late_by.Reads as late_by_reads
use Rattle.manual.proofs.early_by.Reads as early_by_reads
use Rattle.manual.proofs.or_else.Reads as or_else_reads
use Rattle.manual.proofs.Variables.erred.Reads as erred_reads
use Rattle.manual.proofs.Event.free.Reads as free_reads
use Rattle.manual.proofs.first_of.Reads as first_of_reads
use Rattle.manual.proofs.Guard.past.Reads as guard_past_reads
use Rattle.manual.proofs.past.Reads as past_reads
use Rattle.manual.proofs.first_past.Reads as first_past_reads
use Rattle.manual.proofs.Moved.accepted.Reads as accepted_reads
use Rattle.manual.proofs.Moved.refused.Reads as refused_reads

pub initialisation : Determined initialisation_reads.Post
initialisation κs a x y at at' p q = p ∙ sym q

pub on_side : Determined on_side_reads.Post
on_side κs a x y at at' p q = p ∙ sym q

pub late : Determined late_reads.Post
late κs a x y at at' p q = p ∙ sym q

pub early : Determined early_reads.Post
early κs a x y at at' p q = p ∙ sym q

pub late_by : Determined late_by_reads.Post
late_by κs a x y at at' p q = p ∙ sym q

pub early_by : Determined early_by_reads.Post
early_by κs a x y at at' p q = p ∙ sym q

pub or_else : Determined or_else_reads.Post
or_else κs a x y at at' p q = p ∙ sym q

pub erred : Determined erred_reads.Post
erred κs a x y at at' p q = p ∙ sym q

pub free : Determined free_reads.Post
free κs a x y at at' p q = p ∙ sym q

pub first_of : Determined first_of_reads.Post
first_of κs a x y at at' p q = p ∙ sym q

pub past : Determined past_reads.Post
past κs a x y at at' p q = p ∙ sym q

pub guard_past : Determined guard_past_reads.Post
guard_past κs a x y at at' p q = p ∙ sym q

pub first_past : Determined first_past_reads.Post
first_past κs a x y at at' p q = p ∙ sym q

pub accepted : Determined accepted_reads.Post
accepted κs a x y at at' p q = p ∙ sym q

pub refused : Determined refused_reads.Post
refused κs a x y at at' p q = p ∙ sym q
