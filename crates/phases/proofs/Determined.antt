-- Any two outcomes that a public contract of this crate allows are equal.
-- Assumes nothing.
use mathlib.Core.Path.{sym, ◌∙◌}
use Rattle.checks.specs.Determined.{Determined}
use Rattle.phases.proofs.next_of.Reads as next_of_reads
use Rattle.phases.proofs.clutch_of.Reads as clutch_of_reads
use Rattle.phases.proofs.order_of.Reads as order_of_reads
use Rattle.phases.proofs.device_entry.Reads as device_entry_reads
use Rattle.phases.proofs.phase_entry.Reads as phase_entry_reads
use Rattle.phases.proofs.device_limit.Reads as device_limit_reads
use Rattle.phases.proofs.phase_limit.Reads as phase_limit_reads
use Rattle.phases.proofs.latest_take.Reads as latest_take_reads
use Rattle.phases.proofs.earliest_ask.Reads as earliest_ask_reads
use Rattle.phases.proofs.plain_delay.Reads as plain_delay_reads
use Rattle.phases.proofs.error_delay.Reads as error_delay_reads
use Rattle.phases.proofs.is_unfinished.Reads as is_unfinished_reads

pub next_of : Determined next_of_reads.Post
next_of κs a x y at at' p q = p ∙ sym q

pub clutch_of : Determined clutch_of_reads.Post
clutch_of κs a x y at at' p q = p ∙ sym q

pub order_of : Determined order_of_reads.Post
order_of κs a x y at at' p q = p ∙ sym q

pub device_entry : Determined device_entry_reads.Post
device_entry κs a x y at at' p q = p ∙ sym q

pub phase_entry : Determined phase_entry_reads.Post
phase_entry κs a x y at at' p q = p ∙ sym q

pub device_limit : Determined device_limit_reads.Post
device_limit κs a x y at at' p q = p ∙ sym q

pub phase_limit : Determined phase_limit_reads.Post
phase_limit κs a x y at at' p q = p ∙ sym q

pub latest_take : Determined latest_take_reads.Post
latest_take κs a x y at at' p q = p ∙ sym q

pub earliest_ask : Determined earliest_ask_reads.Post
earliest_ask κs a x y at at' p q = p ∙ sym q

pub plain_delay_lem : Determined plain_delay_reads.Post
plain_delay_lem κs a x y at at' p q = p ∙ sym q

pub error_delay_lem : Determined error_delay_reads.Post
error_delay_lem κs a x y at at' p q = p ∙ sym q

pub is_unfinished : Determined is_unfinished_reads.Post
is_unfinished κs a x y at at' p q = p ∙ sym q
