-- Any two outcomes that a public contract of this crate allows are equal.
-- Assumes nothing.
use mathlib.Core.Path.{sym, ◌∙◌}
use Rattle.checks.specs.Determined.{Determined}
use Rattle.manual_ticks.proofs.Tick_Tock.Reads as Tick_Tock_reads

pub Tick_Tock : Determined Tick_Tock_reads.Post
Tick_Tock κs a x y at at' p q = p ∙ sym q
