-- `entries_at` meets its contract. The loop's invariant: with what is still to be stored, the entries are those of the file.
-- Assumes nothing.
use Prim.Native.Nat.{◌+◌, ◌*◌, ◌-◌}
use mathlib.Core.Path.{◌≡◌}
use lib.Seq.{sets}
use Rattle.numbers.specs.Bytes.{u16s_at}
use Rattle.stepfile.proofs.entries_at.Given as goal

abbrev pub invariant-loop-i : goal.invariant-loop-i
invariant-loop-i l =
    sets l.initial.entry-items 0 (u16s_at l.file 12 l.count) ≡ sets l.entry-items l.i (u16s_at l.file (12 + 2 * l.i) (l.count - l.i))
