-- `put_table` meets its contract. The loop's invariant: what is still to be stored, on what is stored, is the whole.
-- Assumes nothing.
use Prim.Native.Nat.{◌+◌, ◌*◌}
use mathlib.Core.Path.{◌≡◌}
use lib.ListN.{drop}
use lib.Seq.{sets}
use Rattle.numbers.specs.Bytes.{bytes_of}
use Rattle.stepfile.proofs.write.put_table.Given as goal

abbrev pub invariant-loop-i : goal.invariant-loop-i
invariant-loop-i l =
    sets l.initial.out 12 (bytes_of l.entry-items) ≡ sets l.out (12 + 2 * l.i) (bytes_of (drop l.i l.entry-items))
