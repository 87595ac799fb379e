-- `put_records` meets its contract. The loop's invariant: what is still to be stored, on what is stored, is the whole.
-- Assumes nothing.
use Prim.Native.Nat.{◌+◌, ◌*◌}
use mathlib.Core.Path.{◌≡◌}
use lib.ListN.{drop}
use lib.Seq.{sets}
use Rattle.numbers.specs.Bytes.{bytes_of}
use Rattle.std.specs.Slice.Iter.{iter_rest}
use Rattle.stepfile.specs.Writing.{records_of}
use Rattle.stepfile.proofs.write.put_records.Given as goal

abbrev pub invariant-loop-i : goal.invariant-loop-i
invariant-loop-i l =
    let s = l.i-iterator in
    (iter_rest s.iter.a ≡ drop s.count l.codes)
    × (iter_rest s.iter.b ≡ drop s.count l.amounts)
    × (sets l.initial.out l.at (bytes_of (records_of l.codes l.amounts)) ≡ sets l.out (l.at + 4 * s.count) (bytes_of (records_of (iter_rest s.iter.a) (iter_rest s.iter.b))))
