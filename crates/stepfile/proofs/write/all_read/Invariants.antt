-- `all_read` meets its contract. The loop's invariant: the first wrong record is the first of those that are left.
-- Assumes nothing.
use mathlib.Core.Path.{◌≡◌}
use Rattle.std.specs.Slice.Iter.{iter_rest}
use Rattle.stepfile.specs.Writing.{first_wrong}
use Rattle.stepfile.proofs.write.all_read.Given as goal

abbrev pub invariant-loop-index : goal.invariant-loop-index
invariant-loop-index l =
    let s = l.index-iterator in
    first_wrong 0 l.codes l.amounts ≡ first_wrong s.count (iter_rest s.iter.a) (iter_rest s.iter.b)
