-- `all_read` meets its contract. The loop's invariant: the first wrong record is the first of those that are left.
-- Assumes nothing.
use mathlib.Core.Path.{refl, ◌∙◌}
use Rattle.std.proofs.lemmas.Slice.Zip.{either_empty_from_Zip}
use Rattle.std.specs.Slice.Iter.{iter_rest}
use Rattle.stepfile.proofs.StoreLaws.{none_left}
use Rattle.stepfile.proofs.write.all_read.Goals as goal

pub returns : goal.returns
returns c =
    let l = c.loop-index in
    let s = l.index-iterator in
    let n = c.next.new.self in
    l.invariant ∙ none_left s.count (iter_rest s.iter.a) (iter_rest s.iter.b) (either_empty_from_Zip s.iter n.iter _ refl c.in-None.ensures.steps.0)
