-- `Laying::lay` meets its contract. The loop's invariant: what is still to be made, laid on what is laid, is the whole.
-- Assumes nothing.
use Rattle.std.proofs.Common.{◌≤◌, ◌+◌, ◌*◌, drop}
use Rattle.shiftlist.specs.Walks.{coded_all, laid_by}
use Rattle.shiftlist.proofs.LayLaws.{Left}
use Rattle.shiftlist.proofs.lay.Laying.lay.Given as goal

abbrev pub invariant-loop-i : goal.invariant-loop-i
invariant-loop-i l =
    let all = laid_by l.self.walk l.self.index (coded_all l.self.records.now) in
    let left = laid_by l.walk (l.self.index + l.i) (coded_all (drop l.i l.self.records.now)) in
    (l.end ≤ l.self.from + 16 * l.i) × Left l.initial.list l.self.from all l.list l.end left
