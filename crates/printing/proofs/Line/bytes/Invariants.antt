-- `bytes` is safe: no piece is longer than its digits have room for.
-- Assumes nothing.
use Rattle.std.proofs.Common.{◌≡◌}
use Rattle.printing.proofs.Line.bytes.Given as goal

abbrev pub invariant-loop-piece : goal.invariant-loop-piece
invariant-loop-piece g l =
    (goal.iterator-loop-piece g).can_next l.piece-iterator
    × (goal.iterator-loop-piece g).is_finite l.piece-iterator
    × (l.piece-iterator.size ≡ 2048)
