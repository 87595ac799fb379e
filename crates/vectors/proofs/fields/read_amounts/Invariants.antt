-- So far `read_amounts` has read those of the places that it has passed.
-- Assumes nothing.
use Rattle.std.proofs.Common.{◌≡◌, ◌+◌, ◌*◌, ◌<◌, ℕ, length, get_or}
use Rattle.numbers.specs.Bytes.{u32_at}
use Rattle.vectors.proofs.fields.read_amounts.Given as goal

abbrev pub invariant-loop-i : goal.invariant-loop-i
invariant-loop-i l =
    (length l.amounts ≡ length l.initial.amounts)
    × ((k : ℕ) → k < l.i → get_or l.amounts k 0 ≡ u32_at l.bytes (l.at + 4 * k))
