-- Document 01, "Step files, parts and writing": the writer with its wish as a number.
-- Assumes nothing.
use Rattle.std.specs.Prelude.{cond, List, ℕ, eqb, length, Option, Some, None}
use Rattle.limits.specs.declared.Table.{Table}
use Rattle.stepfile.specs.Writing.{Written, wished, written_of, buffer_after}

-- the table to write; 0 is the wish for none
abbrev pub wish_of : ℕ → Table → Option Table
wish_of k t = cond (eqb k 0) None (Some t)

-- what the writer answers into a buffer, and the buffer afterwards
abbrev pub written_for : ℕ → Table → List ℕ → List ℕ → List ℕ → Written
written_for k t codes amounts out = written_of (wished (wish_of k t)) codes amounts (length out)

abbrev pub out_after : ℕ → Table → List ℕ → List ℕ → List ℕ → List ℕ
out_after k t codes amounts out = buffer_after (wished (wish_of k t)) codes amounts out
