-- `Line::spelled` meets its contract: the word, six numbers and the line feed, one behind the other.
-- Assumes nothing.
use Rattle.std.proofs.Common.{rules}
use Rattle.line.specs.Lines.{line_of}
use Rattle.line.proofs.Line.spelled.Goals as goal

pub returns : goal.returns
unfolding line_of
returns c = search rules
