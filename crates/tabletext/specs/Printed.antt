-- The text of a limit table as it is printed: a line for each entry, in their order.
-- Assumes nothing.
use Rattle.std.specs.Prelude.{List, [], ◌∷◌, ◌++◌, ℕ, suc}
use Rattle.limits.specs.declared.Table.{Table}
use Rattle.line.specs.Lines.{field}
use Rattle.stepfile.specs.Writing.{entries_for}
use Rattle.tablewords.specs.Words.{line_feed}
use Rattle.tablewords.specs.Names.{name}

-- a name, then a space, a number and a line feed
abbrev pub value_part : ℕ → List ℕ
value_part v = field v ++ (line_feed ∷ [])

abbrev pub entry_line : ℕ → ℕ → List ℕ
entry_line i v = name i ++ value_part v

-- the lines of entries from number i on
abbrev pub lines_from : ℕ → List ℕ → List ℕ
lines_from i [] = []
lines_from i (v ∷ vs) = entry_line i v ++ lines_from (suc i) vs

-- as many as a step file has: eighteen where the four delays are 0, else twenty-two
unfoldable pub text_of : Table → List ℕ
text_of t = lines_from 0 (entries_for t)
