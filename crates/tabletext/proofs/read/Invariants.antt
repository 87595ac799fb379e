-- `read` meets its contract. The loop's invariant: the text says what the lines from here on say, behind those that gave these entries.
-- Assumes nothing.
use mathlib.Core.Path.{◌≡◌}
use lib.Dec.{eqb}
use lib.ListN.{length, drop}
use Rattle.std.specs.List.{slice_split}
use Rattle.tabletext.specs.Answers.{values_in}
use Rattle.tabletext.specs.Texts.{read_from, read_of}
use Rattle.tabletext.proofs.read.Given as goal

abbrev pub invariant-loop-line : goal.invariant-loop-line
invariant-loop-line l = record {
  can : (goal.iterator-loop-line).can_next l.line-iterator;
  finite : (goal.iterator-loop-line).is_finite l.line-iterator;
  count : l.lines ≡ length l.yielded;
  said : read_of l.text ≡ read_from l.lines (values_in l.entries.given) (drop l.lines (slice_split (λ b. eqb b 10) l.text));
}
