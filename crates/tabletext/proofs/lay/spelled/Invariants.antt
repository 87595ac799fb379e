-- `spelled` meets its contract. The loop's invariant: with the lines that are still to come, the text so far is the whole.
-- Assumes nothing.
use Prim.Native.Nat.{◌*◌, ◌≤◌}
use mathlib.Core.Path.{◌≡◌}
use mathlib.Core.List.{◌++◌}
use lib.ListN.{length, drop}
use Rattle.tabletext.specs.Printed.{lines_from}
use Rattle.tabletext.proofs.lay.spelled.Given as goal

abbrev pub invariant-loop-entry : goal.invariant-loop-entry
invariant-loop-entry l = record {
  few : length l.value-items ≤ 22;
  fits : length l.text.items ≤ 43 * l.entry;
  text : l.text.items ++ lines_from l.entry (drop l.entry l.value-items) ≡ lines_from 0 l.value-items;
}
