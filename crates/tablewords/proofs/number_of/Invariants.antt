-- `number_of` meets its contract. The loop's invariant: with the digits that are still to come, the value is the word's.
-- Assumes nothing.
use mathlib.Core.Path.{◌≡◌}
use Prim.Native.Nat.{◌≤◌}
use mathlib.Core.Bool.{true, false}
use lib.Dec.{eqb}
use lib.ListN.{length, drop}
use Rattle.tablewords.specs.Words.{all_digits, value_from}
use Rattle.tablewords.proofs.number_of.Given as goal

abbrev pub invariant-loop-byte : goal.invariant-loop-byte
invariant-loop-byte l = record {
  some : eqb (length l.word) 0 ≡ false;
  all : all_digits l.word ≡ true;
  value : value_from l.value (drop l.byte-index l.word) ≡ value_from 0 l.word;
  fits : l.value ≤ 65535;
}
