-- Document 02, request 5: the number of each reason why a list has no entry, and what C is handed. For functions inside.
-- Assumes nothing.
use Rattle.std.specs.Prelude.{ℕ, Result, Ok, Err}
use Rattle.shiftlist.specs.declared.Shift.{Shift}
use Rattle.shiftlist.specs.declared.Fetched.{Fetched}
use Rattle.shiftlist.specs.declared.NoEntry.{NoEntry}
use Rattle.shiftlist.specs.declared.NoEntry.TheVariants.{Short, Offset, Length, Count}
use Rattle.shiftlist.specs.Lists.{found, no_shift}

abbrev pub number_of : NoEntry → ℕ
number_of Short = 1
number_of Offset = 2
number_of Length = 3
number_of Count = 14

abbrev pub handed : Result Shift NoEntry → Fetched
handed (Ok e) = found 0 e
handed (Err why) = found (number_of why) no_shift
