-- How many bytes a reading to the end has read.
use Rattle.std.specs.Prelude.{ℕ, Ok, Err}
use Rattle.std.specs.declared.result.Result.{Result}
use Rattle.input.specs.declared.ReadFailed.{ReadFailed}

-- the bytes read: all that there were, or those before the read that failed
abbrev pub read_count : Result ℕ ReadFailed → ℕ
read_count (Ok count) = count
read_count (Err failed) = failed.length
