-- Laws on what is written: the table, how many numbers there are, and the size of a file.
-- Assumes nothing.
use mathlib.Core.Path.{◌≡◌, refl}
use mathlib.Core.List.{List, [], ◌∷◌, ◌++◌}
use Prim.Native.Nat.{ℕ, ◌+◌, ◌*◌}
use native.Mathlib.Omega.{arith}
use lib.ListN.{length, length-append}
use Rattle.numbers.proofs.StoreLaws.{length-bytes_of}
use Rattle.std.proofs.Common.{Option, Some, None}
use Rattle.std.specs.Option.{MatchOption}
use Rattle.limits.specs.declared.Table.{Table}
use Rattle.limits.specs.Limits.{new_default}
use Rattle.stepfile.specs.Writing.{wished, records_of, file_with}

-- the table given, or else the new default, is the one that is written
pub wish_met : (w : Option Table) {t : Table} → MatchOption w (t ≡ new_default) (λ given. t ≡ given) → t ≡ wished w
wish_met (Some given) e = e
wish_met None e = e

pub length-records_of : (cs ns : List ℕ) → length cs ≡ length ns → length (records_of cs ns) ≡ 2 * length cs
length-records_of [] ns e = refl
length-records_of (c ∷ cs) [] e = absurd (omega arith)
length-records_of (c ∷ cs) (n ∷ ns) e = let h = length-records_of cs ns (omega arith) in omega arith

pub size : (es cs ns : List ℕ) → length cs ≡ length ns → length (file_with es cs ns) ≡ 12 + 2 * length es + 4 * length cs
size es cs ns e =
    let r = length-records_of cs ns e in
    let b = length-bytes_of (es ++ records_of cs ns) in
    let a = length-append es (records_of cs ns) in
    omega arith
