-- Laws on the bytes of a list: how many there are, and those of two lists of shifts.
-- Assumes nothing.
use Rattle.std.proofs.Common.{◌≡◌, ◌+◌, ◌*◌, List, [], ◌∷◌, ◌++◌, length, refl, ap, arith}
use Rattle.numbers.specs.Bytes.{bytes_of}
use Rattle.shiftlist.specs.declared.Shift.{Shift}
use Rattle.shiftlist.specs.Lists.{numbers_of, entries_of, list_of}

pub entries_long : (es : List Shift) → length (bytes_of (entries_of es)) ≡ 16 * length es
entries_long [] = refl
entries_long (e ∷ es) = let h = entries_long es in omega arith

pub list_long : (es : List Shift) → length (list_of es) ≡ 8 + 16 * length es
list_long es = let h = entries_long es in omega arith

pub entries-append : (xs ys : List Shift) → entries_of (xs ++ ys) ≡ entries_of xs ++ entries_of ys
entries-append [] ys = refl
entries-append (x ∷ xs) ys = ap (λ l. numbers_of x ++ l) (entries-append xs ys)
