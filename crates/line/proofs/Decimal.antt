-- The decimal digits of a number: those that `{}` prints, read back, and the fewest.
-- Assumes nothing.
use Prim.Native.Nat.{ℕ, zero, suc, ◌+◌, ◌-◌, ◌*◌, ◌/◌, ◌%◌, ◌^◌, ◌≤◌, ◌<◌}
use mathlib.Core.Path.{◌≡◌, refl, ap, ◌∙◌}
use mathlib.Core.Bool.{true, false}
use mathlib.Core.List.{List, [], ◌∷◌, ◌++◌}
use native.Mathlib.Nat.{pow-suc}
use native.Mathlib.Numerals.{add-one}
use native.Mathlib.Omega.{arith}
use lib.Dec.{ltb}
use lib.ListN.{length, length-append}
use borrow.Author.Tests.{ltb-true, ltb-false}
use Rattle.checks.proofs.Tests.{case}
use Rattle.std.proofs.lemmas.Fmt.{decimal_digit, decimal_step}
use Rattle.std.specs.Fmt.{decimal}
use Rattle.io.specs.Digits.{IsDigitCount}
use Rattle.line.specs.Decimals.{spelled, decimal_of}

spell : (m n : ℕ) → n < m → n < 2 ^ 64 → decimal n ≡ spelled m n
spell zero n h f = absurd (omega arith)
spell (suc m) n h f = case (ltb n 10) one (more (spell m (n / 10)))
  where
    one : ltb n 10 ≡ true → decimal n ≡ spelled (suc m) n
    one e = rw e (decimal_digit n (ltb-true n 10 e))

    more : (n / 10 < m → n / 10 < 2 ^ 64 → decimal (n / 10) ≡ spelled m (n / 10)) → ltb n 10 ≡ false → decimal n ≡ spelled (suc m) n
    more rest e =
        let above : 10 ≤ n = ltb-false n 10 e in
        rw (e, decimal_step n above f, rest (omega arith) (omega arith))

-- what `{}` prints of a number of 64 bits are the digits of `decimal_of`
pub printed : (n : ℕ) → n < 2 ^ 64 → decimal n ≡ decimal_of n
unfolding decimal_of
printed n f = spell (suc n) n (omega arith) f

-- the number that digits make after those that made m
abbrev pub read_from : ℕ → List ℕ → ℕ
read_from m [] = m
read_from m (d ∷ ds) = read_from (m * 10 + (d - 48)) ds

read_last : (m : ℕ) (ds : List ℕ) (d : ℕ) → read_from m (ds ++ d ∷ []) ≡ read_from m ds * 10 + (d - 48)
read_last m [] d = refl
read_last m (e ∷ ds) d = read_last (m * 10 + (e - 48)) ds d

read_spelled : (m n : ℕ) → n < m → read_from 0 (spelled m n) ≡ n
read_spelled zero n h = absurd (omega arith)
read_spelled (suc m) n h = case (ltb n 10) one (more (read_spelled m (n / 10)))
  where
    one : ltb n 10 ≡ true → read_from 0 (spelled (suc m) n) ≡ n
    one e = rw e (omega arith)

    more : (n / 10 < m → read_from 0 (spelled m (n / 10)) ≡ n / 10) → ltb n 10 ≡ false → read_from 0 (spelled (suc m) n) ≡ n
    more rest e =
        let above : 10 ≤ n = ltb-false n 10 e in
        rw (e, read_last 0 (spelled m (n / 10)) (48 + n % 10), rest (omega arith)) (omega arith)

-- the digits read back are the number
pub read : (n : ℕ) → read_from 0 (decimal_of n) ≡ n
unfolding decimal_of
read n = read_spelled (suc n) n (omega arith)

-- one digit more for ten times as much
longer : (n k : ℕ) → 10 ≤ n → IsDigitCount 10 1 (n / 10) k → IsDigitCount 10 1 n (k + 1)
longer n k h f =
    let size : n / 10 < 10 ^ k = f.1 in
    let power : 10 ^ (k + 1) ≡ 10 ^ k * 10 = ap (λ (i : ℕ). 10 ^ i) (add-one k) ∙ pow-suc 10 k in
    let last : k + 1 - 1 ≡ k = omega arith in
    (omega arith, omega arith, λ _. rw last (least k f))
  where
    least : (j : ℕ) → IsDigitCount 10 1 (n / 10) j → 10 ^ j ≤ n
    least zero g = omega arith
    least (suc zero) g = omega arith
    least (suc (suc j)) g =
        let last : suc (suc j) - 1 ≡ suc j = omega arith in
        let below : 10 ^ suc j ≤ n / 10 = rw last at (g.2 (omega arith)) in
        let power : 10 ^ suc (suc j) ≡ 10 ^ suc j * 10 = pow-suc 10 (suc j) in
        omega arith

fewest_spelled : (m n : ℕ) → n < m → IsDigitCount 10 1 n (length (spelled m n))
fewest_spelled zero n h = absurd (omega arith)
fewest_spelled (suc m) n h = case (ltb n 10) one (more (fewest_spelled m (n / 10)))
  where
    one : ltb n 10 ≡ true → IsDigitCount 10 1 n (length (spelled (suc m) n))
    one e =
        let below : n < 10 = ltb-true n 10 e in
        rw e (omega arith, below, λ h. absurd (omega arith))

    more : (n / 10 < m → IsDigitCount 10 1 (n / 10) (length (spelled m (n / 10)))) → ltb n 10 ≡ false → IsDigitCount 10 1 n (length (spelled (suc m) n))
    more rest e =
        let above : 10 ≤ n = ltb-false n 10 e in
        rw (e, length-append (spelled m (n / 10)) ((48 + n % 10) ∷ [])) (longer n (length (spelled m (n / 10))) above (rest (omega arith)))

-- and no fewer digits hold it
pub fewest : (n : ℕ) → IsDigitCount 10 1 n (length (decimal_of n))
unfolding decimal_of
fewest n = fewest_spelled (suc n) n (omega arith)
