-- The decimal digits of a number, as a word: they are digits, and their value is the number.
-- Assumes nothing.
use mathlib.Core.Path.{◌≡◌, refl, ◌∙◌}
use mathlib.Core.Bool.{true}
use mathlib.Core.List.{List, [], ◌∷◌, ◌++◌}
use Prim.Native.Nat.{ℕ, zero, suc, ◌+◌, ◌-◌, ◌*◌, ◌/◌, ◌%◌, ◌≤◌, ◌<◌}
use native.Mathlib.Omega.{arith}
use lib.Dec.{T, leb, ltb, le→leb}
use lib.ListN.{length}
use borrow.Author.Tests.{ltb-true}
use Rattle.checks.proofs.Tests.{case, both, left, right}
use Rattle.line.specs.Decimals.{spelled, decimal_of}
use Rattle.line.proofs.Decimal.{read_from, read, fewest}
use Rattle.tablewords.specs.Words.{digit, all_digits, value_from}

figure : (n : ℕ) → n < 10 → T (digit (48 + n))
figure n h = both (leb 48 (48 + n)) (leb (48 + n) 57) (le→leb 48 (48 + n) (omega arith)) (le→leb (48 + n) 57 (omega arith))

one_behind : (ds : List ℕ) (d : ℕ) → T (all_digits ds) → T (digit d) → T (all_digits (ds ++ (d ∷ [])))
one_behind [] d h k = both (digit d) true k tt
one_behind (e ∷ ds) d h k =
    both (digit e) (all_digits (ds ++ (d ∷ []))) (left (digit e) (all_digits ds) h) (one_behind ds d (right (digit e) (all_digits ds) h) k)

spelled_digits : (m n : ℕ) → T (all_digits (spelled m n))
spelled_digits zero n = tt
spelled_digits (suc m) n =
    case (ltb n 10)
    (λ e. rw e (both (digit (48 + n)) true (figure n (ltb-true n 10 e)) tt))
    (λ e. rw e (one_behind (spelled m (n / 10)) (48 + n % 10) (spelled_digits m (n / 10)) (figure (n % 10) (omega arith))))

pub are_digits : (n : ℕ) → T (all_digits (decimal_of n))
unfolding decimal_of
are_digits n = spelled_digits (suc n) n

pub at_least_one : (n : ℕ) → 1 ≤ length (decimal_of n)
at_least_one n = (fewest n).0

same_value : (v : ℕ) (ds : List ℕ) → value_from v ds ≡ read_from v ds
same_value v [] = refl
same_value v (d ∷ ds) = same_value (v * 10 + (d - 48)) ds

pub value_is : (n : ℕ) → value_from 0 (decimal_of n) ≡ n
value_is n = same_value 0 (decimal_of n) ∙ read n
