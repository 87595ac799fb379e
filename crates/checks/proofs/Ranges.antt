-- From a statement on each number of a range to the statement on any: a case split that omega closes in one call. And back.
-- Assumes nothing.
use mathlib.Core.Path.{◌≡◌, refl, sym, subst}
use mathlib.Core.Logic.{⊎_elim}
use Prim.Native.Nat.{ℕ, zero, suc, ◌+◌, ◌≤◌, ◌<◌}
use native.Mathlib.Nat.{eq-or-lt_of_le, le_of_suc-le-suc, not-suc-le-zero}
use native.Mathlib.Decide.{dec_lt}
use native.Mathlib.Omega.{arith}
use Rattle.checks.specs.Ranges.{From}

-- each number below n, the last one outermost, as a `match` leaves the numbers that none of its arms took
abbrev pub Below : (ℕ → Type 0) → ℕ → Type 0
Below P zero = Unit {0}
Below P (suc n) = Below P n × P n

pub below : (P : ℕ → Type 0) (n : ℕ) → Below P n → (k : ℕ) → k < n → P k
below P zero b k h = absurd (not-suc-le-zero h)
below P (suc n) b k h =
    ⊎_elim (λ e. subst P (sym e) b.1) (λ l. below P n b.0 k l) (eq-or-lt_of_le (le_of_suc-le-suc h))

-- each of the n numbers from i on
pub from : (P : ℕ → Type 0) (i n : ℕ) → From P i n → (k : ℕ) → i ≤ k → k < i + n → P k
from P i zero b k l h = absurd (omega arith)
from P i (suc n) b k l h =
    ⊎_elim (λ e. subst P e b.0) (λ m. from P (suc i) n b.1 k m (omega arith)) (eq-or-lt_of_le l)

pub each_of : (P : ℕ → Type 0) (i n : ℕ) → ((k : ℕ) → i ≤ k → k < i + n → P k) → From P i n
each_of P i zero f = tt
each_of P i (suc n) f = (f i (omega arith) (omega arith), each_of P (suc i) n (λ k l h. f k (omega arith) (omega arith)))

-- what none of the arms 0 to n - 1 of a `match` took is n or more
pub past_arms : (n p : ℕ) → Below (λ k. p ≡ k → ⊥) n → n ≤ p
past_arms n p rest =
    elim (dec_lt p n) [
      | yes h ↦ absurd (below (λ k. p ≡ k → ⊥) n rest p h refl)
      | no h ↦ omega arith
    ]
