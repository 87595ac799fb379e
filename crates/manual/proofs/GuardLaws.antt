-- Laws on guards: what is within a bound is past it by 0, and what the first guard that is passed makes of a number.
-- Assumes nothing.
use mathlib.Core.Path.{◌≡◌, refl}
use mathlib.Core.Bool.{Bool, true, false, cond}
use Prim.Native.Nat.{ℕ, zero, suc, ◌-◌, ◌≤◌}
use native.Mathlib.Decide.{dec_lt}
use native.Mathlib.Omega.{arith}
use lib.Dec.{leb, leb-zero, eqb}
use borrow.Author.Tests.{lt-leb, le-leb, ne_eqb, eq-eqb}
use Rattle.std.specs.Prelude.{List, [], ◌∷◌, not, ◌==◌}
use Rattle.std.specs.List.{find}
use Rattle.manual.specs.Ticks.{past_else, first_past, passed}

pub within : (x y : ℕ) → leb x y ≡ eqb (x - y) 0
within x y =
    elim (dec_lt y x) [
      | yes h ↦ rw (lt-leb x y h, ne_eqb (x - y) 0 (λ e. omega arith))
      | no h ↦ let l : x ≤ y = omega arith in rw (le-leb x y l, eq-eqb (x - y) 0 (omega arith))
    ]

-- by how much x is past y, where that is asked for
abbrev pub past_by : Bool → ℕ → ℕ → ℕ
past_by b x y = cond b (x - y) 0

-- a limit that doesn't apply has 0 held against it
pub held : (b : Bool) (x y : ℕ) → leb (cond b x 0) y ≡ eqb (past_by b x y) 0
held true x y = within x y
held false x y = leb-zero y

-- what a guard's number carries, where that is how far it is passed
carried : (f : ℕ → ℕ) (k m x : ℕ) → f k ≡ x → f (cond (eqb x 0) m k) ≡ past_else x (f m)
unfolding past_else
carried f k m zero e = refl
carried f k m (suc x) e = rw (ne_eqb (suc x) 0 (λ z. omega arith)) e

pub carries :
    (f : ℕ → ℕ) (k m : ℕ) (b : Bool) (x y : ℕ) → f k ≡ x - y → f (cond (leb (cond b x 0) y) m k) ≡ past_else (past_by b x y) (f m)
unfolding past_else
carries f k m true x y e = rw (within x y) (carried f k m (x - y) e)
carries f k m false x y e = rw (leb-zero y)

pub alone : (x : ℕ) → past_else x 0 ≡ x
unfolding past_else
alone zero = refl
alone (suc x) = refl

pub before : (x y : ℕ) → ¬ (x ≡ 0) → x ≡ past_else x y
unfolding past_else
before zero y h = absurd (h refl)
before (suc x) y h = refl

-- ---- of some guards the first that is passed, as it is looked for
pub is_found : (xs : List ℕ) → find (λ x. not (x == 0)) xs ≡ passed (first_past xs)
unfolding past_else
is_found [] = refl
is_found (zero ∷ xs) = is_found xs
is_found (suc x ∷ xs) = rw (ne_eqb (suc x) 0 (λ e. omega arith))
