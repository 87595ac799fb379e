-- An array that is made by reading at each index: its elements are the numbers that are read one after the other.
-- Assumes nothing.
use Rattle.std.proofs.Common.{◌≡◌, ℕ, zero, suc, ◌+◌, ◌*◌, ◌<◌, List, [], ◌∷◌, length, refl, ap, subst, ◌∙◌}
use native.Mathlib.Omega.{arith}
use lib.ListN.{get_or}
use denote.Param.Members.{Mut, Called}
use Rattle.std.specs.Array.{IsFromFnResult, IsFromFnResultFrom}
use Rattle.numbers.specs.Bytes.{u16_at, u16s_at}
use Rattle.vectors.specs.Fields.{numbers_at}

-- each element is v of its index, where each call answers v of its own and leaves the callee as it is
module _ {F : Type 0} (g : Mut F (ℕ × Unit {0}) ℕ) (f : F) (v : ℕ → ℕ) (same : (i y : ℕ) (q : F) → Called g f (i, tt) y q → (y ≡ v i) × (q ≡ f)) where
  places : (ys : List ℕ) (i n : ℕ) → IsFromFnResultFrom g f ys i n → (k : ℕ) → k < n → get_or ys (i + k) 0 ≡ v (i + k)
  places ys i zero made k h = absurd (omega arith)
  places ys i (suc n) (q, y, is, called, rest) zero h =
      let it = same i y q called in
      let at : i + 0 ≡ i = omega arith in
      rw at (is.1 0 ∙ it.0)
  places ys i (suc n) (q, y, is, called, rest) (suc k) h =
      let it = same i y q called in
      let at : i + suc k ≡ (i + 1) + k = omega arith in
      rw at (places ys (i + 1) n (subst (λ (p : F). IsFromFnResultFrom g p ys (i + 1) n) it.1 rest) k (omega arith))

pub filled : (read : ℕ → ℕ) (step at n : ℕ) (l : List ℕ) → length l ≡ n → ((k : ℕ) → k < n → get_or l k 0 ≡ read (at + step * k)) → l ≡ numbers_at read step at n
filled read step at zero [] long each = refl
filled read step at zero (x ∷ l) long each = absurd (omega arith)
filled read step at (suc n) [] long each = absurd (omega arith)
filled read step at (suc n) (x ∷ l) long each =
    let here : x ≡ read at = each 0 (omega arith) ∙ ap read (omega arith) in
    let behind : l ≡ numbers_at read step (at + step) n =
    filled read step (at + step) n l (omega arith) (λ k h. each (suc k) (omega arith) ∙ ap read (omega arith)) in
    rw (here, behind)

pub numbers_of_16 : (l : List ℕ) (at n : ℕ) → numbers_at (u16_at l) 2 at n ≡ u16s_at l at n
numbers_of_16 l at zero = refl
numbers_of_16 l at (suc n) = rw (numbers_of_16 l (at + 2) n)

pub made : {F : Type 0} {g : Mut F (ℕ × Unit {0}) ℕ} {f : F} (read : ℕ → ℕ) (step at n : ℕ) (l : List ℕ) → ((i y : ℕ) (q : F) → Called g f (i, tt) y q → (y ≡ read (at + step * i)) × (q ≡ f)) → IsFromFnResult g f l n → l ≡ numbers_at read step at n
made {g = g} {f = f} read step at n l same is = filled read step at n l is.long (λ k h. let from_zero : 0 + k ≡ k = omega arith in subst (λ (j : ℕ). get_or l j 0 ≡ read (at + step * j)) from_zero (places g f (λ i. read (at + step * i)) same l 0 n is.each k h))
