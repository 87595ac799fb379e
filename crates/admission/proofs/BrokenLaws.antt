-- Laws on the rules by their numbers: a rule by its two sides, and what the number of the first broken one says of each.
-- Assumes nothing.
use mathlib.Core.Path.{◌≡◌, refl, ◌∙◌}
use mathlib.Core.Logic.{◌⊎◌, inl, inr, ⊎_elim}
use mathlib.Core.Bool.{Bool, true, false, not, cond}
use mathlib.Core.List.{List, [], ◌∷◌}
use Prim.Native.Nat.{ℕ, zero, suc, ◌+◌, ◌≤◌, ◌<◌}
use native.Mathlib.Nat.{le_of_suc-le-suc, not-suc-le-zero}
use native.Mathlib.Decide.{dec_lt}
use native.Mathlib.Omega.{arith}
use lib.Dec.{T, leb, ltb}
use lib.ListN.{get_or, get_or-eq_default}
use borrow.Author.Tests.{lt-ltb, le-ltb, le-leb, lt-leb}
use Rattle.checks.specs.Checks.{first, numbered}
use Rattle.checks.proofs.Ranges.{below}
use Rattle.checks.proofs.Tests.{Tests, nothing_to_test}
use Rattle.limits.specs.declared.Table.{Table}
use Rattle.limits.specs.Rules.{rules}
use Rattle.limits.proofs.Refusals.{Each}
use Rattle.admission.specs.Broken.{is_broken, left_sides, left_side, right_entries, right_side, is_strict}
use Rattle.admission.specs.Refusals.{StatedAt}

-- ---- a rule by its sides
not_leb : (m n : ℕ) → not (leb m n) ≡ ltb n m
not_leb m n =
    elim (dec_lt n m) [
      | yes h ↦ rw (lt-leb m n h, lt-ltb n m h)
      | no h ↦ let l : m ≤ n = omega arith in rw (le-leb m n l, le-ltb n m l)
    ]

not_ltb : (m n : ℕ) → not (ltb m n) ≡ leb n m
not_ltb m n =
    elim (dec_lt m n) [
      | yes h ↦ rw (lt-ltb m n h, lt-leb n m h)
      | no h ↦ let l : n ≤ m = omega arith in rw (le-ltb m n l, le-leb n m l)
    ]

-- two sides break a rule: one that asks for less, or for no more
abbrev pub breaks : Bool → ℕ → ℕ → Bool
breaks strict left right = cond strict (leb right left) (ltb right left)

abbrev by_sides : Table → ℕ → Bool
by_sides t n = breaks (is_strict n) (left_side t n) (right_side t n)

-- rules 2 to 15, and what is no rule
abbrev SideRule : Table → ℕ → Type 0
SideRule t n = (n ≡ 1 → ⊥) → (n ≡ 16 → ⊥) → is_broken t n ≡ by_sides t n

more : (t : Table) (n : ℕ) → not (leb (left_side t n) (right_side t n)) ≡ ltb (right_side t n) (left_side t n)
more t n = not_leb (left_side t n) (right_side t n)

no_less : (t : Table) (n : ℕ) → not (ltb (left_side t n) (right_side t n)) ≡ leb (right_side t n) (left_side t n)
no_less t n = not_ltb (left_side t n) (right_side t n)

up_to_16 : (t : Table) (n : ℕ) → n < 17 → SideRule t n
up_to_16 t =
    below
    (SideRule t)
    17
    (((((((((((((((((tt, λ _ _. refl), λ h _. absurd (h refl)), λ _ _. more t 2), λ _ _. more t 3), λ _ _. no_less t 4), λ _ _. no_less t 5), λ _ _. no_less t 6), λ _ _. no_less t 7), λ _ _. no_less t 8), λ _ _. no_less t 9), λ _ _. more t 10), λ _ _. more t 11), λ _ _. more t 12), λ _ _. more t 13), λ _ _. more t 14), λ _ _. more t 15), λ _ h. absurd (h refl))

past_16 : (t : Table) (n : ℕ) → 17 ≤ n → is_broken t n ≡ by_sides t n
past_16 t n h =
    rw (
      get_or-eq_default (true ∷ rules t) true {n = n} h,
      get_or-eq_default (left_sides t) 0 {n = n} (omega arith),
      get_or-eq_default right_entries 22 {n = n} (omega arith),
      le-leb 4 n (omega arith),
      lt-leb n 9 (omega arith),
    )

pub by_sides_lem : (t : Table) (n : ℕ) → SideRule t n
by_sides_lem t n a b =
    elim (dec_lt n 17) [
      | yes h ↦ up_to_16 t n h a b
      | no h ↦ past_16 t n (omega arith)
    ]

-- ---- the first of numbered tests that fails
-- r is the number of the first test that fails, counted from k; those before it pass
pub record Smallest (k : ℕ) (bs : List Bool) (r : ℕ) : Type 0 where
  pub place : ℕ
  pub number : r ≡ k + place
  pub fails : T (not (get_or bs place true))
  pub before : (n : ℕ) → n < place → T (get_or bs n true)

abbrev pub AllPass : List Bool → Type 0
AllPass bs = (n : ℕ) → T (get_or bs n true)

pass_on : (bs : List Bool) → AllPass bs → AllPass (true ∷ bs)
pass_on bs h zero = tt
pass_on bs h (suc n) = h n

pass_before : (bs : List Bool) (p : ℕ) → ((n : ℕ) → n < p → T (get_or bs n true)) → (n : ℕ) → n < suc p → T (get_or (true ∷ bs) n true)
pass_before bs p h zero l = tt
pass_before bs p h (suc n) l = h n (le_of_suc-le-suc l)

moved : (k p : ℕ) → suc k + p ≡ k + suc p
moved k p = omega arith

pub first_or_none : (k : ℕ) (bs : List Bool) → ((first (numbered k bs) ≡ 0) × AllPass bs) ⊎ Smallest k bs (first (numbered k bs))
first_or_none k [] = inl (refl, λ n. tt)
first_or_none k (true ∷ bs) =
    ⊎_elim
    (λ a. inl (a.0, pass_on bs a.1))
    (λ s.
    let e = s.number in
    inr (record { place = suc s.place; number = e ∙ moved k s.place; fails = s.fails; before = pass_before bs s.place s.before }))
    (first_or_none (suc k) bs)
first_or_none k (false ∷ bs) =
    inr (record { place = 0; number = omega arith; fails = tt; before = λ n h. absurd (not-suc-le-zero h) })

-- ---- statements that are tested one by one
pub tested_at : (bs : List Bool) (Ps : List (Type 0)) → Each bs Ps → (n : ℕ) → Tests (get_or bs n true) (StatedAt Ps n)
tested_at [] [] h n = nothing_to_test
tested_at [] (P ∷ Ps) h n = absurd h
tested_at (b ∷ bs) [] h n = absurd h
tested_at (b ∷ bs) (P ∷ Ps) h zero = h.0
tested_at (b ∷ bs) (P ∷ Ps) h (suc n) = tested_at bs Ps h.1 n
