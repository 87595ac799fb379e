-- Which rules a table breaks, of the definition and of the contracts: in the words of limits' specs/Refusals.antt, by the two sides of a
-- rule, and beside the number of the first broken one.
-- Assumes nothing.
use mathlib.Core.Path.{◌≡◌, sym, ap, subst, ◌∙◌}
use mathlib.Core.Logic.{◌↔◌, ◌⊎◌, ⊎_elim}
use mathlib.Core.Bool.{Bool, true, false}
use Prim.Native.Nat.{ℕ, zero, suc, ◌+◌, ◌≤◌, ◌<◌}
use native.Mathlib.Nat.{le_of_suc-le-suc}
use native.Mathlib.Omega.{arith}
use lib.Dec.{T, leb→le, le→leb, T_not, not_T}
use lib.ListN.{get_or}
use borrow.Author.Tests.{le-leb, lt-leb}
use Rattle.limits.specs.declared.Table.{Table}
use Rattle.limits.specs.Rules.{rules, broken_rule}
use Rattle.limits.specs.Refusals.{rules_stated}
use Rattle.limits.proofs.Refusals.{each}
use Rattle.limits.proofs.Table.broken_rule.Reads as broken_rule_reads
use Rattle.admission.specs.Broken.{is_broken, left_side, right_side, is_strict}
use Rattle.admission.specs.Refusals.{Keeps}
use Rattle.admission.proofs.BrokenLaws.{breaks, by_sides_lem, AllPass, first_or_none, tested_at}
use Rattle.admission.proofs.is_broken.Reads as is_broken_reads

-- an answer that is a rule's number is not 0
no_rule : (r place : ℕ) → r ≡ 1 + place → r ≡ 0 → ⊥
no_rule r place e z = omega arith

behind_0 : (r place : ℕ) → r ≡ 1 + place → suc place ≡ r
behind_0 r place e = omega arith

module _ (t : Table) where
  -- no rule from 1 on, and none before a number
  unbroken : AllPass (rules t) → (n : ℕ) → ¬ T (is_broken t n)
  unbroken h zero b = b
  unbroken h (suc n) b = T_not (get_or (rules t) n true) b (h n)

  unbroken_before : (p : ℕ) → ((n : ℕ) → n < p → T (get_or (rules t) n true)) → (n : ℕ) → n < suc p → ¬ T (is_broken t n)
  unbroken_before p h zero l b = b
  unbroken_before p h (suc n) l b = T_not (get_or (rules t) n true) b (h n (le_of_suc-le-suc l))

  -- a rule is broken exactly where its statement does not hold
  pub broken_in_the_document's_words : (n : ℕ) → T (is_broken t n) ↔ ¬ Keeps t n
  broken_in_the_document's_words zero = (λ b. absurd b, λ k. absurd (k tt))
  broken_in_the_document's_words (suc n) =
      let test = get_or (rules t) n true in
      let e = tested_at (rules t) (rules_stated t) (each t) n in
      (λ b k. T_not test b (e.shown k), λ k. not_T test (λ h. k (e.read h)))

  -- the number of the first broken rule is 0 exactly where no rule is broken
  pub admitted_exactly_where_no_rule_is_broken : (broken_rule t ≡ 0) ↔ ((n : ℕ) → ¬ T (is_broken t n))
  admitted_exactly_where_no_rule_is_broken =
      ⊎_elim
      (λ a. (λ e. unbroken a.1, λ h. a.0))
      (λ s. (λ e. absurd (no_rule (broken_rule t) s.place s.number e), λ h. absurd (h (suc s.place) s.fails)))
      (first_or_none 1 (rules t))

  -- else it is that of the smallest broken one
  pub the_smallest_broken_rule :
      ¬ (broken_rule t ≡ 0) → T (is_broken t (broken_rule t)) × ((n : ℕ) → n < broken_rule t → ¬ T (is_broken t n))
  the_smallest_broken_rule z =
      ⊎_elim
      (λ a. absurd (z a.0))
      (λ s.
      subst
      (λ (r : ℕ). T (is_broken t r) × ((n : ℕ) → n < r → ¬ T (is_broken t n)))
      (behind_0 (broken_rule t) s.place s.number)
      (s.fails, unbroken_before s.place s.before))
      (first_or_none 1 (rules t))

  -- rules 4 to 9 are broken exactly where the left side is not less than the right one, rules 2, 3 and 10 to 15 where it is more
  by_strictness :
      (n : ℕ) (strict : Bool) → is_strict n ≡ strict → (n ≡ 1 → ⊥) → (n ≡ 16 → ⊥)
      → is_broken t n ≡ breaks strict (left_side t n) (right_side t n)
  by_strictness n strict e a b = by_sides_lem t n a b ∙ ap (λ s. breaks s (left_side t n) (right_side t n)) e

  pub broken_where_the_left_side_is_not_less : (n : ℕ) → 4 ≤ n → n ≤ 9 → T (is_broken t n) ↔ (right_side t n ≤ left_side t n)
  broken_where_the_left_side_is_not_less n l h =
      let strict : is_strict n ≡ true = rw (le-leb 4 n l, le-leb n 9 h) in
      subst (λ (b : Bool). T b ↔ (right_side t n ≤ left_side t n))
      (sym (by_strictness n true strict (λ e. omega arith) (λ e. omega arith)))
      (leb→le (right_side t n) (left_side t n), le→leb (right_side t n) (left_side t n))

  less : (n : ℕ) → is_strict n ≡ false → (n ≡ 1 → ⊥) → (n ≡ 16 → ⊥) → T (is_broken t n) ↔ (right_side t n < left_side t n)
  less n e a b =
      subst (λ (b : Bool). T b ↔ (right_side t n < left_side t n))
      (sym (by_strictness n false e a b))
      (leb→le (suc (right_side t n)) (left_side t n), le→leb (suc (right_side t n)) (left_side t n))

  pub broken_where_the_left_side_is_more :
      (n : ℕ) → ((2 ≤ n) × (n ≤ 3)) ⊎ ((10 ≤ n) × (n ≤ 15)) → T (is_broken t n) ↔ (right_side t n < left_side t n)
  broken_where_the_left_side_is_more n =
      ⊎_elim
      (λ h. less n (rw (lt-leb 4 n (omega arith))) (λ e. omega arith) (λ e. omega arith))
      (λ h. less n (rw (le-leb 4 n (omega arith), lt-leb n 9 (omega arith))) (λ e. omega arith) (λ e. omega arith))

-- ---- of the contracts
pub is_broken_lem : (κs : _) (a : _) (r : _) (at : _) → is_broken_reads.Post κs a r at → T r ↔ ¬ Keeps a.0 a.1.0
is_broken_lem κs a r at p =
    subst (λ (b : Bool). T b ↔ ¬ Keeps a.0 a.1.0) (sym p) (broken_in_the_document's_words a.0 a.1.0)

-- of any call of `broken_rule`: 0 exactly where no rule is broken, else the smallest that is
pub broken_rule_lem :
    (κs : _) (a : _) (r : _) (at : _) → broken_rule_reads.Post κs a r at
    → ((r ≡ 0) ↔ ((n : ℕ) → ¬ T (is_broken a.0 n)))
    × (¬ (r ≡ 0) → T (is_broken a.0 r) × ((n : ℕ) → n < r → ¬ T (is_broken a.0 n)))
broken_rule_lem κs a r at p =
    subst
    (λ (k : ℕ). ((k ≡ 0) ↔ ((n : ℕ) → ¬ T (is_broken a.0 n))) × (¬ (k ≡ 0) → T (is_broken a.0 k) × ((n : ℕ) → n < k → ¬ T (is_broken a.0 n))))
    (sym p)
    (admitted_exactly_where_no_rule_is_broken a.0, the_smallest_broken_rule a.0)
