-- Laws on a file against the words of specs/Refusals.antt: the first number whose condition holds, and the rule with 4.
-- Assumes nothing.
use mathlib.Core.Path.{◌≡◌, refl, sym, ap, subst, ◌∙◌}
use mathlib.Core.Bool.{cond}
use mathlib.Core.Logic.{◌⊎◌, inl, inr}
use mathlib.Core.List.{List, [], ◌∷◌}
use Prim.Native.Nat.{ℕ, ◌+◌, ◌*◌, ◌<◌}
use native.Mathlib.Omega.{arith}
use lib.Dec.{eqb, eqb→eq}
use lib.ListN.{length}
use borrow.Author.Tests.{eqb-true, eqb-false, eq-eqb, ne_eqb}
use Rattle.checks.specs.Checks.{Check, ◌!◌, first}
use Rattle.checks.specs.Conditions.{Condition, ◌gives◌, ◌else◌, FirstOf}
use Rattle.checks.proofs.Checks.{Holds, first→holds, first-append, first_left, first_right, at_most}
use Rattle.checks.proofs.ConditionLaws.{first_of, of_left, of_right}
use Rattle.checks.proofs.Tests.{tests, case, neqb→ne}
use Rattle.limits.specs.declared.Table.{Table}
use Rattle.limits.specs.Rules.{broken_rule}
use Rattle.limits.specs.Refusals.{broken, Admitted}
use Rattle.limits.proofs.Refusals.{in_order, at_most_16, admitted, not_admitted}
use Rattle.stepfile.specs.Files.{headed, table_in, checks, refusal_of}
use Rattle.stepfile.specs.Refusals.{RuleFor, bits16, bits32, short_table, long_table, table_behind, TooMany, file_refusals, FileAnswers}
use Rattle.stepfile.proofs.EntryLaws.{Few, few, others, past_most, within_most}
use Rattle.stepfile.proofs.TableLaws.{with_twenty_two, with_eighteen, without_entries}

-- the rule's number, with 4 and without
pub ruled :
    (t : Table) (number rule : ℕ) → (number ≡ 4 → (rule ≡ broken_rule t) × ¬ (rule ≡ 0)) → (¬ (number ≡ 4) → rule ≡ 0)
    → RuleFor t number rule
ruled t number rule given none =
    record {
      with_4 =
          λ e.
          let r = (given e).0 in
          let n = (given e).1 in
          let most = at_most_16 t in
          (subst (FirstOf (broken t)) (sym r) (in_order t), omega arith, omega arith);
      else_0 = none;
    }

-- ---- a file
module _ (f : List ℕ) where
  abbrev k : ℕ
  k = bits16 f 2

  abbrev header_refusals : List Condition
  header_refusals =
      (length f < 12 gives 1)
      ∷ ((bits16 f 0 ≡ 12) else 2)
      ∷ (((k ≡ 0) ⊎ (k ≡ 18) ⊎ (k ≡ 22)) else 2)
      ∷ ((bits32 f 4 ≡ 12 + 2 * k) else 2)
      ∷ (TooMany k (bits32 f 8) gives 2)
      ∷ ((length f ≡ 12 + 2 * k + 4 * bits32 f 8) else 3)
      ∷ []

  header_in_order : FirstOf header_refusals (first (headed f))
  header_in_order =
      first_of (headed f) header_refusals (
        omega (arith, tests),
        (
          omega (arith, tests),
          (
            (others k, (λ t n. n (few k t), refl)),
            (
              omega (arith, tests),
              (
                (λ t. past_most k (bits32 f 8) (omega (arith, tests)), (λ t. within_most k (bits32 f 8) (omega (arith, tests)), refl)),
                omega (arith, tests),
              ),
            ),
          ),
        ),
      )

  -- the table, behind a header that is as it should be
  abbrev tested : Check
  tested = eqb (broken_rule (table_in f)) 0 ! 4

  abbrev table_refusals : List Condition
  table_refusals = ((¬ (k ≡ 0) → Admitted (table_behind f)) else 4) ∷ []

  has_entries : ¬ (broken_rule (table_in f) ≡ 0) → ¬ (k ≡ 0)
  has_entries n e = n (ap broken_rule (without_entries f e))

  module _ (h : Holds (headed f)) where
    as_many : Few k → ¬ (k ≡ 0) → table_in f ≡ table_behind f
    as_many (inl e) n = absurd (n e)
    as_many (inr (inl e)) n =
        with_eighteen f (omega (arith, tests)) e ∙ sym (ap (λ b. cond b (long_table f) (short_table f)) (ne_eqb k 22 (omega arith)))
    as_many (inr (inr e)) n =
        with_twenty_two f (omega (arith, tests)) e ∙ sym (ap (λ b. cond b (long_table f) (short_table f)) (eq-eqb k 22 e))

    with_table : ¬ (k ≡ 0) → table_in f ≡ table_behind f
    with_table = as_many (few k h.1.1.0)

    table_in_order : FirstOf table_refusals (first (tested ∷ []))
    table_in_order =
        first_of (tested ∷ []) table_refusals (
          (
            λ t all.
                let n = neqb→ne (broken_rule (table_in f)) 0 t in
                let e = has_entries n in
                not_admitted (table_behind f) (λ z. n (ap broken_rule (with_table e) ∙ z)) (all e),
            (
              λ t n. n (λ e. admitted (table_behind f) (ap broken_rule (sym (with_table e)) ∙ eqb→eq (broken_rule (table_in f)) 0 t)),
              refl,
            ),
          ),
          tt,
        )

  file_in_order : FirstOf (file_refusals f) (refusal_of f).number
  file_in_order =
      case (eqb (first (headed f)) 0)
      (λ t.
      let z = eqb-true (first (headed f)) 0 t in
      let h = (first→holds 0 (headed f) tt z).0 in
      rw (first_right (headed f) (tested ∷ []) h)
      (of_right header_refusals table_refusals (first (tested ∷ [])) tt
      (subst (FirstOf header_refusals) z header_in_order)
      (table_in_order h)))
      (λ t.
      let n = eqb-false (first (headed f)) 0 t in
      rw (first_left (headed f) (tested ∷ []) n)
      (of_left header_refusals table_refusals (first (headed f)) n header_in_order))

  -- with 4 the header is as it should be and the table has entries
  its_rule : (refusal_of f).number ≡ 4 → ((refusal_of f).rule ≡ broken_rule (table_behind f)) × ¬ ((refusal_of f).rule ≡ 0)
  its_rule e =
      let h = first-append 4 (headed f) (tested ∷ []) tt e in
      let same : (refusal_of f).rule ≡ broken_rule (table_in f) = rw (eq-eqb (refusal_of f).number 4 e) in
      let n : ¬ (broken_rule (table_in f) ≡ 0) = λ z. let q = rw (eq-eqb (broken_rule (table_in f)) 0 z) at h.1 in omega arith in
      (same ∙ ap broken_rule (with_table h.0 (has_entries n)), λ z. n (sym same ∙ z))

  pub file_answers : FileAnswers f (refusal_of f).number (refusal_of f).rule
  file_answers =
      record {
        first = file_in_order;
        numbers = at_most 4 (checks f) tt;
        rule_for =
            ruled (table_behind f) (refusal_of f).number (refusal_of f).rule its_rule (λ n. rw (ne_eqb (refusal_of f).number 4 n));
      }
