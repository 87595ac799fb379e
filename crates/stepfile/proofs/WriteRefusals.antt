-- Laws on a write against the words of specs/Refusals.antt: it answers the first number whose condition holds.
-- Assumes nothing.
use Rattle.std.proofs.Common.{Option, Some, None}
use mathlib.Core.Path.{◌≡◌, refl, sym, ap, subst, ◌∙◌}
use mathlib.Core.Bool.{cond}
use mathlib.Core.Logic.{inl, inr, ⊎_elim}
use mathlib.Core.List.{List, [], ◌∷◌, ◌++◌}
use Prim.Native.Nat.{ℕ, ◌+◌, ◌*◌, ◌≤◌, ◌<◌}
use native.Mathlib.Omega.{arith}
use lib.Dec.{leb, eqb, eqb→eq}
use lib.ListN.{length, drop}
use borrow.Author.Tests.{eqb-true, eqb-false, eq-eqb, ne_eqb, leb-true, leb-false}
use Rattle.checks.specs.Checks.{◌!◌, first}
use Rattle.checks.specs.Conditions.{Condition, ◌gives◌, ◌else◌, FirstOf}
use Rattle.checks.proofs.Checks.{first→holds, first-append, at_most}
use Rattle.checks.proofs.ConditionLaws.{first_of, one_of, of_left, of_right}
use Rattle.checks.proofs.Tests.{tests, case, neqb→ne}
use Rattle.limits.specs.declared.Table.{Table}
use Rattle.limits.specs.Rules.{broken_rule}
use Rattle.limits.specs.Refusals.{Admitted}
use Rattle.limits.proofs.Refusals.{admitted, not_admitted}
use Rattle.stepfile.specs.Writing.{Wrong, Written, wished, entries_for, most_for, first_wrong, size_of, writable, refused_with, written_of, buffer_after, file_of}
use Rattle.stepfile.specs.Refusals.{WrongAt, table_for, TooMany, WrittenWith, write_refusals, WriteAnswers}
use Rattle.stepfile.proofs.EntryLaws.{past_most, within_most, written_with, with_no_others}
use Rattle.stepfile.proofs.WriteLaws.{at_lists, at_record, at_room, written}
use Rattle.stepfile.proofs.FileRefusals.{ruled}
use Rattle.stepfile.proofs.RecordRefusals.{found, same, one_number, five_or_six}

-- ---- a write
same_table : (w : Option Table) → wished w ≡ table_for w
same_table (Some t) = refl
same_table None = refl

-- the record maximum, by how the table would be written
pub too_many : (w : Option Table) (n : ℕ) → most_for (wished w) < n → (k : ℕ) × WrittenWith w k × TooMany k n
too_many w n h = (length (entries_for (wished w)), written_with w, past_most (length (entries_for (wished w))) n h)

pub not_too_many : (w : Option Table) (n : ℕ) → n ≤ most_for (wished w) → ¬ ((k : ℕ) × WrittenWith w k × TooMany k n)
not_too_many w n h q =
    within_most (length (entries_for (wished w))) n h (subst (λ k. TooMany k n) (with_no_others w q.0 q.1) q.2)

module _ (w : Option Table) (cs ns out : List ℕ) where
  abbrev list_refusals : List Condition
  list_refusals =
      ((length cs ≡ length ns) else 3)
      ∷ (((k : ℕ) × WrittenWith w k × TooMany k (length cs)) gives 2)
      ∷ (Admitted (table_for w) else 4)
      ∷ []

  abbrev order_refusals : List Condition
  order_refusals = (((i : ℕ) × WrongAt cs ns 5 i) gives 5) ∷ (((i : ℕ) × WrongAt cs ns 6 i) gives 6) ∷ []

  abbrev room_refusals : List Condition
  room_refusals = (((k : ℕ) × WrittenWith w k × (length out < 12 + 2 * k + 4 * length cs)) gives 15) ∷ []

  lists_in_order : FirstOf list_refusals (first (writable (wished w) cs ns))
  lists_in_order =
      let rule = ap broken_rule (same_table w) in
      first_of (writable (wished w) cs ns) list_refusals (
        omega (arith, tests),
        (
          (
            λ t. too_many w (length cs) (omega (arith, tests)),
            (λ t. not_too_many w (length cs) (omega (arith, tests)), refl),
          ),
          (
            (
              λ t. not_admitted (table_for w) (λ z. neqb→ne (broken_rule (wished w)) 0 t (rule ∙ z)),
              (λ t n. n (admitted (table_for w) (sym rule ∙ eqb→eq (broken_rule (wished w)) 0 t)), refl),
            ),
            tt,
          ),
        ),
      )

  abbrev wrong : Wrong
  wrong = first_wrong 0 cs ns

  records_in_order : length cs ≡ length ns → FirstOf order_refusals wrong.number
  records_in_order e =
      let f = found 0 cs ns e in
      case (eqb wrong.number 0)
      (λ t.
      let z = eqb-true wrong.number 0 t in
      let none : (k : ℕ) → ¬ (k ≡ 0) → ¬ ((i : ℕ) × WrongAt cs ns k i) =
      λ k n a. n (same cs ns a.0 k 0 a.1.wrong (f.all_read z a.0 a.1.in_list))
      in
      inr (none 5 (λ q. omega arith), inr (none 6 (λ q. omega arith), z)))
      (λ t.
      let n = eqb-false wrong.number 0 t in
      let at = f.there n in
      ⊎_elim
      (λ five. inl ((at.0, subst (λ k. WrongAt cs ns k at.0) five at.2), five))
      (λ six.
      inr (
        λ a.
            let other = one_number cs ns 5 wrong.number a.0 at.0 a.1 at.2 (λ q. omega arith) n in
            omega arith,
        inl ((at.0, subst (λ k. WrongAt cs ns k at.0) six at.2), six),
      ))
      (five_or_six cs ns wrong.number at.0 at.2 n))

  abbrev Answers : Written → List ℕ → Type 0
  Answers r b = WriteAnswers w cs ns out r.number r.rule r.index r.length b

  carried :
      (r : Written) (b : List ℕ) → (r ≡ written_of (wished w) cs ns (length out)) × (b ≡ buffer_after (wished w) cs ns out) → Answers r b
      → Answers (written_of (wished w) cs ns (length out)) (buffer_after (wished w) cs ns out)
  carried r b e a = subst (λ q. Answers q (buffer_after (wished w) cs ns out)) e.0 (subst (λ c. Answers r c) e.1 a)

  -- stopped by the lists or the table
  abbrev number : ℕ
  number = first (writable (wished w) cs ns)

  abbrev its_rule : ℕ
  its_rule = cond (eqb number 4) (broken_rule (wished w)) 0

  list_rule : number ≡ 4 → (its_rule ≡ broken_rule (table_for w)) × ¬ (its_rule ≡ 0)
  list_rule e =
      let before = (eqb (length cs) (length ns) ! 3) ∷ (leb (length cs) (most_for (wished w)) ! 2) ∷ [] in
      let last = (first-append 4 before ((eqb (broken_rule (wished w)) 0 ! 4) ∷ []) tt e).1 in
      let n : ¬ (broken_rule (wished w) ≡ 0) = λ z. let q = rw (eq-eqb (broken_rule (wished w)) 0 z) at last in omega arith in
      let own : its_rule ≡ broken_rule (wished w) = rw (eq-eqb number 4 e) in
      (own ∙ ap broken_rule (same_table w), λ z. n (sym own ∙ z))

  by_lists : ¬ (number ≡ 0) → Answers (refused_with number its_rule 0) out
  by_lists n =
      let most = at_most 4 (writable (wished w) cs ns) tt in
      record {
        first = of_left list_refusals (order_refusals ++ room_refusals) number n lists_in_order;
        numbers =
            ⊎_elim (λ e. inl e)
            (⊎_elim (λ e. inr (inr (inl e)))
            (⊎_elim (λ e. inr (inl e)) (⊎_elim (λ e. inr (inr (inr (inl e)))) (λ e. absurd e))))
            (one_of list_refusals number lists_in_order);
        rule_for = ruled (table_for w) number its_rule list_rule (λ q. rw (ne_eqb number 4 q));
        index_with_5_and_6 = ⊎_elim (λ e. absurd (omega arith)) (λ e. absurd (omega arith));
        index_else_0 = λ _. refl;
        unchanged = λ _. (refl, refl);
      }

  -- not stopped by them
  module _ (z : number ≡ 0) where
    abbrev passed : FirstOf list_refusals 0
    passed = subst (FirstOf list_refusals) z lists_in_order

    as_long : length cs ≡ length ns
    as_long = let h = (first→holds 0 (writable (wished w) cs ns) tt z).0 in omega (arith, tests)

    by_record : ¬ (wrong.number ≡ 0) → Answers (refused_with wrong.number 0 wrong.index) out
    by_record n =
        let at = (found 0 cs ns as_long).there n in
        let which = five_or_six cs ns wrong.number at.0 at.2 n in
        let there : at.0 ≡ wrong.index = omega (arith, at.1) in
        record {
          first =
              of_right list_refusals (order_refusals ++ room_refusals) wrong.number tt passed
              (of_left order_refusals room_refusals wrong.number n (records_in_order as_long));
          numbers =
              ⊎_elim (λ e. inr (inr (inr (inr (inl e))))) (λ e. inr (inr (inr (inr (inr (inl e)))))) which;
          rule_for =
              ruled (table_for w) wrong.number 0 (λ e. ⊎_elim (λ q. absurd (omega arith)) (λ q. absurd (omega arith)) which) (λ _. refl);
          index_with_5_and_6 = λ _. subst (WrongAt cs ns wrong.number) there at.2;
          index_else_0 = λ q. absurd (q which);
          unchanged = λ _. (refl, refl);
        }

    module _ (y : wrong.number ≡ 0) where
      by_room : (n : ℕ) → FirstOf room_refusals n → FirstOf (write_refusals w cs ns out) n
      by_room n f =
          of_right list_refusals (order_refusals ++ room_refusals) n tt passed
          (of_right order_refusals room_refusals n tt (subst (FirstOf order_refusals) y (records_in_order as_long)) f)

      no_room : length out < size_of (wished w) cs → Answers (refused_with 15 0 0) out
      no_room l =
          record {
            first = by_room 15 (inl ((length (entries_for (wished w)), written_with w, l), refl));
            numbers = inr (inr (inr (inr (inr (inr (inl refl))))));
            rule_for = ruled (table_for w) 15 0 (λ e. absurd (omega arith)) (λ _. refl);
            index_with_5_and_6 = ⊎_elim (λ e. absurd (omega arith)) (λ e. absurd (omega arith));
            index_else_0 = λ _. refl;
            unchanged = λ _. (refl, refl);
          }

      accepted :
          (size : ℕ) (b : List ℕ) → size_of (wished w) cs ≤ length out
          → Answers (record { number = 0; rule = 0; index = 0; length = size }) b
      accepted size b l =
          record {
            first = by_room 0 (inr (λ q. omega (arith, with_no_others w q.0 q.1, q.2), refl));
            numbers = inl refl;
            rule_for = ruled (table_for w) 0 0 (λ e. absurd (omega arith)) (λ _. refl);
            index_with_5_and_6 = ⊎_elim (λ e. absurd (omega arith)) (λ e. absurd (omega arith));
            index_else_0 = λ _. refl;
            unchanged = λ n. absurd (n refl);
          }

  pub write_answers : Answers (written_of (wished w) cs ns (length out)) (buffer_after (wished w) cs ns out)
  write_answers =
      let done : Written = record { number = 0; rule = 0; index = 0; length = size_of (wished w) cs } in
      let file = file_of (wished w) cs ns ++ drop (size_of (wished w) cs) out in
      case (eqb number 0)
      (λ t.
      let z = eqb-true number 0 t in
      case (eqb wrong.number 0)
      (λ u.
      let y = eqb-true wrong.number 0 u in
      case (leb (size_of (wished w) cs) (length out))
      (λ l.
      let room = leb-true (size_of (wished w) cs) (length out) l in
      carried done file (written (wished w) cs ns out z y room) (accepted z y (size_of (wished w) cs) file room))
      (λ l.
      let past = leb-false (size_of (wished w) cs) (length out) l in
      carried (refused_with 15 0 0) out (at_room (wished w) cs ns out z y past) (no_room z y past)))
      (λ u.
      let n = eqb-false wrong.number 0 u in
      carried (refused_with wrong.number 0 wrong.index) out (at_record (wished w) cs ns out z n) (by_record z n)))
      (λ t.
      let n = eqb-false number 0 t in
      carried (refused_with number its_rule 0) out (at_lists (wished w) cs ns out number refl n) (by_lists n))
