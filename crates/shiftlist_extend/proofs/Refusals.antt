-- Of the contract, in the words of specs/Refusals.antt: when extending a list is refused, what that leaves, and what an extended list
-- keeps.
-- Assumes nothing.
use mathlib.Core.Path.{◌≡◌, refl, sym, ap, subst, ◌∙◌}
use mathlib.Core.Bool.{Bool, true, false, cond}
use mathlib.Core.List.{List, [], ◌∷◌}
use Prim.Native.Nat.{ℕ, ◌+◌, ◌*◌, ◌-◌, ◌/◌, ◌≤◌, ◌<◌}
use native.Mathlib.Omega.{arith}
use lib.Dec.{leb, eqb}
use lib.ListN.{length}
use lib.Seq.{sets, length-sets}
use borrow.Author.Tests.{eqb-true, eqb-false, leb-true, leb-false, eq-eqb, ne_eqb, le-leb, lt-leb}
use Rattle.checks.specs.Checks.{Check, ◌!◌, first}
use Rattle.checks.proofs.Checks.{first-append, at_most}
use Rattle.checks.proofs.Tests.{case}
use Rattle.limits.specs.declared.Table.{Table}
use Rattle.limits.specs.Rules.{broken_rule}
use Rattle.numbers.specs.Bytes.{u32_at, bytes_of}
use Rattle.phases.specs.Phases.{unfinished}
use Rattle.shift.specs.declared.State.{State}
use Rattle.shift.specs.Readings.{Reading}
use Rattle.shift.specs.Runs.{Outcome, run}
use Rattle.stepfile.specs.Records.{records_in}
use Rattle.stepfile.specs.Writing.{most_for}
use Rattle.stepfile.specs.Refusals.{bits32, RuleFor}
use Rattle.stepfile.proofs.FileRefusals.{ruled}
use Rattle.trace.specs.Traces.{trace_of}
use Rattle.shiftlist.specs.declared.Listed.{Listed}
use Rattle.shiftlist.specs.Shifts.{shifts_from}
use Rattle.shiftlist.specs.Lists.{entries_of, header_of, listed_long, refused_by, fitting}
use Rattle.shiftlist.proofs.CodeLaws.{as_many}
use Rattle.shiftlist.proofs.EntryLaws.{the_entries}
use Rattle.shiftlist.proofs.ListLaws.{entries_long}
use Rattle.shiftlist.proofs.Refusals.{same_32}
use Rattle.shiftlist.proofs.WalkLaws.{shifts_same}
use Rattle.shiftlist_extend.specs.Extending.{fits, grounds, last_entry, laid, from, size, after_grounds, extended_of, list_after}
use Rattle.shiftlist_extend.specs.Refusals.{Midst, LongerTakes, NoRecord, Keeps, ExtendAnswers}
use Rattle.shiftlist_extend.proofs.GroundLaws.{has_one, in_place}
use Rattle.shiftlist_extend.proofs.ExtendLaws.{told, at_ground, at_run}
use Rattle.shiftlist_extend.proofs.RefusalLaws.{midst, grounds_in_order, records_answer, before_stores, behind_stores}
use Rattle.shiftlist_extend.proofs.extend.Reads as extend_reads

not_4 : (b : Bool) (x : ℕ) → x ≡ cond b 0 14 → ¬ (x ≡ 4)
not_4 true x e f = omega arith
not_4 false x e f = omega arith

module _ (l : List ℕ) (held : ℕ) (s : State) (count : ℕ) (t : Table) (bytes : List ℕ) where
  -- the ground, the records, their run, the size and the answer
  abbrev k : ℕ
  k = first (grounds l held s count t bytes)

  abbrev rs : List Reading
  rs = records_in bytes

  abbrev o : Outcome
  o = run t s rs

  abbrev n : ℕ
  n = size l held s count t bytes

  abbrev r : Listed
  r = extended_of l held s count t bytes

  -- ---- the size in words
  abbrev longer : ℕ
  longer = 8 + 16 * (bits32 l 0 + length (shifts_from 0 s rs))

  takes : LongerTakes l s rs longer
  takes = record { shifts = shifts_from 0 s rs; entries = the_entries s rs; bytes = refl }

  -- from whatever number they are counted, there are as many
  as_many_from : (i : ℕ) → length (shifts_from i s rs) ≡ length (shifts_from 0 s rs)
  as_many_from i =
      ap length (shifts_same i s rs) ∙ as_many i (trace_of s) rs ∙ sym (ap length (shifts_same 0 s rs) ∙ as_many 0 (trace_of s) rs)

  the_size : k ≡ 0 → n ≡ longer
  the_size g =
      let x = told l held s count t bytes g in
      let long = x.long in
      let same = same_32 l 0 in
      let many = as_many_from count in
      case (unfinished s.phase)
      (λ u.
      let one = has_one (length l) held (u32_at l 0) (last_entry l held s count t bytes) s count (length bytes / 4) x u in
      rw u (omega (arith, long, same, many, one)))
      (λ u. rw u (omega (arith, long, same, many)))

  -- ---- the answer by what comes first
  on_ground : ¬ (k ≡ 0) → refused_by k (cond (eqb k 4) (broken_rule t) 0) 0 0 ≡ r
  on_ground m = (at_ground l held s count t bytes k refl m).0

  module _ (g : k ≡ 0) where
    on_run : ¬ (o.number ≡ 0) → refused_by o.number 0 (count + o.count) o.excess ≡ r
    on_run m = (at_run l held s count t bytes g o refl m).0

    module _ (z : o.number ≡ 0) where
      on_room : fitting n (length l) ≡ r
      on_room =
          ap (λ b. cond b (fitting n (length l)) (refused_by o.number 0 (count + o.count) o.excess)) (sym (eq-eqb o.number 0 z))
          ∙ ap (after_grounds l held s count t bytes) (sym g)

      too_long : length l < n → refused_by 15 0 0 0 ≡ r
      too_long h = ap (λ b. cond b (listed_long n) (refused_by 15 0 0 0)) (sym (lt-leb n (length l) h)) ∙ on_room

      not_too_long : n ≤ length l → listed_long n ≡ r
      not_too_long h = ap (λ b. cond b (listed_long n) (refused_by 15 0 0 0)) (sym (le-leb n (length l) h)) ∙ on_room

  -- ---- with 4 the table breaks a rule
  abbrev before_4 : List Check
  before_4 =
      (leb held (length l) ! 15)
      ∷ (leb 8 held ! 1)
      ∷ (eqb (u32_at l 4) 8 ! 2)
      ∷ (eqb held (8 + 16 * u32_at l 0) ! 3)
      ∷ (leb (count + length bytes / 4) (most_for t) ! 2)
      ∷ (leb (u32_at l 0) count ! 2)
      ∷ []

  a_rule : k ≡ 4 → ¬ (broken_rule t ≡ 0)
  a_rule e z =
      let fit = fits (u32_at l 0) (last_entry l held s count t bytes) s count in
      let rest = (eqb (broken_rule t) 0 ! 4) ∷ (fit ! 14) ∷ [] in
      not_4 fit (first rest) (rw (eq-eqb (broken_rule t) 0 z)) (first-append 4 before_4 rest tt e).1

  -- ---- what any answer tells
  record Closing (q : Listed) : Type 0 where
    rule_for : RuleFor t q.number q.rule
    numbers : q.number ≤ 15
    refused : ¬ (q.number ≡ 0) → q.length ≡ 0
    extended : q.number ≡ 0 → (k ≡ 0) × (q.length ≡ n)

  without_rule : (number : ℕ) → ¬ (number ≡ 4) → RuleFor t number 0
  without_rule number m = ruled t number 0 (λ e. absurd (m e)) (λ _. refl)

  closing : Closing r
  closing =
      case (eqb k 0)
      (λ a.
      let g = eqb-true k 0 a in
      case (eqb o.number 0)
      (λ b.
      let z = eqb-true o.number 0 b in
      case (leb n (length l))
      (λ c.
      subst Closing (not_too_long g z (leb-true n (length l) c))
      record { rule_for = without_rule 0 (λ e. omega arith); numbers = omega arith; refused = λ m. absurd (m refl); extended = λ _. (g, refl) })
      (λ c.
      subst Closing (too_long g z (leb-false n (length l) c))
      record { rule_for = without_rule 15 (λ e. omega arith); numbers = omega arith; refused = λ _. refl; extended = λ e. absurd (omega arith) }))
      (λ b.
      let m = eqb-false o.number 0 b in
      let x = (records_answer bytes t s).refused m in
      let low = x.2 in
      let high = x.3 in
      subst Closing (on_run g m)
      record {
        rule_for = without_rule o.number (λ e. omega arith);
        numbers = omega arith;
        refused = λ _. refl;
        extended = λ e. absurd (m e);
      }))
      (λ a.
      let m = eqb-false k 0 a in
      subst Closing (on_ground m)
      record {
        rule_for =
            ruled t k (cond (eqb k 4) (broken_rule t) 0)
            (λ e. rw (eq-eqb k 4 e) (refl, a_rule e))
            (λ e. rw (ne_eqb k 4 e) refl);
        numbers = at_most 15 (grounds l held s count t bytes) tt;
        refused = λ _. refl;
        extended = λ e. absurd (m e);
      })

  -- ---- the list after it
  abbrev stored : List ℕ
  stored =
      sets (sets l 0 (bytes_of (header_of ((n - 8) / 16)))) (from l held s count t bytes) (bytes_of (entries_of (laid l held s count t bytes)))

  stored_keeps : k ≡ 0 → Keeps l held s n stored
  stored_keeps g =
      let head = bytes_of (header_of ((n - 8) / 16)) in
      let place = from l held s count t bytes in
      let new = bytes_of (entries_of (laid l held s count t bytes)) in
      let low = (in_place (length l) held (u32_at l 0) (last_entry l held s count t bytes) s count (length bytes / 4) (told l held s count t bytes g)).0 in
      let long = entries_long (laid l held s count t bytes) in
      record {
        as_long = length-sets (sets l 0 head) place new ∙ length-sets l 0 head;
        entries = λ i a b m. before_stores (sets l 0 head) place new i (sooner i b m) ∙ behind_stores l 0 head i (omega (arith, a));
        behind = λ i h. behind_stores (sets l 0 head) place new i (omega (arith, h, long)) ∙ behind_stores l 0 head i (omega (arith, h, low));
      }
    where
      sooner : (i : ℕ) → i < held → (Midst s → i + 16 < held) → i < from l held s count t bytes
      sooner i b m =
          case (unfinished s.phase)
          (λ u. let h = m (midst s u) in rw u (omega (arith, h)))
          (λ u. rw u (omega (arith, b)))

  pub extend_answers : ExtendAnswers l held s count t bytes (extended_of l held s count t bytes) (list_after l held s count t bytes)
  extend_answers = record {
    ground = k;
    first = grounds_in_order l held s count t bytes;
    records = rs;
    outcome = o;
    judged = records_answer bytes t s;
    size = longer;
    takes = takes;
    by_ground = λ m. subst (λ (q : Listed). (q.number ≡ k) × NoRecord q) (on_ground m) (refl, (refl, refl));
    by_judge = λ g m.
        subst (λ (q : Listed). (q.number ≡ o.number) × (q.index ≡ count + o.count) × (q.excess ≡ o.excess)) (on_run g m)
        (refl, refl, refl);
    no_room = λ g z h.
        subst (λ (q : Listed). (q.number ≡ 15) × NoRecord q) (too_long g z (omega (arith, h, the_size g))) (refl, (refl, refl));
    extended = λ g z h.
        subst (λ (q : Listed). (q.number ≡ 0) × NoRecord q × (q.length ≡ longer)) (not_too_long g z (omega (arith, h, the_size g)))
        (refl, (refl, refl), the_size g);
    rule_for = closing.rule_for;
    numbers = closing.numbers;
    unchanged = λ m. (closing.refused m, ap (λ b. cond b stored l) (ne_eqb r.number 0 m));
    keeps = λ z.
        let x = closing.extended z in
        subst (Keeps l held s r.length) (ap (λ b. cond b stored l) (sym (eq-eqb r.number 0 z)))
        (subst (λ q. Keeps l held s q stored) (sym x.1) (stored_keeps x.0));
  }

pub extend :
    (κs : _) (a : _) (r : _) (at : _) → extend_reads.Post κs a r at
    → let given = a.1.1 in
    ExtendAnswers a.0.now a.1.0 given.0 given.1.0 given.1.1.0 given.1.1.1.0.now r at.0.now
extend κs a r at p =
    let given = a.1.1 in
    rw (p.0, p.1) (extend_answers a.0.now a.1.0 given.0 given.1.0 given.1.1.0 given.1.1.1.0.now)
