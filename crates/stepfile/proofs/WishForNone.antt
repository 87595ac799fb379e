-- The wish for none, of an answer and a buffer that are the writer's and of a call of `write`: what is read back is the new default, in
-- eighteen entries, and without the 36 bytes for them it is refused with 15.
-- Assumes nothing.
use mathlib.Core.Path.{◌≡◌, refl, sym, ap, ◌∙◌}
use mathlib.Core.List.{List}
use Prim.Native.Nat.{ℕ, ◌+◌, ◌*◌, ◌≤◌, ◌<◌}
use lib.ListN.{length, take}
use contract.Lifetimes.{Lfts}
use denote.Triple.Entry.{Args}
use denote.Triple.Clauses.{AtExit}
use Rattle.limits.specs.Limits.{new_default}
use Rattle.limits.specs.Refusals.{by_new_default}
use Rattle.limits.specs.Rules.{broken_rule}
use Rattle.std.proofs.Common.{None, Result}
use Rattle.stepfile.specs.declared.write.Unwritten.{Unwritten}
use Rattle.stepfile.specs.Files.{table_entries}
use Rattle.stepfile.specs.Writing.{Written, wished, most_for, first_wrong, refused_with, written_as, written_of, buffer_after}
use Rattle.stepfile.specs.RoundTrip.{readings_by}
use Rattle.stepfile.proofs.WriteLaws.{at_room}
use Rattle.stepfile.proofs.RoundTrip.{accepting, written_in_so_many}
use Rattle.stepfile.proofs.RoundTripCalls as calls
use Rattle.stepfile.proofs.RoundTripCalls.{Stands, long, stands, passed, reads_back}
use Rattle.stepfile.specs.contracts.write.write as write_call
use Rattle.stepfile.proofs.write.write.Reads as write_reads

-- a good file with the new default and these steps stands at the buffer's start, in eighteen entries
pub record StandsForNone (codes amounts : List ℕ) (r : Written) (before after : List ℕ) : Type 0 where
  pub stands : Stands by_new_default (readings_by codes amounts) r.length before after
  pub entries : table_entries (take r.length after) ≡ 18
  pub size : r.length ≡ 48 + 4 * length codes

-- ---- of an answer and a buffer that are the writer's
module _
    (codes amounts before after : List ℕ) (r : Written) (a : r ≡ written_of new_default codes amounts (length before))
    (b : after ≡ buffer_after new_default codes amounts before) where
  pub none_reads_back : r.number ≡ 0 → StandsForNone codes amounts r before after
  none_reads_back z =
      let t = new_default in
      let h = passed t codes amounts before after r a b z in
      let s = stands t codes amounts before after r a b h.0 h.1 h.2 in
      let n = ap (λ (q : Written). q.length) s.answer in
      record {
        stands = reads_back t codes amounts before after r a b z;
        entries = ap (λ m. table_entries (take m after)) n ∙ ap table_entries s.file ∙ written_in_so_many t codes amounts h.0;
        size = n ∙ long t codes amounts before after r a b h.0;
      }

  -- lists that it takes, and a buffer that is too short for the entries, though it may have room for header and records
  pub none_without_room :
      length codes ≡ length amounts → length codes ≤ 16372 → (first_wrong 0 codes amounts).number ≡ 0
      → length before < 48 + 4 * length codes
      → (r ≡ refused_with 15 0 0) × (after ≡ before)
  none_without_room p q z l =
      let e = accepting (length codes) (length amounts) (most_for new_default) (broken_rule new_default) p q refl in
      let k = at_room new_default codes amounts before e z l in
      (a ∙ sym k.0, b ∙ sym k.1)

-- ---- of a call of `write`, whatever its contract allows
module _
    (κs : Lfts 3) (given : Args write_call.signature κs) (r : Result ℕ Unwritten) (left : AtExit write_call.ended κs)
    (call : write_reads.Post κs given r left) (none : given.0 ≡ None) where
  abbrev codes : List ℕ
  codes = calls.codes κs given r left call

  abbrev amounts : List ℕ
  amounts = calls.amounts κs given r left call

  abbrev before : List ℕ
  before = calls.before κs given r left call

  abbrev after : List ℕ
  after = calls.after κs given r left call

  abbrev answer : Written
  answer = written_as r

  answered : answer ≡ written_of new_default codes amounts (length before)
  answered = call.0 ∙ ap (λ w. written_of (wished w) codes amounts (length before)) none

  left_there : after ≡ buffer_after new_default codes amounts before
  left_there = call.1 ∙ ap (λ w. buffer_after (wished w) codes amounts before) none

  pub the_wish_for_none_reads_back : answer.number ≡ 0 → StandsForNone codes amounts answer before after
  the_wish_for_none_reads_back = none_reads_back codes amounts before after answer answered left_there

  pub the_wish_for_none_without_room :
      length codes ≡ length amounts → length codes ≤ 16372 → (first_wrong 0 codes amounts).number ≡ 0
      → length before < 48 + 4 * length codes
      → (answer ≡ refused_with 15 0 0) × (after ≡ before)
  the_wish_for_none_without_room = none_without_room codes amounts before after answer answered left_there
