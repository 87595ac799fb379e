-- An admitted table alone, of a call of `write` without records: the file stands in the buffer, and reads back to the same table and no
-- steps.
-- Assumes nothing.
use mathlib.Core.Path.{◌≡◌, refl, ap, ◌∙◌}
use mathlib.Core.List.{List, []}
use Prim.Native.Nat.{ℕ, ◌+◌, ◌*◌, ◌≤◌}
use native.Mathlib.Omega.{arith}
use lib.ListN.{length}
use contract.Lifetimes.{Lfts}
use denote.Triple.Entry.{Args}
use denote.Triple.Clauses.{AtExit}
use Rattle.limits.specs.declared.Table.{Table}
use Rattle.limits.specs.Rules.{broken_rule}
use Rattle.std.proofs.Common.{Result}
use Rattle.stepfile.specs.declared.write.Unwritten.{Unwritten}
use Rattle.stepfile.specs.Writing.{Written, wished, entries_for, most_for, size_of, written_as, written_of, buffer_after}
use Rattle.stepfile.proofs.RoundTrip.{accepting}
use Rattle.stepfile.proofs.RoundTripCalls as calls
use Rattle.stepfile.proofs.RoundTripCalls.{Stands, long, stands, reads_back}
use Rattle.stepfile.specs.contracts.write.write as write_call
use Rattle.stepfile.proofs.write.write.Reads as write_reads

-- the answer is the file's length, 12 bytes and two for each entry, and the file stands at the buffer's start
pub record StandsAlone (t : Table) (r : Written) (before after : List ℕ) : Type 0 where
  pub answer : r ≡ record { number = 0; rule = 0; index = 0; length = 12 + 2 * length (entries_for t) }
  pub stands : Stands t [] r.length before after

alone :
    (t : Table) (before after : List ℕ) (r : Written) → r ≡ written_of t [] [] (length before) → after ≡ buffer_after t [] [] before
    → broken_rule t ≡ 0 → 12 + 2 * length (entries_for t) ≤ length before → StandsAlone t r before after
alone t before after r a b h room =
    let e = accepting 0 0 (most_for t) (broken_rule t) refl (omega arith) h in
    let size : size_of t [] ≡ 12 + 2 * length (entries_for t) = omega arith in
    let s = stands t [] [] before after r a b e refl (omega (arith, room)) in
    let n = s.answer ∙ ap (λ m. record { number = 0; rule = 0; index = 0; length = m }) (long t [] [] before after r a b e ∙ size) in
    record { answer = n; stands = reads_back t [] [] before after r a b (ap (λ (q : Written). q.number) n) }

module _
    (κs : Lfts 3) (given : Args write_call.signature κs) (r : Result ℕ Unwritten) (left : AtExit write_call.ended κs)
    (call : write_reads.Post κs given r left) where
  abbrev table : Table
  table = wished (calls.wish κs given r left call)

  abbrev before : List ℕ
  before = calls.before κs given r left call

  pub an_admitted_table_alone_reads_back :
      calls.codes κs given r left call ≡ [] → calls.amounts κs given r left call ≡ [] → broken_rule table ≡ 0
      → 12 + 2 * length (entries_for table) ≤ length before → StandsAlone table (written_as r) before (calls.after κs given r left call)
  an_admitted_table_alone_reads_back c n =
      alone table before (calls.after κs given r left call) (written_as r)
      (call.0 ∙ ap (λ cs. written_of table cs (calls.amounts κs given r left call) (length before)) c ∙ ap (λ ns. written_of table [] ns (length before)) n)
      (call.1 ∙ ap (λ cs. buffer_after table cs (calls.amounts κs given r left call) before) c ∙ ap (λ ns. buffer_after table [] ns before) n)
