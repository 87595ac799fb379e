-- Request 7, of files: one without a table is judged under the old default for ever; a list that the old default accepts, written under
-- the wish for none, is accepted with the same end when the file is read back; so is an accepted file without a table that is taken apart
-- and written anew; and a list that is refused in a file without a table is accepted as it is written for the wish for none.
-- Assumes nothing.
use mathlib.Core.Path.{◌≡◌, refl, sym, ap, ◌∙◌}
use mathlib.Core.List.{List, [], ◌∷◌}
use Prim.Native.Nat.{ℕ}
use contract.Lifetimes.{Lfts}
use denote.Triple.Entry.{Args}
use denote.Triple.Clauses.{AtExit}
use Rattle.limits.specs.Refusals.{by_old_default, by_new_default}
use Rattle.promises.proofs.Defaults.{accepted_by_the_new_default}
use Rattle.shift.specs.Readings.{Reading}
use Rattle.shift.specs.States.{start}
use Rattle.shift.specs.Runs.{run}
use Rattle.std.proofs.Common.{None, Result}
use Rattle.stepfile.specs.declared.write.Unwritten.{Unwritten}
use Rattle.stepfile.specs.Files.{table_entries, table_in, refusal_of, readings_of}
use Rattle.stepfile.specs.Writing.{wished, written_as}
use Rattle.stepfile.specs.RoundTrip.{readings_by, codes_in}
use Rattle.stepfile.proofs.TableLaws.{without_entries}
use Rattle.stepfile.proofs.RoundTrip.{taken_apart_reads_the_same}
use Rattle.stepfile.proofs.RoundTripCalls.{TakenApart}
use Rattle.stepfile.specs.contracts.write.write as write_call
use Rattle.stepfile.proofs.write.write.Reads as write_reads
use Rattle.verdict.specs.declared.Verdict.{Verdict}
use Rattle.verdict.specs.Verdicts.{of_run, verdict_of}
use Rattle.verdict.proofs.Judging.{read_verdict}
use Rattle.verdict.proofs.KnownFiles as known
use Rattle.verdict.proofs.KnownFiles.{told, Answered, answered}
use Rattle.verdict.proofs.WrittenFiles.{bytes, written_is_judged_as_given}

-- under the old default
under_the_old_default :
    (f : List ℕ) → (refusal_of f).number ≡ 0 → table_entries f ≡ 0 → verdict_of f ≡ of_run (run by_old_default start (readings_of f))
under_the_old_default f z k =
    sym (read_verdict f z) ∙ ap (λ t. of_run (run t start (readings_of f))) (without_entries f k)

-- whatever the contract of `judge` allows as the verdict on a good file without a table
pub files_without_a_table_are_judged_under_the_old_default :
    (f : List ℕ) → (refusal_of f).number ≡ 0 → table_entries f ≡ 0
    → Answered f (λ v. v ≡ of_run (run by_old_default start (readings_of f)))
files_without_a_table_are_judged_under_the_old_default f z k =
    answered f (λ v. v ≡ of_run (run by_old_default start (readings_of f))) (under_the_old_default f z k)

-- the list with 10 ms for each message, in a file without a table: its second record is refused with 12, 5 over
pub ten_ms_without_a_table : Answered known.without_a_table (λ v. told v ≡ 12 ∷ 1 ∷ 5 ∷ 0 ∷ 1 ∷ [])
unfolding table_in
ten_ms_without_a_table = answered known.without_a_table (λ v. told v ≡ 12 ∷ 1 ∷ 5 ∷ 0 ∷ 1 ∷ []) refl

-- ---- of a call of `write` that answers 0 to the wish for none, and of any call of `judge` on the bytes that it wrote
module _
    (κs : Lfts 3) (given : Args write_call.signature κs) (r : Result ℕ Unwritten) (left : AtExit write_call.ended κs)
    (call : write_reads.Post κs given r left) (z : (written_as r).number ≡ 0) (none : given.0 ≡ None) where
  abbrev pub file : List ℕ
  file = bytes κs given r left call z

  abbrev pub codes : List ℕ
  codes = given.1.0.now

  abbrev pub amounts : List ℕ
  amounts = given.1.1.0.now

  abbrev pub steps : List Reading
  steps = readings_by codes amounts

  under_the_new_default : verdict_of file ≡ of_run (run by_new_default start steps)
  under_the_new_default =
      written_is_judged_as_given κs given r left call z ∙ ap (λ w. of_run (run (wished w) start steps)) none

  read_back : (run by_old_default start steps).number ≡ 0 → verdict_of file ≡ of_run (run by_old_default start steps)
  read_back a = under_the_new_default ∙ ap of_run (accepted_by_the_new_default steps a)

  -- the list with 10 ms for each message: it is accepted, 13 records, clock 430 and at rest
  pub ten_ms_for_none :
      codes ≡ known.codes → amounts ≡ known.amounts → Answered file (λ v. told v ≡ 0 ∷ 13 ∷ 0 ∷ 430 ∷ 0 ∷ [])
  ten_ms_for_none c a =
      answered file (λ v. told v ≡ 0 ∷ 13 ∷ 0 ∷ 430 ∷ 0 ∷ [])
      (ap told
      (under_the_new_default
      ∙ ap (λ cs. of_run (run by_new_default start (readings_by cs amounts))) c
      ∙ ap (λ ns. of_run (run by_new_default start (readings_by known.codes ns))) a))

  -- a list that the old default accepts
  pub accepted_for_none :
      (run by_old_default start steps).number ≡ 0 → Answered file (λ v. v ≡ of_run (run by_old_default start steps))
  accepted_for_none a = answered file (λ v. v ≡ of_run (run by_old_default start steps)) (read_back a)

  -- the list of a good file without a table that is accepted
  pub accepted_files_written_for_none :
      (f : List ℕ) → TakenApart f codes amounts → table_entries f ≡ 0 → (verdict_of f).number ≡ 0
      → Answered f (λ v. Answered file (λ u. u ≡ v))
  accepted_files_written_for_none f p k a =
      let same : steps ≡ readings_of f =
      ap (λ cs. readings_by cs amounts) p.codes_in_lem
      ∙ ap (readings_by (codes_in f)) p.amounts_in_lem
      ∙ taken_apart_reads_the_same f p.bytes p.good p.all_read
      in
      let old : of_run (run by_old_default start steps) ≡ verdict_of f =
      ap (λ rs. of_run (run by_old_default start rs)) same ∙ sym (under_the_old_default f p.good k)
      in
      answered f (λ v. Answered file (λ u. u ≡ v))
      (answered file (λ u. u ≡ verdict_of f) (read_back (ap (λ (v : Verdict). v.number) old ∙ a) ∙ old))
