-- The round trip of files through the calls of a host in C: what `munasirel_write` leaves in the lent buffer reads back and is judged
-- as what was given, with the new default where none is wished; and a good file that was taken apart stands there again, in eighteen
-- entries where it had none or twenty-two with four zeros.
-- Assumes nothing.
use Rattle.std.proofs.Common.{Some, None}
use mathlib.Core.Path.{◌≡◌, refl, ap, subst, ◌∙◌}
use mathlib.Core.Bool.{Bool, true, false, cond}
use mathlib.Core.List.{List}
use Prim.Native.Nat.{ℕ, ◌+◌, ◌*◌, ◌≤◌, ◌<◌}
use lib.Dec.{eqb}
use lib.ListN.{length, take}
use contract.Lifetimes.{Lfts}
use denote.Triple.Entry.{Args}
use denote.Triple.Clauses.{AtExit}
use Rattle.limits.specs.declared.Table.{Table}
use Rattle.limits.specs.Limits.{new_default}
use Rattle.limits.specs.Refusals.{by_old_default}
use Rattle.shift.specs.Readings.{Reading}
use Rattle.shift.specs.States.{start}
use Rattle.shift.specs.Runs.{Outcome, run}
use Rattle.promises.proofs.Defaults.{accepted_by_the_new_default}
use Rattle.stepfile.specs.Files.{table_in}
use Rattle.stepfile.specs.Writing.{Written, wished, first_wrong, refused_with, written_of, buffer_after}
use Rattle.stepfile.specs.RoundTrip.{readings_by, OtherEntries}
use Rattle.stepfile.proofs.RoundTripCalls.{Stands, TakenApart, StandsAgain, long_in_eighteen, StandsInEighteen, reads_back, gives_the_file_back, gives_the_file_in_eighteen}
use Rattle.stepfile.proofs.WishForNone.{StandsForNone, none_reads_back, none_without_room}
use Rattle.verdict.specs.declared.Verdict.{Verdict}
use Rattle.verdict.specs.Verdicts.{of_run, verdict_of}
use Rattle.verdict.proofs.WrittenFiles.{judged_as_given}
use Rattle.munasirel.specs.Calls.{wish_of, written_for}
use Rattle.munasirel.specs.contracts.munasirel_write as write_call
use Rattle.munasirel.proofs.munasirel_write.Reads as write_reads
use Rattle.munasirel.specs.contracts.munasirel_judge as judge_call
use Rattle.munasirel.proofs.munasirel_judge.Reads as judge_reads
use Rattle.munasirel.specs.contracts.munasirel_verdict as verdict_call
use Rattle.munasirel.proofs.munasirel_verdict.Reads as verdict_reads
use Rattle.munasirel.specs.contracts.munasirel_table as table_call
use Rattle.munasirel.proofs.munasirel_table.Reads as table_reads

-- the wish for none is the new default
by_wish : (b : Bool) (t : Table) → wished (cond b None (Some t)) ≡ cond b new_default t
by_wish true t = refl
by_wish false t = refl

-- ---- of a call of `munasirel_write`, whatever its contract allows
module _
    (κs : Lfts 6) (given : Args write_call.signature κs) (number : ℕ) (left : AtExit write_call.ended κs)
    (call : write_reads.Post κs given number left) where
  abbrev pub table : Table
  table = given.0

  abbrev pub with_table : ℕ
  with_table = given.1.0

  abbrev pub codes : List ℕ
  codes = given.1.1.0.now

  abbrev pub amounts : List ℕ
  amounts = given.1.1.1.0.now

  -- the buffer
  abbrev pub before : List ℕ
  before = given.1.1.1.1.0.now

  abbrev pub after : List ℕ
  after = left.1.1.1.1.0.now

  -- the number, and the lent numbers at exit
  abbrev pub answer : Written
  answer = record {
    number = number;
    rule = left.1.1.1.1.1.1.1.0.now;
    index = left.1.1.1.1.1.1.0.now;
    length = left.1.1.1.1.1.0.now;
  }

  -- what is to be judged: the table, or the new default where none is wished, and the steps
  abbrev pub judged_under : Table
  judged_under = cond (eqb with_table 0) new_default table

  abbrev pub steps : List Reading
  steps = readings_by codes amounts

  answered : answer ≡ written_for with_table table codes amounts before
  answered = rw (call.0, call.1, call.2, call.3)

  pub munasirel_write_reads_back : number ≡ 0 → Stands judged_under steps answer.length before after
  munasirel_write_reads_back z =
      subst (λ t. Stands t steps answer.length before after) (by_wish (eqb with_table 0) table)
      (reads_back (wished (wish_of with_table table)) codes amounts before after answer answered call.4 z)

  -- the table that is written is the file's
  module _ (f : List ℕ) (t : TakenApart f codes amounts) (e : judged_under ≡ table_in f) where
    its_table : wished (wish_of with_table table) ≡ table_in f
    its_table = by_wish (eqb with_table 0) table ∙ e

    pub munasirel_write_gives_the_file_back : ¬ OtherEntries f → length f ≤ length before → StandsAgain f answer before after
    munasirel_write_gives_the_file_back =
        gives_the_file_back (wished (wish_of with_table table)) codes amounts before after answer answered call.4 f t its_table

    pub munasirel_write_gives_the_file_in_eighteen :
        OtherEntries f → long_in_eighteen f ≤ length before → StandsInEighteen f answer before after
    munasirel_write_gives_the_file_in_eighteen =
        gives_the_file_in_eighteen (wished (wish_of with_table table)) codes amounts before after answer answered call.4 f t its_table

  -- where none is wished
  module _ (none : with_table ≡ 0) where
    its_wish : wish_of with_table table ≡ None
    its_wish = ap (λ k. wish_of k table) none

    its_answer : answer ≡ written_of new_default codes amounts (length before)
    its_answer = answered ∙ ap (λ w. written_of (wished w) codes amounts (length before)) its_wish

    its_buffer : after ≡ buffer_after new_default codes amounts before
    its_buffer = call.4 ∙ ap (λ w. buffer_after (wished w) codes amounts before) its_wish

    pub munasirel_the_wish_for_none_reads_back : number ≡ 0 → StandsForNone codes amounts answer before after
    munasirel_the_wish_for_none_reads_back = none_reads_back codes amounts before after answer its_answer its_buffer

    pub munasirel_the_wish_for_none_without_room :
        length codes ≡ length amounts → length codes ≤ 16372 → (first_wrong 0 codes amounts).number ≡ 0
        → length before < 48 + 4 * length codes
        → (answer ≡ refused_with 15 0 0) × (after ≡ before)
    munasirel_the_wish_for_none_without_room = none_without_room codes amounts before after answer its_answer its_buffer

  -- ---- of calls on the bytes that it wrote
  abbrev pub bytes : List ℕ
  bytes = take answer.length after

  judged : number ≡ 0 → verdict_of bytes ≡ of_run (run judged_under start steps)
  judged z = judged_as_given judged_under steps bytes (munasirel_write_reads_back z).file

  pub munasirel_judge_of_what_was_written :
      number ≡ 0
      → (κs' : Lfts 1) (lent : Args judge_call.signature κs') (r : ℕ) (left' : AtExit judge_call.ended κs')
      → judge_reads.Post κs' lent r left' → lent.0.now ≡ bytes → r ≡ (run judged_under start steps).number
  munasirel_judge_of_what_was_written z κs' lent r left' said e =
      said ∙ ap (λ f. (verdict_of f).number) e ∙ ap (λ (v : Verdict). v.number) (judged z)

  pub munasirel_verdict_of_what_was_written :
      number ≡ 0
      → (κs' : Lfts 1) (lent : Args verdict_call.signature κs') (v : Verdict) (left' : AtExit verdict_call.ended κs')
      → verdict_reads.Post κs' lent v left' → lent.0.now ≡ bytes → v ≡ of_run (run judged_under start steps)
  munasirel_verdict_of_what_was_written z κs' lent v left' said e = said ∙ ap verdict_of e ∙ judged z

  -- where none is wished and the old default accepts the list: it is accepted, with the same count and the same end
  pub munasirel_accepted_for_none :
      number ≡ 0 → with_table ≡ 0 → (run by_old_default start steps).number ≡ 0
      → (κs' : Lfts 1) (lent : Args verdict_call.signature κs') (v : Verdict) (left' : AtExit verdict_call.ended κs')
      → verdict_reads.Post κs' lent v left' → lent.0.now ≡ bytes → v ≡ of_run (run by_old_default start steps)
  munasirel_accepted_for_none z none a κs' lent v left' said e =
      munasirel_verdict_of_what_was_written z κs' lent v left' said e
      ∙ ap (λ k. of_run (run (cond (eqb k 0) new_default table) start steps)) none
      ∙ ap of_run (accepted_by_the_new_default steps a)

  pub munasirel_judge_accepts_for_none :
      number ≡ 0 → with_table ≡ 0 → (run by_old_default start steps).number ≡ 0
      → (κs' : Lfts 1) (lent : Args judge_call.signature κs') (r : ℕ) (left' : AtExit judge_call.ended κs')
      → judge_reads.Post κs' lent r left' → lent.0.now ≡ bytes → r ≡ 0
  munasirel_judge_accepts_for_none z none a κs' lent r left' said e =
      munasirel_judge_of_what_was_written z κs' lent r left' said e
      ∙ ap (λ k. (run (cond (eqb k 0) new_default table) start steps).number) none
      ∙ ap (λ (o : Outcome). o.number) (accepted_by_the_new_default steps a)
      ∙ a

  pub munasirel_table_of_what_was_written :
      number ≡ 0
      → (κs' : Lfts 1) (lent : Args table_call.signature κs') (t : Table) (left' : AtExit table_call.ended κs')
      → table_reads.Post κs' lent t left' → lent.0.now ≡ bytes → t ≡ judged_under
  munasirel_table_of_what_was_written z κs' lent t left' said e =
      said ∙ ap table_in e ∙ (munasirel_write_reads_back z).file.table
