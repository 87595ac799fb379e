-- Judging what `write` left in the buffer is judging the table and the list that it was given.
-- Assumes nothing.
use mathlib.Core.Path.{◌≡◌, sym, ap, ◌∙◌}
use mathlib.Core.List.{List}
use Prim.Native.Nat.{ℕ}
use lib.ListN.{take}
use contract.Lifetimes.{Lfts}
use denote.Triple.Entry.{Args}
use denote.Triple.Clauses.{AtExit}
use Rattle.limits.specs.declared.Table.{Table}
use Rattle.shift.specs.Readings.{Reading}
use Rattle.shift.specs.States.{start}
use Rattle.shift.specs.Runs.{run}
use Rattle.std.proofs.Common.{Result}
use Rattle.stepfile.specs.declared.write.Unwritten.{Unwritten}
use Rattle.stepfile.specs.Files.{readings_of}
use Rattle.stepfile.specs.Writing.{wished, written_as}
use Rattle.stepfile.specs.RoundTrip.{readings_by}
use Rattle.stepfile.proofs.RoundTripCalls.{GoodFileOf, write_reads_back}
use Rattle.stepfile.specs.contracts.write.write as write_call
use Rattle.stepfile.proofs.write.write.Reads as write_reads
use Rattle.verdict.specs.declared.Verdict.{Verdict}
use Rattle.verdict.specs.Verdicts.{of_run, verdict_of}
use Rattle.verdict.proofs.Judging.{read_verdict}
use Rattle.verdict.specs.contracts.judge as judge_call
use Rattle.verdict.proofs.judge.Reads as judge_reads

pub judged_as_given : (t : Table) (steps : List Reading) (f : List ℕ) → GoodFileOf t steps f → verdict_of f ≡ of_run (run t start steps)
judged_as_given t steps f g =
    sym (read_verdict f g.good)
    ∙ ap (λ u. of_run (run u start (readings_of f))) g.table
    ∙ ap (λ rs. of_run (run t start rs)) g.read

-- of a call of `write` that answers 0
module _
    (κs : Lfts 3) (given : Args write_call.signature κs) (r : Result ℕ Unwritten) (left : AtExit write_call.ended κs)
    (call : write_reads.Post κs given r left) (z : (written_as r).number ≡ 0) where
  -- the bytes that it wrote
  abbrev pub bytes : List ℕ
  bytes = take (written_as r).length left.1.1.1.0.now

  -- the verdict on the table and the list
  abbrev pub verdict : Verdict
  verdict = of_run (run (wished given.0) start (readings_by given.1.0.now given.1.1.0.now))

  pub written_is_judged_as_given : verdict_of bytes ≡ verdict
  written_is_judged_as_given = judged_as_given _ _ bytes (write_reads_back κs given r left call z).file

  -- of any call of `judge` on them
  pub judge_of_what_was_written :
      (κs' : Lfts 1) (lent : Args judge_call.signature κs') (v : Verdict) (left' : AtExit judge_call.ended κs')
      → judge_reads.Post κs' lent v left' → lent.0.now ≡ bytes → v ≡ verdict
  judge_of_what_was_written κs' lent v left' said e = said ∙ ap verdict_of e ∙ written_is_judged_as_given
