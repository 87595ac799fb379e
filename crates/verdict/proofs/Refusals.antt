-- Judging a file and laying its line answer by the first number whose condition holds, in the words of specs/Refusals.antt; with 1 to 4
-- the index is 0 and the state the start, and a line that does not fit changes no byte.
-- Assumes nothing.
use mathlib.Core.Path.{◌≡◌, refl, sym, ap, subst, ◌∙◌}
use mathlib.Core.Logic.{◌⊎◌, inl, ⊎_elim}
use mathlib.Core.List.{List}
use Prim.Native.Nat.{ℕ, ◌+◌, ◌≤◌, ◌<◌}
use native.Mathlib.Omega.{arith}
use lib.Dec.{eqb}
use lib.ListN.{get_or}
use borrow.Author.Tests.{eqb-true, eqb-false}
use Rattle.std.specs.Prelude.{Ok, Err}
use Rattle.checks.specs.Conditions.{FirstOf}
use Rattle.checks.proofs.Checks.{between}
use Rattle.checks.proofs.Tests.{case}
use Rattle.limits.specs.declared.Table.{Table}
use Rattle.line.specs.Laying.{laid_in}
use Rattle.line.specs.Refusals.{LineAnswers}
use Rattle.line.proofs.Refusals.{line_answers}
use Rattle.promises.specs.Verdicts.{at}
use Rattle.promises.specs.HowFar.{HowFar}
use Rattle.promises.proofs.OneStep.{refused_in_the_document's_words}
use Rattle.promises.proofs.ExcessLaws.{how_far}
use Rattle.shift.specs.declared.State.{State}
use Rattle.shift.specs.Readings.{Reading}
use Rattle.shift.specs.declared.Misread.TheVariants.{WrongCode, WrongAmount}
use Rattle.shift.specs.declared.Step.TheVariants.{FromNeutral, GearToGear, ToNeutral, Deliver, DeviceGood, DeviceFailed, EngineWaits, Take, AskClutch, RaiseError, Finish, Tick, Reset}
use Rattle.shift.specs.Answers.{reading, checks, guard, led, excess}
use Rattle.shift.proofs.Refusals.{reads}
use Rattle.shift.proofs.ExcessLaws.{none_below_9}
use Rattle.stepfile.specs.Files.{table_in, refusal_of, readings_of}
use Rattle.stepfile.specs.Refusals.{bits16, table_behind, file_refusals, place}
use Rattle.stepfile.proofs.GoodFiles.{read_there}
use Rattle.stepfile.proofs.FileRefusals.{ruled, file_answers}
use Rattle.verdict.specs.declared.Verdict.{Verdict}
use Rattle.verdict.specs.Verdicts.{unread, verdict_of}
use Rattle.verdict.specs.Said.{line_for}
use Rattle.verdict.specs.Refusals.{refusals_at, HowFarAt, JudgeAnswers}
use Rattle.verdict.proofs.Judging.{unread_file, read_verdict}
use Rattle.verdict.proofs.Verdicts.{read_files}
use Rattle.verdict.proofs.judge.Reads as judge_reads
use Rattle.verdict.proofs.line.Reads as line_reads_lem

-- what a step is refused with
guard_numbers : (t : Table) (s : State) (r : Reading) → (guard t s r ≡ 0) ⊎ ((5 ≤ guard t s r) × (guard t s r ≤ 13))
guard_numbers t s (Ok FromNeutral) = between 5 13 (checks t s (Ok FromNeutral)) tt
guard_numbers t s (Ok GearToGear) = between 5 13 (checks t s (Ok GearToGear)) tt
guard_numbers t s (Ok ToNeutral) = between 5 13 (checks t s (Ok ToNeutral)) tt
guard_numbers t s (Ok Deliver) = between 5 13 (checks t s (Ok Deliver)) tt
guard_numbers t s (Ok DeviceGood) = between 5 13 (checks t s (Ok DeviceGood)) tt
guard_numbers t s (Ok DeviceFailed) = between 5 13 (checks t s (Ok DeviceFailed)) tt
guard_numbers t s (Ok EngineWaits) = between 5 13 (checks t s (Ok EngineWaits)) tt
guard_numbers t s (Ok Take) = between 5 13 (checks t s (Ok Take)) tt
guard_numbers t s (Ok AskClutch) = between 5 13 (checks t s (Ok AskClutch)) tt
guard_numbers t s (Ok RaiseError) = between 5 13 (checks t s (Ok RaiseError)) tt
guard_numbers t s (Ok Finish) = between 5 13 (checks t s (Ok Finish)) tt
guard_numbers t s (Ok (Tick n)) = between 5 13 (checks t s (Ok (Tick n))) tt
guard_numbers t s (Ok Reset) = between 5 13 (checks t s (Ok Reset)) tt
guard_numbers t s (Err WrongCode) = between 5 13 (checks t s (Err WrongCode)) tt
guard_numbers t s (Err WrongAmount) = between 5 13 (checks t s (Err WrongAmount)) tt

module _ (f : List ℕ) where
  not_read : ¬ ((refusal_of f).number ≡ 0) → JudgeAnswers f (unread (refusal_of f))
  not_read n =
      let file = file_answers f in
      let most = file.numbers in
      record {
        unread = λ _. (file.first, refl, refl);
        read = ⊎_elim (λ z. absurd (n z)) (λ l. absurd (omega arith));
        refused = λ l. absurd (omega arith);
        how_far = λ l. absurd (omega arith);
        none_over = λ _. refl;
        numbers = omega arith;
        rule_for = file.rule_for;
      }

  module _ (z : (refusal_of f).number ≡ 0) where
    abbrev verdict : Verdict
    verdict = verdict_of f

    read_numbers : (verdict.number ≡ 0) ⊎ ((5 ≤ verdict.number) × (verdict.number ≤ 13))
    read_numbers =
        case (eqb verdict.number 0)
        (λ t. inl (eqb-true verdict.number 0 t))
        (λ t.
        let there = ((read_files f z).refused (eqb-false verdict.number 0 t)).1 in
        subst (λ n. (n ≡ 0) ⊎ ((5 ≤ n) × (n ≤ 13))) there
        (guard_numbers (table_in f) verdict.state (at (readings_of f) verdict.index)))

    read_rule : verdict.rule ≡ 0
    read_rule = ap (λ (v : Verdict). v.rule) (sym (read_verdict f z))

    refused_there : ¬ (verdict.number ≡ 0) → FirstOf (refusals_at f verdict.index verdict.state) verdict.number
    refused_there n =
        let there = place f verdict.index in
        let stop = (read_files f z).refused n in
        subst (FirstOf (refusals_at f verdict.index verdict.state))
        (ap (guard (table_in f) verdict.state) (sym (read_there f z verdict.index stop.0)) ∙ stop.1)
        (refused_in_the_document's_words (table_in f) verdict.state (get_or f there 0) (get_or f (there + 1) 0) (bits16 f (there + 2)))

    -- so far over, as what the record at the index means
    over_there : ¬ (verdict.number ≡ 0) → HowFarAt f verdict.index verdict.state verdict.number verdict.excess
    over_there n =
        let s = verdict.state in
        let t = table_in f in
        let there = place f verdict.index in
        let code = get_or f there 0 in
        let middle = get_or f (there + 1) 0 in
        let amount = bits16 f (there + 2) in
        let stop = (read_files f z).refused n in
        let same = read_there f z verdict.index stop.0 in
        let r = at (readings_of f) verdict.index in
        let far =
        subst (λ (q : Reading). HowFar t s code amount (guard t s q) (excess t s q (guard t s q))) (sym same)
        (how_far t s code middle amount (reading code middle amount) (reads middle amount code))
        in
        subst (HowFar t s code amount verdict.number) (sym (read_files f z).over)
        (subst (λ (k : ℕ). HowFar t s code amount k (excess t s r k)) stop.1 far)

    none_there : verdict.number < 9 → verdict.excess ≡ 0
    none_there l =
        (read_files f z).over
        ∙ none_below_9 (table_in f) verdict.state _ (led verdict.state (at (readings_of f) verdict.index)).clock verdict.number l

    is_read : JudgeAnswers f verdict
    is_read =
        record {
          unread = λ h. ⊎_elim (λ e. absurd (omega arith)) (λ b. absurd (omega arith)) read_numbers;
          read = λ _. (subst (FirstOf (file_refusals f)) z (file_answers f).first, read_files f z);
          refused = λ l. refused_there (λ e. omega arith);
          how_far = λ l. over_there (λ e. omega arith);
          none_over = none_there;
          numbers = ⊎_elim (λ e. omega arith) (λ b. b.1) read_numbers;
          rule_for =
              ruled (table_behind f) verdict.number verdict.rule
              (λ e. ⊎_elim (λ q. absurd (omega arith)) (λ b. absurd (omega arith)) read_numbers)
              (λ _. read_rule);
        }

  pub judge_answers : JudgeAnswers f (verdict_of f)
  judge_answers =
      case (eqb (refusal_of f).number 0)
      (λ t. is_read (eqb-true (refusal_of f).number 0 t))
      (λ t.
      let n = eqb-false (refusal_of f).number 0 t in
      subst (JudgeAnswers f) (unread_file f n) (not_read n))

pub judge : (κs : _) (a : _) (r : _) (at : _) → judge_reads.Post κs a r at → JudgeAnswers a.0.now r
judge κs a r at p = subst (JudgeAnswers a.0.now) (sym p) (judge_answers a.0.now)

pub line :
    (κs : _) (a : _) (r : _) (at : _) → line_reads_lem.Post κs a r at
    → LineAnswers (line_for a.0.now) a.1.0.now (laid_in r).number (laid_in r).length at.1.0.now
line κs a r at p = rw (p.0, p.1) (line_answers (line_for a.0.now) a.1.0.now)
