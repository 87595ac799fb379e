-- Demand 1 of the running judge, and that an error is final until a reset, as theorems over what the contract of `munasirel_advance`
-- allows: `Advanced`, which `claimed` shows to be the contract's own.
-- Assumes nothing.
use mathlib.Core.Path.{◌≡◌}
use Prim.Native.Nat.{ℕ, ◌+◌, ◌*◌, ◌≤◌}
use contract.Lifetimes.{Lfts}
use denote.Triple.Entry.{Args}
use denote.Triple.Clauses.{AtExit}
use Rattle.limits.specs.declared.Table.{Table}
use Rattle.limits.specs.Refusals.{Admitted}
use Rattle.shift.specs.declared.State.{State}
use Rattle.shift.specs.Refusals.{Formed}
use Rattle.promises.specs.Answered.{Answered}
use Rattle.promises.proofs.Errors.{an_error_is_final_until_a_reset}
use Rattle.gateway.proofs.Answers.{a_record}
use Rattle.munasirel.specs.contracts.munasirel_advance as advance
use Rattle.munasirel.proofs.Determined.{Advanced}

module _
    (κs : Lfts 2) (given : Args advance.signature κs) (number : ℕ) (at : AtExit advance.ended κs)
    (call : Advanced κs given number at) where
  abbrev pub state : State
  state = given.0.now

  abbrev pub table : Table
  table = given.1.0

  abbrev pub code : ℕ
  code = given.1.1.0

  abbrev pub middle : ℕ
  middle = given.1.1.1.0

  abbrev pub amount : ℕ
  amount = given.1.1.1.1.0 + 256 * given.1.1.1.1.1.0

  abbrev pub state_after : State
  state_after = at.0.now

  abbrev pub excess : ℕ
  excess = at.1.1.1.1.1.1.0.now

  -- the number is the first whose condition holds, and 0 where none does, and the excess is how far over the record is; refused, the
  -- lent state is as it was; accepted, it is the one that the step makes of it
  pub the_running_judge_answers_in_the_document's_words : Answered table state code middle amount number excess state_after
  the_running_judge_answers_in_the_document's_words =
      rw (call.0, call.1, call.2) (a_record table state code middle given.1.1.1.1.0 given.1.1.1.1.1.0)

  -- after an error every record but a tick and the reset is refused with 7
  pub the_running_judge_after_an_error :
      state.phase ≡ 23 → Admitted table → Formed code middle amount → 1 ≤ code → code ≤ 11 → (number ≡ 7) × (state_after ≡ state)
  the_running_judge_after_an_error e =
      an_error_is_final_until_a_reset table state code middle amount e number excess state_after the_running_judge_answers_in_the_document's_words
