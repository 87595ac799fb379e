-- Demand 1 of one record on any given state and table, as theorems over what the contract of `advanced` allows.
-- Assumes nothing.
use mathlib.Core.Path.{sym, subst}
use Prim.Native.Nat.{ℕ, ◌+◌, ◌*◌}
use contract.Lifetimes.{Lfts}
use denote.Triple.Entry.{Args}
use denote.Triple.Clauses.{AtExit}
use Rattle.checks.specs.Conditions.{FirstOf}
use Rattle.limits.specs.declared.Table.{Table}
use Rattle.shift.specs.declared.State.{State}
use Rattle.shift.specs.declared.Answer.{Answer}
use Rattle.limits.specs.Refusals.{broken}
use Rattle.promises.specs.Answered.{Answered}
use Rattle.promises.proofs.AnswerLaws.{answered, with_its_rule}
use Rattle.gateway.specs.Advancing.{advanced_on}
use Rattle.gateway.specs.contracts.advanced as advanced_call
use Rattle.gateway.proofs.advanced.Reads as advanced_reads

-- a record is answered as one step is, of its code, its middle byte and its amount
module _ (t : Table) (s : State) (code middle low high : ℕ) where
  pub a_record :
      Answered t s code middle (low + 256 * high) (advanced_on t s code middle low high).number (advanced_on t s code middle low high).excess (advanced_on t s code middle low high).state
  unfolding advanced_on
  a_record = answered t s code middle (low + 256 * high)

  its_rule : FirstOf (broken t) (advanced_on t s code middle low high).rule
  unfolding advanced_on
  its_rule = with_its_rule t s code middle (low + 256 * high)

-- ---- whatever the contract of `advanced` allows
module _
    (κs : Lfts 0) (given : Args advanced_call.signature κs) (a : Answer) (at : AtExit advanced_call.ended κs)
    (call : advanced_reads.Post κs given a at) where
  abbrev pub state : State
  state = given.0

  abbrev pub table : Table
  table = given.1.0

  abbrev pub code : ℕ
  code = given.1.1.0

  abbrev pub middle : ℕ
  middle = given.1.1.1.0

  abbrev pub amount : ℕ
  amount = given.1.1.1.1.0 + 256 * given.1.1.1.1.1.0

  -- the number is the first whose condition holds, and 0 where none does; refused, the state is the one given; accepted, it is the
  -- one that the step makes of it
  pub a_record_is_answered_in_the_document's_words : Answered table state code middle amount a.number a.excess a.state
  a_record_is_answered_in_the_document's_words =
      subst (λ (q : Answer). Answered table state code middle amount q.number q.excess q.state) (sym call) (a_record table state code middle _ _)

  pub a_record_names_the_first_broken_rule : FirstOf (broken table) a.rule
  a_record_names_the_first_broken_rule =
      subst (λ (q : Answer). FirstOf (broken table) q.rule) (sym call) (its_rule table state code middle _ _)
