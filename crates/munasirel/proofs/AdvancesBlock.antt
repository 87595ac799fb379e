-- Demand 1 of the running judge over a block of records, and that a block is its records through `munasirel_advance` one by one, as
-- theorems over what the contract of `munasirel_advance_block` allows: `AdvancedBlock`, which `claimed_block` shows to be its own.
-- Assumes nothing.
use mathlib.Core.Path.{◌≡◌, sym, ap, ◌∙◌}
use mathlib.Core.List.{List, ◌∷◌}
use Prim.Native.Nat.{ℕ, suc, ◌<◌}
use native.Mathlib.Omega.{arith}
use lib.ListN.{length}
use contract.Lifetimes.{Lfts}
use denote.MutBor.{MutBor}
use denote.Triple.Entry.{Args}
use denote.Triple.Clauses.{AtExit}
use Rattle.limits.specs.declared.Table.{Table}
use Rattle.shift.specs.declared.State.{State}
use Rattle.shift.specs.Runs.{Outcome, ended as nothing_left, after}
use Rattle.verdict.proofs.Verdicts.{outcome}
use Rattle.gateway.specs.Advancing.{advanced_on, advancing}
use Rattle.gateway.proofs.Answers.{a_record}
use Rattle.gateway.proofs.Blocks.{a_block_is_its_records_one_by_one, no_record}
use Rattle.gateway.proofs.BlockAnswers.{BlockAnswered, where_a_block_stops}
use Rattle.munasirel.specs.contracts.munasirel_advance as advance
use Rattle.munasirel.specs.contracts.munasirel_advance_block as advance_block
use Rattle.munasirel.proofs.Determined.{Advanced, AdvancedBlock}

-- a call of `munasirel_advance` that is lent the state s and leaves s' and this excess
pub record Called (t : Table) (s : State) (code middle low high number over : ℕ) (s' : State) : Type 0 where
  pub κs : Lfts 2
  pub state : MutBor State
  pub excess : MutBor ℕ
  pub at : AtExit advance.ended κs
  pub lent : state.now ≡ s
  pub call : Advanced κs (state, (t, (code, (middle, (low, (high, (excess, tt))))))) number at
  pub left : at.0.now ≡ s'
  pub left_over : at.1.1.1.1.1.1.0.now ≡ over

-- a call for each record of a block, on the state that the one before left, up to the first that is refused: how many were accepted,
-- the last number with its excess and the state that is left
pub data OneByOne : Table → State → List ℕ → Outcome → Type 0 where
  ended :
      (t : Table) (s : State) (l : List ℕ) → length l < 4
      → OneByOne t s l (nothing_left s)
  refused :
      (t : Table) (s : State) (a b c d : ℕ) (l : List ℕ) (k over : ℕ) (s' : State) → Called t s a b c d (suc k) over s'
      → OneByOne t s (a ∷ b ∷ c ∷ d ∷ l) (record { count = 0; number = suc k; excess = over; state = s' })
  accepted :
      (t : Table) (s : State) (a b c d : ℕ) (l : List ℕ) (over : ℕ) (s' : State) (o : Outcome)
      → Called t s a b c d 0 over s' → OneByOne t s' l o
      → OneByOne t s (a ∷ b ∷ c ∷ d ∷ l) (after 0 over s o)

module _ (t : Table) (s : State) (a b c d number over : ℕ) (s' : State) (one : Called t s a b c d number over s') where
  its_number : number ≡ (advanced_on t s a b c d).number
  its_number = one.call.0 ∙ ap (λ (r : State). (advanced_on t r a b c d).number) one.lent

  its_state : s' ≡ (advanced_on t s a b c d).state
  its_state = sym one.left ∙ one.call.1 ∙ ap (λ (r : State). (advanced_on t r a b c d).state) one.lent

  its_excess : over ≡ (advanced_on t s a b c d).excess
  its_excess = sym one.left_over ∙ one.call.2 ∙ ap (λ (r : State). (advanced_on t r a b c d).excess) one.lent

called_one_by_one : {t : Table} {s : State} {l : List ℕ} {o : Outcome} → OneByOne t s l o → o ≡ advancing t s l
called_one_by_one (ended t s l h) = ap outcome (no_record t s l h) ∙ a_block_is_its_records_one_by_one t s l
called_one_by_one (refused t s a b c d rest k over s' one) =
    let n = its_number t s a b c d (suc k) over s' one in
    let same = (a_record t s a b c d).refused (λ z. omega arith) in
    rw (← n, its_state t s a b c d (suc k) over s' one, its_excess t s a b c d (suc k) over s' one, same)
called_one_by_one (accepted t s a b c d rest over s' p one calls) =
    rw (← its_number t s a b c d 0 over s' one, ← its_state t s a b c d 0 over s' one)
    (ap (after 0 over s) (called_one_by_one calls))

module _
    (κs : Lfts 4) (given : Args advance_block.signature κs) (number : ℕ) (at : AtExit advance_block.ended κs)
    (call : AdvancedBlock κs given number at) where
  abbrev pub state : State
  state = given.0.now

  abbrev pub table : Table
  table = given.1.0

  abbrev pub records : List ℕ
  records = given.1.1.0.now

  abbrev pub state_after : State
  state_after = at.0.now

  abbrev pub count : ℕ
  count = at.1.1.1.0.now

  abbrev pub excess : ℕ
  excess = at.1.1.1.1.0.now

  -- the records that are counted are accepted and lead to the state; the one behind them, where the number is not 0, is refused by it
  -- on that state and so far over, and where it is 0 there is none
  pub the_running_judge_answers_a_block_in_the_document's_words : BlockAnswered table state records number count excess state_after
  the_running_judge_answers_a_block_in_the_document's_words =
      rw (call.0, call.1, call.2, call.3) (where_a_block_stops table state records)

  -- a host that calls `munasirel_advance` for each record has the same count, the same number, the same excess and the same state
  pub a_block_is_its_records_through_munasirel_advance :
      (o : Outcome) → OneByOne table state records o
      → o ≡ record { count = count; number = number; excess = excess; state = state_after }
  a_block_is_its_records_through_munasirel_advance o calls =
      rw (call.0, call.1, call.2, call.3)
      (called_one_by_one calls ∙ sym (a_block_is_its_records_one_by_one table state records))
