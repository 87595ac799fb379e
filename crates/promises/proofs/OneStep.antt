-- Demand 1 of one step on any given state and table, as theorems over what the contract of `State::step` allows, and over whatever
-- else is answered as one step is.
-- Assumes nothing.
use mathlib.Core.Path.{◌≡◌, refl, sym, subst, ◌∙◌}
use mathlib.Core.List.{[], ◌∷◌}
use Prim.Native.Nat.{ℕ, ◌+◌, ◌≤◌, ◌<◌}
use native.Mathlib.Omega.{arith}
use contract.Lifetimes.{Lfts}
use denote.Triple.Entry.{Args}
use denote.Triple.Clauses.{AtExit}
use Rattle.checks.specs.Conditions.{FirstOf, OneOf}
use Rattle.checks.proofs.ConditionLaws.{one_of}
use Rattle.limits.specs.declared.Table.{Table}
use Rattle.limits.specs.Refusals.{Admitted, broken}
use Rattle.shift.specs.declared.State.{State}
use Rattle.shift.specs.declared.Answer.{Answer}
use Rattle.shift.specs.Answers.{reading, guard}
use Rattle.shift.specs.Refusals.{Formed}
use Rattle.shift.specs.contracts.State.step as step_call
use Rattle.shift.proofs.State.step.Reads as step_reads
use Rattle.promises.specs.Refusals.{record_refusals, refusals, PastClock, PastStage, PastPhase}
use Rattle.promises.specs.HowFar.{at_clock, EarlyBy, LateBy, PastBy}
use Rattle.promises.specs.Answered.{Answered}
use Rattle.promises.proofs.RefusalLaws.{first_refusal}
use Rattle.promises.proofs.Errors.{an_error_is_final_until_a_reset}
use Rattle.promises.proofs.AnswerLaws.{answered, with_its_rule, the_one, of_a_tick, of_another_step}

-- the number of a record, where the table has been tested: the first whose condition holds, and 0 where none does
pub refused_in_the_document's_words :
    (t : Table) (s : State) (code middle amount : ℕ) → FirstOf (record_refusals t s code middle amount) (guard t s (reading code middle amount))
refused_in_the_document's_words = first_refusal

-- ---- whatever the contract of `State::step` allows
module _
    (κs : Lfts 0) (given : Args step_call.signature κs) (a : Answer) (at : AtExit step_call.ended κs)
    (call : step_reads.Post κs given a at) where
  abbrev pub state : State
  state = given.0

  abbrev pub table : Table
  table = given.1.0

  abbrev pub code : ℕ
  code = given.1.1.0

  abbrev pub amount : ℕ
  amount = given.1.1.1.0

  -- the number is the first whose condition holds, and 0 where none does; refused, the state is the one given; accepted, it is the
  -- one that the step makes of it
  pub a_step_is_answered_in_the_document's_words : Answered table state code 0 amount a.number a.excess a.state
  a_step_is_answered_in_the_document's_words =
      subst (λ (q : Answer). Answered table state code 0 amount q.number q.excess q.state) (sym call) (answered table state code 0 amount)

  pub a_step_names_the_first_broken_rule : FirstOf (broken table) a.rule
  a_step_names_the_first_broken_rule =
      subst (λ (q : Answer). FirstOf (broken table) q.rule) (sym call) (with_its_rule table state code 0 amount)

  -- after an error every step but a tick and the reset is refused with 7
  pub a_step_after_an_error :
      state.phase ≡ 23 → Admitted table → Formed code 0 amount → 1 ≤ code → code ≤ 11 → (a.number ≡ 7) × (a.state ≡ state)
  a_step_after_an_error e =
      an_error_is_final_until_a_reset table state code 0 amount e a.number a.excess a.state a_step_is_answered_in_the_document's_words

-- a limit that a tick of this amount passes by e: an amount that is e smaller, where there is one, keeps it, every amount between
-- passes it
pub record Amounts (Past : ℕ → Type 0) (amount e : ℕ) : Type 0 where
  pub some : 1 ≤ e
  pub kept : (n : ℕ) → n + e ≡ amount → ¬ Past n
  pub passed : (n : ℕ) → n ≤ amount → amount < n + e → Past n

by_amounts : (Past : ℕ → ℕ → Type 0) (clock amount e : ℕ) → PastBy Past (clock + amount) e → Amounts (Past clock) amount e
by_amounts Past clock amount e p = record {
  some = p.some;
  kept = λ n q. p.kept clock n (omega arith);
  passed = λ n l q. p.passed clock n (omega arith);
}

-- ---- whatever is answered so
module _ (t : Table) (s : State) (code middle amount : ℕ) where
  -- no other answer fits that description
  pub no_other_answer :
      (m n d e : ℕ) (u v : State) → Answered t s code middle amount m d u → Answered t s code middle amount n e v
      → (m ≡ n) × (d ≡ e) × (u ≡ v)
  no_other_answer m n d e u v x y =
      let p = the_one t s code middle amount m d u x in
      let q = the_one t s code middle amount n e v y in
      (p.0 ∙ sym q.0, p.1 ∙ sym q.1, p.2 ∙ sym q.2)

  -- how far over: a tick that is refused by 11, 12 or 13 by amounts; a device good, device failed or ask clutch that is refused by 9 and
  -- a take that is refused by 10 by clocks; every other answer carries 0
  pub the_excess_of_a_tick :
      (n e : ℕ) (u : State) → Answered t s code middle amount n e u
      → (n ≡ 11 → Amounts (PastPhase t s code) amount e)
      × (n ≡ 12 → Amounts (PastStage t s code) amount e)
      × (n ≡ 13 → Amounts (PastClock s code) amount e)
  the_excess_of_a_tick n e u x =
      let far = x.how_far in (
        λ q. by_amounts (λ c m. PastPhase t (at_clock c s) code m) s.clock amount e (far.past_phase q),
        λ q. by_amounts (λ c m. PastStage t (at_clock c s) code m) s.clock amount e (far.past_stage q),
        λ q. by_amounts (λ c m. PastClock (at_clock c s) code m) s.clock amount e (far.past_clock q),
      )

  pub the_excess_of_an_early_step : (e : ℕ) (u : State) → Answered t s code middle amount 9 e u → EarlyBy t s code e
  the_excess_of_an_early_step e u x = x.how_far.too_early refl

  pub the_excess_of_a_take : (e : ℕ) (u : State) → Answered t s code middle amount 10 e u → LateBy t s code e
  the_excess_of_a_take e u x = x.how_far.too_late refl

  pub every_other_answer_carries_0 :
      (n e : ℕ) (u : State) → Answered t s code middle amount n e u → ¬ OneOf (9 ∷ 10 ∷ 11 ∷ 12 ∷ 13 ∷ []) n → e ≡ 0
  every_other_answer_carries_0 n e u x = x.how_far.none

  -- the numbers that it can have: of any step, of one that is no tick, and of a tick
  pub numbers_of_an_answer :
      (n e : ℕ) (u : State) → Answered t s code middle amount n e u
      → OneOf (0 ∷ 4 ∷ 5 ∷ 6 ∷ 7 ∷ 8 ∷ 9 ∷ 10 ∷ 13 ∷ 12 ∷ 11 ∷ []) n
  numbers_of_an_answer n e u x = one_of (refusals t s code middle amount) n x.first

  pub numbers_of_a_step :
      (n e : ℕ) (u : State) → Answered t s code middle amount n e u → ¬ (code ≡ 12) → OneOf (0 ∷ 4 ∷ 5 ∷ 6 ∷ 7 ∷ 8 ∷ 9 ∷ 10 ∷ []) n
  numbers_of_a_step n e u x o = of_another_step t s middle amount n code o x.first

  pub numbers_of_a_tick :
      (n d : ℕ) (u : State) → Answered t s code middle amount n d u → code ≡ 12 → OneOf (0 ∷ 4 ∷ 6 ∷ 7 ∷ 13 ∷ 12 ∷ 11 ∷ []) n
  numbers_of_a_tick n d u x e =
      of_a_tick t s middle amount n (subst (λ (c : ℕ). FirstOf (refusals t s c middle amount) n) e x.first)
