-- Document 02, requests 1 and 4, of the functions for C: a host that advances its running judge and the manual's variables record by
-- record, from their starts, gets every record answered alike. What is said, is said of whatever the contracts allow as outcomes.
-- Assumes nothing.
use mathlib.Core.Path.{◌≡◌, sym, subst, ◌∙◌}
use Prim.Native.Nat.{ℕ}
use contract.Lifetimes.{Lfts}
use denote.MutBor.{MutBor}
use denote.Triple.Clauses.{AtExit}
use Rattle.limits.specs.declared.Table.{Table}
use Rattle.shift.specs.declared.State.{State}
use Rattle.shift.specs.declared.Answer.{Answer}
use Rattle.shift.specs.States.{start}
use Rattle.stepfile.specs.Records.{record_of}
use Rattle.gateway.specs.Advancing.{advanced_on}
use Rattle.manual.specs.declared.Variables.{Variables}
use Rattle.manual.specs.declared.Moved.{Moved}
use Rattle.manual_agreement.specs.Agreement.{Reads}
use Rattle.manual_agreement.proofs.Joined.{Joined}
use Rattle.manual_agreement.proofs.Agreement.{Together, at_start, one_reading}
use Rattle.munasirel_m9.specs.contracts.munasirel_m9_start as m9_start
use Rattle.munasirel_m9.proofs.munasirel_m9_start.Reads as m9_start_reads
use Rattle.munasirel_m9.specs.contracts.munasirel_m9_advance as m9_advance
use Rattle.munasirel_m9.proofs.munasirel_m9_advance.Reads as m9_advance_reads
use Rattle.munasirel.specs.contracts.munasirel_advance as advance
use Rattle.munasirel.proofs.Determined as ours

-- the four bytes of a record
pub record Bytes : Type 0 where
  pub code : ℕ
  pub middle : ℕ
  pub low : ℕ
  pub high : ℕ

-- a call of each with the same table and record: the manual's by value, and ours on the state and the number for the excess that it is
-- lent
pub record Called (v : Variables) (s : State) (t : Table) (b : Bytes) (m : Moved) (number over : ℕ) (s' : State) : Type 0 where
  pub κs : Lfts 0
  pub at : AtExit m9_advance.ended κs
  pub theirs : m9_advance_reads.Post κs (v, (t, (b.code, (b.middle, (b.low, (b.high, tt)))))) m at
  pub κs' : Lfts 2
  pub state : MutBor State
  pub excess : MutBor ℕ
  pub at' : AtExit advance.ended κs'
  pub lent : state.now ≡ s
  pub ours : ours.Advanced κs' (state, (t, (b.code, (b.middle, (b.low, (b.high, (excess, tt))))))) number at'
  pub left : at'.0.now ≡ s'
  pub told : at'.1.1.1.1.1.1.0.now ≡ over

-- what a host holds after any calls from the starts on, be they accepted or refused: the variables of `munasirel_m9_start` and a state
-- of zeros at first
pub data Advanced : Variables → State → Type 0 where
  started : (κs : Lfts 0) (v : Variables) (at : AtExit m9_start.ended κs) → m9_start_reads.Post κs tt v at → Advanced v start
  advanced :
      (v : Variables) (s : State) → Advanced v s → (t : Table) (b : Bytes) (m : Moved) (number over : ℕ) (s' : State)
      → Called v s t b m number over s' → Advanced m.variables s'

-- the same number and excess, and the variables read as the state
pub record Alike (m : Moved) (n over : ℕ) (s : State) : Type 0 where
  pub number : m.number ≡ n
  pub excess : m.excess ≡ over
  pub reads : Reads m.variables s

module _ (v : Variables) (s : State) (t : Table) (b : Bytes) (m : Moved) (number over : ℕ) (s' : State) (c : Called v s t b m number over s') where
  abbrev answer : State → Answer
  answer r = advanced_on t r b.code b.middle b.low b.high

  our_number : number ≡ (answer s).number
  our_number = subst (λ (r : State). number ≡ (answer r).number) c.lent c.ours.0

  our_state : s' ≡ (answer s).state
  our_state = sym c.left ∙ subst (λ (r : State). c.at'.0.now ≡ (answer r).state) c.lent c.ours.1

  our_excess : over ≡ (answer s).excess
  our_excess =
      sym c.told
      ∙ subst (λ (r : State). c.at'.1.1.1.1.1.1.0.now ≡ (answer r).excess) c.lent c.ours.2

  together : Joined v s → Together m (answer s)
  unfolding advanced_on
  together i =
      subst (λ (x : Moved). Together x (answer s)) (sym c.theirs)
      (one_reading t v s (record_of b.code b.middle b.low b.high) i)

  joined_again : Joined v s → Joined m.variables s'
  joined_again i = subst (λ (r : State). Joined m.variables r) (sym our_state) (together i).joined

  alike : Joined v s → Alike m number over s'
  alike i = record {
    number = (together i).alike.number ∙ sym our_number;
    excess = (together i).alike.excess ∙ sym our_excess;
    reads = subst (λ (r : State). Reads m.variables r) (sym our_state) (together i).alike.reads;
  }

joined : {v : Variables} {s : State} → Advanced v s → Joined v s
joined (started κs v at p) = subst (λ (x : Variables). Joined x start) (sym p) at_start
joined (advanced v s a t b m number over s' c) = joined_again v s t b m number over s' c (joined a)

pub every_record_is_answered_alike :
    (v : Variables) (s : State) → Advanced v s → (t : Table) (b : Bytes) (m : Moved) (number over : ℕ) (s' : State)
    → Called v s t b m number over s' → Alike m number over s'
every_record_is_answered_alike v s a t b m number over s' c = alike v s t b m number over s' c (joined a)
