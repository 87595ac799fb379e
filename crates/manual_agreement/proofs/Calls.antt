-- Document 02, requests 1 and 4, carried through the two step functions: both engines are advanced call by call from their starts, and
-- every call is answered alike. What is said, is said of whatever the contracts allow as outcomes.
-- Assumes nothing.
use mathlib.Core.Path.{◌≡◌, refl, sym, subst}
use Prim.Native.Nat.{ℕ, zero, suc}
use contract.Lifetimes.{Lfts}
use denote.Triple.Clauses.{AtExit}
use Rattle.limits.specs.declared.Table.{Table}
use Rattle.limits.specs.Rules.{broken_rule}
use Rattle.shift.specs.declared.State.{State}
use Rattle.shift.specs.declared.Answer.{Answer}
use Rattle.shift.specs.Answers.{reading}
use Rattle.shift.specs.contracts.State.start as our_start
use Rattle.shift.proofs.State.start.Reads as our_start_reads
use Rattle.shift.specs.contracts.State.step as our_step
use Rattle.shift.proofs.State.step.Reads as our_step_reads
use Rattle.manual.specs.declared.Variables.{Variables}
use Rattle.manual.specs.declared.Moved.{Moved}
use Rattle.manual.specs.Variables.{initialisation}
use Rattle.manual.specs.Answers.{number_of, excess_of, led_to, move_to, moved_on}
use Rattle.manual.specs.Answers as theirs
use Rattle.manual.specs.contracts.Variables.initialisation as their_start
use Rattle.manual.proofs.Variables.initialisation.Reads as their_start_reads
use Rattle.manual_engine.specs.contracts.step as their_step
use Rattle.manual_engine.proofs.step.Reads as their_step_reads
use Rattle.manual_agreement.specs.Agreement.{Alike}
use Rattle.manual_agreement.proofs.Joined.{Joined}
use Rattle.manual_agreement.proofs.Agreement.{Together, at_start, one_reading}

-- a call of each start, and what it gave
pub record Started (v : Variables) (s : State) : Type 0 where
  pub κs : Lfts 0
  pub at : AtExit their_start.ended κs
  pub theirs : their_start_reads.Post κs tt v at
  pub κs' : Lfts 0
  pub at' : AtExit our_start.ended κs'
  pub ours : our_start_reads.Post κs' tt s at'

-- a call of each step with the same table, code and amount, and what it answered
pub record Called (v : Variables) (s : State) (t : Table) (code amount : ℕ) (m : Moved) (a : Answer) : Type 0 where
  pub κs : Lfts 0
  pub at : AtExit their_step.ended κs
  pub theirs : their_step_reads.Post κs (v, (t, (code, (0, (amount, tt))))) m at
  pub κs' : Lfts 0
  pub at' : AtExit our_step.ended κs'
  pub ours : our_step_reads.Post κs' (s, (t, (code, (amount, tt)))) a at'

-- what both hold after any calls from their starts on, each on what the call before answered, be it accepted or refused; the table
-- may be another in each call
pub data Advanced : Variables → State → Type 0 where
  started : (v : Variables) (s : State) → Started v s → Advanced v s
  advanced :
      (v : Variables) (s : State) → Advanced v s → (t : Table) (code amount : ℕ) (m : Moved) (a : Answer) → Called v s t code amount m a
      → Advanced m.variables a.state

together :
    (v : Variables) (s : State) (t : Table) (code amount : ℕ) (m : Moved) (a : Answer) → Joined v s → Called v s t code amount m a
    → Together m a
together v s t code amount m a i c =
    subst (λ (x : Moved). Together x a) (sym c.theirs)
    (subst (λ (x : Answer). Together (moved_on t v code 0 amount) x) (sym c.ours) (one_reading t v s (reading code 0 amount) i))

joined : {v : Variables} {s : State} → Advanced v s → Joined v s
joined (started v s c) =
    subst (λ (x : Variables). Joined x s) (sym c.theirs) (subst (λ (x : State). Joined initialisation x) (sym c.ours) at_start)
joined (advanced v s b t code amount m a c) = (together v s t code amount m a (joined b) c).joined

kept :
    (rule number over : ℕ) (after v : Variables) → ¬ ((theirs.admitting rule (move_to number over after v) v).number ≡ 0)
    → (theirs.admitting rule (move_to number over after v) v).variables ≡ v
kept zero zero over after v h = absurd (h refl)
kept zero (suc k) over after v h = refl
kept (suc k) number over after v h = refl

-- the same number, rule and excess, and the variables read as the state
pub every_call_is_answered_alike :
    (v : Variables) (s : State) → Advanced v s → (t : Table) (code amount : ℕ) (m : Moved) (a : Answer) → Called v s t code amount m a
    → Alike m a
every_call_is_answered_alike v s b t code amount m a c = (together v s t code amount m a (joined b) c).alike

-- refused, a step gives back the variables that it was given, whatever they are
pub refused_gives_back :
    (v : Variables) (t : Table) (code middle amount : ℕ) (κs : Lfts 0) (m : Moved) (at : AtExit their_step.ended κs)
    → their_step_reads.Post κs (v, (t, (code, (middle, (amount, tt))))) m at → ¬ (m.number ≡ 0) → m.variables ≡ v
refused_gives_back v t code middle amount κs m at p h =
    subst (λ (x : Moved). ¬ (x.number ≡ 0) → x.variables ≡ v) (sym p)
    (let r = reading code middle amount in
    kept (broken_rule t) (number_of t v r) (excess_of t v r) (led_to t v r) v) h
