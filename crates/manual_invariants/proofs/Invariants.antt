-- The manual's invariants hold in every state that is reached: in the variables after the accepted beginning of any list, and so,
-- since each beginning is itself a list, after each of its steps; and in the variables that `step` answers, call by call.
-- Assumes nothing.
use mathlib.Core.Path.{sym, subst}
use mathlib.Core.List.{List}
use Prim.Native.Nat.{ℕ}
use contract.Lifetimes.{Lfts}
use denote.Triple.Clauses.{AtExit}
use Rattle.limits.specs.declared.Table.{Table}
use Rattle.shift.specs.Readings.{Reading}
use Rattle.manual.specs.declared.Variables.{Variables}
use Rattle.manual.specs.declared.Moved.{Moved}
use Rattle.manual.specs.Variables.{initialisation}
use Rattle.manual.specs.Runs.{run}
use Rattle.manual.specs.contracts.Variables.initialisation as start_call
use Rattle.manual.proofs.Variables.initialisation.Reads as start_reads
use Rattle.manual_engine.specs.contracts.step as step_call
use Rattle.manual_engine.proofs.step.Reads as step_reads
use Rattle.manual_invariants.specs.Invariants.{Invariants}
use Rattle.manual_invariants.proofs.Standing.{run_keeps, call_keeps}
use Rattle.manual_invariants.proofs.Flags.{flags_hold}
use Rattle.manual_invariants.proofs.Bounds.{Timely, timely_at_start, timely_on}
use Rattle.manual_invariants.proofs.Times.{times_hold}

where_timely : (t : Table) (v : Variables) → Timely t v → Invariants t v
where_timely t v i = record { flags = flags_hold i.place v i.stands; times = times_hold t v i }

pub the_manual's_invariants_hold : (t : Table) (rs : List Reading) → Invariants t (run t initialisation rs).variables
the_manual's_invariants_hold t rs =
    where_timely t (run t initialisation rs).variables
    (run_keeps t (Timely t) (timely_on t) initialisation rs (timely_at_start t))

-- ---- of the calls: what a host holds that began with `Variables::initialisation` and went on with what `step` answered, be it accepted
-- or refused, under one table
pub data Reached (t : Table) : Variables → Type 0 where
  began : (κs : Lfts 0) (v : Variables) (at : AtExit start_call.ended κs) → start_reads.Post κs tt v at → Reached t v
  went_on :
      (v : Variables) → Reached t v → (code middle amount : ℕ) (κs : Lfts 0) (m : Moved) (at : AtExit step_call.ended κs)
      → step_reads.Post κs (v, (t, (code, (middle, (amount, tt))))) m at → Reached t m.variables

timely : {t : Table} {v : Variables} → Reached t v → Timely t v
timely {t} (began κs v at p) = subst (Timely t) (sym p) (timely_at_start t)
timely {t} (went_on v r code middle amount κs m at p) =
    subst (λ (x : Moved). Timely t x.variables) (sym p)
    (call_keeps t (Timely t) (timely_on t) v code middle amount (timely r))

pub the_manual's_invariants_hold_after_every_call : (t : Table) (v : Variables) → Reached t v → Invariants t v
the_manual's_invariants_hold_after_every_call t v r = where_timely t v (timely r)
