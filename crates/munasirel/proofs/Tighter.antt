-- The first tighter entry through the call for C, of whatever its contract allows; and demand 3 through `munasirel_admit` and
-- `munasirel_tighter`.
-- Assumes nothing.
use mathlib.Core.Path.{◌≡◌, refl, sym}
use mathlib.Core.Logic.{◌↔◌}
use mathlib.Core.List.{List}
use contract.Lifetimes.{Lfts}
use denote.Triple.Clauses.{AtExit}
use Rattle.limits.specs.declared.Table.{Table}
use Rattle.limits.specs.Tighter.{NowhereTighter}
use Rattle.shift.specs.Readings.{Reading}
use Rattle.shift.specs.States.{start}
use Rattle.shift.specs.Runs.{run}
use Rattle.promises.proofs.Promises.{accepted_by_a_looser_table}
use Rattle.admission.specs.Refusals.{FirstTighter}
use Rattle.admission.proofs.Tighter.{by_its_answer}
use Rattle.munasirel.specs.contracts.munasirel_admit as admit_call
use Rattle.munasirel.proofs.munasirel_admit.Reads as admit_reads
use Rattle.munasirel.specs.contracts.munasirel_tighter as tighter_call
use Rattle.munasirel.proofs.munasirel_tighter.Reads as tighter_reads

-- the first entry that is tighter, and 22 exactly where the new table is nowhere tighter
pub munasirel_tighter :
    (κs : _) (a : _) (r : _) (at : _) → tighter_reads.Post κs a r at
    → FirstTighter a.0 a.1.0 r × ((r ≡ 22) ↔ NowhereTighter a.0 a.1.0)
munasirel_tighter κs a r at p = by_its_answer a.0 a.1.0 r p

-- where both tables are admitted and 22 is answered, every list that is accepted under the old one is accepted under the new one, with
-- the same count and the same end
pub munasirel_accepted_where_no_entry_is_tighter :
    (old new : Table) (κs κs' κs'' : Lfts 0) (at : AtExit admit_call.ended κs) (at' : AtExit admit_call.ended κs')
    (at'' : AtExit tighter_call.ended κs'')
    → admit_reads.Post κs (old, tt) 0 at
    → admit_reads.Post κs' (new, tt) 0 at'
    → tighter_reads.Post κs'' (old, (new, tt)) 22 at''
    → (rs : List Reading) → (run old start rs).number ≡ 0
    → run new start rs ≡ run old start rs
munasirel_accepted_where_no_entry_is_tighter old new κs κs' κs'' at at' at'' a b c =
    accepted_by_a_looser_table old new (sym a) (sym b) ((munasirel_tighter κs'' (old, (new, tt)) 22 at'' c).1.0 refl)
