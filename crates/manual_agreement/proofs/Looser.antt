-- Demand 3, first half, of the manual's engine: what it accepts under one table it accepts under any that is nowhere tighter, and its
-- variables then read as the same state; and so what it accepts under the old default it accepts under the new one.
-- Assumes nothing.
use mathlib.Core.Path.{◌≡◌, refl, sym, subst, ◌∙◌}
use mathlib.Core.List.{List}
use Rattle.limits.specs.declared.Table.{Table}
use Rattle.limits.specs.Refusals.{by_old_default, by_new_default}
use Rattle.limits.specs.Rules.{broken_rule}
use Rattle.limits.specs.Tighter.{NowhereTighter}
use Rattle.shift.specs.declared.State.{State}
use Rattle.shift.specs.Readings.{Reading}
use Rattle.shift.specs.States.{start}
use Rattle.shift.specs.Runs.{run}
use Rattle.promises.proofs.Promises.{accepted_by_a_looser_table}
use Rattle.promises.proofs.Defaults.{the_new_default_is_nowhere_tighter}
use Rattle.manual.specs.Runs as manual
use Rattle.manual.specs.Variables.{initialisation}
use Rattle.manual_agreement.specs.Agreement.{Reads, Agrees}
use Rattle.manual_agreement.proofs.Agreement.{the_manual's_engine_is_our_machine}

-- both accept the list, with the same count, and read as one state
pub record AcceptAlike (m n : manual.Outcome) : Type 0 where
  pub number : n.number ≡ 0
  pub count : n.count ≡ m.count
  pub state : State
  pub reads : Reads m.variables state
  pub reads' : Reads n.variables state

pub accepted_by_a_looser_table_in_the_manual's_engine :
    (t u : Table) → broken_rule t ≡ 0 → broken_rule u ≡ 0 → NowhereTighter t u → (rs : List Reading)
    → (manual.run t initialisation rs).number ≡ 0
    → AcceptAlike (manual.run t initialisation rs) (manual.run u initialisation rs)
accepted_by_a_looser_table_in_the_manual's_engine t u a b l rs z =
    let m = the_manual's_engine_is_our_machine t rs in
    let same = accepted_by_a_looser_table t u a b l rs (sym m.number ∙ z) in
    let n = subst (Agrees (manual.run u initialisation rs)) same (the_manual's_engine_is_our_machine u rs) in
    record {
      number = n.number ∙ sym m.number ∙ z;
      count = n.count ∙ sym m.count;
      state = (run t start rs).state;
      reads = m.reads;
      reads' = n.reads;
    }

pub accepted_by_the_new_default_in_the_manual's_engine :
    (rs : List Reading) → (manual.run by_old_default initialisation rs).number ≡ 0
    → AcceptAlike (manual.run by_old_default initialisation rs) (manual.run by_new_default initialisation rs)
accepted_by_the_new_default_in_the_manual's_engine =
    accepted_by_a_looser_table_in_the_manual's_engine by_old_default by_new_default refl refl the_new_default_is_nowhere_tighter
