-- Request 6, of files: a good file with no table, with one of eighteen entries, or with four zero delays has the verdict of the rules
-- before it.
-- Assumes nothing.
use mathlib.Core.Path.{◌≡◌, refl, subst}
use mathlib.Core.Bool.{◌&&◌}
use mathlib.Core.List.{List}
use Prim.Native.Nat.{ℕ}
use lib.Dec.{leb, eqb}
use lib.ListN.{length}
use borrow.Author.Tests.{ne_eqb}
use Rattle.checks.proofs.Tests.{case}
use Rattle.limits.specs.Refusals.{NoDelays}
use Rattle.promises.specs.OldFleet.{run_before}
use Rattle.promises.proofs.OldFleet.{nothing_changed_for_the_old_fleet}
use Rattle.shift.specs.States.{start}
use Rattle.stepfile.specs.Files.{table_entries, table_in, refusal_of, readings_of}
use Rattle.verdict.specs.declared.Verdict.{Verdict}
use Rattle.verdict.proofs.Judging.{read_verdict}
use Rattle.verdict.proofs.Verdicts.{outcome}
use Rattle.verdict.proofs.KnownFiles.{Answered, answered}

-- a file whose header does not say 22 reads with four zeros
pub files_of_the_old_fleet_have_no_delays : (f : List ℕ) → ¬ (table_entries f ≡ 22) → NoDelays (table_in f)
unfolding table_in
files_of_the_old_fleet_have_no_delays f n =
    rw (ne_eqb (table_entries f) 22 n)
    (case (eqb (table_entries f) 18 && leb 48 (length f))
    (λ e. rw e (record { plain_open = refl; error_open = refl; plain_close = refl; error_close = refl }))
    (λ e. rw e (record { plain_open = refl; error_open = refl; plain_close = refl; error_close = refl })))

-- whatever the contract of `judge` allows as the verdict on such a file
pub files_of_the_old_fleet_are_judged_as_before :
    (f : List ℕ) → (refusal_of f).number ≡ 0 → NoDelays (table_in f)
    → Answered f (λ v. run_before (table_in f) start (readings_of f) ≡ outcome v)
files_of_the_old_fleet_are_judged_as_before f z d =
    let old = run_before (table_in f) start (readings_of f) in
    answered f (λ v. old ≡ outcome v)
    (subst (λ (v : Verdict). old ≡ outcome v) (read_verdict f z) (nothing_changed_for_the_old_fleet (table_in f) d (readings_of f)))
