-- Request 2, of files: a file without a reset has the verdict of the rules before it, but for where the box stands inside a shift and
-- after an error.
-- Assumes nothing.
use mathlib.Core.Path.{◌≡◌, subst}
use mathlib.Core.List.{List}
use Prim.Native.Nat.{ℕ}
use Rattle.promises.specs.Before.{led_before, WithoutReset, Agree}
use Rattle.promises.proofs.Before.{old_and_new_agree}
use Rattle.shift.specs.States.{start}
use Rattle.shift.specs.Runs.{run_by}
use Rattle.stepfile.specs.Files.{table_in, refusal_of, readings_of}
use Rattle.verdict.specs.declared.Verdict.{Verdict}
use Rattle.verdict.proofs.Judging.{read_verdict}
use Rattle.verdict.proofs.Verdicts.{outcome}
use Rattle.verdict.proofs.KnownFiles.{Answered, answered}

-- whatever the contract of `judge` allows as the verdict on a good file none of whose records is a reset
pub files_are_judged_as_before :
    (f : List ℕ) → (refusal_of f).number ≡ 0 → WithoutReset (readings_of f)
    → Answered f (λ v. Agree (run_by led_before (table_in f) start (readings_of f)) (outcome v))
files_are_judged_as_before f z w =
    let old = run_by led_before (table_in f) start (readings_of f) in
    answered f (λ v. Agree old (outcome v))
    (subst (λ (v : Verdict). Agree old (outcome v)) (read_verdict f z) (old_and_new_agree (table_in f) (readings_of f) w))
